use Rattle.std.proofs.Common.{sym}
use Rattle.blot_time.proofs.MomentLemmas.{clock_of-short, moment_of-short}
use Rattle.blot_time.proofs.moment.Moment.read.Goals as goal

pub returns-then-text-lt8 : goal.returns-then-text-lt8
returns-then-text-lt8 c =
    let fault = clock_of-short c.args.text.now c.if-text-lt8.true in
    record {
      value = sym (moment_of-short c.args.text.now c.if-text-lt8.true);
      ok = (λ e. cc, λ text. let shown = rw fault at text.1 in cc);
    }
