use Rattle.std.proofs.Common.{length, ap, arith}
use Rattle.blot_journal.proofs.journal.Journal.recover.Goals as goal

pub invariant_of-result : goal.invariant_of-result
invariant_of-result g c = λ whole. record {
  head = c.in-Ok.ensures.head;
  durable = c.in-Ok.ensures.durable;
  fits = c.in-Ok.ensures.fits;
  few = λ some. absurd (omega (arith, some, ap length c.new.ensures.items));
}
