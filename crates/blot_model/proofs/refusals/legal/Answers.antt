use Rattle.std.proofs.Common.{◌≡◌, true, take, sym, is_some}
use Rattle.blot_types.specs.Legal.{entry_refusal}
use Rattle.blot_types.proofs.LegalLemmas.{is_legal-stops}
use Rattle.blot_model.proofs.refusals.legal.Goals as goal

pub returns-then-is_some : goal.returns-then-is_some
returns-then-is_some c =
    let entry = c.index-list-index.result in
    let refused : is_some (entry_refusal (take c.loop-index.index c.args.list.now) entry.command) ≡ true = cc (c.in_ok-entry_refusal.ensures, c.is_some.ensures, c.if-is_some.true) in
    sym (is_legal-stops c.args.list.now c.loop-index.index entry c.loop-index-test.true c.index-list-index.is refused)
