use Rattle.std.proofs.Common.{◌≡◌, drop, find}
use Rattle.blot_model.specs.Rules.{is_other}
use Rattle.blot_model.proofs.rules.first_other.Given as goal

abbrev pub invariant-loop-key : goal.invariant-loop-key
invariant-loop-key l =
    find (is_other l.list l.terms) (drop l.key-index l.key-items) ≡ find (is_other l.list l.terms) l.key-items
