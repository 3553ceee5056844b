use Rattle.std.proofs.Common.{◌≡◌, drop}
use Rattle.blot_types.specs.Refusals.{first_of}
use Rattle.blot_chain.specs.Index.{number_if_referring}
use Rattle.blot_chain.proofs.index.first_referring.Given as goal

abbrev pub invariant-loop-place : goal.invariant-loop-place
invariant-loop-place l = first_of (number_if_referring l.slots l.key) (drop l.place-index l.places) ≡ first_of (number_if_referring l.slots l.key) l.places
