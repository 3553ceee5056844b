use Rattle.std.proofs.Common.{◌≡◌, drop}
use Rattle.blot_command.specs.Refusing.{other_instrument}
use Rattle.blot_command.specs.Slots.{entries_in}
use Rattle.blot_command.proofs.refusal.other_instrument.Given as goal

abbrev pub invariant-loop-key : goal.invariant-loop-key
invariant-loop-key l =
    other_instrument (entries_in l.slots) l.terms (drop l.key-index l.execs) ≡ other_instrument (entries_in l.slots) l.terms l.execs
