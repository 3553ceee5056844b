use Rattle.blot_command.specs.Standings.{standing_of}
use Rattle.blot_report.specs.Standings.{entries_in, fill_on}
use Rattle.blot_report.proofs.OrderLemmas.{HoldsFirst}
use Rattle.blot_report.proofs.orders.lines_of.Given as goal

abbrev pub invariant-loop-place : goal.invariant-loop-place
invariant-loop-place l = HoldsFirst (λ entry. fill_on l.day (standing_of (entries_in l.told) entry) entry) l.lines.entries (entries_in l.told) l.place
