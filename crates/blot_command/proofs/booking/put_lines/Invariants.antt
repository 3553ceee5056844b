use Rattle.std.proofs.Common.{drop}
use Rattle.blot_command.specs.Booking.{changed_all, lines_put}
use Rattle.blot_command.proofs.ChangeListLemmas.{Leads}
use Rattle.blot_command.proofs.booking.put_lines.Given as goal

abbrev pub invariant-loop-line : goal.invariant-loop-line
invariant-loop-line l = Leads (lines_put l.terms (drop l.line-index l.line-items)) l.positions (changed_all (lines_put l.terms l.line-items) l.initial.positions)
