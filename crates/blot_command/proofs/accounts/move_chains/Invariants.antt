use Rattle.std.proofs.Common.{drop}
use Rattle.blot_command.specs.Booking.{changed_all, chains_moved}
use Rattle.blot_command.proofs.ChangeListLemmas.{Leads}
use Rattle.blot_command.proofs.accounts.move_chains.Given as goal

abbrev pub invariant-loop-root : goal.invariant-loop-root
invariant-loop-root l = Leads (chains_moved l.named l.live.list (drop l.root-index l.roots)) l.positions (changed_all (chains_moved l.named l.live.list l.roots) l.initial.positions)
