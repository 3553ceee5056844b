use Rattle.blotter.specs.Rounds.{RoundsLead, ServesRound}
use Rattle.blotter.proofs.rounds.serve_rounds.Given as goal

abbrev pub invariant-loop : goal.invariant-loop
invariant-loop g l =
    RoundsLead (ServesRound g.row.R.Denot g.N.Stream.Read.remaining g.N.Stream.Write.contents l.slots) l.counter l.initial.seats.items l.seats.items
