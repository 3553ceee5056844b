use Rattle.std.proofs.Common.{◌≡◌, arith, subst}
use Rattle.blot_types.proofs.GeneralLemmas.{on_err}
use Rattle.blotter.specs.Rounds.{RoundsLead, ServesRound}
use Rattle.blotter.proofs.RoundLemmas.{one-more, stops-at}
use Rattle.blotter.proofs.rounds.serve_rounds.Goals as goal

pub loop-preserved : goal.loop-preserved
loop-preserved g c =
    one-more (ServesRound g.row.R.Denot g.N.Stream.Read.remaining g.N.Stream.Write.contents c.args.slots.now) c.loop.counter _ _ _ c.loop.invariant c.in_ok-serve_round.ensures.served

pub returns-in_err-serve_round-clause-fewer : goal.returns-in_err-serve_round-clause-fewer
returns-in_err-serve_round-clause-fewer g c =
    on_err c.from_residual.result
    (stops-at (ServesRound g.row.R.Denot g.N.Stream.Read.remaining g.N.Stream.Write.contents c.args.slots.now) c.loop.counter c.args.rounds _ _ _
    c.loop-test.true c.loop.invariant c.in_err-serve_round.ensures.kept)

pub returns-clause-served : goal.returns-clause-served
returns-clause-served g c =
    let made : c.loop.counter ≡ c.args.rounds = omega arith in
    subst
    (λ count. RoundsLead (ServesRound g.row.R.Denot g.N.Stream.Read.remaining g.N.Stream.Write.contents c.args.slots.now) count c.args.seats.now.items c.loop.seats.items)
    made c.loop.invariant
