use Rattle.std.proofs.Common.{ap, sym, is_some}
use Rattle.blot_chain.proofs.CellLemmas.{there-places, takes-under}
use Rattle.blot_chain.proofs.cells.Cells.pop.Goals as goal

pub returns-clause-takes : goal.returns-clause-takes
returns-clause-takes g c =
    rw (← c.self.view_is)
    (takes-under g.K.PartialEq.eq g.met.K.Eq.laws _ _ c.args.key.now c.pop.new.self c.in-Some.cell.now
    (there-places g.K.PartialEq.eq _ c.args.key.now c.in-Some.cell.now c.in-Some.ensures.value)
    (λ other. ((c.get_mut.follows.holds c.pop.new.self).3 (ap is_some (sym c.in-Some.ensures.value))).0 other)
    c.args.relation c.pop.ensures)
