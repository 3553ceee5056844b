use Rattle.std.proofs.Common.{Some, sym}
use Rattle.blot_terminals.proofs.StaffLemmas.{own-inserted}
use Rattle.blot_terminals.proofs.operators.seated.Goals as goal

pub loop-seat-preserved-in_ok-insert : goal.loop-seat-preserved-in_ok-insert
loop-seat-preserved-in_ok-insert g c =
    own-inserted c.loop-seat.seated.entries c.insert.new.self.entries c.name-name.result.now (Some c.in-Some.seat) c.loop-seat.invariant c.in_ok-insert.ensures.entries
    (sym c.name-name.ensures)

pub loop-seat-preserved-in_ok-insert-2 : goal.loop-seat-preserved-in_ok-insert-2
loop-seat-preserved-in_ok-insert-2 g c =
    own-inserted c.loop-seat.seated.entries c.insert.new.self.entries c.name-name.result.now (Some c.in-Some.seat) c.loop-seat.invariant c.in_ok-insert.ensures.entries
    (sym c.name-name.ensures)

pub loop-seat-preserved : goal.loop-seat-preserved
loop-seat-preserved g c =
    own-inserted c.loop-seat.seated.entries c.insert.new.self.entries c.name-name.result.now (Some c.in-Some.seat) c.loop-seat.invariant c.in_ok-insert.ensures.entries
    (sym c.name-name.ensures)
