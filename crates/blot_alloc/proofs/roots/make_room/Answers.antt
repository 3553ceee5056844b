use Rattle.std.proofs.Common.{◌≡◌, length, ◌∙◌, arith}
use Rattle.blot_alloc.proofs.RootLemmas.{step-more, room-all}
use Rattle.blot_alloc.proofs.roots.make_room.Goals as goal

pub returns-in_err-make_room-clause-same : goal.returns-in_err-make_room-clause-same
returns-in_err-make_room-clause-same c = λ other. c.make_room.ensures.same other ∙ c.loop-root.invariant.0 other

pub loop-root-preserved : goal.loop-root-preserved
loop-root-preserved c = (
  λ other. c.make_room.ensures.same other ∙ c.loop-root.invariant.0 other,
  step-more c.args.roots.now c.loop-root.root-index c.root-item.result c.loop-root.places c.make_room.new.self c.loop-root-test.true c.root-item.is c.in_ok-make_room.ensures.kept c.in_ok-make_room.ensures.room c.loop-root.invariant.1,
)

pub returns-clause-room : goal.returns-clause-room
returns-clause-room c =
    let ended : c.loop-root.root-index ≡ length c.args.roots.now = omega (arith, c.loop-root-test.false, c.loop-root.auto.root-index-end) in
    room-all c.args.roots.now c.loop-root.root-index c.loop-root.places ended c.loop-root.invariant.1
