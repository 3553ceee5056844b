use Rattle.std.proofs.Common.{◌≡◌, ◌+◌, ◌∷◌, drop, sym, ap, subst, ◌∙◌}
use Rattle.std.specs.List.{IsDistinct}
use Rattle.std.proofs.lemmas.List.{at_drop_more}
use Rattle.std.proofs.lemmas.Map.Keys.{IsDistinct-tail}
use Rattle.blot_position.specs.Positions.{same_key}
use Rattle.blot_report.specs.Sums.{AddsSums}
use Rattle.blot_report.proofs.HalfLemmas.{added, adds-next, put, room-half}
use Rattle.blot_report.proofs.parts.add_positions.Goals as goal
use Rattle.blot_report.proofs.parts.add_positions.Goals.{in-Some+in_ok-add, in_default}

pub add-requires : goal.add-requires
add-requires c =
    let own = c.args.positions.now in
    let others = c.args.others.now in
    let keys = c.deref-key-items.result.now in
    let key = c.key-item.result in
    let left = drop (c.loop-key.key-index + 1) keys in
    let rest : drop c.loop-key.key-index keys ≡ key ∷ left = at_drop_more (λ l. l) keys c.loop-key.key-index key c.loop-key-test.true ∙ ap (λ k. k ∷ left) (sym c.key-item.is) in
    record {
      room = room-half own others c.loop-key.positions key left c.in-Some.line c.requires.own c.requires.others
          (subst (λ keys. AddsSums own (added others keys) c.loop-key.positions) rest c.loop-key.invariant.adds) (sym c.get.ensures ∙ c.in-Some.is);
    }

pub loop-key-preserved : goal.loop-key-preserved
loop-key-preserved c =
    let own = c.args.positions.now in
    let others = c.args.others.now in
    let keys = c.deref-key-items.result.now in
    let key = c.key-item.result in
    let before = c.loop-key.positions in
    let left = drop (c.loop-key.key-index + 1) keys in
    let rest : drop c.loop-key.key-index keys ≡ key ∷ left = at_drop_more (λ l. l) keys c.loop-key.key-index key c.loop-key-test.true ∙ ap (λ k. k ∷ left) (sym c.key-item.is) in
    let apart = subst (IsDistinct same_key) rest c.loop-key.invariant.apart in
    let adds = subst (λ keys. AddsSums own (added others keys) before) rest c.loop-key.invariant.adds in
    record {
      adds = adds-next own others before c.match-get.positions key left apart adds
          (elim c.match-get.branch [
            | in-Some+in_ok-add w ↦ w.positions-is ∙ w.in_ok-add.ensures.ok ∙ ap (λ found. put found key before) (sym w.in-Some.is ∙ c.get.ensures)
            | in_default w ↦ w.positions-is ∙ ap (λ found. put found key before) (sym w.in_default.is ∙ c.get.ensures)
          ]);
      apart = IsDistinct-tail same_key key left apart;
    }
