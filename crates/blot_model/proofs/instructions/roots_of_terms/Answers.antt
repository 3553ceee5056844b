use Rattle.std.proofs.Common.{ap, sym, ◌∙◌}
use Rattle.blot_types.specs.Chains.{root_in}
use Rattle.blot_types.specs.Survivors.{links_of}
use Rattle.blot_model.proofs.ListLemmas.{found-some, found-none}
use Rattle.blot_model.proofs.instructions.roots_of_terms.Goals as goal
use Rattle.blot_model.proofs.instructions.roots_of_terms.Goals.{in-Some+in_ok-push, in_default}

pub loop-key-preserved : goal.loop-key-preserved
loop-key-preserved c =
    let root = root_in (links_of c.args.earlier.now) in
    let keys = c.as_slice-key-items.result.now in
    let index = c.loop-key.key-index in
    let key = c.key-item.result in
    elim c.match-root_of.branch [
      | in-Some+in_ok-push w ↦
          found-some root keys index key c.loop-key.roots.items c.match-root_of.roots.items w.in-Some.root c.loop-key-test.true c.key-item.is c.loop-key.invariant
          (sym c.root_of.ensures ∙ w.in-Some.is) (ap (λ v. v.items) w.roots-is ∙ w.in_ok-push.ensures.items)
      | in_default w ↦
          found-none root keys index key c.loop-key.roots.items c.match-root_of.roots.items c.loop-key-test.true c.key-item.is c.loop-key.invariant
          (sym c.root_of.ensures ∙ w.in_default.is) (ap (λ v. v.items) w.roots-is)
    ]
