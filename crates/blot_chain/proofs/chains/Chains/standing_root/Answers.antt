use Rattle.std.proofs.Common.{◌≡◌, Some, ap, sym, ◌∙◌, option_and_then, option_copied}
use Rattle.std.specs.Bool.{then_some}
use Rattle.blot_types.specs.Chains.{root_in, standing_version_in}
use Rattle.blot_chain.specs.ChainLinks.{kept_root}
use Rattle.blot_chain.proofs.StandingLemmas.{key-told, rooted-stands, rootless-stands, root-told, version-beside}
use Rattle.blot_chain.proofs.chains.Chains.standing_root.Goals.{then-begins, else-begins}
use Rattle.blot_chain.proofs.chains.Chains.standing_root.Goals as goal

pub returns-in_err-cell : goal.returns-in_err-cell
returns-in_err-cell c =
    let there = sym (ap option_copied c.in_err-cell.was) ∙ c.get_near.ensures in
    let told = root-told c.self.inside.index c.self.inside.slots.items c.args.self.now c.self.invariant c.self.view_is c.args.key.now _ there in
    c.from_residual.ensures ∙ sym (rootless-stands c.args.self.now.list c.args.number c.args.key.now (sym told))

pub returns-in_err-item : goal.returns-in_err-item
returns-in_err-item c =
    let there = sym (ap option_copied c.in_ok-cell.was) ∙ c.get_near.ensures in
    let told = root-told c.self.inside.index c.self.inside.slots.items c.args.self.now c.self.invariant c.self.view_is c.args.key.now _ there in
    let newest = sym (rw (c.deref.ensures.value, c.as_slice.ensures) at c.newest_live.ensures) ∙ ap option_copied c.in_err-item.was in
    c.from_residual-in_err-item.ensures
    ∙ sym (rootless-stands c.args.self.now.list c.args.number c.args.key.now (sym told ∙ ap (option_and_then kept_root) newest))

pub own_root-requires : goal.own_root-requires
own_root-requires c =
    let there = sym (ap option_copied c.in_ok-cell.was) ∙ c.get_near.ensures in
    let newest = sym (rw (c.deref.ensures.value, c.as_slice.ensures) at c.newest_live.ensures) ∙ ap option_copied c.in_ok-item.was in
    key-told c.self.inside.index c.self.inside.slots.items c.args.self.now c.self.invariant c.self.view_is c.args.key.now c.in_ok-cell.cell.now c.in_ok-item.item.now there newest

pub returns-in_err-root : goal.returns-in_err-root
returns-in_err-root c =
    let there = sym (ap option_copied c.in_ok-cell.was) ∙ c.get_near.ensures in
    let told = root-told c.self.inside.index c.self.inside.slots.items c.args.self.now c.self.invariant c.self.view_is c.args.key.now _ there in
    let newest = sym (rw (c.deref.ensures.value, c.as_slice.ensures) at c.newest_live.ensures) ∙ ap option_copied c.in_ok-item.was in
    c.from_residual-in_err-root.ensures
    ∙ sym (rootless-stands c.args.self.now.list c.args.number c.args.key.now
    (sym told ∙ ap (option_and_then kept_root) newest ∙ sym c.own_root.ensures ∙ c.in_err-root.was))

-- the key has a root, and what is compared is the number of the version that stands there
pub returns : goal.returns
returns c =
    let index = c.self.inside.index in
    let slots = c.self.inside.slots.items in
    let shown = c.args.self.now in
    let there = sym (ap option_copied c.in_ok-cell.was) ∙ c.get_near.ensures in
    let newest = sym (rw (c.deref.ensures.value, c.as_slice.ensures) at c.newest_live.ensures) ∙ ap option_copied c.in_ok-item.was in
    let own = sym c.own_root.ensures ∙ c.in_ok-root.was in
    let told = root-told index slots shown c.self.invariant c.self.view_is c.args.key.now _ there in
    let root : root_in shown.list c.args.key.now ≡ Some c.in_ok-root.root = sym told ∙ ap (option_and_then kept_root) newest ∙ own in
    let standing : c.if-begins.standing ≡ standing_version_in shown.list c.in_ok-root.root = elim c.if-begins.branch [
      | then-begins w ↦
          w.standing-is ∙ (rw w.deref-then-begins.ensures.value at w.standing_at-standing.ensures)
          ∙ version-beside index slots shown c.self.invariant c.self.view_is c.args.key.now c.in_ok-cell.cell.now c.in_ok-item.item.now c.in_ok-root.root there newest (c.begins.ensures w.if-begins.true) own
      | else-begins w ↦ w.standing-is ∙ w.standing_version-standing.ensures
    ] in
    c.then_some.ensures ∙ ap (λ stands. then_some stands c.in_ok-root.root) c.eq.ensures
    ∙ rooted-stands shown.list c.args.number c.args.key.now c.in_ok-root.root c.if-begins.standing root standing
