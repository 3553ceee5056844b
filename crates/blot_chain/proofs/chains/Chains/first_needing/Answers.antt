use Rattle.std.proofs.Common.{◌≡◌, Some, None, reverse, sym, ap, subst, ◌∙◌, option_copied}
use Rattle.std.proofs.lemmas.Option.{same_Some}
use Rattle.blot_types.specs.Chains.{first_needing_link}
use Rattle.blot_types.specs.Lesser.{lesser}
use Rattle.blot_places.specs.Shown.{item_at}
use Rattle.blot_places.specs.Slots.{UpToFirst, live}
use Rattle.blot_chain.specs.Cells.{key_at}
use Rattle.blot_chain.specs.Index.{referring_at}
use Rattle.blot_chain.specs.ChainLinks.{link_number}
use Rattle.blot_chain.proofs.AroundLemmas.{needing-held, needing-none, needing-placed, busts_under, parted-busts, parted-versions, versions_under}
use Rattle.blot_chain.proofs.IndexLemmas.{turned}
use Rattle.blot_chain.proofs.chains.Chains.first_needing.Goals as goal

pub returns-in_err-item : goal.returns-in_err-item
returns-in_err-item c =
    let found = rw c.deref.ensures.value at c.live_numbered.ensures in
    c.from_residual.ensures ∙ sym (needing-none c.self.inside.slots.items c.args.number (sym found ∙ ap option_copied c.in_err-item.was))
    ∙ ap (λ shown. first_needing_link shown.list c.args.number) c.self.view_is

pub unreachable-requires : goal.unreachable-requires
unreachable-requires c =
    let k = c.in_ok-item.item.now in
    let cells = c.self.inside.index.cells in
    let found : item_at link_number c.args.number (live (reverse c.self.inside.slots.items)) ≡ Some k =
    sym (rw c.deref.ensures.value at c.live_numbered.ensures) ∙ ap option_copied c.in_ok-item.was in
    let clash : None ≡ Some k.link.key =
    sym (ap option_copied c.in_default.is) ∙ c.key_at.ensures ∙ ap (key_at cells) c.place.ensures
    ∙ needing-placed c.self.inside.index c.self.inside.slots.items c.args.number k c.self.invariant found in
    cc clash

pub root-root-requires : goal.root-root-requires
root-root-requires c =
    let k = c.in_ok-item.item.now in
    let cells = c.self.inside.index.cells in
    let found : item_at link_number c.args.number (live (reverse c.self.inside.slots.items)) ≡ Some k =
    sym (rw c.deref.ensures.value at c.live_numbered.ensures) ∙ ap option_copied c.in_ok-item.was in
    same_Some c.in-Some.key.now k.link.key
    (sym (ap option_copied c.in-Some.is) ∙ c.key_at.ensures ∙ ap (key_at cells) c.place.ensures
    ∙ needing-placed c.self.inside.index c.self.inside.slots.items c.args.number k c.self.invariant found)

pub referring_at-requires : goal.referring_at-requires
referring_at-requires c =
    let k = c.in_ok-item.item.now in
    subst (λ slots. UpToFirst link_number c.args.number slots c.versions.result.now) (sym c.deref-2.ensures.value)
    (subst (UpToFirst link_number c.args.number c.self.inside.slots.items) (sym (turned c.versions.result.now _ c.versions.ensures ∙ ap (versions_under c.self.inside.index) c.root-root.ensures))
    (parted-versions c.self.inside.index c.self.inside.slots.items k.root c.args.number c.self.invariant))

pub referring_at-requires-2 : goal.referring_at-requires-2
referring_at-requires-2 c =
    let k = c.in_ok-item.item.now in
    subst (λ slots. UpToFirst link_number c.args.number slots c.busts.result.now) (sym c.deref-3.ensures.value)
    (subst (UpToFirst link_number c.args.number c.self.inside.slots.items) (sym (turned c.busts.result.now _ c.busts.ensures ∙ ap (busts_under c.self.inside.index) c.root-root.ensures))
    (parted-busts c.self.inside.index c.self.inside.slots.items k.root c.args.number c.self.invariant))

pub returns : goal.returns
returns c =
    let k = c.in_ok-item.item.now in
    let index = c.self.inside.index in
    let slots = c.self.inside.slots.items in
    let found : item_at link_number c.args.number (live (reverse slots)) ≡ Some k =
    sym (rw c.deref.ensures.value at c.live_numbered.ensures) ∙ ap option_copied c.in_ok-item.was in
    let own : c.in-Some.key.now ≡ k.link.key =
    same_Some c.in-Some.key.now k.link.key
    (sym (ap option_copied c.in-Some.is) ∙ c.key_at.ensures ∙ ap (key_at index.cells) c.place.ensures ∙ needing-placed index slots c.args.number k c.self.invariant found) in
    let versions_at = turned c.versions.result.now _ c.versions.ensures ∙ ap (versions_under index) c.root-root.ensures in
    let busts_at = turned c.busts.result.now _ c.busts.ensures ∙ ap (busts_under index) c.root-root.ensures in
    let versions = rw (c.deref-2.ensures.value, versions_at) at c.referring_at.ensures in
    let busts = rw (c.deref-3.ensures.value, busts_at) at c.referring_at-2.ensures in
    c.lesser.ensures ∙ (λ i. lesser (versions i) (busts i))
    ∙ ap (λ key. lesser (referring_at slots (versions_under index k.root) c.args.number key) (referring_at slots (busts_under index k.root) c.args.number key)) own
    ∙ needing-held index slots c.args.number k c.self.invariant found
    ∙ ap (λ shown. first_needing_link shown.list c.args.number) c.self.view_is
