use Rattle.std.proofs.Common.{◌≡◌, ap, sym, subst, ◌∙◌, reverse, true}
use Rattle.blot_types.specs.Chains.{is_chained}
use Rattle.blot_places.specs.Slots.{marked}
use Rattle.blot_places.proofs.MarkLemmas.{marked-items}
use Rattle.blot_chain.specs.Holds.{HoldsChains, shown_of}
use Rattle.blot_chain.specs.ChainLinks.{link_number}
use Rattle.blot_chain.specs.Steps.{CanReturn, put_back}
use Rattle.blot_chain.proofs.LiftLemmas.{held-return, shown-return}
use Rattle.blot_chain.proofs.chains.Chains.un_lift.Goals as goal

pub invariant_of-self : goal.invariant_of-self
invariant_of-self c =
    let v = c.self.inside.slots in
    let is = marked-items link_number c.args.number true v c.mark.new.slots v.ok.0 (c.mark.ensures ∙ ap (marked link_number c.args.number true) c.deref_mut.ensures.value) in
    subst (HoldsChains c.self.inside.index) (sym is)
    (held-return c.self.inside.index (reverse v.items) c.args.number c.self.invariant
    (subst (CanReturn c.args.number) (sym c.self.view_is) c.requires.kept)
    (subst (λ shown. is_chained (put_back c.args.number shown).list ≡ true) (sym c.self.view_is) c.requires.chained))

pub returns : goal.returns
returns c =
    let v = c.self.inside.slots in
    let is = marked-items link_number c.args.number true v c.mark.new.slots v.ok.0 (c.mark.ensures ∙ ap (marked link_number c.args.number true) c.deref_mut.ensures.value) in
    ap shown_of is ∙ shown-return c.args.number (reverse v.items) c.self.invariant.fall ∙ ap (put_back c.args.number) c.self.view_is
