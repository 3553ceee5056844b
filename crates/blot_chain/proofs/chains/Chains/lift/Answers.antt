use Rattle.std.proofs.Common.{◌≡◌, ap, sym, subst, ◌∙◌, reverse, true, false, IsSome}
use Rattle.blot_types.specs.Chains.{is_chained}
use Rattle.blot_places.specs.Slots.{marked}
use Rattle.blot_places.proofs.MarkLemmas.{marked-items}
use Rattle.blot_chain.specs.Holds.{HoldsChains, shown_of}
use Rattle.blot_chain.specs.ChainLinks.{link_number}
use Rattle.blot_chain.specs.Steps.{CanReturn, lifted_out, link_at, put_back}
use Rattle.blot_chain.proofs.LiftLemmas.{held-lift, lift-back, lift-kept, shown-lift}
use Rattle.blot_chain.proofs.chains.Chains.lift.Goals as goal

pub invariant_of-self : goal.invariant_of-self
invariant_of-self c =
    let v = c.self.inside.slots in
    let is = marked-items link_number c.args.number false v c.mark.new.slots v.ok.0 (c.mark.ensures ∙ ap (marked link_number c.args.number false) c.deref_mut.ensures.value) in
    subst (HoldsChains c.self.inside.index) (sym is)
    (held-lift c.self.inside.index (reverse v.items) c.args.number c.self.invariant
    (subst (λ shown. is_chained (lifted_out c.args.number shown).list ≡ true) (sym c.self.view_is) c.requires.chained))

shown_lifted : goal.returns-clause-lifted
shown_lifted c =
    let v = c.self.inside.slots in
    let is = marked-items link_number c.args.number false v c.mark.new.slots v.ok.0 (c.mark.ensures ∙ ap (marked link_number c.args.number false) c.deref_mut.ensures.value) in
    ap shown_of is ∙ shown-lift c.args.number (reverse v.items) c.self.invariant.fall ∙ ap (lifted_out c.args.number) c.self.view_is

pub returns-clause-lifted : goal.returns-clause-lifted
returns-clause-lifted c = shown_lifted c

pub returns-clause-back : goal.returns-clause-back
returns-clause-back c =
    let slots = reverse c.self.inside.slots.items in
    let listed = subst (λ shown. IsSome (link_at c.args.number shown.list)) (sym c.self.view_is) c.requires.listed in
    ap (put_back c.args.number) (shown_lifted c)
    ∙ subst (λ shown. put_back c.args.number (lifted_out c.args.number shown) ≡ shown) c.self.view_is (lift-back c.args.number slots c.self.invariant.fall listed)

pub returns-clause-kept : goal.returns-clause-kept
returns-clause-kept c =
    let v = c.self.inside.slots in
    let is = marked-items link_number c.args.number false v c.mark.new.slots v.ok.0 (c.mark.ensures ∙ ap (marked link_number c.args.number false) c.deref_mut.ensures.value) in
    let listed = subst (λ shown. IsSome (link_at c.args.number shown.list)) (sym c.self.view_is) c.requires.listed in
    subst (CanReturn c.args.number) (ap shown_of (sym is)) (lift-kept c.args.number (reverse v.items) c.self.invariant.fall c.self.invariant.newest listed)
