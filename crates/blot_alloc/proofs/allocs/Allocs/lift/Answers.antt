use Rattle.std.proofs.Common.{◌≡◌, ap, sym, subst, ◌∙◌, reverse, true, false, IsSome}
use Rattle.blot_types.specs.Instructions.{is_instructed}
use Rattle.blot_places.specs.Shown.{shown_of}
use Rattle.blot_places.specs.Slots.{marked}
use Rattle.blot_places.proofs.MarkLemmas.{marked-items, shown-lifted}
use Rattle.blot_alloc.specs.Allocs.{instruction_at, lifted_out, number_of, put_back}
use Rattle.blot_alloc.specs.Holds.{HoldsAllocs}
use Rattle.blot_alloc.proofs.HoldsLemmas.{lift-back, held-marked}
use Rattle.blot_alloc.proofs.allocs.Allocs.lift.Goals as goal

pub invariant_of-self : goal.invariant_of-self
invariant_of-self c =
    let v = c.self.inside.slots in
    let is = marked-items number_of c.args.number false v c.mark.new.slots v.ok.0 (c.mark.ensures ∙ ap (marked number_of c.args.number false) c.deref_mut.ensures.value) in
    subst (HoldsAllocs c.self.inside.index) (sym is)
    (held-marked c.args.number false c.self.inside.index (reverse v.items) c.self.invariant
    (ap (λ shown. is_instructed shown.list) (shown-lifted number_of c.args.number (reverse v.items) c.self.invariant.fall)
    ∙ subst (λ shown. is_instructed (lifted_out c.args.number shown).list ≡ true) (sym c.self.view_is) c.requires.instructed))

shown_lifted : goal.returns-clause-lifted
shown_lifted c =
    let v = c.self.inside.slots in
    let is = marked-items number_of c.args.number false v c.mark.new.slots v.ok.0 (c.mark.ensures ∙ ap (marked number_of c.args.number false) c.deref_mut.ensures.value) in
    ap shown_of is ∙ shown-lifted number_of c.args.number (reverse v.items) c.self.invariant.fall ∙ ap (lifted_out c.args.number) c.self.view_is

pub returns-clause-lifted : goal.returns-clause-lifted
returns-clause-lifted c = shown_lifted c

pub returns-clause-back : goal.returns-clause-back
returns-clause-back c =
    let listed = subst (λ shown. IsSome (instruction_at c.args.number shown.list)) (sym c.self.view_is) c.requires.listed in
    ap (put_back c.args.number) (shown_lifted c)
    ∙ subst (λ shown. put_back c.args.number (lifted_out c.args.number shown) ≡ shown) c.self.view_is
    (lift-back c.args.number (reverse c.self.inside.slots.items) c.self.invariant.fall listed)
