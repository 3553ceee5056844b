use Rattle.std.proofs.Common.{◌≡◌, ap, sym, subst, ◌∙◌, reverse, true}
use Rattle.blot_types.specs.Instructions.{is_instructed}
use Rattle.blot_places.specs.Shown.{shown_of}
use Rattle.blot_places.specs.Slots.{marked}
use Rattle.blot_places.proofs.MarkLemmas.{marked-items, shown-put_back}
use Rattle.blot_alloc.specs.Allocs.{number_of, put_back}
use Rattle.blot_alloc.specs.Holds.{HoldsAllocs}
use Rattle.blot_alloc.proofs.HoldsLemmas.{held-marked}
use Rattle.blot_alloc.proofs.allocs.Allocs.un_lift.Goals as goal

pub invariant_of-self : goal.invariant_of-self
invariant_of-self c =
    let v = c.self.inside.slots in
    let is = marked-items number_of c.args.number true v c.mark.new.slots v.ok.0 (c.mark.ensures ∙ ap (marked number_of c.args.number true) c.deref_mut.ensures.value) in
    subst (HoldsAllocs c.self.inside.index) (sym is)
    (held-marked c.args.number true c.self.inside.index (reverse v.items) c.self.invariant
    (ap (λ shown. is_instructed shown.list) (shown-put_back number_of c.args.number (reverse v.items) c.self.invariant.fall)
    ∙ subst (λ shown. is_instructed (put_back c.args.number shown).list ≡ true) (sym c.self.view_is) c.requires.instructed))

pub returns : goal.returns
returns c =
    let v = c.self.inside.slots in
    let is = marked-items number_of c.args.number true v c.mark.new.slots v.ok.0 (c.mark.ensures ∙ ap (marked number_of c.args.number true) c.deref_mut.ensures.value) in
    ap shown_of is ∙ shown-put_back number_of c.args.number (reverse v.items) c.self.invariant.fall ∙ ap (put_back c.args.number) c.self.view_is
