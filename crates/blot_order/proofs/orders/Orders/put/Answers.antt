use Rattle.std.proofs.Common.{◌≡◌, Some, IsSome, ap, refl, subst, sym, ◌∙◌}
use Rattle.blot_order.specs.Fills.{with_put, with_kept}
use Rattle.blot_order.specs.Slots.{held_by, held_in_slots, kept_under}
use Rattle.blot_order.proofs.FillLemmas.{kept_at-with_kept_same, with_put-with_kept}
use Rattle.blot_order.proofs.SlotLemmas.{kept_at-held_by}
use Rattle.blot_order.proofs.orders.Orders.put.Goals as goal

pub put_kept-requires-clause-kept : goal.put_kept-requires-clause-kept
put_kept-requires-clause-kept c =
    let kept : kept_under (held_in_slots c.keep_fill.new.slots.items) c.args.number ≡ Some c.args.fill.now =
    sym (kept_at-held_by c.args.number (held_in_slots c.keep_fill.new.slots.items) _ c.in_ok-keep_fill.ensures.ok)
    ∙ kept_at-with_kept_same c.args.number c.args.fill.now (held_by (held_in_slots c.self.inside.slots.items)) in
    subst IsSome (sym kept) refl

pub returns-clause-ok : goal.returns-clause-ok
returns-clause-ok c =
    let n = c.args.number in
    let fill = c.args.fill.now in
    let kept : kept_under (held_in_slots c.keep_fill.new.slots.items) n ≡ Some fill =
    sym (kept_at-held_by n (held_in_slots c.keep_fill.new.slots.items) _ c.in_ok-keep_fill.ensures.ok) ∙ kept_at-with_kept_same n fill (held_by (held_in_slots c.self.inside.slots.items)) in
    c.put_kept.ensures.fills fill kept
    ∙ ap (with_put n fill) (c.in_ok-keep_fill.ensures.ok ∙ ap (with_kept n fill) c.self.view_is)
    ∙ with_put-with_kept n fill c.args.self.now
