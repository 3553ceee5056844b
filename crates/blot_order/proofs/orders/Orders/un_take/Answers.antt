use Rattle.std.proofs.Common.{ap, subst, sym, ◌∙◌, IsSome}
use Rattle.blot_order.specs.Fills.{with_put}
use Rattle.blot_order.specs.Slots.{held_in_slots}
use Rattle.blot_order.proofs.SlotLemmas.{kept_at-held_by}
use Rattle.blot_order.proofs.orders.Orders.un_take.Goals as goal

pub put_kept-requires-clause-kept : goal.put_kept-requires-clause-kept
put_kept-requires-clause-kept c = subst IsSome (kept_at-held_by c.args.number (held_in_slots c.self.inside.slots.items) c.args.self.now c.self.view_is) c.requires

pub returns : goal.returns
returns c = λ kept is.
    c.put_kept.ensures.fills kept (sym (kept_at-held_by c.args.number (held_in_slots c.self.inside.slots.items) c.args.self.now c.self.view_is) ∙ is)
    ∙ ap (with_put c.args.number kept) c.self.view_is
