use Rattle.std.proofs.Common.{List, Option, ap, ◌∙◌}
use Rattle.blot_order.specs.Slots.{Placed, held_by, held_in_slots}
use Rattle.blot_order.proofs.SlotLemmas.{held_by-empty}
use Rattle.blot_order.proofs.orders.Orders.new.Goals as goal

pub returns : goal.returns
returns c = ap (λ (slots : List (Option Placed)). held_by (held_in_slots slots)) c.new.ensures.items ∙ held_by-empty
