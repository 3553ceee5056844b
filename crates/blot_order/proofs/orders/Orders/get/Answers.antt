use Rattle.std.proofs.Common.{◌≡◌, Option, pos, ◌≤ℤ◌, refl, sym, ap, subst, ◌∙◌, unwrap_or}
use Rattle.blot_order.specs.Cells.{Tally, no_tally, tally_at}
use Rattle.blot_order.specs.Slots.{held_in_slots}
use Rattle.blot_order.proofs.HoldsLemmas.{line-read, small}
use Rattle.blot_order.proofs.orders.Orders.get.Goals as goal

pub line-requires : goal.line-requires
line-requires c =
    let cells = c.self.inside.cells.entries in
    let tally : tally_at cells c.args.order.now ≡ c.in-Some.cell.now = ap (λ (found : Option Tally). unwrap_or found no_tally) (sym c.in-Some.ensures.value) in
    subst (λ (tally : Tally). pos 0 ≤ℤ tally.totals.cum) tally (small cells (held_in_slots c.self.inside.slots.items) c.self.invariant.orders c.args.order.now).cum_low

pub returns-in-Some : goal.returns-in-Some
returns-in-Some c =
    let cells = c.self.inside.cells.entries in
    let tally : tally_at cells c.args.order.now ≡ c.in-Some.cell.now = ap (λ (found : Option Tally). unwrap_or found no_tally) (sym c.in-Some.ensures.value) in
    c.line.ensures
    ∙ line-read cells (held_in_slots c.self.inside.slots.items) c.self.invariant.orders (held_in_slots c.deref.result.now) c.args.self.now c.args.order.now c.in-Some.cell.now c.self.view_is (ap held_in_slots c.deref.ensures.value) (sym tally)

pub returns-in-None : goal.returns-in-None
returns-in-None c =
    let cells = c.self.inside.cells.entries in
    let slots = held_in_slots c.self.inside.slots.items in
    let tally : tally_at cells c.args.order.now ≡ no_tally = ap (λ (found : Option Tally). unwrap_or found no_tally) (sym c.in-None.ensures.value) in
    line-read cells slots c.self.invariant.orders slots c.args.self.now c.args.order.now no_tally c.self.view_is refl (sym tally)
