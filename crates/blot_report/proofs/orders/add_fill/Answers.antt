use Rattle.std.proofs.Common.{◌≡◌, Option, Some, None, sym, ap, ◌∙◌, if◌then◌else◌}
use Rattle.blot_types.specs.declared.lines.OrderLine.{OrderLine}
use Rattle.blot_types.specs.Keys.{same_order}
use Rattle.blot_types.specs.Order.{with_fill}
use Rattle.blot_report.specs.Orders.{line_at}
use Rattle.blot_report.proofs.orders.add_fill.Goals as goal

pub returns-in_ok-insert-in-None-clause-lines : goal.returns-in_ok-insert-in-None-clause-lines
returns-in_ok-insert-in-None-clause-lines c = λ order.
    let lines = c.args.lines.now.entries in
    let fill = c.args.fill.now in
    let none : line_at lines fill.order ≡ None = sym c.in-None.ensures.value in
    let line : c.with_fill-in-None.result ≡ with_fill (line_at lines fill.order) fill = c.with_fill-in-None.ensures.line ∙ ap (λ (found : Option OrderLine). with_fill found fill) (sym none) in
    c.in_ok-insert-in-None.ensures.updates.0 order
    ∙ (λ i. if same_order fill.order order then Some (line i) else line_at (c.get_mut.follows.holds-at-none i).entries order)
