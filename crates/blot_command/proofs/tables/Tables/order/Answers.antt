use Rattle.std.proofs.Common.{ap, ◌∙◌}
use Rattle.blot_types.specs.Order.{line_of, fills_of, order_of}
use Rattle.blot_types.specs.Survivors.{survivors}
use Rattle.blot_order.proofs.FillLemmas.{fills_put-by_versions}
use Rattle.blot_command.specs.Book.{Shown}
use Rattle.blot_command.proofs.LiveLemmas.{rise-of_book}
use Rattle.blot_command.proofs.RecordLemmas.{survivors-rise}
use Rattle.blot_command.proofs.tables.Tables.order.Goals as goal

pub returns-clause-line : goal.returns-clause-line
returns-clause-line c =
    c.get.ensures ∙ ap (λ fills. line_of (fills_of fills c.args.order.now))
    (fills_put-by_versions c.self.inside.orders (survivors c.self.inside.accounts.list)
    (survivors-rise c.self.inside.accounts.list (rise-of_book c.self.inside.accounts.list c.self.invariant.book)) c.self.invariant.put)
    ∙ ap (λ (book : Shown). order_of book.list c.args.order.now) c.self.view_is
