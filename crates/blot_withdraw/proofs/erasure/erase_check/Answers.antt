-- Where no fault applies, nobody needs the chain.
use Rattle.std.proofs.Common.{ap, sym, ◌∙◌, is_some}
use Rattle.blot_types.specs.Order.{order_of}
use Rattle.blot_types.specs.Position.{position_of}
use Rattle.blot_withdraw.proofs.ErasureLemmas.{without_chain-book, without_chain-order, without_chain-position}
use Rattle.blot_withdraw.proofs.erasure.erase_check.Goals as goal

pub without_chain-requires : goal.without_chain-requires
without_chain-requires c = without_chain-book c.args.list.now c.in-Some.root c.requires (sym c.in_default-first_listing.ensures)

pub returns-in-Ok-clause-orders : goal.returns-in-Ok-clause-orders
returns-in-Ok-clause-orders c = λ order.
    ap (λ list. order_of list order) c.in-Ok.ensures.list
    ∙ without_chain-order c.args.list.now c.in-Some.root order c.requires (ap is_some (sym c.bust_of.ensures) ∙ c.if-is_none.ensures) (sym c.in_default-first_listing.ensures)

pub returns-in-Ok-clause-positions : goal.returns-in-Ok-clause-positions
returns-in-Ok-clause-positions c = λ account symbol.
    ap (λ list. position_of list account symbol) c.in-Ok.ensures.list
    ∙ without_chain-position c.args.list.now c.in-Some.root account symbol c.requires (ap is_some (sym c.bust_of.ensures) ∙ c.if-is_none.ensures) (sym c.in_default-first_listing.ensures)
