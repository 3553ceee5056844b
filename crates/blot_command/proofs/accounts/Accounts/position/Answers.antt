use Rattle.std.proofs.Common.{ap, subst, ◌∙◌}
use Rattle.blot_types.specs.Laws.{HasBoundedTotals}
use Rattle.blot_types.specs.Legal.{is_book}
use Rattle.blot_types.specs.Position.{position_of}
use Rattle.blot_command.specs.Book.{Shown}
use Rattle.blot_command.proofs.BoundLemmas.{has-bounded-totals}
use Rattle.blot_command.proofs.PositionLineLemmas.{position-shown}
use Rattle.blot_command.proofs.accounts.Accounts.position.Goals as goal

pub returns-clause-line : goal.returns-clause-line
returns-clause-line c =
    c.get.ensures ∙ position-shown c.self.inside.live c.self.inside.positions c.args.account.now c.args.symbol.now c.self.invariant
    ∙ ap (λ (shown : Shown). position_of shown.list c.args.account.now c.args.symbol.now) c.self.view_is

pub returns-clause-bounded : goal.returns-clause-bounded
returns-clause-bounded c book =
    subst (λ (shown : Shown). HasBoundedTotals shown.list) c.self.view_is (has-bounded-totals c.self.inside.live c.self.inside.positions (ap (λ (shown : Shown). is_book shown.list) c.self.view_is ∙ book) c.self.invariant)
