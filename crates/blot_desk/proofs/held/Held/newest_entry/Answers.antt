use Rattle.std.proofs.Common.{◌≡◌, ◌≤◌, sym, ap, subst, ◌∙◌, All, IfSome, IsTrue}
use Rattle.blot_types.specs.declared.command.Entry.{Entry}
use Rattle.blot_types.specs.Legal.{is_book}
use Rattle.blot_command.specs.Book.{Shown}
use Rattle.blot_desk.specs.Desk.{DeskState, newest_entry_of}
use Rattle.blot_desk.proofs.DeskLemmas.{greatest_last}
use Rattle.blot_desk.proofs.held.Held.newest_entry.Goals as goal

pub returns-clause-greatest : goal.returns-clause-greatest
returns-clause-greatest c =
    let list = c.args.self.now.book.list in
    let same : c.state.result.now.list ≡ list = ap (λ (shown : Shown). shown.list) c.state.ensures ∙ ap (λ (desk : DeskState). desk.book.list) c.self.view_is in
    subst (λ newest. IfSome newest (λ newest. All (λ (entry : Entry). entry.number ≤ newest) list)) (sym (c.newest.ensures.newest ∙ ap newest_entry_of same))
    (greatest_last list (subst (λ list. IsTrue (is_book list)) same c.newest.ensures.book))
