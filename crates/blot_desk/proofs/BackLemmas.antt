-- Undos and redos of a desk, one after the other, are those of its steps.
use Rattle.std.proofs.Common.{◌≡◌, ℕ, zero, suc, List, [], ◌∷◌, refl, sym, ap, subst, ◌∙◌, eq-eqb}
use Rattle.blot_types.specs.declared.{command.Command.Command, command.Entry.Entry}
use Rattle.blot_command.specs.declared.inverse.Inverse.{Inverse}
use Rattle.blot_command.specs.Law.{command_lawful}
use Rattle.blot_command.specs.Meanings.{command_meaning}
use Rattle.blot_undo.specs.declared.{step.Done.Done, step.Undone.Undone}
use Rattle.blot_undo.specs.Book.{undo_of as undone_book, redo_of as redone_book, redone, rewound}
use Rattle.blot_undo.specs.Laws.{GoesBack, LeadTo, RoundTrips}
use Rattle.blot_undo.proofs.BookLemmas.{book, goes_back}
use Rattle.blot_desk.specs.declared.event.Event.TheVariants.{Redo}
use Rattle.blot_desk.specs.Desk.{DeskBook, UndosGoBack, RedosReturn, after_redos, after_undos, step_of, undone_once}

-- one undo, and one redo
undo_one : (list : List Entry) (done : List (Done Inverse)) (undone : List (Undone Command)) (next : ℕ) → undone_once (book list done undone next) ≡ undone_book command_meaning (book list done undone next)
undo_one list [] undone next = refl
undo_one list (step ∷ earlier) undone next = rw (eq-eqb step.number step.number refl, undone_once) refl

redo_one : (list : List Entry) (done : List (Done Inverse)) (undone : List (Undone Command)) (next : ℕ) → (step_of (book list done undone next) Redo).book ≡ redone_book command_meaning (book list done undone next)
redo_one list done [] next = refl
redo_one list done (step ∷ later) next = refl

-- any count of them
undo_all : (count : ℕ) (b : DeskBook) → after_undos count b ≡ rewound command_meaning count b
undo_all zero b = refl
undo_all (suc count) b =
    let before = rewound command_meaning count b in
    ap undone_once (undo_all count b) ∙ undo_one before.list before.done before.undone before.next

redo_all : (count : ℕ) (b : DeskBook) → after_redos count b ≡ redone command_meaning count b
redo_all zero b = refl
redo_all (suc count) b =
    let before = redone command_meaning count b in
    ap (λ (b : DeskBook). (step_of b Redo).book) (redo_all count b) ∙ redo_one before.list before.done before.undone before.next

-- so undos lead back, and redos to the book again
pub undos_go_back : (b : DeskBook) → LeadTo command_meaning b.done b.list → UndosGoBack b
undos_go_back b lead count few =
    subst (GoesBack command_meaning count b) (sym (undo_all count b)) (goes_back command_meaning command_lawful count b.list b.done b.undone b.next lead few)

pub redos_return : (b : DeskBook) → RoundTrips command_meaning b → RedosReturn b
redos_return b trips count few =
    ap (after_redos count) (undo_all count b) ∙ redo_all count (rewound command_meaning count b) ∙ trips count few
