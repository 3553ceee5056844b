-- What taking, undoing and redoing steps means, for any type of command. Steps stand newest first.
use Rattle.std.specs.Prelude.{◌≡◌, ℕ, zero, suc, ◌+◌, List, [], ◌∷◌, Option, Some, None, option_map}
use Rattle.std.specs.List.{cons_option}
use Rattle.blot_command.specs.Undoable.{Meaning}
use Rattle.blot_undo.specs.declared.{step.Done.Done, step.Undone.Undone}

-- a state with its steps: the done ones newest first, the undone ones with the one undone last first, and the next
-- number
pub record Stack (S C I : Type 0) : Type 0 where
  pub state : S
  pub done : List (Done I)
  pub undone : List (Undone C)
  pub next : ℕ

-- a book: the same of a list
pub record Book (L C I : Type 0) : Type 0 where
  pub list : L
  pub done : List (Done I)
  pub undone : List (Undone C)
  pub next : ℕ

-- the book of a stack: the list that its state shows
abbrev pub book_of : {S L C I R : Type 0} → Meaning S L C I R → Stack S C I → Book L C I
book_of m stack = record { list = m.list_of stack.state; done = stack.done; undone = stack.undone; next = stack.next }

-- the list that a stack's state shows, and whether it accepts a command
abbrev pub list_in : {S L C I R : Type 0} → Meaning S L C I R → Stack S C I → L
list_in m stack = m.list_of stack.state

abbrev pub Accepts : {S L C I R : Type 0} → Meaning S L C I R → Stack S C I → C → Type 0
Accepts m stack command = m.refused (list_in m stack) command ≡ None

-- the book after a command that its list accepts: the command is done under the next number, and no step is undone
abbrev pub apply_of : {S L C I R : Type 0} → Meaning S L C I R → Book L C I → C → Book L C I
apply_of m book command = record {
  list = m.after book.list command book.next;
  done = record { number = book.next; inverse = m.inverse_of book.list command book.next } ∷ book.done;
  undone = [];
  next = book.next + 1;
}

-- the step that a done step is once it is undone: its command is the one that its inverse takes back
abbrev pub undone_of : {S L C I R : Type 0} → Meaning S L C I R → L → Done I → Option (Undone C)
undone_of m list step = option_map (λ command. record { number = step.number; command = command }) (m.command_of list step.inverse)

-- the book before its newest done step, which is then undone; without a done step the book as it is
abbrev pub undo_in : {S L C I R : Type 0} → Meaning S L C I R → Book L C I → List (Done I) → Book L C I
undo_in m book [] = book
undo_in m book (step ∷ earlier) = record {
  list = m.before book.list step.inverse;
  done = earlier;
  undone = cons_option (undone_of m book.list step) book.undone;
  next = book.next;
}

-- the same, by the book's own done steps
abbrev pub undo_of : {S L C I R : Type 0} → Meaning S L C I R → Book L C I → Book L C I
undo_of m book = undo_in m book book.done

-- the book after the step that was undone last, which is done again under its own number; without an undone step
-- the book as it is
abbrev pub redo_in : {S L C I R : Type 0} → Meaning S L C I R → Book L C I → List (Undone C) → Book L C I
redo_in m book [] = book
redo_in m book (step ∷ later) = record {
  list = m.after book.list step.command step.number;
  done = record { number = step.number; inverse = m.inverse_of book.list step.command step.number } ∷ book.done;
  undone = later;
  next = book.next;
}

-- the same, by the book's own undone steps
abbrev pub redo_of : {S L C I R : Type 0} → Meaning S L C I R → Book L C I → Book L C I
redo_of m book = redo_in m book book.undone

-- the book with a count of steps undone, newest first
abbrev pub rewound : {S L C I R : Type 0} → Meaning S L C I R → ℕ → Book L C I → Book L C I
rewound m zero book = book
rewound m (suc count) book = undo_of m (rewound m count book)

-- the book with a count of steps redone
abbrev pub redone : {S L C I R : Type 0} → Meaning S L C I R → ℕ → Book L C I → Book L C I
redone m zero book = book
redone m (suc count) book = redo_of m (redone m count book)

-- the list that stood a count of done steps before a list
abbrev pub past : {S L C I R : Type 0} → Meaning S L C I R → L → List (Done I) → ℕ → L
past m list done zero = list
past m list [] (suc count) = list
past m list (step ∷ earlier) (suc count) = past m (m.before list step.inverse) earlier count

-- the book of a stack with a command done
abbrev pub book_with : {S L C I R : Type 0} → Meaning S L C I R → Stack S C I → C → Book L C I
book_with m stack command = apply_of m (book_of m stack) command

-- the book of a stack with a count of its steps undone, newest first
abbrev pub book_rewound : {S L C I R : Type 0} → Meaning S L C I R → ℕ → Stack S C I → Book L C I
book_rewound m count stack = rewound m count (book_of m stack)

-- the list that stood a count of done steps before that of a stack
abbrev pub list_before : {S L C I R : Type 0} → Meaning S L C I R → ℕ → Stack S C I → L
list_before m count stack = past m (list_in m stack) stack.done count

-- the number of a done step
abbrev pub done_number : {I : Type 0} → Done I → ℕ
done_number step = step.number

-- the number of the newest done step
abbrev pub newest_done : {I : Type 0} → List (Done I) → Option ℕ
newest_done [] = None
newest_done (step ∷ earlier) = Some step.number

-- the number of the step that was undone last
abbrev pub newest_undone : {C : Type 0} → List (Undone C) → Option ℕ
newest_undone [] = None
newest_undone (step ∷ later) = Some step.number
