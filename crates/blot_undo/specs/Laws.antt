-- What always holds of steps.
use Rattle.std.specs.Prelude.{◌≡◌, ℕ, ◌≤◌, List, [], ◌∷◌, ◌++◌, length, take, drop, map, reverse}
use Rattle.blot_command.specs.Undoable.{Meaning, IsStep}
use Rattle.blot_undo.specs.declared.step.Done.{Done}
use Rattle.blot_undo.specs.Book.{Book, rewound, redone, past}

-- each done step led from the list that stands before it to the list that stands after it
abbrev pub LeadTo : {S L C I R : Type 0} → Meaning S L C I R → List (Done I) → L → Type 0
LeadTo m [] list = Unit {0}
LeadTo {C = C} m (step ∷ earlier) list =
    ((command : C) × IsStep m (m.before list step.inverse) command step.number step.inverse list) × LeadTo m earlier (m.before list step.inverse)

-- undoing a count of steps gives the list that stood before them; these steps are then undone, the oldest of them
-- first, and the next number stays
pub record GoesBack {S L C I R : Type 0} (m : Meaning S L C I R) (count : ℕ) (old new : Book L C I) : Type 0 where
  pub list : new.list ≡ past m old.list old.done count
  pub done : new.done ≡ drop count old.done
  pub undone : map (λ step. step.number) new.undone ≡ reverse (take count (map (λ step. step.number) old.done)) ++ map (λ step. step.number) old.undone
  pub next : new.next ≡ old.next

-- any count of done steps undone and as many redone give the book again
abbrev pub RoundTrips : {S L C I R : Type 0} → Meaning S L C I R → Book L C I → Type 0
RoundTrips m book = (count : ℕ) → count ≤ length book.done → redone m count (rewound m count book) ≡ book
