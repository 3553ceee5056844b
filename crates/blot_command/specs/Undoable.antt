-- What a command that can be undone means, for any type of command, and the law that it obeys. A command acts on
-- the list that a state shows; what a state keeps beside its list serves `revert` alone.
use Rattle.std.specs.Prelude.{◌≡◌, ℕ, ◌+◌, ◌<◌, ◌≤◌, ◌⊎◌, Bool, true, List, ◌++◌, Option, Some, None, All, Contains}
use Rattle.blot_types.specs.declared.TheConstants.{EVENTS_MAX}

-- the notions of a command C on a state S that shows a list L, with an inverse I and a refusal R
pub record Meaning (S L C I R : Type 0) : Type 1 where
  -- the list that a state shows
  pub list_of : S → L
  -- the numbers of what a state keeps beside its list
  pub spare : S → List ℕ
  -- whether a state keeps what taking back the step of a number, by its inverse, needs besides the list
  pub kept : S → ℕ → I → Type 0
  -- whether all else that a state keeps is as it was, once a step by an inverse is taken, or taken back
  pub stays : I → S → S → Type 0
  -- the lists that there are
  pub is_valid : L → Bool
  -- the numbers in a list
  pub numbers : L → List ℕ
  -- why a list refuses a command
  pub refused : L → C → Option R
  -- the list after a command under a number
  pub after : L → C → ℕ → L
  -- the inverse that the command then hands back
  pub inverse_of : L → C → ℕ → I
  -- the list before, by an inverse
  pub before : L → I → L
  -- the command that an inverse takes back
  pub command_of : L → I → Option C
  -- whether a command may want memory
  pub takes_memory : C → Bool
  -- the refusal that says that memory ran out
  pub no_memory : R

-- all of some numbers are below this one
abbrev pub AllBelow : ℕ → List ℕ → Type 0
AllBelow number numbers = All (λ earlier. earlier < number) numbers

-- the numbers in a state: those of its list, and of what it keeps beside
abbrev pub numbers_in : {S L C I R : Type 0} → Meaning S L C I R → S → List ℕ
numbers_in m state = m.spare state ++ m.numbers (m.list_of state)

-- a command may be taken next under a number: the list accepts it, and the number is above its numbers
pub record IsNext {S L C I R : Type 0} (m : Meaning S L C I R) (list : L) (command : C) (number : ℕ) : Type 0 where
  pub accepted : m.refused list command ≡ None
  pub above : AllBelow number (m.numbers list)

-- one step: on a valid list the command was taken under the number, up to EVENTS_MAX, which led to this inverse and
-- this list
pub record IsStep {S L C I R : Type 0} (m : Meaning S L C I R) (list : L) (command : C) (number : ℕ) (inverse : I) (next : L) : Type 0 where
  pub valid : m.is_valid list ≡ true
  pub within : number ≤ EVENTS_MAX
  pub is_next : IsNext m list command number
  pub inverse_is : inverse ≡ m.inverse_of list command number
  pub list_is : next ≡ m.after list command number

-- the law, on a valid list: what stands before what stands after is the list itself, and the command comes back; after a
-- number up to EVENTS_MAX a valid list stands
pub record IsLawful {S L C I R : Type 0} (m : Meaning S L C I R) : Type 0 where
  pub before_after : (list : L) (c : C) (n : ℕ) → m.is_valid list ≡ true → IsNext m list c n → m.before (m.after list c n) (m.inverse_of list c n) ≡ list
  pub command_back : (list : L) (c : C) (n : ℕ) → m.is_valid list ≡ true → IsNext m list c n → m.command_of (m.after list c n) (m.inverse_of list c n) ≡ Some c
  pub valid_after : (list : L) (c : C) (n : ℕ) → m.is_valid list ≡ true → n ≤ EVENTS_MAX → IsNext m list c n → m.is_valid (m.after list c n) ≡ true

-- what a state keeps for the steps below a number stays kept
abbrev pub KeepsEarlier : {S L C I R : Type 0} → Meaning S L C I R → ℕ → S → S → Type 0
KeepsEarlier {I = I} m number old new = (n : ℕ) (inverse : I) → n < number → m.kept old n inverse → m.kept new n inverse

-- a step brings no number but its own into the state, and keeps what taking it back needs, and what the earlier
-- steps need; all else that is kept stays as it was
pub record Adds {S L C I R : Type 0} (m : Meaning S L C I R) (number : ℕ) (inverse : I) (old new : S) : Type 0 where
  pub brings : (k : ℕ) → Contains (numbers_in m new) k → Contains (numbers_in m old) k ⊎ (k ≡ number)
  pub own : m.kept new number inverse
  pub earlier : KeepsEarlier m number old new
  pub stays : m.stays inverse old new

-- taking a step back brings no number into the state, takes the step's own out, and keeps what the earlier steps need; all
-- else that is kept stays as it was
pub record Leaves {S L C I R : Type 0} (m : Meaning S L C I R) (number : ℕ) (inverse : I) (old new : S) : Type 0 where
  pub brings_none : (k : ℕ) → Contains (numbers_in m new) k → Contains (numbers_in m old) k
  pub gone : Contains (numbers_in m new) number → ⊥
  pub earlier : KeepsEarlier m number old new
  pub stays : m.stays inverse old new

-- a refusal: the command comes back and the state is as it was; the reason is the list's own, or where the list
-- accepts the command and that may want memory, out of memory
pub record IsRefusal {S L C I R : Type 0} (m : Meaning S L C I R) (state : S) (command returned : C) (reason : R) (next : S) : Type 0 where
  pub command_is : returned ≡ command
  pub state_is : next ≡ state
  pub reason_is :
      m.refused (m.list_of state) command ≡ Some reason
      ⊎ ((m.refused (m.list_of state) command ≡ None) × (m.takes_memory command ≡ true) × (reason ≡ m.no_memory))

-- a state refused a command, which comes back with this reason
abbrev pub Refuses : {S L C I R : Type 0} → Meaning S L C I R → S → C → S → C × R → Type 0
Refuses m state command next refusal = IsRefusal m state command refusal.0 refusal.1 next

-- an inverse undoes the step of a command under a number: the step led from a list to the state's list and handed out
-- this inverse, the state keeps what taking it back needs, and no number in the state came later
pub record UndoesStep {S L C I R : Type 0} (m : Meaning S L C I R) (list : L) (command : C) (number : ℕ) (inverse : I) (state : S) : Type 0 where
  pub step : IsStep m list command number inverse (m.list_of state)
  pub kept : m.kept state number inverse
  pub latest : AllBelow (number + 1) (numbers_in m state)

-- an inverse undoes a state: it undoes some step that led there
abbrev pub Undoes : {S L C I R : Type 0} → Meaning S L C I R → I → S → Type 0
Undoes {S} {L} {C} m inverse state = (list : L) × (command : C) × (number : ℕ) × UndoesStep m list command number inverse state

-- whichever step an inverse undoes, its number is out
abbrev pub TakesOut : {S L C I R : Type 0} → Meaning S L C I R → I → S → S → Type 0
TakesOut {S} {L} {C} m inverse old new = (list : L) (command : C) (number : ℕ) → UndoesStep m list command number inverse old → Leaves m number inverse old new
