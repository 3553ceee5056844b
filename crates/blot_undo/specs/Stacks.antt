-- What a stack of steps keeps of its state and its steps.
use Rattle.std.specs.Prelude.{◌≡◌, ℕ, ◌<◌, ◌≤◌, ◌+◌, List, [], ◌∷◌, ◌++◌, Option, Some, None, length, map, reverse, Contains, filter_map}
use Rattle.blot_types.specs.declared.TheConstants.{EVENTS_MAX}
use Rattle.blot_command.specs.Undoable.{Meaning, IsNext, numbers_in}
use Rattle.blot_undo.specs.declared.{step.Done.Done, step.Undone.Undone, step.Step.Step}
use Rattle.blot_undo.specs.declared.step.Step.TheVariants.{Done as DoneStep, Undone as UndoneStep}
use Rattle.blot_undo.specs.Book.{done_number}
use Rattle.blot_undo.specs.Laws.{LeadTo}

-- the done step that a step is, if it is one, and the undone one
abbrev pub as_done : {C I : Type 0} → Step C I → Option (Done I)
as_done (DoneStep step) = Some step
as_done (UndoneStep step) = None

abbrev pub as_undone : {C I : Type 0} → Step C I → Option (Undone C)
as_undone (DoneStep step) = None
as_undone (UndoneStep step) = Some step

-- the done steps of a row, the last first, and its undone ones, the first first
abbrev pub done_in : {C I : Type 0} → List (Step C I) → List (Done I)
done_in row = reverse (filter_map as_done row)

abbrev pub undone_in : {C I : Type 0} → List (Step C I) → List (Undone C)
undone_in row = filter_map as_undone row

-- a row of steps and a place stand for these done steps and these undone ones: before the place stand the done ones, the
-- newest last, and from it on the undone ones, the one undone last first
pub record StandFor {C I : Type 0} (row : List (Step C I)) (place : ℕ) (done : List (Done I)) (undone : List (Undone C)) : Type 0 where
  pub row_is : row ≡ map DoneStep (reverse done) ++ map UndoneStep undone
  pub place_is : place ≡ length done

-- each undone step may be taken next, the one undone last first
abbrev pub CanFollow : {S L C I R : Type 0} → Meaning S L C I R → List (Undone C) → L → Type 0
CanFollow m [] list = Unit {0}
CanFollow m (step ∷ later) list = IsNext m list step.command step.number × CanFollow m later (m.after list step.command step.number)

-- the state keeps what taking back each done step needs
abbrev pub KeepsAll : {S L C I R : Type 0} → Meaning S L C I R → List (Done I) → S → Type 0
KeepsAll m [] state = Unit {0}
KeepsAll m (step ∷ earlier) state = m.kept state step.number step.inverse × KeepsAll m earlier state

-- the number that all done steps are below: that of the step undone last, or the next one
abbrev pub limit : {C : Type 0} → List (Undone C) → ℕ → ℕ
limit [] next = next
limit (step ∷ later) next = step.number

-- the numbers of the undone steps rise to the next one
abbrev pub Rise : {C : Type 0} → List (Undone C) → ℕ → Type 0
Rise [] next = Unit {0}
Rise (step ∷ later) next = (step.number < limit later next) × Rise later next

-- the numbers of the done steps fall from below a limit
abbrev pub Fall : {I : Type 0} → List (Done I) → ℕ → Type 0
Fall [] below = Unit {0}
Fall (step ∷ earlier) below = (step.number < below) × Fall earlier step.number

-- what a stack keeps: the done steps lead to its state, the undone ones can follow, and their numbers rise to the
-- next one; the state keeps what the done steps need, and its numbers are theirs
pub record IsStack {S L C I R : Type 0} (m : Meaning S L C I R) (state : S) (done : List (Done I)) (undone : List (Undone C)) (next : ℕ) : Type 0 where
  pub lead : LeadTo m done (m.list_of state)
  pub follow : CanFollow m undone (m.list_of state)
  pub keeps : KeepsAll m done state
  pub numbered : (k : ℕ) → Contains (numbers_in m state) k → Contains (map done_number done) k
  pub rise : Rise undone next
  pub fall : Fall done (limit undone next)
  pub few : next ≤ EVENTS_MAX + 1

-- what a stack keeps of a row of steps and a place: they stand for its done and its undone steps
abbrev pub HoldsSteps : {S L C I R : Type 0} → Meaning S L C I R → S → List (Step C I) → ℕ → ℕ → Type 0
HoldsSteps m state row place next = StandFor row place (done_in row) (undone_in row) × IsStack m state (done_in row) (undone_in row) next
