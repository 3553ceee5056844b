-- What a stack keeps after a step taken, undone and redone.
use Rattle.std.proofs.Common.{◌≡◌, ℕ, ◌<◌, ◌≤◌, ◌+◌, List, [], ◌∷◌, ◌++◌, length, map, take, get_or, set, Some, None, refl, sym, ap, subst, ◌∙◌, ◌⊎◌, arith, inl, inr, All, Contains}
use Rattle.std.proofs.lemmas.List.Elements.{All-nil, All-cons, All-weaker, All-contains, All-contains_itself, Contains-append_left, Contains-append_right, Contains-append_cases, Contains-push, Contains-push_cases}
use Rattle.blot_types.specs.declared.TheConstants.{EVENTS_MAX}
use Rattle.blot_command.specs.Undoable.{Meaning, IsStep, IsLawful, KeepsEarlier, Adds, Leaves, TakesOut, UndoesStep, Undoes, numbers_in, AllBelow}
use Rattle.blot_undo.specs.declared.{step.Done.Done, step.Undone.Undone, step.Step.Step}
use Rattle.blot_undo.specs.declared.step.Step.TheVariants.{Done as DoneStep, Undone as UndoneStep}
use Rattle.blot_undo.specs.Book.{apply_of, undo_of, redo_of, past, done_number}
use Rattle.blot_undo.specs.Laws.{LeadTo}
use Rattle.blot_undo.specs.Stacks.{StandFor, HoldsSteps, IsStack, CanFollow, KeepsAll, Rise, Fall, limit, done_in, undone_in}
use Rattle.blot_undo.proofs.BookLemmas.{back_again, given_back, book, undone_book, redone_book}
use Rattle.blot_undo.proofs.RowLemmas.{done_shown, undone_shown, place_within, next_within, newest_is, next_is, as_found, added}

-- ---- numbers

-- what is in a list with one more in front
cons_cases : (x : ℕ) (xs : List ℕ) (k : ℕ) → Contains (x ∷ xs) k → (x ≡ k) ⊎ Contains xs k
cons_cases x xs k within =
    elim (Contains-append_cases (x ∷ []) xs k within) [
      | inl first ↦ elim (Contains-push_cases [] x k first) [
        | inl none ↦ absurd (omega (arith, none.1))
        | inr own ↦ inl own
      ]
      | inr later ↦ inr later
    ]

cons_first : (x : ℕ) (xs : List ℕ) → Contains (x ∷ xs) x
cons_first x xs = Contains-append_left (x ∷ []) xs x (Contains-push [] x)

cons_later : (x : ℕ) (xs : List ℕ) (k : ℕ) → Contains xs k → Contains (x ∷ xs) k
cons_later x xs k within = Contains-append_right (x ∷ []) xs k within

-- the undone numbers are at most the next one, and so is the limit of the done ones
pub limit_next : {C : Type 0} (undone : List (Undone C)) (next : ℕ) → Rise undone next → limit undone next ≤ next
limit_next [] next rise = omega arith
limit_next (step ∷ later) next rise =
    let rest : limit later next ≤ next = limit_next later next rise.1 in
    omega (arith, rise.0, rest)

fall_weaker : {I : Type 0} (done : List (Done I)) (low high : ℕ) → low ≤ high → Fall done low → Fall done high
fall_weaker [] low high less fall = tt
fall_weaker (step ∷ earlier) low high less fall = (omega (arith, fall.0, less), fall.1)

-- the done numbers are below their limit
fall_below : {I : Type 0} (done : List (Done I)) (below : ℕ) → Fall done below → All (λ n. n < below) (map done_number done)
fall_below [] below fall = All-nil (λ n. n < below)
fall_below (step ∷ earlier) below fall =
    All-cons (λ n. n < below) step.number (map done_number earlier) fall.0
    (fall_below earlier below (fall_weaker earlier step.number below (omega (arith, fall.0)) fall.1))

-- so a number at the limit is above those of the state
pub above_state :
    {S L C I R : Type 0} (m : Meaning S L C I R) (state : S) (done : List (Done I)) (below : ℕ)
    → ((k : ℕ) → Contains (numbers_in m state) k → Contains (map done_number done) k) → Fall done below → AllBelow below (numbers_in m state)
above_state m state done below numbered fall =
    All-weaker (Contains (numbers_in m state)) (λ n. n < below)
    (λ k within. All-contains (λ n. n < below) (map done_number done) k (fall_below done below fall) (numbered k within))
    (numbers_in m state) (All-contains_itself (numbers_in m state))

-- after a step every number is below the one that comes next
below_next :
    {S L C I R : Type 0} (m : Meaning S L C I R) (number : ℕ) (inverse : I) (old new : S) → AllBelow number (numbers_in m old) → Adds m number inverse old new → AllBelow (number + 1) (numbers_in m new)
below_next m number inverse old new above step =
    All-weaker (Contains (numbers_in m new)) (λ earlier. earlier < number + 1)
    (λ k within. elim (step.brings k within) [
      | inl earlier ↦ (let below : k < number = All-contains (λ e. e < number) (numbers_in m old) k above earlier in omega (arith, below))
      | inr own ↦ omega (arith, own)
    ])
    (numbers_in m new) (All-contains_itself (numbers_in m new))

-- ---- what the state keeps

keeps_on :
    {S L C I R : Type 0} (m : Meaning S L C I R) (number : ℕ) (old new : S) (done : List (Done I)) → KeepsEarlier m number old new → Fall done number
    → KeepsAll m done old → KeepsAll m done new
keeps_on m number old new [] keeps fall kept = tt
keeps_on m number old new (step ∷ earlier) keeps fall kept = (
  keeps step.number step.inverse fall.0 kept.0,
  keeps_on m number old new earlier keeps (fall_weaker earlier step.number number (omega (arith, fall.0)) fall.1) kept.1,
)

-- ---- a step taken

-- a step in front of those that led to its list
lead_more :
    {S L C I R : Type 0} (m : Meaning S L C I R) → IsLawful m → (list next : L) (command : C) (number : ℕ) (inverse : I) (done : List (Done I))
    → IsStep m list command number inverse next → LeadTo m done list → LeadTo m (record { number = number; inverse = inverse } ∷ done) next
lead_more m lawful list next command number inverse done step lead =
    let back = back_again m lawful list next command number inverse step in
    ((command, rw back step), rw back lead)

pub more_done :
    {S L C I R : Type 0} (m : Meaning S L C I R) → IsLawful m → (old new : S) (command : C) (number : ℕ) (inverse : I) (done : List (Done I))
    → IsStep m (m.list_of old) command number inverse (m.list_of new) → Adds m number inverse old new
    → LeadTo m done (m.list_of old) → KeepsAll m done old → ((k : ℕ) → Contains (numbers_in m old) k → Contains (map done_number done) k) → Fall done number
    → (undone : List (Undone C)) (next : ℕ) → CanFollow m undone (m.list_of new) → Rise undone next → number < limit undone next → next ≤ EVENTS_MAX + 1
    → IsStack m new (record { number = number; inverse = inverse } ∷ done) undone next
more_done m lawful old new command number inverse done step adds lead keeps numbered fall undone next follow rise below few = record {
  lead = lead_more m lawful (m.list_of old) (m.list_of new) command number inverse done step lead;
  follow = follow;
  keeps = (adds.own, keeps_on m number old new done adds.earlier fall keeps);
  numbered = λ k within. elim (adds.brings k within) [
    | inl earlier ↦ cons_later number (map done_number done) k (numbered k earlier)
    | inr own ↦ subst (Contains (number ∷ map done_number done)) (sym own) (cons_first number (map done_number done))
  ];
  rise = rise;
  fall = (below, fall);
  few = few;
}

-- ---- a step taken back

pub one_undone :
    {S L C I R : Type 0} (m : Meaning S L C I R) → IsLawful m → (old new : S) (step : Done I) (earlier : List (Done I)) (undone : List (Undone C)) (next : ℕ) (command : C)
    → IsStack m old (step ∷ earlier) undone next
    → m.list_of new ≡ m.before (m.list_of old) step.inverse → m.command_of (m.list_of old) step.inverse ≡ Some command → Leaves m step.number step.inverse old new
    → IsStack m new earlier (record { number = step.number; command = command } ∷ undone) next
one_undone {C = C} m lawful old new step earlier undone next command stack list back leaves =
    let list0 = m.before (m.list_of old) step.inverse in
    let own = stack.lead.0.0 in
    let taken = stack.lead.0.1 in
    let same : Some own ≡ Some command = sym (given_back m lawful list0 (m.list_of old) own step.number step.inverse taken) ∙ back in
    let one : own ≡ command = cc in
    record {
      lead = subst (LeadTo m earlier) (sym list) stack.lead.1;
      follow = rw list (rw (← one) (taken.is_next, subst (CanFollow m undone) taken.list_is stack.follow));
      keeps = keeps_on m step.number old new earlier leaves.earlier stack.fall.1 stack.keeps.1;
      numbered = λ k within. elim (cons_cases step.number (map done_number earlier) k (stack.numbered k (leaves.brings_none k within))) [
        | inl gone ↦ absurd (leaves.gone (subst (Contains (numbers_in m new)) (sym gone) within))
        | inr stays ↦ stays
      ];
      rise = (stack.fall.0, stack.rise);
      fall = stack.fall.1;
      few = stack.few;
    }

-- the newest step, as its inverse takes it back
pub undoes_newest :
    {S L C I R : Type 0} (m : Meaning S L C I R) (state : S) (step : Done I) (earlier : List (Done I)) (undone : List (Undone C)) (next : ℕ)
    → (stack : IsStack m state (step ∷ earlier) undone next)
    → UndoesStep m (m.before (m.list_of state) step.inverse) (stack.lead.0.0) step.number step.inverse state
undoes_newest m state step earlier undone next stack = record {
  step = stack.lead.0.1;
  kept = stack.keeps.0;
  latest = above_state m state (step ∷ earlier) (step.number + 1) stack.numbered (omega arith, stack.fall.1);
}

-- ---- a command taken

-- the next number is above those of the state
pub above_next :
    {S L C I R : Type 0} (m : Meaning S L C I R) (state : S) (done : List (Done I)) (undone : List (Undone C)) (next : ℕ)
    → IsStack m state done undone next → AllBelow next (numbers_in m state)
above_next m state done undone next stack =
    above_state m state done next stack.numbered (fall_weaker done (limit undone next) next (limit_next undone next stack.rise) stack.fall)

-- a command that was just taken: its inverse undoes the state
undoes_applied :
    {S L C I R : Type 0} (m : Meaning S L C I R) (old mid : S) (done : List (Done I)) (undone : List (Undone C)) (next : ℕ) (command : C) (inverse : I)
    → IsStack m old done undone next → IsStep m (m.list_of old) command next inverse (m.list_of mid) → Adds m next inverse old mid
    → UndoesStep m (m.list_of old) command next inverse mid
undoes_applied m old mid done undone next command inverse stack step adds = record {
  step = step;
  kept = adds.own;
  latest = below_next m next inverse old mid (above_next m old done undone next stack) adds;
}

pub undoes_taken :
    {S L C I R : Type 0} (m : Meaning S L C I R) (old mid : S) (done : List (Done I)) (undone : List (Undone C)) (next : ℕ) (command : C) (inverse : I)
    → IsStack m old done undone next → IsStep m (m.list_of old) command next inverse (m.list_of mid) → Adds m next inverse old mid
    → Undoes m inverse mid
undoes_taken m old mid done undone next command inverse stack step adds =
    (m.list_of old, command, next, undoes_applied m old mid done undone next command inverse stack step adds)

-- a command that was taken and taken back leaves a stack
turned_back :
    {S L C I R : Type 0} (m : Meaning S L C I R) → IsLawful m → (old mid new : S) (done : List (Done I)) (undone : List (Undone C)) (next : ℕ) (command : C) (inverse : I)
    → IsStack m old done undone next → IsStep m (m.list_of old) command next inverse (m.list_of mid) → Adds m next inverse old mid
    → m.list_of new ≡ m.before (m.list_of mid) inverse → TakesOut m inverse mid new → IsStack m new done undone next
turned_back m lawful old mid new done undone next command inverse stack step adds list takes =
    let leaves = takes (m.list_of old) command next (undoes_applied m old mid done undone next command inverse stack step adds) in
    let again = list ∙ back_again m lawful (m.list_of old) (m.list_of mid) command next inverse step in
    let fall = fall_weaker done (limit undone next) next (limit_next undone next stack.rise) stack.fall in
    record {
      lead = subst (LeadTo m done) (sym again) stack.lead;
      follow = subst (CanFollow m undone) (sym again) stack.follow;
      keeps = keeps_on m next mid new done leaves.earlier fall (keeps_on m next old mid done adds.earlier fall stack.keeps);
      numbered = λ k within. elim (adds.brings k (leaves.brings_none k within)) [
        | inl earlier ↦ stack.numbered k earlier
        | inr own ↦ absurd (leaves.gone (subst (Contains (numbers_in m new)) own within))
      ];
      rise = stack.rise;
      fall = stack.fall;
      few = stack.few;
    }

-- ---- on the row

-- a row that stands for a stack's steps is what the stack keeps, and shows its book
held :
    {S L C I R : Type 0} (m : Meaning S L C I R) (state : S) (row : List (Step C I)) (place next : ℕ) (done : List (Done I)) (undone : List (Undone C))
    → StandFor row place done undone → IsStack m state done undone next → HoldsSteps m state row place next
held m state row place next done undone stands stack =
    subst (λ d. StandFor row place d (undone_in row) × IsStack m state d (undone_in row) next) (sym (done_shown row place done undone stands))
    (subst (λ u. StandFor row place done u × IsStack m state done u next) (sym (undone_shown row place done undone stands)) (stands, stack))

book_shown :
    {L C I : Type 0} (list : L) (row : List (Step C I)) (place next : ℕ) (done : List (Done I)) (undone : List (Undone C))
    → StandFor row place done undone → book list (done_in row) (undone_in row) next ≡ book list done undone next
book_shown list row place next done undone stands =
    ap (λ d. book list d (undone_in row) next) (done_shown row place done undone stands) ∙ ap (λ u. book list done u next) (undone_shown row place done undone stands)

-- a step undone where it stands
pub undo_keeps :
    {S L C I R : Type 0} (m : Meaning S L C I R) → IsLawful m → (old new : S) (row row2 : List (Step C I)) (place before next : ℕ) (found : Step C I) (step : Done I) (command : C)
    → HoldsSteps m old row place next → before + 1 ≡ place → found ≡ get_or row before found → found ≡ DoneStep step
    → m.list_of new ≡ m.before (m.list_of old) step.inverse → m.command_of (m.list_of old) step.inverse ≡ Some command → TakesOut m step.inverse old new
    → (before < length row → row2 ≡ set row before (UndoneStep (record { number = step.number; command = command })))
    → HoldsSteps m new row2 before next × (book (m.list_of new) (done_in row2) (undone_in row2) next ≡ undo_of m (book (m.list_of old) (done_in row) (undone_in row) next))
undo_keeps {C = C} {I = I} m lawful old new row row2 place before next found step command holds is_before is is_done list back takes put =
    let at = newest_is row place before (done_in row) (undone_in row) found step holds.0 is_before is is_done in
    let earlier = at.0 in
    let now : Undone C = record { number = step.number; command = command } in
    let stack = subst (λ d. IsStack m old d (undone_in row) next) at.1 holds.1 in
    let leaves = takes _ _ _ (undoes_newest m old step earlier (undone_in row) next stack) in
    let stands = subst (λ r. StandFor r before earlier (now ∷ undone_in row)) (sym (put (omega (arith, place_within row place (done_in row) (undone_in row) holds.0)))) (at.2 now) in (
      held m new row2 before next earlier (now ∷ undone_in row) stands (one_undone m lawful old new step earlier (undone_in row) next command stack list back leaves),
      book_shown (m.list_of new) row2 before next earlier (now ∷ undone_in row) stands
          ∙ undone_book m (m.list_of old) (m.list_of new) step earlier (done_in row) (undone_in row) next command list back at.1,
    )

-- its inverse undoes the state
pub undoes_stack :
    {S L C I R : Type 0} (m : Meaning S L C I R) (state : S) (row : List (Step C I)) (place before next : ℕ) (found : Step C I) (step : Done I)
    → HoldsSteps m state row place next → before + 1 ≡ place → found ≡ get_or row before found → found ≡ DoneStep step → Undoes m step.inverse state
undoes_stack m state row place before next found step holds is_before is is_done =
    let at = newest_is row place before (done_in row) (undone_in row) found step holds.0 is_before is is_done in
    let stack = subst (λ d. IsStack m state d (undone_in row) next) at.1 holds.1 in
    (m.before (m.list_of state) step.inverse, stack.lead.0.0, step.number, undoes_newest m state step at.0 (undone_in row) next stack)

-- a step redone where it stands
pub redo_keeps :
    {S L C I R : Type 0} (m : Meaning S L C I R) → IsLawful m → (old new : S) (row row2 : List (Step C I)) (place next : ℕ) (found : Step C I) (step : Undone C) (inverse : I)
    → HoldsSteps m old row place next → (place ≡ length row → ⊥) → found ≡ get_or row place found → found ≡ UndoneStep step
    → IsStep m (m.list_of old) step.command step.number inverse (m.list_of new) → Adds m step.number inverse old new
    → (place < length row → row2 ≡ set row place (DoneStep (record { number = step.number; inverse = inverse })))
    → HoldsSteps m new row2 (place + 1) next × (book (m.list_of new) (done_in row2) (undone_in row2) next ≡ redo_of m (book (m.list_of old) (done_in row) (undone_in row) next))
redo_keeps {C = C} {I = I} m lawful old new row row2 place next found step inverse holds more is is_undone taken adds put =
    let within = next_within row place (done_in row) (undone_in row) holds.0 more in
    let at = next_is row place (done_in row) (undone_in row) found step holds.0 within is is_undone in
    let later = at.0 in
    let now : Done I = record { number = step.number; inverse = inverse } in
    let stack = subst (λ u. IsStack m old (done_in row) u next) at.1 holds.1 in
    let follow = subst (CanFollow m later) (sym taken.list_is) stack.follow.1 in
    let stands = subst (λ r. StandFor r (place + 1) (now ∷ done_in row) later) (sym (put within)) (at.2 now) in (
      held m new row2 (place + 1) next (now ∷ done_in row) later stands
          (more_done m lawful old new step.command step.number inverse (done_in row) taken adds stack.lead stack.keeps stack.numbered stack.fall later next follow stack.rise.1 stack.rise.0 stack.few),
      book_shown (m.list_of new) row2 (place + 1) next (now ∷ done_in row) later stands
          ∙ redone_book m (m.list_of old) (m.list_of new) step later (done_in row) (undone_in row) next inverse taken at.1,
    )

-- it may be applied under its number
pub above_redone :
    {S L C I R : Type 0} (m : Meaning S L C I R) (state : S) (row : List (Step C I)) (place next : ℕ) (found : Step C I) (step : Undone C)
    → HoldsSteps m state row place next → (place ≡ length row → ⊥) → found ≡ get_or row place found → found ≡ UndoneStep step → AllBelow step.number (numbers_in m state) × (step.number ≤ EVENTS_MAX)
above_redone m state row place next found step holds more is is_undone =
    let within = next_within row place (done_in row) (undone_in row) holds.0 more in
    let at = next_is row place (done_in row) (undone_in row) found step holds.0 within is is_undone in
    let stack = subst (λ u. IsStack m state (done_in row) u next) at.1 holds.1 in
    let rest : limit at.0 next ≤ next = limit_next at.0 next stack.rise.1 in
    (above_state m state (done_in row) step.number stack.numbered stack.fall, omega (arith, stack.rise.0, rest, stack.few))

-- and where that finds no memory, the step is put back as it was found
pub redo_leaves :
    {S L C I R : Type 0} (m : Meaning S L C I R) (old new : S) (row row2 : List (Step C I)) (place next : ℕ) (found : Step C I) (step : Undone C) (command : C)
    → HoldsSteps m old row place next → (place ≡ length row → ⊥) → found ≡ get_or row place found → found ≡ UndoneStep step → command ≡ step.command → new ≡ old
    → (place < length row → row2 ≡ set row place (UndoneStep (record { number = step.number; command = command })))
    → HoldsSteps m new row2 place next × (book (m.list_of new) (done_in row2) (undone_in row2) next ≡ book (m.list_of old) (done_in row) (undone_in row) next)
redo_leaves m old new row row2 place next found step command holds more is is_undone same_command same_state put =
    let within = next_within row place (done_in row) (undone_in row) holds.0 more in
    let same_row = as_found row row2 place found step command is is_undone same_command (put within) in (
      subst (λ s. HoldsSteps m s row2 place next) (sym same_state) (subst (λ r. HoldsSteps m old r place next) (sym same_row) holds),
      ap (λ s. book (m.list_of s) (done_in row2) (undone_in row2) next) same_state ∙ ap (λ r. book (m.list_of old) (done_in r) (undone_in r) next) same_row,
    )

-- a new step behind the done ones, of which no undone one is left
pub apply_keeps :
    {S L C I R : Type 0} (m : Meaning S L C I R) → IsLawful m → (old new : S) (row row2 : List (Step C I)) (place end next : ℕ) (command : C) (inverse : I)
    → HoldsSteps m old row place next → next ≤ EVENTS_MAX
    → IsStep m (m.list_of old) command next inverse (m.list_of new) → Adds m next inverse old new
    → row2 ≡ take place row ++ DoneStep (record { number = next; inverse = inverse }) ∷ [] → end ≡ length row2 → HoldsSteps m new row2 end (next + 1)
apply_keeps {C = C} {I = I} m lawful old new row row2 place end next command inverse holds within step adds put at_end =
    let none : List (Undone C) = [] in
    let now : Done I = record { number = next; inverse = inverse } in
    let stack = holds.1 in
    let fall = fall_weaker (done_in row) (limit (undone_in row) next) next (limit_next (undone_in row) next stack.rise) stack.fall in
    held m new row2 end (next + 1) (now ∷ done_in row) none (added row row2 place end (done_in row) (undone_in row) now holds.0 put at_end)
    (more_done m lawful old new command next inverse (done_in row) step adds stack.lead stack.keeps stack.numbered fall none (next + 1) tt tt (omega arith) (omega (arith, within)))

-- it gives the book with the command, and the list before it is the old one
pub apply_book :
    {S L C I R : Type 0} (m : Meaning S L C I R) → IsLawful m → (old new : S) (row row2 : List (Step C I)) (place next : ℕ) (command : C) (inverse : I)
    → HoldsSteps m old row place next → IsStep m (m.list_of old) command next inverse (m.list_of new) → row2 ≡ take place row ++ DoneStep (record { number = next; inverse = inverse }) ∷ []
    → (book (m.list_of new) (done_in row2) (undone_in row2) (next + 1) ≡ apply_of m (book (m.list_of old) (done_in row) (undone_in row) next) command)
    × (past m (m.list_of new) (done_in row2) 1 ≡ m.list_of old)
apply_book {C = C} {I = I} m lawful old new row row2 place next command inverse holds step put =
    let none : List (Undone C) = [] in
    let now : Done I = record { number = next; inverse = inverse } in
    let stands = added row row2 place (length row2) (done_in row) (undone_in row) now holds.0 put refl in (
      book_shown (m.list_of new) row2 (length row2) (next + 1) (now ∷ done_in row) none stands
          ∙ ap (λ l. book l (now ∷ done_in row) none (next + 1)) step.list_is
          ∙ ap (λ i. book (m.after (m.list_of old) command next) (record { number = next; inverse = i } ∷ done_in row) none (next + 1)) step.inverse_is,
      ap (λ d. past m (m.list_of new) d 1) (done_shown row2 (length row2) (now ∷ done_in row) none stands) ∙ back_again m lawful (m.list_of old) (m.list_of new) command next inverse step,
    )

-- a command that was taken and taken back is the one that came, and was accepted
pub returned :
    {S L C I R : Type 0} (m : Meaning S L C I R) → IsLawful m → (old mid : L) (command back : C) (next : ℕ) (inverse : I)
    → IsStep m old command next inverse mid → m.command_of mid inverse ≡ Some back → (back ≡ command) × (m.refused old command ≡ None)
returned m lawful old mid command back next inverse step is_back =
    let same : Some command ≡ Some back = sym (given_back m lawful old mid command next inverse step) ∙ is_back in
    (cc, step.is_next.accepted)

-- a command that was taken, and taken back since its step found no room
pub apply_leaves :
    {S L C I R : Type 0} (m : Meaning S L C I R) → IsLawful m → (old mid new : S) (row row2 : List (Step C I)) (place next : ℕ) (command : C) (inverse : I)
    → HoldsSteps m old row place next → IsStep m (m.list_of old) command next inverse (m.list_of mid) → Adds m next inverse old mid
    → m.list_of new ≡ m.before (m.list_of mid) inverse → TakesOut m inverse mid new → row2 ≡ row
    → HoldsSteps m new row2 place next × (book (m.list_of new) (done_in row2) (undone_in row2) next ≡ book (m.list_of old) (done_in row) (undone_in row) next)
apply_leaves m lawful old mid new row row2 place next command inverse holds step adds list takes same_row = (
  subst (λ r. HoldsSteps m new r place next) (sym same_row)
      (holds.0, turned_back m lawful old mid new (done_in row) (undone_in row) next command inverse holds.1 step adds list takes),
  ap (λ r. book (m.list_of new) (done_in r) (undone_in r) next) same_row
      ∙ ap (λ l. book l (done_in row) (undone_in row) next) (list ∙ back_again m lawful (m.list_of old) (m.list_of mid) command next inverse step),
)
