-- Steps in one row, with a place that divides the done ones from the undone ones.
use Rattle.std.proofs.Common.{◌≡◌, ℕ, zero, suc, ◌<◌, ◌≤◌, ◌+◌, ◌-◌, List, [], ◌∷◌, ◌++◌, Option, Some, None, length, map, take, reverse, get_or, set, refl, sym, ap, ◌∙◌, arith, append_assoc, slice_get, filter_map, append-nil, length-append, take_at}
use Rattle.std.proofs.lemmas.List.{map_push, reverse-append, reverse-reverse, length-map, length-reverse, get_or_append_left, get_or_at, get_or-reverse, set_at, nil_from_length, set-get_or}
use Rattle.std.proofs.lemmas.List.Elements.{filter_map-append}
use Rattle.std.proofs.lemmas.Option.{get_or_from_slice_get, slice_get-get_or}
use Rattle.blot_undo.specs.declared.{step.Done.Done, step.Undone.Undone, step.Step.Step}
use Rattle.blot_undo.specs.declared.step.Step.TheVariants.{Done as DoneStep, Undone as UndoneStep}
use Rattle.blot_undo.specs.Stacks.{StandFor, as_done, as_undone, done_in, undone_in}

-- ---- what a row shows

-- what was written is read again, and nothing else is
read_again : {X Y : Type 0} (read : Y → Option X) (write : X → Y) → ((x : X) → read (write x) ≡ Some x) → (xs : List X) → filter_map read (map write xs) ≡ xs
read_again read write same [] = refl
read_again read write same (x ∷ xs) = rw (same x) (ap (λ rest. x ∷ rest) (read_again read write same xs))

none_read : {X Y Z : Type 0} (read : Y → Option Z) (write : X → Y) → ((x : X) → read (write x) ≡ None) → (xs : List X) → filter_map read (map write xs) ≡ []
none_read read write other [] = refl
none_read read write other (x ∷ xs) = rw (other x) (none_read read write other xs)

-- a row that stands for steps shows them
pub done_shown : {C I : Type 0} (row : List (Step C I)) (place : ℕ) (done : List (Done I)) (undone : List (Undone C)) → StandFor row place done undone → done_in row ≡ done
done_shown {C = C} {I = I} row place done undone stands =
    let front : List (Step C I) = map DoneStep (reverse done) in
    let back : List (Step C I) = map UndoneStep undone in
    let first : filter_map as_done front ≡ reverse done = read_again as_done DoneStep (λ x. refl) (reverse done) in
    let rest : filter_map as_done back ≡ [] = none_read as_done UndoneStep (λ x. refl) undone in
    let parts : filter_map as_done row ≡ reverse done = ap (filter_map as_done) stands.row_is ∙ filter_map-append as_done front back ∙ rw (first, rest) (append-nil (reverse done)) in
    ap reverse parts ∙ reverse-reverse done

pub undone_shown : {C I : Type 0} (row : List (Step C I)) (place : ℕ) (done : List (Done I)) (undone : List (Undone C)) → StandFor row place done undone → undone_in row ≡ undone
undone_shown {C = C} {I = I} row place done undone stands =
    let front : List (Step C I) = map DoneStep (reverse done) in
    let back : List (Step C I) = map UndoneStep undone in
    let first : filter_map as_undone front ≡ [] = none_read as_undone DoneStep (λ x. refl) (reverse done) in
    let rest : filter_map as_undone back ≡ undone = read_again as_undone UndoneStep (λ x. refl) undone in
    ap (filter_map as_undone) stands.row_is ∙ filter_map-append as_undone front back ∙ rw (first, rest) refl

-- ---- a step that changes sides

-- the done steps in a row, where the newest stands last
newest_last : {C I : Type 0} (step : Done I) (earlier : List (Done I)) (rest : List (Step C I))
    → map DoneStep (reverse (step ∷ earlier)) ++ rest ≡ map DoneStep (reverse earlier) ++ DoneStep step ∷ rest
newest_last {C = C} {I = I} step earlier rest =
    let front : List (Step C I) = map DoneStep (reverse earlier) in
    ap (λ done. map DoneStep done ++ rest) (reverse-append (step ∷ []) earlier)
    ∙ ap (λ row. row ++ rest) (map_push DoneStep (reverse earlier) step)
    ∙ append_assoc front (DoneStep step ∷ []) rest

long : {C I : Type 0} (done : List (Done I)) (front : List (Step C I)) → front ≡ map DoneStep (reverse done) → length front ≡ length done
long done front is = ap length is ∙ length-map (reverse done) DoneStep ∙ length-reverse done

-- the place is at most at the end
pub place_within : {C I : Type 0} (row : List (Step C I)) (place : ℕ) (done : List (Done I)) (undone : List (Undone C)) → StandFor row place done undone → place ≤ length row
place_within {C = C} {I = I} row place done undone stands =
    let front : List (Step C I) = map DoneStep (reverse done) in
    omega (arith, stands.place_is, ap length stands.row_is, length-append front (map UndoneStep undone), long done front refl)

pub next_within : {C I : Type 0} (row : List (Step C I)) (place : ℕ) (done : List (Done I)) (undone : List (Undone C))
    → StandFor row place done undone → (place ≡ length row → ⊥) → place < length row
next_within row place done undone stands more = omega (arith, place_within row place done undone stands, more)

-- at the beginning no step is done, and at the end none is undone
pub none_done : {C I : Type 0} (row : List (Step C I)) (place : ℕ) (done : List (Done I)) (undone : List (Undone C)) → StandFor row place done undone → place ≡ 0 → done ≡ []
none_done row place done undone stands first = nil_from_length done (omega (arith, stands.place_is))

pub none_undone : {C I : Type 0} (row : List (Step C I)) (place : ℕ) (done : List (Done I)) (undone : List (Undone C)) → StandFor row place done undone → place ≡ length row → undone ≡ []
none_undone {C = C} {I = I} row place done undone stands last =
    let front : List (Step C I) = map DoneStep (reverse done) in
    let back : List (Step C I) = map UndoneStep undone in
    let behind : length back ≡ length undone = length-map undone UndoneStep in
    nil_from_length undone (omega (arith, stands.place_is, ap length stands.row_is, length-append front back, long done front refl))

-- the step before the place is the newest done one, and may be undone where it stands
pub newest_at : {C I : Type 0} (row : List (Step C I)) (place before : ℕ) (done : List (Done I)) (undone : List (Undone C)) (found : Step C I)
    → StandFor row place done undone → before + 1 ≡ place → found ≡ get_or row before found
    → (step : Done I) × (earlier : List (Done I)) × (done ≡ step ∷ earlier) × (found ≡ DoneStep step)
    × ((now : Undone C) → StandFor (set row before (UndoneStep now)) before earlier (now ∷ undone))
newest_at row place before [] undone found stands is_before is = absurd (omega (arith, stands.place_is))
newest_at {C = C} {I = I} row place before (step ∷ earlier) undone found stands is_before is =
    let front : List (Step C I) = map DoneStep (reverse earlier) in
    let rest : List (Step C I) = map UndoneStep undone in
    let at : length front ≡ before = omega (arith, stands.place_is, long earlier front refl) in
    let split : row ≡ front ++ DoneStep step ∷ rest = stands.row_is ∙ newest_last step earlier rest in (
      step,
      earlier,
      refl,
      is ∙ ap (λ r. get_or r before found) split ∙ get_or_at front (DoneStep step) rest found before at,
      λ now. record {
        row_is = ap (λ r. set r before (UndoneStep now)) split ∙ set_at front (DoneStep step) rest (UndoneStep now) before at;
        place_is = omega (arith, stands.place_is);
      },
    )

-- a done step that stands before the place is the newest one
pub newest_is : {C I : Type 0} (row : List (Step C I)) (place before : ℕ) (done : List (Done I)) (undone : List (Undone C)) (found : Step C I) (step : Done I)
    → StandFor row place done undone → before + 1 ≡ place → found ≡ get_or row before found → found ≡ DoneStep step
    → (earlier : List (Done I)) × (done ≡ step ∷ earlier) × ((now : Undone C) → StandFor (set row before (UndoneStep now)) before earlier (now ∷ undone))
newest_is row place before done undone found step stands is_before is is_done =
    let at = newest_at row place before done undone found stands is_before is in
    let same : at.0 ≡ step = cc in
    (at.1, at.2 ∙ ap (λ first. first ∷ at.1) same, at.4)

-- the step at the place is the one undone last, and may be done where it stands
pub next_at : {C I : Type 0} (row : List (Step C I)) (place : ℕ) (done : List (Done I)) (undone : List (Undone C)) (found : Step C I)
    → StandFor row place done undone → place < length row → found ≡ get_or row place found
    → (step : Undone C) × (later : List (Undone C)) × (undone ≡ step ∷ later) × (found ≡ UndoneStep step)
    × ((now : Done I) → StandFor (set row place (DoneStep now)) (place + 1) (now ∷ done) later)
next_at {C = C} {I = I} row place done [] found stands within is =
    let front : List (Step C I) = map DoneStep (reverse done) in
    absurd (omega (arith, stands.place_is, long done front refl, ap length (stands.row_is ∙ append-nil front)))
next_at {C = C} {I = I} row place done (step ∷ later) found stands within is =
    let front : List (Step C I) = map DoneStep (reverse done) in
    let rest : List (Step C I) = map UndoneStep later in
    let at : length front ≡ place = long done front refl ∙ sym stands.place_is in (
      step,
      later,
      refl,
      is ∙ ap (λ r. get_or r place found) stands.row_is ∙ get_or_at front (UndoneStep step) rest found place at,
      λ now. record {
        row_is = ap (λ r. set r place (DoneStep now)) stands.row_is ∙ set_at front (UndoneStep step) rest (DoneStep now) place at ∙ sym (newest_last now done rest);
        place_is = omega (arith, stands.place_is);
      },
    )

-- an undone step that stands at the place is the one undone last
pub next_is : {C I : Type 0} (row : List (Step C I)) (place : ℕ) (done : List (Done I)) (undone : List (Undone C)) (found : Step C I) (step : Undone C)
    → StandFor row place done undone → place < length row → found ≡ get_or row place found → found ≡ UndoneStep step
    → (later : List (Undone C)) × (undone ≡ step ∷ later) × ((now : Done I) → StandFor (set row place (DoneStep now)) (place + 1) (now ∷ done) later)
next_is row place done undone found step stands within is is_undone =
    let at = next_at row place done undone found stands within is in
    let same : at.0 ≡ step = cc in
    (at.1, at.2 ∙ ap (λ first. first ∷ at.1) same, at.4)

-- put back as it was found, it leaves the row as it was
pub as_found : {C I : Type 0} (row new : List (Step C I)) (place : ℕ) (found : Step C I) (step : Undone C) (command : C)
    → found ≡ get_or row place found → found ≡ UndoneStep step → command ≡ step.command → new ≡ set row place (UndoneStep (record { number = step.number; command = command })) → new ≡ row
as_found row new place found step command is is_undone same put =
    put ∙ ap (λ c. set row place (UndoneStep (record { number = step.number; command = c }))) same
    ∙ ap (set row place) (sym is_undone ∙ is) ∙ set-get_or row place found

-- a new step behind the done ones
pub added : {C I : Type 0} (row new : List (Step C I)) (place end : ℕ) (done : List (Done I)) (undone : List (Undone C)) (now : Done I)
    → StandFor row place done undone → new ≡ take place row ++ DoneStep now ∷ [] → end ≡ length new → StandFor new end (now ∷ done) []
added {C = C} {I = I} row new place end done undone now stands is at_end =
    let front : List (Step C I) = map DoneStep (reverse done) in
    let none : List (Step C I) = [] in
    let kept : take place row ≡ front = ap (take place) stands.row_is ∙ take_at front (map UndoneStep undone) place (long done front refl ∙ sym stands.place_is) in
    let whole : new ≡ front ++ DoneStep now ∷ [] = is ∙ ap (λ r. r ++ DoneStep now ∷ []) kept in
    record {
      row_is = whole ∙ sym (newest_last now done none);
      place_is = omega (arith, at_end, ap length whole, length-append front (DoneStep now ∷ []), long done front refl);
    }

-- ---- the done step at a place

written_at : {A B : Type 0} (write : A → B) (xs : List A) (i : ℕ) (d : B) → i < length xs → (x : A) × (slice_get xs i ≡ Some x) × (get_or (map write xs) i d ≡ write x)
written_at write [] i d within = absurd (omega arith)
written_at write (x ∷ xs) zero d within = (x, refl, refl)
written_at write (x ∷ xs) (suc i) d within = written_at write xs i d (omega arith)

pub back_at : {C I : Type 0} (row : List (Step C I)) (place back at : ℕ) (done : List (Done I)) (undone : List (Undone C)) (found : Step C I)
    → StandFor row place done undone → back < place → at + back + 1 ≡ place → found ≡ get_or row at found
    → (step : Done I) × (found ≡ DoneStep step) × (slice_get done back ≡ Some step)
back_at {C = C} {I = I} row place back at done undone found stands less is_at is =
    let front : List (Step C I) = map DoneStep (reverse done) in
    let turned : length (reverse done) ≡ length done = length-reverse done in
    let within : at < length (reverse done) = omega (arith, turned, stands.place_is) in
    let there = written_at {A = Done I} {B = Step C I} DoneStep (reverse done) at found within in
    let own : get_or (reverse done) at there.0 ≡ there.0 = get_or_from_slice_get (reverse done) at there.0 there.0 there.1 in
    let mirrored : get_or (reverse done) at there.0 ≡ get_or done (length done - 1 - at) there.0 = get_or-reverse done at there.0 (omega (arith, within, turned)) in
    let back_is : length done - 1 - at ≡ back = omega (arith, stands.place_is) in
    let same : get_or done back there.0 ≡ there.0 = ap (λ n. get_or done n there.0) (sym back_is) ∙ sym mirrored ∙ own in (
      there.0,
      is ∙ ap (λ r. get_or r at found) stands.row_is ∙ get_or_append_left front (map UndoneStep undone) found at (omega (arith, within, long done front refl)) ∙ there.2,
      slice_get-get_or done back there.0 (omega (arith, less, stands.place_is)) ∙ ap Some same,
    )
