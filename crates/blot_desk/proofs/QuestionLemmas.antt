-- The newest rows of a list, found one by one.
use Rattle.std.proofs.Common.{◌≡◌, ℕ, zero, suc, ◌+◌, ◌<◌, ◌≤◌, List, [], ◌∷◌, ◌++◌, length, reverse, take, get_or, Option, Some, None, refl, sym, ap, ◌∙◌, arith, slice_get, append_assoc, length-append, length-take}
use Rattle.std.specs.List.{cons_option}
use Rattle.std.proofs.lemmas.List.{reverse-append, take_more}
use Rattle.blot_desk.specs.declared.{event.Recorded.Recorded, question.RefusalRow.RefusalRow}
use Rattle.blot_desk.specs.Questions.{refusal_row, refusals_from}

-- ---- done steps

-- one more item of a list
one_next : {A : Type 0} (xs : List A) (i : ℕ) (x : A) → slice_get xs i ≡ Some x → take (suc i) xs ≡ take i xs ++ x ∷ []
one_next [] i x is = absurd cc
one_next (y ∷ xs) zero x is = (let same : y ≡ x = cc in rw same refl)
one_next (y ∷ xs) (suc i) x is = ap (λ rest. y ∷ rest) (one_next xs i x is)

pub one_more : {A : Type 0} (xs : List A) (i : ℕ) (x : A) → slice_get xs i ≡ Some x → take (i + 1) xs ≡ take i xs ++ x ∷ []
one_more xs i x is = (let on : i + 1 ≡ suc i = omega arith in ap (λ n. take n xs) on ∙ one_next xs i x is)

-- the list has no more items than these
pub no_more : {A : Type 0} (xs : List A) (i n : ℕ) → slice_get xs i ≡ None → i ≤ n → take i xs ≡ take n xs
no_more [] zero zero is less = refl
no_more [] zero (suc n) is less = refl
no_more [] (suc i) zero is less = refl
no_more [] (suc i) (suc n) is less = refl
no_more (y ∷ xs) zero n is less = absurd cc
no_more (y ∷ xs) (suc i) zero is less = absurd (omega arith)
no_more (y ∷ xs) (suc i) (suc n) is less = ap (λ rest. y ∷ rest) (no_more xs i n is (omega arith))

-- ---- refused commands

abbrev row_at : ℕ → Recorded → Option RefusalRow
row_at place recorded = refusal_row place recorded.event recorded.reply

abbrev one : Option RefusalRow → List RefusalRow
one row = cons_option row []

one_behind : (row : Option RefusalRow) (rest : List RefusalRow) → one row ++ rest ≡ cons_option row rest
one_behind None rest = refl
one_behind (Some row) rest = refl

turned_one : (row : Option RefusalRow) → reverse (one row) ≡ one row
turned_one None = refl
turned_one (Some row) = refl

pub one_later : (place : ℕ) (xs : List Recorded) (x : Recorded) → refusals_from place (xs ++ x ∷ []) ≡ refusals_from place xs ++ one (row_at (place + length xs) x)
one_later place [] x = ap (λ n. one (row_at n x)) (omega arith)
one_later place (y ∷ xs) x =
    ap (cons_option (row_at place y)) (one_later (place + 1) xs x ∙ ap (λ n. refusals_from (place + 1) xs ++ one (row_at n x)) (omega arith))
    ∙ sym (one_behind (row_at place y) _) ∙ sym (append_assoc (one (row_at place y)) (refusals_from (place + 1) xs) (one (row_at (place + length (y ∷ xs)) x)))
    ∙ ap (λ front. front ++ one (row_at (place + length (y ∷ xs)) x)) (one_behind (row_at place y) (refusals_from (place + 1) xs))

-- the refused commands of so many first events, the newest first
abbrev pub turned_from : List Recorded → ℕ → List RefusalRow
turned_from history place = reverse (refusals_from 1 (take place history))

turned_more : (history : List Recorded) (place : ℕ) (x : Recorded) → place < length history → x ≡ get_or history place x → turned_from history (place + 1) ≡ one (row_at (place + 1) x) ++ turned_from history place
turned_more history place x within is =
    let front = take place history in
    let long : length front ≡ place = omega (arith, length-take place history) in
    ap (λ all. reverse (refusals_from 1 all)) (take_more history place x within ∙ ap (λ y. front ++ y ∷ []) (sym is))
    ∙ ap reverse (one_later 1 front x ∙ ap (λ n. refusals_from 1 front ++ one (row_at n x)) (omega (arith, long)))
    ∙ reverse-append (refusals_from 1 front) (one (row_at (place + 1) x)) ∙ ap (λ first. first ++ turned_from history place) (turned_one (row_at (place + 1) x))

-- some rows are the newest refused commands, as far as the history was walked back to a place; they are no more than wanted
pub record IsWalkedTo (history : List Recorded) (count : ℕ) (rows : List RefusalRow) (place : ℕ) : Type 0 where
  pub within : place ≤ length history
  pub few : length rows ≤ count
  pub whole : rows ++ turned_from history place ≡ reverse (refusals_from 1 history)

pub walk_on :
    (history : List Recorded) (count place before : ℕ) (rows more : List RefusalRow) (x : Recorded) → IsWalkedTo history count rows place → before + 1 ≡ place → x ≡ get_or history before x
    → more ≡ rows ++ one (row_at place x) → length rows < count → IsWalkedTo history count more before
walk_on history count place before rows more x walked is_before is put less = record {
  within = omega (arith, walked.within, is_before);
  few = omega (arith, ap length put, length-append rows (one (row_at place x)), one_long (row_at place x), less);
  whole = ap (λ front. front ++ turned_from history before) put ∙ append_assoc rows (one (row_at place x)) (turned_from history before)
      ∙ ap (λ rest. rows ++ rest) (sym (ap (λ n. turned_from history n) (sym is_before) ∙ turned_more history before x (omega (arith, walked.within, is_before)) is
      ∙ ap (λ n. one (row_at n x) ++ turned_from history before) is_before)) ∙ walked.whole;
}
  where
    one_long : (row : Option RefusalRow) → length (one row) ≤ 1
    one_long None = omega arith
    one_long (Some row) = omega arith
