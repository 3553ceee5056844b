-- Receipts laid beside the history, one by one.
use Rattle.std.proofs.Common.{◌≡◌, ℕ, ◌+◌, ◌==◌, ◌<◌, ◌≤◌, Bool, true, false, List, [], ◌∷◌, ◌++◌, Some, length, slice_index_or, slice_set, refl, sym, ◌∙◌, ap, arith, inl, inr, ◌≢◌, drop, if◌then◌else◌, Decides, slice_get, eqb-true, eq-eqb, get_or-set_same, get_or-set_other, length-set}
use Rattle.std.proofs.lemmas.Bool.{cases_Bool}
use Rattle.std.proofs.lemmas.List.{at_drop_more}
use Rattle.blot_desk.specs.declared.{event.Recorded.Recorded, receipt.Receipt.Receipt}
use Rattle.blot_desk.specs.Marks.{AllDisagree, AreMarked, Disagree, HasTwo, mark_at}
use Rattle.blot_desk.specs.Receipts.{AllStand, EachRises, RiseFrom, Stands, all_receipts, count_at}

-- what is left of a list, one element on
pub next_of : {X : Type 0} (xs : List X) (i : ℕ) (x : X) → i < length xs → x ≡ slice_index_or xs i x → drop i xs ≡ x ∷ drop (i + 1) xs
next_of xs i x within is = at_drop_more (λ rest. rest) xs i x within ∙ ap (λ y. y ∷ drop (i + 1) xs) (sym is)

-- a receipt stands where the record at its place has its event and its reply
pub stands_by :
    (history : List Recorded) (receipt : Receipt) (found : Recorded) (test : Bool) → slice_get history receipt.place ≡ Some found
    → Decides test ((found.event ≡ receipt.event) × (found.reply ≡ receipt.reply)) → Decides test (Stands history receipt)
stands_by history receipt found test at decides = (
  (λ yes. at ∙ (let same = decides.0 yes in λ i. Some (record { event = same.0 i; reply = same.1 i }))),
  (λ stands. let same : Some found ≡ Some (record { event = receipt.event; reply = receipt.reply }) = sym at ∙ stands in let is : found ≡ record { event = receipt.event; reply = receipt.reply } = cc in
      decides.1 (ap (λ (r : Recorded). r.event) is, ap (λ (r : Recorded). r.reply) is)),
)

-- ---- the receipts of a seat

-- what is left of a seat's receipts, with what is marked, says what the whole of them does
pub record IsMarking (history : List Recorded) (before marks : List Bool) (receipts rest : List Receipt) (from : ℕ) : Type 0 where
  pub stand : AllStand history rest → AllStand history receipts
  pub stood : AllStand history receipts → AllStand history rest
  pub rise : RiseFrom from rest → RiseFrom 0 receipts
  pub rose : RiseFrom 0 receipts → RiseFrom from rest
  pub counted : (place : ℕ) → mark_at marks place + count_at place rest ≡ mark_at before place + count_at place receipts
  pub size : length marks ≡ length before

pub begun : (history : List Recorded) (before : List Bool) (receipts : List Receipt) → IsMarking history before before receipts receipts 0
begun history before receipts = record {
  stand = λ all. all;
  stood = λ all. all;
  rise = λ all. all;
  rose = λ all. all;
  counted = λ place. refl;
  size = refl;
}

-- a place that had no mark, and is marked
mark_set : (marks : List Bool) (at place : ℕ) (rest : List Receipt) (receipt : Receipt) → receipt.place ≡ at → at < length marks → mark_at marks at ≡ 0
    → mark_at (slice_set marks at true) place + count_at place rest ≡ mark_at marks place + count_at place (receipt ∷ rest)
mark_set marks at place rest receipt is within free =
    elim (cases_Bool (receipt.place == place)) [
      | inl same ↦
          let here : place ≡ at = sym (eqb-true receipt.place place same) ∙ is in
          let set : mark_at (slice_set marks at true) at ≡ 1 = rw (get_or-set_same marks at true false within) refl in
          let now : mark_at (slice_set marks at true) place ≡ 1 = ap (mark_at (slice_set marks at true)) here ∙ set in
          let was : mark_at marks place ≡ 0 = ap (mark_at marks) here ∙ free in
          let one : count_at place (receipt ∷ rest) ≡ 1 + count_at place rest = rw same refl in
          omega (arith, now, was, one)
      | inr other ↦
          let apart : place ≢ at = λ here. (let yes = eq-eqb receipt.place place (is ∙ sym here) in cc) in
          let now : mark_at (slice_set marks at true) place ≡ mark_at marks place = ap (λ mark. if mark then 1 else 0) (get_or-set_other marks at place true false apart) in
          let none : count_at place (receipt ∷ rest) ≡ 0 + count_at place rest = rw other refl in
          omega (arith, now, none)
    ]

pub marked_more :
    (history : List Recorded) (before marks : List Bool) (receipts rest : List Receipt) (receipt : Receipt) (from : ℕ)
    → IsMarking history before marks receipts (receipt ∷ rest) from → Stands history receipt → from ≤ receipt.place → receipt.place < length marks
    → mark_at marks receipt.place ≡ 0 → IsMarking history before (slice_set marks receipt.place true) receipts rest (receipt.place + 1)
marked_more history before marks receipts rest receipt from so stands high within free = record {
  stand = λ all. so.stand (stands, all);
  stood = λ all. (so.stood all).1;
  rise = λ rise. so.rise (high, rise);
  rose = λ rise. (so.rose rise).1;
  counted = λ place. mark_set marks receipt.place place rest receipt refl within free ∙ so.counted place;
  size = length-set marks receipt.place true ∙ so.size;
}

pub marked_all : (history : List Recorded) (before marks : List Bool) (receipts : List Receipt) (from : ℕ) → IsMarking history before marks receipts [] from
    → AreMarked history before marks receipts
marked_all history before marks receipts from so = record {
  stand = so.stand tt;
  rise = so.rise tt;
  counted = λ place. (let counted = so.counted place in omega (arith, counted));
}

-- a receipt that doesn't stand
pub not_standing :
    (history : List Recorded) (before marks : List Bool) (receipts rest : List Receipt) (receipt : Receipt) (from : ℕ)
    → IsMarking history before marks receipts (receipt ∷ rest) from → (Stands history receipt → ⊥) → AllStand history receipts → HasTwo history before receipts
not_standing history before marks receipts rest receipt from so none all = absurd (none (so.stood all).0)

-- a receipt of a place before that of the one before it
pub not_rising :
    (history : List Recorded) (before marks : List Bool) (receipts rest : List Receipt) (receipt : Receipt) (from : ℕ)
    → IsMarking history before marks receipts (receipt ∷ rest) from → receipt.place < from → RiseFrom 0 receipts → HasTwo history before receipts
not_rising history before marks receipts rest receipt from so low rise = absurd (let high = (so.rose rise).0 in omega (arith, high, low))

-- a receipt of a place that is marked
pub twice :
    (history : List Recorded) (before marks : List Bool) (receipts rest : List Receipt) (receipt : Receipt) (from : ℕ)
    → IsMarking history before marks receipts (receipt ∷ rest) from → receipt.place < length history → mark_at marks receipt.place ≡ 1 → HasTwo history before receipts
twice history before marks receipts rest receipt from so within marked = record {
  place = receipt.place;
  within = within;
  two = (let counted = so.counted receipt.place in let here = eq-eqb receipt.place receipt.place refl in
      let one : count_at receipt.place (receipt ∷ rest) ≡ 1 + count_at receipt.place rest = rw here refl in
      omega (arith, counted, marked, one));
}

-- ---- the receipts of all seats

stand_both : (history : List Recorded) (first last : List Receipt) → AllStand history first → AllStand history last → AllStand history (first ++ last)
stand_both history [] last one two = two
stand_both history (receipt ∷ first) last one two = (one.0, stand_both history first last one.1 two)

stand_first : (history : List Recorded) (first last : List Receipt) → AllStand history (first ++ last) → AllStand history first
stand_first history [] last all = tt
stand_first history (receipt ∷ first) last all = (all.0, stand_first history first last all.1)

stand_last : (history : List Recorded) (first last : List Receipt) → AllStand history (first ++ last) → AllStand history last
stand_last history [] last all = all
stand_last history (receipt ∷ first) last all = stand_last history first last all.1

count_both : (place : ℕ) (first last : List Receipt) → count_at place (first ++ last) ≡ count_at place first + count_at place last
count_both place [] last = omega arith
count_both place (receipt ∷ first) last = (let rest = count_both place first last in omega (arith, rest))

-- what is left of the seats, with what is marked, says what all of them do
pub record IsSeating (history : List Recorded) (before marks : List Bool) (seats rest : List (List Receipt)) : Type 0 where
  pub stand : AllStand history (all_receipts rest) → AllStand history (all_receipts seats)
  pub stood : AllStand history (all_receipts seats) → AllStand history (all_receipts rest)
  pub rise : EachRises rest → EachRises seats
  pub rose : EachRises seats → EachRises rest
  pub counted : (place : ℕ) → mark_at marks place + count_at place (all_receipts rest) ≡ mark_at before place + count_at place (all_receipts seats)
  pub size : length marks ≡ length before

pub seats_begun : (history : List Recorded) (before : List Bool) (seats : List (List Receipt)) → IsSeating history before before seats seats
seats_begun history before seats = record {
  stand = λ all. all;
  stood = λ all. all;
  rise = λ all. all;
  rose = λ all. all;
  counted = λ place. refl;
  size = refl;
}

pub seated_more :
    (history : List Recorded) (before marks after : List Bool) (seats rest : List (List Receipt)) (receipts : List Receipt)
    → IsSeating history before marks seats (receipts ∷ rest) → AreMarked history marks after receipts → length after ≡ length marks
    → IsSeating history before after seats rest
seated_more history before marks after seats rest receipts so marked long = record {
  stand = λ all. so.stand (stand_both history receipts (all_receipts rest) marked.stand all);
  stood = λ all. stand_last history receipts (all_receipts rest) (so.stood all);
  rise = λ rise. so.rise (marked.rise, rise);
  rose = λ rise. (so.rose rise).1;
  counted = λ place.
      (let counted = so.counted place in
      let here = marked.counted place in
      let both = count_both place receipts (all_receipts rest) in
      omega (arith, counted, here, both));
  size = long ∙ so.size;
}

-- a seat whose receipts don't agree with the history
pub seat_other :
    (history : List Recorded) (before marks : List Bool) (seats rest : List (List Receipt)) (receipts : List Receipt)
    → IsSeating history before marks seats (receipts ∷ rest) → Disagree history marks receipts
    → AllDisagree history before seats
seat_other history before marks seats rest receipts so other all rise =
    let two = other (stand_first history receipts (all_receipts rest) (so.stood all)) (so.rose rise).0 in
    record {
      place = two.place;
      within = two.within;
      two =
          (let counted = so.counted two.place in
          let both = count_both two.place receipts (all_receipts rest) in
          let here = two.two in
          omega (arith, counted, both, here));
    }
