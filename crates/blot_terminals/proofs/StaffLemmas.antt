-- Seats that stand under their own operators' names.
use Rattle.std.proofs.Common.{◌≡◌, ℕ, ◌<◌, List, [], ◌∷◌, ◌++◌, Option, Some, None, IfSome, inl, inr, get_or, length, zero, suc, refl, sym, subst, ap, ◌∙◌, arith, All, append_assoc}
use Rattle.std.specs.Cmp.Lexicographic.{bytes_decides}
use Rattle.std.specs.Map.{lookup, set_value}
use Rattle.std.proofs.lemmas.Bool.{cases_Bool}
use Rattle.std.proofs.lemmas.List.Elements.{All-cons, All-head, All-nil, All-tail}
use Rattle.indexmap.specs.IndexMap.{insert_entry}
use Rattle.blot_types.specs.Keys.{same_text}
use Rattle.blot_desk.specs.declared.receipt.Receipt.{Receipt}
use Rattle.blot_operator.specs.Seats.{Named}
use Rattle.blot_terminals.specs.Staff.{AreOwnSeats, Grows, IsOwnSeat, Leaves}

-- the seat that is found under a name is that operator's
pub own-found : (named : List (List ℕ × Option Named)) (name : List ℕ) (found : Option Named)
    → AreOwnSeats named → lookup (same_text name) named ≡ Some found → IfSome found (λ seat. seat.name ≡ name)
own-found [] name found own is = absurd cc
own-found (entry ∷ named) name found own is =
    elim (cases_Bool (same_text name entry.0)) [
      | inl same ↦
          let first : Some entry.1 ≡ Some found = rw same at is in
          let its : entry.1 ≡ found = cc in
          let stands : IfSome found (λ seat. seat.name ≡ entry.0) = subst (λ held. IfSome held (λ seat. seat.name ≡ entry.0)) its (All-head IsOwnSeat entry named own) in
          rw ((bytes_decides name entry.0).0 same) stands
      | inr other ↦ own-found named name found (All-tail IsOwnSeat entry named own) (rw other at is)
    ]

-- a change of one entry leaves the others
own-set : (named : List (List ℕ × Option Named)) (name : List ℕ) (value : Option Named)
    → AreOwnSeats named → IfSome value (λ seat. seat.name ≡ name) → AreOwnSeats (set_value (same_text name) named value)
own-set [] name value own its = own
own-set (entry ∷ named) name value own its =
    let rest = All-tail IsOwnSeat entry named own in
    elim (cases_Bool (same_text name entry.0)) [
      | inl same ↦ rw same (All-cons IsOwnSeat (entry.0, value) named (subst (λ key. IfSome value (λ seat. seat.name ≡ key)) ((bytes_decides name entry.0).0 same) its) rest)
      | inr other ↦ rw other (All-cons IsOwnSeat entry (set_value (same_text name) named value) (All-head IsOwnSeat entry named own) (own-set named name value rest its))
    ]

pub own-changed : (before after : List (List ℕ × Option Named)) (name : List ℕ) (value : Option Named)
    → AreOwnSeats before → after ≡ set_value (same_text name) before value → IfSome value (λ seat. seat.name ≡ name) → AreOwnSeats after
own-changed before after name value own is its = subst AreOwnSeats (sym is) (own-set before name value own its)

-- what is put again as it was leaves all as it was
pub set-same : (named : List (List ℕ × Option Named)) (name : List ℕ) (found : Option Named) → lookup (same_text name) named ≡ Some found
    → set_value (same_text name) named found ≡ named
set-same [] name found is = refl
set-same (entry ∷ named) name found is =
    elim (cases_Bool (same_text name entry.0)) [
      | inl same ↦
          let first : Some entry.1 ≡ Some found = rw same at is in
          let its : found ≡ entry.1 = cc in
          rw same (ap (λ (value : Option Named). (entry.0, value) ∷ named) its)
      | inr other ↦ rw other (ap (λ rest. entry ∷ rest) (set-same named name found (rw other at is)))
    ]

-- where nothing stands under the name, nothing changes
pub set-nowhere : (named after : List (List ℕ × Option Named)) (name : List ℕ) (value : Option Named) → lookup (same_text name) named ≡ None → after ≡ named
    → after ≡ set_value (same_text name) named value
set-nowhere [] after name value none same = same
set-nowhere (entry ∷ named) after name value none same =
    elim (cases_Bool (same_text name entry.0)) [
      | inl found ↦ absurd (let first : Some entry.1 ≡ None = rw found at none in cc)
      | inr other ↦ rw other (same ∙ ap (λ rest. entry ∷ rest) (set-nowhere named named name value (rw other at none) refl))
    ]

-- a seat that is taken out leaves its place
pub left-there : (named after : List (List ℕ × Option Named)) (name : List ℕ) (found : Option Named) → lookup (same_text name) named ≡ Some found
    → after ≡ set_value (same_text name) named None → Leaves name (Some found) named after
left-there named after name (Some own) is put = put
left-there named after name None is put = put ∙ set-same named name None is

-- and so does one that is put in
own-insert : (named : List (List ℕ × Option Named)) (name : List ℕ) (value : Option Named)
    → AreOwnSeats named → IfSome value (λ seat. seat.name ≡ name) → AreOwnSeats (insert_entry same_text named name value)
own-insert [] name value own its = All-cons IsOwnSeat (name, value) [] its (All-nil IsOwnSeat)
own-insert (entry ∷ named) name value own its =
    let rest = All-tail IsOwnSeat entry named own in
    elim (cases_Bool (same_text name entry.0)) [
      | inl same ↦ rw same (All-cons IsOwnSeat (entry.0, value) named (subst (λ key. IfSome value (λ seat. seat.name ≡ key)) ((bytes_decides name entry.0).0 same) its) rest)
      | inr other ↦ rw other (All-cons IsOwnSeat entry (insert_entry same_text named name value) (All-head IsOwnSeat entry named own) (own-insert named name value rest its))
    ]

pub own-inserted : (before after : List (List ℕ × Option Named)) (name : List ℕ) (value : Option Named)
    → AreOwnSeats before → after ≡ insert_entry same_text before name value → IfSome value (λ seat. seat.name ≡ name) → AreOwnSeats after
own-inserted before after name value own is its = subst AreOwnSeats (sym is) (own-insert before name value own its)

-- ---- spare seats

get_or-front : {X : Type 0} (xs : List X) (x : X) (k : ℕ) (d : X) → k < length xs → get_or (xs ++ x ∷ []) k d ≡ get_or xs k d
get_or-front [] x k d less = absurd (omega (arith, less))
get_or-front (y ∷ xs) x zero d less = refl
get_or-front (y ∷ xs) x (suc k) d less = get_or-front xs x k d (omega (arith, less))

length-front : {X : Type 0} (xs : List X) (x : X) (k : ℕ) → k < length xs → k < length (xs ++ x ∷ [])
length-front [] x k less = absurd (omega (arith, less))
length-front (y ∷ xs) x zero less = omega arith
length-front (y ∷ xs) x (suc k) less =
    let rest = length-front xs x k (omega (arith, less)) in omega (arith, rest)

-- all but the last
pub all-front : {X : Type 0} (P : X → Type 0) (xs : List X) (x : X) → All P (xs ++ x ∷ []) → All P xs
all-front P xs x all k d less = subst P (get_or-front xs x k d less) (all k d (length-front xs x k less))

-- ---- more seats

pub grows-both : (before between after : List (List Receipt)) → Grows before between → Grows between after → Grows before after
grows-both before between after first second = record {
  more = first.more ++ second.more;
  grown = second.grown ∙ ap (λ seats. seats ++ second.more) first.grown ∙ append_assoc before first.more second.more;
}
