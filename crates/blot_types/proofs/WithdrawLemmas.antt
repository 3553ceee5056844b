-- A book without one of its entries is a book exactly where no entry needs that one.
use Rattle.std.proofs.Common.{◌≡◌, ℕ, ◌+◌, ◌<◌, arith, true, false, ◌&&◌, List, [], ◌∷◌, ◌++◌, reverse, Option, Some, None, refl, sym, ap, ◌∙◌, inl, inr, Bool, not, filter, is_none, nat_lt, nat_eq, IsTrue}
use Rattle.std.proofs.lemmas.Bool.{cases_Bool, and_parts, and_from, and_right}
use Rattle.std.proofs.lemmas.List.{reverse-reverse}
use Rattle.blot_types.specs.declared.{command.Entry.Entry, TheConstants.EVENTS_MAX}
use Rattle.blot_types.specs.Legal.{is_above_entries, rises_in, numbers_rise, refusal_in, legal_in, is_legal, is_book, without, least_needing}
use Rattle.blot_types.specs.Withdrawal.{put_back_in, IsWithdrawn, IsPutBack}
use Rattle.blot_types.proofs.BustLemmas.{reverse-middle}
use Rattle.blot_types.proofs.NeedLemmas.{blocked_in, turned, not-below, member-below, without-out, unblocked-base, found-legal}
use Rattle.blot_types.proofs.StayLemmas.{filter-reverse, all-stays}
use Rattle.blot_types.proofs.NeededLemmas.{step-of}

-- where the entries without k are legal, so are those before each of them
legal-unblocked : (k : Entry) (later front : List Entry) → rises_in (later ++ k ∷ front) ≡ true → legal_in (later ++ front) ≡ true → blocked_in k.number (later ++ k ∷ front) ≡ None
legal-unblocked k [] front rise legal = unblocked-base k front rise
legal-unblocked k (entry ∷ later) front rise legal =
    let all = later ++ k ∷ front in
    let rises : (is_above_entries entry.number all ≡ true) × (rises_in all ≡ true) = and_parts _ _ rise in
    let legals : (is_none (refusal_in (later ++ front) entry.command) ≡ true) × (legal_in (later ++ front) ≡ true) = and_parts _ _ legal in
    let whole : legal_in (without k.number (entry ∷ all)) ≡ true = ap legal_in (without-out k (entry ∷ later) front rise) ∙ legal in
    let none : (nat_lt k.number entry.number && not (legal_in (without k.number (entry ∷ all)))) ≡ false = and_right (nat_lt k.number entry.number) _ (ap not whole) in
    rw (legal-unblocked k later front rises.1 legals.1, none) refl

by-blocked : (found : Option ℕ) (legal : Bool) → (found ≡ None → legal ≡ true) → (legal ≡ true → found ≡ None) → legal ≡ is_none found
by-blocked None legal there back = there refl
by-blocked (Some m) true there back = (let clashing : Some m ≡ None = back refl in cc)
by-blocked (Some m) false there back = refl

legal-where : (k : Entry) (later front : List Entry) → legal_in (later ++ k ∷ front) ≡ true → rises_in (later ++ k ∷ front) ≡ true → legal_in (later ++ front) ≡ is_none (blocked_in k.number (later ++ k ∷ front))
legal-where k later front legal rise =
    by-blocked (blocked_in k.number (later ++ k ∷ front)) (legal_in (later ++ front)) (found-legal k later front (step-of k.number k.command) legal rise) (legal-unblocked k later front rise)

rises-stays : (p : Entry → Bool) (entries : List Entry) → rises_in entries ≡ true → rises_in (filter p entries) ≡ true
rises-stays p [] rise = refl
rises-stays p (entry ∷ earlier) rise =
    let parts : (is_above_entries entry.number earlier ≡ true) × (rises_in earlier ≡ true) = and_parts _ _ rise in
    let rest = rises-stays p earlier parts.1 in
    elim (cases_Bool (p entry)) [
      | inl kept ↦ rw kept (and_from _ _ (all-stays (λ e. nat_lt e.number entry.number) p earlier parts.0) rest)
      | inr goes ↦ rw goes rest
    ]

pub withdrawn : (list : List Entry) → IsTrue (is_book list) → IsWithdrawn list
withdrawn list book front back k is =
    let parts : ((rises_in (reverse list) && is_above_entries (EVENTS_MAX + 1) (reverse list)) ≡ true) × (legal_in (reverse list) ≡ true) = and_parts _ _ book in
    let numbered : (rises_in (reverse list) ≡ true) × (is_above_entries (EVENTS_MAX + 1) (reverse list) ≡ true) = and_parts _ _ parts.0 in
    let later = reverse back in
    let earlier = reverse front in
    let p : Entry → Bool = λ entry. not (nat_eq entry.number k.number) in
    let whole : reverse list ≡ later ++ k ∷ earlier = ap reverse is ∙ reverse-middle front back k in
    let legal : legal_in (later ++ k ∷ earlier) ≡ true = ap legal_in (sym whole) ∙ parts.1 in
    let rise : rises_in (later ++ k ∷ earlier) ≡ true = ap rises_in (sym whole) ∙ numbered.0 in
    let out : without k.number (reverse list) ≡ later ++ earlier = ap (without k.number) whole ∙ without-out k later earlier rise in
    let turning : reverse (without k.number list) ≡ without k.number (reverse list) = sym (filter-reverse p list) in
    let blocked : blocked_in k.number (later ++ k ∷ earlier) ≡ least_needing list k.number =
    ap (blocked_in k.number) (sym whole) ∙ sym (turned k.number (reverse list) numbered.0) ∙ ap (λ l. least_needing l k.number) (reverse-reverse list) in
    let rises : rises_in (reverse (without k.number list)) ≡ true = ap rises_in turning ∙ rises-stays p (reverse list) numbered.0 in
    let above : is_above_entries (EVENTS_MAX + 1) (reverse (without k.number list)) ≡ true =
    ap (is_above_entries (EVENTS_MAX + 1)) turning ∙ all-stays (λ e. nat_lt e.number (EVENTS_MAX + 1)) p (reverse list) numbered.1 in
    ap (λ b. b && is_legal (without k.number list)) (and_from _ _ rises above) ∙ ap legal_in (turning ∙ out) ∙ legal-where k later earlier legal rise ∙ ap is_none blocked

-- newest first, its place is before the first entry with a smaller number
put-back-in : (k : Entry) (later front : List Entry) → rises_in (later ++ k ∷ front) ≡ true → put_back_in k (later ++ front) ≡ later ++ k ∷ front
put-back-in k [] [] rise = refl
put-back-in k [] (entry ∷ front) rise =
    let rises : (is_above_entries k.number (entry ∷ front) ≡ true) × (rises_in (entry ∷ front) ≡ true) = and_parts _ _ rise in
    let below : (nat_lt entry.number k.number ≡ true) × (is_above_entries k.number front ≡ true) = and_parts _ _ rises.0 in
    rw below.0 refl
put-back-in k (entry ∷ later) front rise =
    let rises : (is_above_entries entry.number (later ++ k ∷ front) ≡ true) × (rises_in (later ++ k ∷ front) ≡ true) = and_parts _ _ rise in
    let less : k.number < entry.number = member-below entry.number later front k rises.0 in
    let passed : nat_lt entry.number k.number ≡ false = not-below entry.number k.number (omega (arith, less)) in
    rw passed (ap (λ rest. entry ∷ rest) (put-back-in k later front rises.1))

pub put-back : (list : List Entry) → numbers_rise list ≡ true → IsPutBack list
put-back list rise front back k is =
    let later = reverse back in
    let earlier = reverse front in
    let whole : reverse list ≡ later ++ k ∷ earlier = ap reverse is ∙ reverse-middle front back k in
    let rises : rises_in (later ++ k ∷ earlier) ≡ true = ap rises_in (sym whole) ∙ rise in
    let out : reverse (without k.number list) ≡ later ++ earlier =
    sym (filter-reverse (λ (entry : Entry). not (nat_eq entry.number k.number)) list) ∙ ap (without k.number) whole ∙ without-out k later earlier rises in
    ap (λ entries. reverse (put_back_in k entries)) out ∙ ap reverse (put-back-in k later earlier rises ∙ sym whole) ∙ reverse-reverse list
