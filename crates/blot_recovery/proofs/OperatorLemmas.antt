-- The operators of a journal, after one frame more.
use Rattle.std.proofs.Common.{◌≡◌, ◌⊎◌, inl, inr, ℕ, zero, suc, ◌+◌, ◌<◌, Bool, true, false, ◌||◌, List, [], ◌∷◌, ◌++◌, length, get_or, take, Option, Some, None, refl, sym, ap, subst, ◌∙◌, arith, All, slice_get, set, get_or-set_other, length-set}
use Rattle.std.specs.List.{list_any}
use Rattle.std.proofs.Math.Seq.{map-set_same}
use Rattle.std.proofs.lemmas.Bool.{cases_order, false≢true}
use Rattle.std.proofs.lemmas.Grind.{get_or-set_at}
use Rattle.std.proofs.lemmas.List.{get_or-map, length-map, map-append, get_or_append_left, length_push, get_or_push}
use Rattle.std.proofs.lemmas.List.Elements.{All-push}
use Rattle.std.proofs.lemmas.Option.{get_or_from_slice_get}
use Rattle.blot_types.specs.Keys.{same_text}
use Rattle.blot_types.proofs.GeneralLemmas.{all-front, all-last}
use Rattle.blot_desk.specs.declared.receipt.Receipt.{Receipt}
use Rattle.blot_diary.specs.declared.{kept.Beginning.Beginning, kept.Kept.Kept}
use Rattle.blot_diary.specs.Beginnings.{begun_by}
use Rattle.blot_recovery.specs.declared.{operators.KeptOperators.KeptOperators, parties.KeptOperator.KeptOperator}
use Rattle.blot_recovery.specs.Parties.{AreDifferent, AreKeptOperators, GivesSeat, HasSeat, IsFirst, IsKeptOperator, operator_names}
use Rattle.blot_recovery.specs.Taking.{IsAskedBy, KeepsLast, stands_for}
use Rattle.blot_recovery.proofs.PartyLemmas.{operator-asked, operator-begun, operator-comes, operator-other, unheard-asked, unheard-begun, unheard-first, unheard-other}
use Rattle.blot_recovery.proofs.TestLemmas.{are_other, none-of, not_same}

-- ---- names

length-names : {L : Type 0} (operators : List (KeptOperator L)) → length (operator_names operators) ≡ length operators
length-names operators = length-map operators (λ operator. operator.name)

named : {L : Type 0} (operators : List (KeptOperator L)) (k : ℕ) (d : KeptOperator L) (e : List ℕ) → k < length operators
    → get_or (operator_names operators) k e ≡ (get_or operators k d).name
named {L = L} operators k d e less = get_or-map (λ (operator : KeptOperator L). operator.name) operators k d e less

-- where the rest follows, so do both
pub either-none : (a b c : Bool) → (b ≡ false → c ≡ false) → (a || b) ≡ false → (a || c) ≡ false
either-none true b c rest is = absurd (false≢true (sym is))
either-none false b c rest is = rest is

-- and none of a part of them does
none-before : {X : Type 0} (p : X → Bool) (xs ys : List X) → list_any p (xs ++ ys) ≡ false → list_any p xs ≡ false
none-before p [] ys none = refl
none-before p (x ∷ xs) ys none = either-none (p x) (list_any p (xs ++ ys)) (list_any p xs) (none-before p xs ys) none

-- where none of the first passes a test, and the next doesn't
pub none-next : {L : Type 0} (operators : List (KeptOperator L)) (name : List ℕ) (at : ℕ) (found : KeptOperator L) → at < length operators → get_or operators at found ≡ found
    → same_text found.name name ≡ false → list_any (same_text name) (take at (operator_names operators)) ≡ false
    → list_any (same_text name) (take (suc at) (operator_names operators)) ≡ false
none-next [] name at found less is differ none = absurd (omega (arith, less))
none-next (operator ∷ operators) name zero found less is differ none =
    ap (λ test. test || false) (not_same name operator.name (λ same. are_other found.name name differ (ap (λ (operator : KeptOperator _). operator.name) (sym is) ∙ sym same)))
none-next (operator ∷ operators) name (suc at) found less is differ none =
    either-none (same_text name operator.name) _ _ (none-next operators name at found (omega (arith, less)) is differ) none

-- a name that isn't one of some differs from one of them
pub differs : (names : List (List ℕ)) (at : ℕ) (name other : List ℕ) → at < length names → slice_get names at ≡ Some name → list_any (same_text other) names ≡ false
    → same_text name other ≡ false
differs names at name other within found none =
    not_same name other (λ is. are_other other name
    (subst (λ it. same_text other it ≡ false) (get_or_from_slice_get names at name other found) (none-of (same_text other) names at other none within)) (sym is))

different-more : (names : List (List ℕ)) (name : List ℕ) → AreDifferent names → list_any (same_text name) names ≡ false → AreDifferent (names ++ name ∷ [])
different-more names name apart none j k d before within same =
    by (cases_order k (length names))
  where
    short : j < length names
    short = omega (arith, before, within, length_push names name)

    by : (k ≡ length names) ⊎ ((k < length names) ⊎ (length names < k)) → ⊥
    by (inl last) =
        are_other name (get_or names j d) (none-of (same_text name) names j d none short)
        (sym (get_or_push names name d (length names) refl) ∙ ap (λ n. get_or (names ++ name ∷ []) n d) (sym last) ∙ sym same ∙ get_or_append_left names (name ∷ []) d j short)
    by (inr (inl less)) = apart j k d before less (sym (get_or_append_left names (name ∷ []) d j short) ∙ same ∙ get_or_append_left names (name ∷ []) d k less)
    by (inr (inr more)) = absurd (omega (arith, within, more, length_push names name))

-- ---- an operator comes

pub operators-more : {L : Type 0} (text : List ℕ) (old new : KeptOperators L) (operator : KeptOperator L) (seat : List Receipt)
    → new.named.items ≡ old.named.items ++ operator ∷ [] → old.spare.items ≡ new.spare.items ++ seat ∷ [] → operator.seat ≡ seat → operator.records ≡ 0
    → list_any (same_text operator.name) (operator_names old.named.items) ≡ false → AreKeptOperators text old → AreKeptOperators text new
operators-more text old new operator seat more fewer given records none holds =
    let names = operator_names old.named.items in
    let are : operator_names new.named.items ≡ names ++ operator.name ∷ [] = ap operator_names more ∙ map-append (λ operator. operator.name) old.named.items (operator ∷ []) in
    let all = subst (All (λ receipts. receipts ≡ [])) fewer holds.spare in
    record {
      apart = subst AreDifferent (sym are) (different-more names operator.name holds.apart none);
      named = subst (All (IsKeptOperator text)) (sym more) (All-push (IsKeptOperator text) old.named.items operator holds.named
          (operator-comes text operator (holds.others operator.name none) (given ∙ all-last (λ receipts. receipts ≡ []) new.spare.items seat all) records));
      others = λ name none. holds.others name (none-before (same_text name) names (operator.name ∷ []) (ap (list_any (same_text name)) (sym are) ∙ none));
      spare = all-front (λ receipts. receipts ≡ []) new.spare.items (seat ∷ []) all;
    }

-- the first stays
pub first-more : {L : Type 0} (first : Option (List ℕ)) (old new : List (KeptOperator L)) (operator : KeptOperator L) → new ≡ old ++ operator ∷ []
    → IsFirst first (operator_names old) → IsFirst first (operator_names new)
first-more None old new operator is holds = tt
first-more (Some name) [] new operator is holds = absurd cc
first-more (Some name) (other ∷ old) new operator is holds = ap (λ operators. slice_get (operator_names operators) 0) is ∙ holds

-- the first stays the first
pub first-set : {L : Type 0} (first : Option (List ℕ)) (old new : List (KeptOperator L)) (at : ℕ) (operator is : KeptOperator L) → is ≡ get_or old at is → operator.name ≡ is.name
    → new ≡ set old at operator → IsFirst first (operator_names old) → IsFirst first (operator_names new)
first-set first old new at operator is found same put holds =
    subst (IsFirst first) (sym (ap operator_names put ∙ map-set_same (λ operator. operator.name) old at operator is (same ∙ ap (λ operator. operator.name) found))) holds

-- ---- one frame more

module _ {L : Type 0} (text more : List ℕ) (kept : Kept) (last : KeepsLast text kept more) where
  pub operators-begun : (operators : KeptOperators L) (found : Beginning) → begun_by kept ≡ Some found → AreKeptOperators text operators → AreKeptOperators more operators
  operators-begun operators found begun holds = record {
    apart = holds.apart;
    named = λ k d less. operator-begun text more kept last (get_or operators.named.items k d) found begun (holds.named k d less);
    others = λ name none. unheard-begun text more kept last name found begun (holds.others name none);
    spare = holds.spare;
  }

  pub operators-other : (own name : List ℕ) (operators : KeptOperators L) → stands_for own name kept ≡ true → AreKeptOperators text operators → AreKeptOperators more operators
  operators-other own name operators stands holds = record {
    apart = holds.apart;
    named = λ k d less. operator-other text more kept last own name (get_or operators.named.items k d) stands (holds.named k d less);
    others = λ other none. unheard-other text more kept last own name other stands (holds.others other none);
    spare = holds.spare;
  }

  -- an event of the operator at one place
  pub operators-asked : (old new : KeptOperators L) (at : ℕ) (name : List ℕ) (operator is : KeptOperator L) → at < length old.named.items
      → slice_get (operator_names old.named.items) at ≡ Some name → IsAskedBy name kept.content → is ≡ get_or old.named.items at is → operator.name ≡ is.name
      → new.named.items ≡ set old.named.items at operator → new.spare.items ≡ old.spare.items → IsKeptOperator more operator
      → AreKeptOperators text old → AreKeptOperators more new
  operators-asked old new at name operator is within found asked found_is same put spare taken holds =
      record {
        apart = subst AreDifferent (sym are) holds.apart;
        named = subst (All (IsKeptOperator more)) (sym put) all;
        others = λ other none. unheard-asked text more kept last name other asked (differs names at name other short found (ap (list_any (same_text other)) (sym are) ∙ none))
            (holds.others other (ap (list_any (same_text other)) (sym are) ∙ none));
        spare = subst (All (λ receipts. receipts ≡ [])) (sym spare) holds.spare;
      }
    where
      operators : List (KeptOperator L)
      operators = old.named.items

      names : List (List ℕ)
      names = operator_names old.named.items

      short : at < length names
      short = subst (λ n. at < n) (sym (length-names operators)) within

      are : operator_names new.named.items ≡ names
      are = ap operator_names put ∙ map-set_same (λ operator. operator.name) operators at operator is (same ∙ ap (λ operator. operator.name) found_is)

      apart_places : (k : ℕ) → (k < at) ⊎ (at < k) → k ≡ at → ⊥
      apart_places k (inl before) is = omega (arith, before, is)
      apart_places k (inr behind) is = omega (arith, behind, is)

      other : (k : ℕ) (d : KeptOperator L) → (k < at) ⊎ (at < k) → k < length operators → (get_or operators k d).name ≡ name → ⊥
      other k d (inl before) less is =
          holds.apart k at name before short (named operators k d name less ∙ is ∙ sym (get_or_from_slice_get names at name name found))
      other k d (inr behind) less is =
          holds.apart at k name behind (subst (λ n. k < n) (sym (length-names operators)) less)
          (get_or_from_slice_get names at name name found ∙ sym is ∙ sym (named operators k d name less))

      all : All (IsKeptOperator more) (set operators at operator)
      all k d less = by (cases_order k at)
        where
          within_k : k < length operators
          within_k = omega (arith, less, length-set operators at operator)

          by : (k ≡ at) ⊎ ((k < at) ⊎ (at < k)) → IsKeptOperator more (get_or (set operators at operator) k d)
          by (inl same) = subst (IsKeptOperator more) (sym (get_or-set_at operators at k operator d same within)) taken
          by (inr differ) =
              subst (IsKeptOperator more) (sym (get_or-set_other operators at k operator d (apart_places k differ)))
              (operator-asked text more kept last name (get_or operators k d) asked
              (not_same name (get_or operators k d).name (λ is. other k d differ within_k (sym is))) (holds.named k d within_k))

-- before the first frame
pub operators-first : {L : Type 0} (operators : KeptOperators L) → operators.named.items ≡ [] → All (λ receipts. receipts ≡ []) operators.spare.items → AreKeptOperators [] operators
operators-first operators none spare = record {
  apart = λ j k d before within same. omega (arith, within, ap (λ items. length (operator_names items)) none);
  named = subst (All (IsKeptOperator [])) (sym none) (λ k d less. absurd (omega (arith, less)));
  others = λ name _. unheard-first name;
  spare = spare;
}

-- ---- seats

all-more : {X : Type 0} (P : X → Type 0) (old new : List X) (x : X) → new ≡ old ++ x ∷ [] → All P old → P x → All P new
all-more P old new x is all holds = subst (All P) (sym is) (All-push P old x all holds)

-- an operator who is put behind the others gets a spare seat
pub seat-put : {L : Type 0} (old new : KeptOperators L) (operator : KeptOperator L) (seat : List Receipt) (name : List ℕ) → operator.name ≡ name
    → new.named.items ≡ old.named.items ++ operator ∷ [] → old.spare.items ≡ new.spare.items ++ seat ∷ [] → GivesSeat name old new
seat-put old new operator seat name is more fewer = record {
  total = omega (arith, ap length more, ap length fewer, length_push old.named.items operator, length_push new.spare.items seat);
  each = λ named text all has. all-more (HasSeat named text) (operator_names old.named.items) (operator_names new.named.items) operator.name
      (ap operator_names more ∙ map-append (λ operator. operator.name) old.named.items (operator ∷ [])) all (subst (HasSeat named text) (sym is) has);
}

-- and so it is where that operator's event is taken
pub seat-set : {L : Type 0} (name : List ℕ) (old mid new : KeptOperators L) (at : ℕ) (operator is : KeptOperator L) → is ≡ get_or mid.named.items at is → operator.name ≡ is.name
    → new.named.items ≡ set mid.named.items at operator → new.spare.items ≡ mid.spare.items → GivesSeat name old mid → GivesSeat name old new
seat-set name old mid new at operator is found same put spare gives =
    let names = ap operator_names put ∙ map-set_same (λ operator. operator.name) mid.named.items at operator is (same ∙ ap (λ operator. operator.name) found) in
    record {
      total = omega (arith, gives.total, ap length put, ap length spare, length-set mid.named.items at operator);
      each = λ named text all has. subst (All (HasSeat named text)) (sym names) (gives.each named text all has);
    }
