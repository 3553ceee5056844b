-- How a list comes to be made.
use Rattle.std.proofs.Common.{◌≡◌, ◌≤◌, true, List, [], ◌∷◌, ◌++◌, length, Some, None, Result, Ok, Err, refl, sym, ap, subst, ◌∙◌, append_assoc, IfOk, IsOkAnd, append-nil}
use Rattle.std.specs.Result.{result_err}
use Rattle.blot_types.specs.declared.TheConstants.{ITEMS_MAX}
use Rattle.blot_types.specs.ItemsBuilder.{Made, Grows, HoldsItems, Makes, IsShort}

-- what stands after some items
abbrev pub joined : {T F : Type 0} → List T → Result (List T) F → Result (List T) F
joined items (Ok rest) = Ok (items ++ rest)
joined items (Err fault) = Err fault

-- a first item, and the others
abbrev pub with_first : {T F : Type 0} → T → Result (List T) F → Result (List T) F
with_first item (Ok rest) = Ok (item ∷ rest)
with_first item (Err fault) = Err fault

-- what is made so far, as far as memory went, with what the rest gives is the whole
pub record IsFront {T F : Type 0} (made : Made T) (rest meant : Result (List T) F) : Type 0 where
  pub items : made.complete ≡ true → joined made.items rest ≡ meant
  pub faults : result_err rest ≡ result_err meant

-- what stands after some items may take their last with it
joined-more : {T F : Type 0} (items : List T) (item : T) (rest : Result (List T) F) → joined (items ++ item ∷ []) rest ≡ joined items (with_first item rest)
joined-more items item (Ok rest) = ap (λ all. Ok all) (append_assoc items (item ∷ []) rest)
joined-more items item (Err fault) = refl

with_first-faults : {T F : Type 0} (item : T) (rest : Result (List T) F) → result_err (with_first item rest) ≡ result_err rest
with_first-faults item (Ok rest) = refl
with_first-faults item (Err fault) = refl

-- one item more
pub front_grows : {T F : Type 0} (item : T) (old new : Made T) (rest meant : Result (List T) F)
    → Grows item old new → IsFront old (with_first item rest) meant → IsFront new rest meant
front_grows item old new rest meant grows front =
    record {
      items = λ complete. let grown = grows complete in rw (grown.1, joined-more old.items item rest) (front.items grown.0);
      faults = sym (with_first-faults item rest) ∙ front.faults;
    }

-- a fault is the first
fault_is : {A F : Type 0} (meant : Result A F) (fault : F) → Some fault ≡ result_err meant → meant ≡ Err fault
fault_is (Ok value) fault is = absurd cc
fault_is (Err other) fault is = cc

pub front_faults : {T F : Type 0} (made : Made T) (fault : F) (meant : Result (List T) F) → IsFront made (Err fault) meant → meant ≡ Err fault
front_faults made fault meant front = fault_is meant fault front.faults

-- without a rest the list is made
made_of : {T F : Type 0} (made : Made T) (meant : Result (List T) F) → (made.complete ≡ true → Ok (made.items ++ []) ≡ meant) → None ≡ result_err meant → IsOkAnd meant (HoldsItems made)
made_of made (Ok items) is none = λ complete. let same = is complete in sym (append-nil made.items) ∙ (cc)
made_of made (Err fault) is none = absurd cc

pub front_ends : {T F : Type 0} (made : Made T) (meant : Result (List T) F) → IsFront made (Ok []) meant → Makes (Ok made) meant
front_ends made meant front = made_of made meant front.items front.faults

-- what was made of a list that is no longer than a list may be isn't either
pub made_short : {T F : Type 0} (made : Made T) (meant : Result (List T) F)
    → ((items : List T) → meant ≡ Ok items → length items ≤ ITEMS_MAX) → IsOkAnd meant (HoldsItems made) → IsShort made
made_short {T = T} made (Ok items) few holds = λ complete.
    let P : List T → Type 0 = λ made. length made ≤ ITEMS_MAX in
    subst P (sym (holds complete)) (few items refl)
made_short made (Err fault) few holds = absurd holds

pub makes_short : {T F : Type 0} (result : Result (Made T) F) (meant : Result (List T) F)
    → ((items : List T) → meant ≡ Ok items → length items ≤ ITEMS_MAX) → Makes result meant → IfOk result IsShort
makes_short (Ok made) meant few makes = made_short made meant few makes
makes_short (Err fault) meant few makes = tt
