-- The laws of allocations: a chain is named by at most one live allocation, and they make and lose nothing.
use Rattle.std.proofs.Common.{◌≡◌, ℕ, Bool, true, false, ◌&&◌, pos, ◌+ℤ◌, ◌*ℤ◌, arith, List, [], ◌∷◌, map, reverse, refl, sym, ap, ◌∙◌, inl, inr, ℤ, filter, not, All, IsTrue, if◌then◌else◌, flat_map}
use Rattle.std.specs.Cmp.Lexicographic.{same_text as text_told}
use Rattle.std.specs.List.{list_any}
use Rattle.std.specs.Option.{option_map_or}
use Rattle.std.proofs.lemmas.Bool.{cases_Bool, and_parts, not-true}
use Rattle.std.proofs.lemmas.Int.{ints}
use Rattle.std.proofs.lemmas.List.Elements.{All-head, All-tail, filter-append}
use Rattle.blot_types.specs.declared.{allocation.Line.Line, allocation.Terms.Terms, command.Entry.Entry, part.Part.Part, lines.Version.Version}
use Rattle.blot_types.specs.Allocations.{Allocation, instructions_of, live_allocations}
use Rattle.blot_types.specs.Keys.{same_text}
use Rattle.blot_types.specs.Laws.{IsNamedOnce, are_distinct, position_qty, position_value, is_of_symbol, IsConserving}
use Rattle.blot_types.specs.Legal.{is_book}
use Rattle.blot_types.specs.Order.{total}
use Rattle.blot_types.specs.Position.{signed, from_house, part_of_line, moves_of_line, moves_of, part_of, parts_of, is_at, position_by}
use Rattle.blot_types.specs.Survivors.{survivors}
use Rattle.blot_types.proofs.AcceptLemmas.{instructed}
use Rattle.blot_types.proofs.InstructionLemmas.{named_once}
use Rattle.blot_types.proofs.LawLemmas.{book_parts}
use Rattle.blot_types.proofs.SumLemmas.{total-cons, total-append, total-same, total-plus, total-zero}
use Rattle.blot_types.proofs.GeneralLemmas.{and-true, and-false}

-- ---- a chain is named once

pub is_named_once : (list : List Entry) → IsTrue (is_book list) → IsNamedOnce list
is_named_once list book root = named_once (instructions_of list) (instructed (reverse list) (book_parts list book).1) root

-- ---- sums of what passes a test

-- an amount where a test is passed, else 0
abbrev counted : Bool → ℤ → ℤ
counted passes amount = if passes then amount else pos 0

total-next : {A : Type 0} (f : A → ℤ) (p : A → Bool) (x : A) (xs : List A) → total f (filter p (x ∷ xs)) ≡ (counted (p x) (f x) +ℤ total f (filter p xs))
total-next f p x xs =
    elim (cases_Bool (p x)) [
      | inl passes ↦ rw passes (total-cons f x (filter p xs))
      | inr fails ↦ rw fails (omega (arith, ints))
    ]

-- ---- each part is of one account

not_here : (account first : List ℕ) (accounts : List (List ℕ)) → list_any (same_text account) (first ∷ accounts) ≡ false → (same_text account first ≡ false) × (list_any (same_text account) accounts ≡ false)
not_here account first accounts none =
    elim (cases_Bool (same_text account first)) [
      | inl here ↦ (let clash : true ≡ false = rw here at none in cc)
      | inr other ↦ (other, rw other at none)
    ]

no_account : (account : List ℕ) (accounts : List (List ℕ)) (amount : ℤ) → list_any (same_text account) accounts ≡ false → total (λ a. counted (same_text account a) amount) accounts ≡ pos 0
no_account account [] amount none = refl
no_account account (first ∷ accounts) amount none =
    let parts = not_here account first accounts none in
    let whole = total-cons (λ a. counted (same_text account a) amount) first accounts in
    let here : counted (same_text account first) amount ≡ pos 0 = rw parts.0 refl in
    let rest = no_account account accounts amount parts.1 in
    omega (arith, ints, whole, here, rest)

one_account :
    (account : List ℕ) (accounts : List (List ℕ)) (amount : ℤ) → are_distinct accounts ≡ true → list_any (same_text account) accounts ≡ true
    → total (λ a. counted (same_text account a) amount) accounts ≡ amount
one_account account [] amount different holds = cc
one_account account (first ∷ accounts) amount different holds =
    let parts : (not (list_any (same_text first) accounts) ≡ true) × (are_distinct accounts ≡ true) = and_parts _ _ different in
    let whole = total-cons (λ a. counted (same_text account a) amount) first accounts in
    elim (cases_Bool (same_text account first)) [
      | inl same ↦
          let one : account ≡ first = text_told account first (sym same) in
          let none : list_any (same_text account) accounts ≡ false = ap (λ a. list_any (same_text a) accounts) one ∙ not-true _ parts.0 in
          let here : counted (same_text account first) amount ≡ amount = rw same refl in
          let rest = no_account account accounts amount none in
          omega (arith, ints, whole, here, rest)
      | inr other ↦
          let here : counted (same_text account first) amount ≡ pos 0 = rw other refl in
          let rest = one_account account accounts amount parts.1 (rw other at holds) in
          omega (arith, ints, whole, here, rest)
    ]

-- whether a part is of a symbol
abbrev of_symbol : List ℕ → Part → Bool
of_symbol symbol part = same_text part.symbol symbol

-- over all accounts, a part counts once, where it is of the symbol
part_once :
    (f : Part → ℤ) (symbol : List ℕ) (accounts : List (List ℕ)) (part : Part) → are_distinct accounts ≡ true → list_any (same_text part.account) accounts ≡ true
    → total (λ account. counted (is_at account symbol part) (f part)) accounts ≡ counted (of_symbol symbol part) (f part)
part_once f symbol accounts part different holds =
    elim (cases_Bool (of_symbol symbol part)) [
      | inl here ↦
          total-same (λ account. counted (is_at account symbol part) (f part)) (λ account. counted (same_text part.account account) (f part)) accounts
          (λ account. ap (λ test. counted test (f part)) (ap (λ b. same_text part.account account && b) here ∙ and-true (same_text part.account account)))
          ∙ one_account part.account accounts (f part) different holds ∙ sym (ap (λ test. counted test (f part)) here)
      | inr other ↦
          total-same (λ account. counted (is_at account symbol part) (f part)) (λ account. pos 0) accounts
          (λ account. ap (λ test. counted test (f part)) (ap (λ b. same_text part.account account && b) other ∙ and-false (same_text part.account account)))
          ∙ total-zero accounts ∙ sym (ap (λ test. counted test (f part)) other)
    ]

-- so over all accounts the parts of a symbol add up
by_account :
    (f : Part → ℤ) (symbol : List ℕ) (accounts : List (List ℕ)) (parts : List Part) → are_distinct accounts ≡ true
    → All (λ part. list_any (same_text part.account) accounts ≡ true) parts
    → total (λ account. total f (filter (is_at account symbol) parts)) accounts ≡ total f (filter (of_symbol symbol) parts)
by_account f symbol accounts [] different holds = total-zero accounts
by_account f symbol accounts (part ∷ parts) different holds =
    let here = λ (account : List ℕ). counted (is_at account symbol part) (f part) in
    let rest = λ (account : List ℕ). total f (filter (is_at account symbol) parts) in
    total-same (λ account. total f (filter (is_at account symbol) (part ∷ parts))) (λ account. here account +ℤ rest account) accounts
    (λ account. total-next f (is_at account symbol) part parts)
    ∙ total-plus here rest accounts
    ∙ ap (λ sum. sum +ℤ total rest accounts) (part_once f symbol accounts part different (All-head (λ p. list_any (same_text p.account) accounts ≡ true) part parts holds))
    ∙ ap (λ sum. counted (of_symbol symbol part) (f part) +ℤ sum)
    (by_account f symbol accounts parts different (All-tail (λ p. list_any (same_text p.account) accounts ≡ true) part parts holds))
    ∙ sym (total-next f (of_symbol symbol) part parts)

-- ---- the moves of lines cancel

-- an amount is taken from the house account as it is given
abbrev pub IsTakenBack : (Part → ℤ) → Type 0
IsTakenBack f = (part : Part) → (f part +ℤ f (from_house part)) ≡ pos 0

line-cancels : (f : Part → ℤ) (symbol : List ℕ) (terms : Terms) (line : Line) → IsTakenBack f → total f (filter (of_symbol symbol) (moves_of_line terms line)) ≡ pos 0
line-cancels f symbol terms line back =
    let part = part_of_line terms line in
    let first = total-next f (of_symbol symbol) part (from_house part ∷ []) in
    let second = total-next f (of_symbol symbol) (from_house part) [] in
    let both = back part in
    elim (cases_Bool (of_symbol symbol part)) [
      | inl here ↦
          let one : counted (of_symbol symbol part) (f part) ≡ f part = rw here refl in
          let two : counted (of_symbol symbol part) (f (from_house part)) ≡ f (from_house part) = rw here refl in
          omega (arith, ints, first, second, both, one, two)
      | inr other ↦
          let one : counted (of_symbol symbol part) (f part) ≡ pos 0 = rw other refl in
          let two : counted (of_symbol symbol part) (f (from_house part)) ≡ pos 0 = rw other refl in
          omega (arith, ints, first, second, one, two)
    ]

lines-cancel :
    (f : Part → ℤ) (symbol : List ℕ) (terms : Terms) (lines : List Line) → IsTakenBack f → total f (filter (of_symbol symbol) (flat_map (moves_of_line terms) lines)) ≡ pos 0
lines-cancel f symbol terms [] back = refl
lines-cancel f symbol terms (line ∷ lines) back =
    let rest = flat_map (moves_of_line terms) lines in
    ap (total f) (filter-append (of_symbol symbol) (moves_of_line terms line) rest)
    ∙ total-append f (filter (of_symbol symbol) (moves_of_line terms line)) (filter (of_symbol symbol) rest)
    ∙ ap (λ sum. sum +ℤ total f (filter (of_symbol symbol) rest)) (line-cancels f symbol terms line back)
    ∙ ap (λ sum. pos 0 +ℤ sum) (lines-cancel f symbol terms lines back)

moves-cancel :
    (f : Part → ℤ) (symbol : List ℕ) (allocations : List Allocation) → IsTakenBack f
    → total f (filter (of_symbol symbol) (flat_map (λ allocation. moves_of allocation.terms) allocations)) ≡ pos 0
moves-cancel f symbol [] back = refl
moves-cancel f symbol (allocation ∷ allocations) back =
    let rest = flat_map (λ a. moves_of a.terms) allocations in
    ap (total f) (filter-append (of_symbol symbol) (moves_of allocation.terms) rest)
    ∙ total-append f (filter (of_symbol symbol) (moves_of allocation.terms)) (filter (of_symbol symbol) rest)
    ∙ ap (λ sum. sum +ℤ total f (filter (of_symbol symbol) rest)) (lines-cancel f symbol allocation.terms allocation.terms.lines back)
    ∙ ap (λ sum. pos 0 +ℤ sum) (moves-cancel f symbol allocations back)

-- ---- what stays are the parts of survivors

survivors-left :
    (f : Part → ℤ) (amount : Version → ℤ) (list : List Entry) (symbol : List ℕ) (versions : List Version) → ((version : Version) → f (part_of list version) ≡ amount version)
    → total f (filter (of_symbol symbol) (map (part_of list) versions)) ≡ total amount (filter (is_of_symbol symbol) versions)
survivors-left f amount list symbol [] same = refl
survivors-left f amount list symbol (version ∷ versions) same =
    total-next f (of_symbol symbol) (part_of list version) (map (part_of list) versions)
    ∙ ap (λ first. counted (is_of_symbol symbol version) first +ℤ total f (filter (of_symbol symbol) (map (part_of list) versions))) (same version)
    ∙ ap (λ rest. counted (is_of_symbol symbol version) (amount version) +ℤ rest) (survivors-left f amount list symbol versions same)
    ∙ sym (total-next amount (is_of_symbol symbol) version versions)

-- the parts of a symbol add up to the amounts of its survivors
total-symbol :
    (f : Part → ℤ) (amount : Version → ℤ) (list : List Entry) (symbol : List ℕ) → IsTakenBack f → ((version : Version) → f (part_of list version) ≡ amount version)
    → total f (filter (of_symbol symbol) (parts_of list)) ≡ total amount (filter (is_of_symbol symbol) (survivors list))
total-symbol f amount list symbol back same =
    let stood = map (part_of list) (survivors list) in
    let moved = flat_map (λ allocation. moves_of allocation.terms) (live_allocations list) in
    let split = ap (total f) (filter-append (of_symbol symbol) stood moved) ∙ total-append f (filter (of_symbol symbol) stood) (filter (of_symbol symbol) moved) in
    let cancelled = moves-cancel f symbol (live_allocations list) back in
    let left = survivors-left f amount list symbol (survivors list) same in
    omega (arith, ints, split, cancelled, left)

qty_by : (parts : List Part) → option_map_or (λ line. line.qty) (position_by parts) (pos 0) ≡ total (λ part. part.qty) parts
qty_by [] = refl
qty_by (part ∷ parts) = refl

value_by : (parts : List Part) → option_map_or (λ line. line.value) (position_by parts) (pos 0) ≡ total (λ part. part.value) parts
value_by [] = refl
value_by (part ∷ parts) = refl

-- allocations make and lose nothing
pub is_conserving : (list : List Entry) → IsConserving list
is_conserving list symbol accounts all = record {
  qty =
      total-same (position_qty list symbol) (λ account. total (λ part. part.qty) (filter (is_at account symbol) (parts_of list))) accounts
      (λ account. qty_by (filter (is_at account symbol) (parts_of list)))
      ∙ by_account (λ part. part.qty) symbol accounts (parts_of list) all.different all.holds
      ∙ total-symbol (λ part. part.qty) (λ version. signed version.fill.sign (pos version.fill.qty)) list symbol (λ part. omega (arith, ints)) (λ version. refl);
  value =
      total-same (position_value list symbol) (λ account. total (λ part. part.value) (filter (is_at account symbol) (parts_of list))) accounts
      (λ account. value_by (filter (is_at account symbol) (parts_of list)))
      ∙ by_account (λ part. part.value) symbol accounts (parts_of list) all.different all.holds
      ∙ total-symbol (λ part. part.value) (λ version. signed version.fill.sign (pos version.fill.qty *ℤ version.fill.price)) list symbol (λ part. omega (arith, ints)) (λ version. refl);
}
