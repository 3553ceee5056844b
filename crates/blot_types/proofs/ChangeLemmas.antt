-- What one more entry changes in the parts of the positions.
use Rattle.std.proofs.Common.{◌≡◌, ℕ, ◌==◌, Bool, true, false, ◌&&◌, ◌+ℤ◌, arith, List, [], ◌∷◌, ◌++◌, reverse, Option, Some, None, refl, sym, ap, subst, ◌∙◌, inl, inr, ℤ, ◌||◌, filter, find, is_none, is_some, not, All, filter_map, flat_map, option_and_then, eqb-true, eq-eqb, append-nil}
use Rattle.std.specs.List.{cons_option, list_any}
use Rattle.std.proofs.lemmas.Bool.{cases_Bool, and_from, and_parts}
use Rattle.std.proofs.lemmas.Int.{ints}
use Rattle.std.proofs.lemmas.List.{reverse-reverse}
use Rattle.std.proofs.lemmas.List.Elements.{All-weaker, All-filter, filter_map-append}
use Rattle.std.proofs.lemmas.List.Folds.{list_any-append}
use Rattle.blot_types.specs.declared.{allocation.Instruction.Instruction, command.Command.Command, command.Entry.Entry, keys.ExecKey.ExecKey, part.Part.Part, lines.Version.Version, link.Link.Link}
use Rattle.blot_types.specs.declared.command.Command.TheVariants.{Trade, Correct, Bust, AllocNew, AllocReplace, AllocCancel, Withdraw}
use Rattle.blot_types.specs.Allocations.{Allocation, allocation_of, instruction_by, instructions_of, live_allocations, named_roots}
use Rattle.blot_types.specs.Chains.{takes_up, taker_in, root_in, replaced_by}
use Rattle.blot_types.specs.Instructions.{ended_in, is_live_in, names, holds_in, named_in}
use Rattle.blot_types.specs.Keys.{is_among, same_exec}
use Rattle.blot_types.specs.Legal.{is_above_entries, numbers_rise, is_legal, entry_refusal}
use Rattle.blot_types.specs.Order.{total}
use Rattle.blot_types.specs.Position.{part_of_fill, moves_of, part_of, parts_of}
use Rattle.blot_types.specs.Survivors.{link_by, link_of, links_in, links_of, versions_of, is_number, stands_in, survivors}
use Rattle.blot_types.proofs.AcceptLemmas.{instructions_of-push}
use Rattle.blot_types.proofs.ChainLemmas.{accepted_key}
use Rattle.blot_types.proofs.EntryLemmas.{links_of-push, refusal-link}
use Rattle.blot_types.proofs.LawLemmas.{alone}
use Rattle.blot_types.proofs.PartLemmas.{named_at, parts_under}
use Rattle.blot_types.proofs.StandLemmas.{taken_other}
use Rattle.blot_types.proofs.SumLemmas.{total-append, total-map, total-filter, total-agree, total-flat_map}
use Rattle.blot_types.proofs.SurvivorLemmas.{IsKnown, filter-and, find-passes, versions-known, without, survivors-push, replaced-by_entry}

-- ---- the parts as they are made up

abbrev pub is_named_root : List Entry → ExecKey → Bool
is_named_root list root = is_among (named_roots list) root

abbrev pub moves_all : List Allocation → List Part
moves_all allocations = flat_map (λ allocation. moves_of allocation.terms) allocations

-- the whole: the parts of survivors, and those of the lines of live allocations
pub total-parts :
    (f : Part → ℤ) (list : List Entry)
    → total f (parts_of list) ≡ (total f (parts_under (is_named_root list) (links_of list) (survivors list)) +ℤ total (λ a. total f (moves_of a.terms)) (live_allocations list))
total-parts f list =
    total-append f (parts_under (is_named_root list) (links_of list) (survivors list)) (moves_all (live_allocations list))
    ∙ ap (λ sum. total f (parts_under (is_named_root list) (links_of list) (survivors list)) +ℤ sum) (total-flat_map f (λ a. moves_of a.terms) (live_allocations list))

-- ---- an entry that is a link

-- an entry is a link or an instruction, and only an instruction brings an allocation
abbrev IsOneKind : Option Link → Option Instruction → Option Allocation → Type 0
IsOneKind None instruction allocation = Unit {0}
IsOneKind (Some link) instruction allocation = (instruction ≡ None) × (allocation ≡ None)

one_kind : (links : List Link) (number : ℕ) (command : Command) → IsOneKind (link_by number command) (instruction_by links number command) (allocation_of command)
one_kind links number (Trade trade) = (refl, refl)
one_kind links number (Correct correct) = (refl, refl)
one_kind links number (Bust bust) = (refl, refl)
one_kind links number (AllocNew new) = tt
one_kind links number (AllocReplace replace) = tt
one_kind links number (AllocCancel cancel) = tt
one_kind links number (Withdraw withdrawn) = tt

pub link_alone :
    (links : List Link) (entry : Entry) (link : Link) → link_of entry ≡ Some link
    → (instruction_by links entry.number entry.command ≡ None) × (allocation_of entry.command ≡ None)
link_alone links entry link is = subst (λ found. IsOneKind found (instruction_by links entry.number entry.command) (allocation_of entry.command)) is (one_kind links entry.number entry.command)

-- the allocations that a list brings
abbrev pub allocations_in : List Entry → List Allocation
allocations_in list = filter_map (λ entry. allocation_of entry.command) list

abbrev live_by : List Instruction → List Allocation → List Allocation
live_by instructions allocations = filter (λ allocation. is_none (ended_in instructions allocation.key)) allocations

pub allocations-push : (list : List Entry) (entry : Entry) → allocations_in (list ++ entry ∷ []) ≡ allocations_in list ++ cons_option (allocation_of entry.command) []
allocations-push list entry = filter_map-append (λ e. allocation_of e.command) list (entry ∷ [])

pub instructions-link : (list : List Entry) (entry : Entry) (link : Link) → link_of entry ≡ Some link → instructions_of (list ++ entry ∷ []) ≡ instructions_of list
instructions-link list entry link is =
    instructions_of-push list entry ∙ ap (λ found. cons_option found (instructions_of list)) (link_alone (links_in (reverse list)) entry link is).0

pub live-link : (list : List Entry) (entry : Entry) (link : Link) → link_of entry ≡ Some link → live_allocations (list ++ entry ∷ []) ≡ live_allocations list
live-link list entry link is =
    ap (λ instructions. live_by instructions (allocations_in (list ++ entry ∷ []))) (instructions-link list entry link is)
    ∙ ap (live_by (instructions_of list))
    (allocations-push list entry ∙ ap (λ found. allocations_in list ++ cons_option found []) (link_alone (links_in (reverse list)) entry link is).1 ∙ append-nil (allocations_in list))

-- a key that the links take up keeps its root after a link of another key
root-kept : (links : List Link) (link : Link) (key : ExecKey) → taker_in links link.key ≡ None → is_some (taker_in links key) ≡ true → root_in (link ∷ links) key ≡ root_in links key
root-kept links link key fresh taken = let other : takes_up key link ≡ false = taken_other links link.key key fresh taken in rw other refl

-- the survivors of a list are known to its links
survivors-known : (list : List Entry) (number : ℕ) → is_above_entries number (reverse list) ≡ true → All (IsKnown number (links_of list)) (survivors list)
survivors-known list number above = All-filter (stands_in (links_of list)) (IsKnown number (links_of list)) (versions_of list) (versions-known number list above)

-- the version whose number is this one, alone among those that survive
find-stood : {X : Type 0} (p q : X → Bool) (xs : List X) (x : X) → find p (filter q xs) ≡ Some x → q x ≡ true
find-stood p q [] x found = cc
find-stood p q (y ∷ ys) x found =
    elim (cases_Bool (q y)) [
      | inl stays ↦
          let here : find p (y ∷ filter q ys) ≡ Some x = rw stays at found in
          elim (cases_Bool (p y)) [
            | inl passes ↦ (let same : Some y ≡ Some x = rw passes at here in let one : y ≡ x = cc in ap q (sym one) ∙ stays)
            | inr fails ↦ find-stood p q ys x (rw fails at here)
          ]
      | inr goes ↦ find-stood p q ys x (rw goes at found)
    ]

abbrev numbered_found : List Entry → ℕ → Option Version
numbered_found list number = find (λ v. v.number == number) (versions_of list)

abbrev numbered_found_of : ℕ → List Entry → Option Version
numbered_found_of number list = numbered_found list number

replaced-alone :
    (list : List Entry) (number : ℕ) (version : Version) → numbers_rise list ≡ true → numbered_found list number ≡ Some version
    → find (λ v. v.number == number) (survivors list) ≡ Some version
    → filter (λ v. is_number v.number (Some number)) (survivors list) ≡ version ∷ []
replaced-alone list number version rise found survives =
    let stands = stands_in (links_of list) in
    let passes : Version → Bool = λ v. stands v && is_number v.number (Some number) in
    let only : (v : Version) → passes v ≡ true → v.number ≡ number =
    λ v both. sym (eqb-true number v.number (and_parts (stands v) (number == v.number) both).1) in
    let same : version.number ≡ number = eqb-true version.number number (find-passes (λ v. v.number == number) (versions_of list) version found) in
    let stood : passes version ≡ true = and_from _ _ (find-stood (λ v. v.number == number) stands (versions_of list) version survives) (eq-eqb number version.number (sym same)) in
    sym (filter-and stands (λ v. is_number v.number (Some number)) (versions_of list))
    ∙ ap (λ l. filter passes (versions_of l)) (sym (reverse-reverse list))
    ∙ alone passes number (reverse list) version rise only stood (ap (numbered_found_of number) (reverse-reverse list) ∙ found)

filter-nothing : {X : Type 0} (xs : List X) → filter (λ (x : X). false) xs ≡ []
filter-nothing [] = refl
filter-nothing (x ∷ xs) = filter-nothing xs

-- the version whose place an entry takes
abbrev pub replaced_version : List Entry → Entry → Option Version
replaced_version list entry = option_and_then (numbered_found list) (replaced_by (links_of list) (link_of entry))

-- what the survivors sum to without the one whose place is taken
without-replaced :
    (g : Version → ℤ) (list : List Entry) (number : Option ℕ) → numbers_rise list ≡ true
    → ((n : ℕ) → number ≡ Some n → (version : Version) × (numbered_found list n ≡ Some version) × (find (λ v. v.number == n) (survivors list) ≡ Some version))
    → (total g (without number (survivors list)) +ℤ total g (cons_option (option_and_then (numbered_found list) number) [])) ≡ total g (survivors list)
without-replaced g list None rise found =
    let split = total-filter g (λ v. is_number v.number None) (survivors list) in
    let nothing : filter (λ (v : Version). false) (survivors list) ≡ [] = filter-nothing (survivors list) in
    let split_none : total g (survivors list) ≡ (total g [] +ℤ total g (without None (survivors list))) = rw nothing at split in
    omega (arith, ints, split_none)
without-replaced g list (Some n) rise found =
    let one = found n refl in
    let split = total-filter g (λ v. is_number v.number (Some n)) (survivors list) in
    let single : filter (λ v. is_number v.number (Some n)) (survivors list) ≡ one.0 ∷ [] = replaced-alone list n one.0 rise one.1 one.2 in
    let split_one : total g (survivors list) ≡ (total g (one.0 ∷ []) +ℤ total g (without (Some n) (survivors list))) = rw single at split in
    let is : total g (cons_option (numbered_found list n) []) ≡ total g (one.0 ∷ []) = ap (λ o. total g (cons_option o [])) one.1 in
    omega (arith, ints, split_one, is)

-- what a version adds to the positions of a list
abbrev pub amount : (Part → ℤ) → List Entry → Version → ℤ
amount f list version = f (part_of list version)

named-link : (list : List Entry) (entry : Entry) (link : Link) → link_of entry ≡ Some link → named_roots (list ++ entry ∷ []) ≡ named_roots list
named-link list entry link is = ap named_in (instructions-link list entry link is)

links-link : (list : List Entry) (entry : Entry) (link : Link) → link_of entry ≡ Some link → links_of (list ++ entry ∷ []) ≡ link ∷ links_of list
links-link list entry link is = links_of-push list entry ∙ ap (λ found. cons_option found (links_of list)) is

-- a version that is known adds what it added
amount-kept :
    (f : Part → ℤ) (list : List Entry) (entry : Entry) (link : Link) (number : ℕ) (version : Version) → link_of entry ≡ Some link → taker_in (links_of list) link.key ≡ None
    → IsKnown number (links_of list) version → amount f (list ++ entry ∷ []) version ≡ amount f list version
amount-kept f list entry link number version is fresh known =
    ap (λ roots. f (part_of_fill (named_at (is_among roots) (root_in (links_of (list ++ entry ∷ [])) version.key)) version.fill)) (named-link list entry link is)
    ∙ ap (λ links. f (part_of_fill (named_at (is_named_root list) (root_in links version.key)) version.fill)) (links-link list entry link is)
    ∙ ap (λ root. f (part_of_fill (named_at (is_named_root list) root) version.fill)) (root-kept (links_of list) link version.key fresh known.taken)

-- with one more link, the part of the version whose place it takes goes, and that of its own version comes
pub total-link :
    (f : Part → ℤ) (list : List Entry) (entry : Entry) (link : Link) → link_of entry ≡ Some link → is_legal list ≡ true → numbers_rise list ≡ true
    → is_above_entries entry.number (reverse list) ≡ true → entry_refusal list entry.command ≡ None
    → (total f (parts_of (list ++ entry ∷ [])) +ℤ total (amount f list) (cons_option (replaced_version list entry) []))
    ≡ (total f (parts_of list) +ℤ total (amount f (list ++ entry ∷ [])) (versions_of (entry ∷ [])))
total-link f list entry link is legal rise above accepted =
    let after = list ++ entry ∷ [] in
    let replaced = replaced_by (links_of list) (link_of entry) in
    let fresh : taker_in (links_of list) link.key ≡ None =
    (accepted_key (links_of list) link.key link.role (sym (refusal-link (reverse list) entry link is) ∙ accepted)).0 in
    let known : All (IsKnown entry.number (links_of list)) (without replaced (survivors list)) =
    All-filter (λ v. not (is_number v.number replaced)) (IsKnown entry.number (links_of list)) (survivors list) (survivors-known list entry.number above) in
    let stayed : total (amount f after) (without replaced (survivors list)) ≡ total (amount f list) (without replaced (survivors list)) =
    total-agree (amount f after) (amount f list) (without replaced (survivors list))
    (All-weaker (IsKnown entry.number (links_of list)) (λ v. amount f after v ≡ amount f list v)
    (λ v seen. amount-kept f list entry link entry.number v is fresh seen) (without replaced (survivors list)) known) in
    let gone = without-replaced (amount f list) list replaced rise (λ n found. replaced-by_entry list entry n legal rise accepted found) in
    let whole_after = total-parts f after ∙ ap (λ sum. sum +ℤ total (λ a. total f (moves_of a.terms)) (live_allocations after)) (total-map f (part_of after) (survivors after)) in
    let whole = total-parts f list ∙ ap (λ sum. sum +ℤ total (λ a. total f (moves_of a.terms)) (live_allocations list)) (total-map f (part_of list) (survivors list)) in
    let live : total (λ a. total f (moves_of a.terms)) (live_allocations after) ≡ total (λ a. total f (moves_of a.terms)) (live_allocations list) =
    ap (total (λ a. total f (moves_of a.terms))) (live-link list entry link is) in
    let survived : total (amount f after) (survivors after) ≡ (total (amount f after) (without replaced (survivors list)) +ℤ total (amount f after) (versions_of (entry ∷ []))) =
    ap (total (amount f after)) (survivors-push list entry rise above accepted) ∙ total-append (amount f after) (without replaced (survivors list)) (versions_of (entry ∷ [])) in
    omega (arith, ints, stayed, gone, whole_after, whole, live, survived)

-- the same, told apart: the part that goes or comes, and the rest, which stays
pub record LinkMoves (f : Part → ℤ) (list : List Entry) (entry : Entry) : Type 0 where
  pub rest : ℤ
  pub was : total f (parts_of list) ≡ (total (amount f list) (cons_option (replaced_version list entry) []) +ℤ rest)
  pub is : total f (parts_of (list ++ entry ∷ [])) ≡ (total (amount f (list ++ entry ∷ [])) (versions_of (entry ∷ [])) +ℤ rest)
  pub rest_is :
      rest
      ≡ (total (amount f list) (without (replaced_by (links_of list) (link_of entry)) (survivors list))
      +ℤ total (λ a. total f (moves_of a.terms)) (live_allocations list))

pub link-moves :
    (f : Part → ℤ) (list : List Entry) (entry : Entry) (link : Link) → link_of entry ≡ Some link → is_legal list ≡ true → numbers_rise list ≡ true
    → is_above_entries entry.number (reverse list) ≡ true → entry_refusal list entry.command ≡ None → LinkMoves f list entry
link-moves f list entry link is legal rise above accepted =
    let replaced = replaced_by (links_of list) (link_of entry) in
    let gone = without-replaced (amount f list) list replaced rise (λ n found. replaced-by_entry list entry n legal rise accepted found) in
    let whole = total-parts f list ∙ ap (λ sum. sum +ℤ total (λ a. total f (moves_of a.terms)) (live_allocations list)) (total-map f (part_of list) (survivors list)) in
    let changed = total-link f list entry link is legal rise above accepted in
    record {
      rest = total (amount f list) (without replaced (survivors list)) +ℤ total (λ a. total f (moves_of a.terms)) (live_allocations list);
      was = omega (arith, ints, gone, whole);
      is = omega (arith, ints, gone, whole, changed);
      rest_is = refl;
    }

-- ---- an entry that is an instruction

-- a chain is named where a live allocation names it
named-some : (live : List Instruction → Instruction → Bool) (instructions : List Instruction) (xs : List Instruction) (root : ExecKey)
    → is_among (flat_map (λ i. i.roots) (filter (live instructions) xs)) root ≡ list_any (λ i. live instructions i && names root i) xs
named-some live instructions [] root = refl
named-some live instructions (i ∷ xs) root =
    elim (cases_Bool (live instructions i)) [
      | inl stands ↦
          rw stands (list_any-append (λ other. same_exec other root) i.roots (flat_map (λ j. j.roots) (filter (live instructions) xs))
          ∙ ap (λ rest. names root i || rest) (named-some live instructions xs root))
      | inr ended ↦ rw ended (named-some live instructions xs root)
    ]

pub named-held : (instructions : List Instruction) (root : ExecKey) → is_among (named_in instructions) root ≡ list_any (holds_in instructions root) instructions
named-held instructions root = named-some is_live_in instructions instructions root
