-- Legal entries without an entry of an allocation: the step.
use Rattle.std.proofs.Common.{◌≡◌, ℕ, ◌==◌, true, false, List, [], ◌∷◌, ◌++◌, Option, Some, None, refl, sym, ap, ◌∙◌, inl, inr, Bool, ◌&&◌, ◌||◌, not, find, is_none, All, if◌then◌else◌, filter_map, option_map, option_and_then}
use Rattle.std.specs.List.{cons_option, list_any}
use Rattle.std.specs.Option.{option_map_or}
use Rattle.std.proofs.lemmas.Bool.{cases_Bool, and_parts, and_left, and_right, or_from, or_left, or_right}
use Rattle.std.proofs.lemmas.List.Elements.{All-nil, All-cons, All-weaker, filter_map-append}
use Rattle.std.proofs.lemmas.List.Folds.{list_any_none}
use Rattle.blot_types.specs.declared.allocation.AllocRole.TheVariants.{Allocates, Replaces, Cancels}
use Rattle.blot_types.specs.declared.{allocation.Instruction.Instruction, command.AllocCancel.AllocCancel, command.AllocNew.AllocNew, command.AllocReplace.AllocReplace, command.Command.Command, command.Entry.Entry, keys.AllocKey.AllocKey, keys.ExecKey.ExecKey, lines.Version.Version}
use Rattle.blot_types.specs.declared.command.Command.TheVariants.{AllocNew as NewCommand, AllocReplace as ReplaceCommand, AllocCancel as CancelCommand}
use Rattle.blot_types.specs.declared.refused.Refused.TheVariants.{UnknownAlloc, DeadAlloc, ExecTaken}
use Rattle.blot_types.specs.Allocations.{instruction_by, instructions_in, roots_of_terms}
use Rattle.blot_types.specs.Chains.{taker_in, root_in, current_in}
use Rattle.blot_types.specs.Instructions.{alloc_taker_in, is_allocation_of, is_allocation_in, ends, ended_in, names, is_reference, other_holder_in, brings_allocation, is_instructed}
use Rattle.blot_types.specs.Keys.{same_alloc}
use Rattle.blot_types.specs.Legal.{refusal_in, legal_in}
use Rattle.blot_types.specs.Refusals.{first_of, alloc_reference, listed_by, exec_references, other_holder, bust_of_key, current_fill}
use Rattle.blot_types.specs.Survivors.{link_of, links_in, version_of}
use Rattle.blot_types.proofs.AcceptLemmas.{or_parts, unmapped, instructed}
use Rattle.blot_types.proofs.ChainLemmas.{clash}
use Rattle.blot_types.proofs.EntryLemmas.{version-unlinked}
use Rattle.blot_types.proofs.KeyLemmas.{same_alloc-true, same_alloc-sym}
use Rattle.blot_types.specs.Withdrawal.{needs, names_chain_of}
use Rattle.blot_types.proofs.AcceptOutLemmas.{accepts, accepted, accepts-out, Answers, Uses, shaped}
use Rattle.blot_types.proofs.AllocOutLemmas.{alloc_taker-out, alloc-key-out, unkeyed, allocation-out, unended-out, regains, holder-out, ended-whole, holder-back}
use Rattle.blot_types.proofs.CorrectLemmas.{any-All}
use Rattle.blot_types.proofs.NeedLemmas.{IsStep}
use Rattle.blot_types.proofs.VersionLemmas.{unnamed}
use Rattle.blot_types.proofs.GeneralLemmas.{cons-append, all-of, any-agree, any-none}

-- an entry of an allocation that is taken out
pub record GoneAlloc (later front : List Entry) (k : Entry) (j : Instruction) : Type 0 where
  pub unlinked : link_of k ≡ None
  pub instruction : instruction_by (links_in front) k.number k.command ≡ Some j
  pub legal : legal_in (later ++ k ∷ front) ≡ true
  pub out : legal_in (later ++ front) ≡ true

-- ---- the executions are as they were

pub same-links : (later front : List Entry) (k : Entry) → link_of k ≡ None → links_in (later ++ front) ≡ links_in (later ++ k ∷ front)
same-links later front k none =
    filter_map-append link_of later front ∙ ap (λ found. links_in later ++ cons_option found (links_in front)) (sym none) ∙ sym (filter_map-append link_of later (k ∷ front))

same-versions : (later front : List Entry) (k : Entry) → link_of k ≡ None → filter_map version_of (later ++ front) ≡ filter_map version_of (later ++ k ∷ front)
same-versions later front k none =
    filter_map-append version_of later front ∙ ap (λ found. filter_map version_of later ++ cons_option found (filter_map version_of front)) (sym (version-unlinked k none)) ∙ sym (filter_map-append version_of later (k ∷ front))

same-fill : (later front : List Entry) (k : Entry) (key : ExecKey) → link_of k ≡ None → current_fill (later ++ front) key ≡ current_fill (later ++ k ∷ front) key
same-fill later front k key none =
    ap (λ links. option_map (λ (v : Version). v.fill) (option_and_then (λ n. find (λ v. v.number == n) (filter_map version_of (later ++ front))) (option_and_then (current_in links) (root_in links key)))) (same-links later front k none)
    ∙ ap (λ versions. option_map (λ (v : Version). v.fill) (option_and_then (λ n. find (λ v. v.number == n) versions) (option_and_then (current_in (links_in (later ++ k ∷ front))) (root_in (links_in (later ++ k ∷ front)) key)))) (same-versions later front k none)

-- ---- the instructions

abbrev pub laters : List Entry → List Entry → List Instruction
laters [] base = []
laters (entry ∷ later) base = cons_option (instruction_by (links_in (later ++ base)) entry.number entry.command) (laters later base)

pub by-laters : (later base : List Entry) → instructions_in (later ++ base) ≡ laters later base ++ instructions_in base
by-laters [] base = refl
by-laters (entry ∷ later) base =
    let found = instruction_by (links_in (later ++ base)) entry.number entry.command in
    ap (cons_option found) (by-laters later base) ∙ cons-append found (laters later base) (instructions_in base)

same-laters : (later front : List Entry) (k : Entry) → link_of k ≡ None → laters later (k ∷ front) ≡ laters later front
same-laters [] front k none = refl
same-laters (entry ∷ later) front k none =
    ap (λ links. cons_option (instruction_by links entry.number entry.command) (laters later (k ∷ front))) (sym (same-links later front k none))
    ∙ ap (cons_option (instruction_by (links_in (later ++ front)) entry.number entry.command)) (same-laters later front k none)

pub whole-is : (later front : List Entry) (k : Entry) (j : Instruction) → GoneAlloc later front k j → instructions_in (later ++ k ∷ front) ≡ laters later front ++ j ∷ instructions_in front
whole-is later front k j gone =
    by-laters later (k ∷ front) ∙ ap (λ is. is ++ instructions_in (k ∷ front)) (same-laters later front k gone.unlinked)
    ∙ ap (λ found. laters later front ++ cons_option found (instructions_in front)) gone.instruction

pub whole-instructed : (later front : List Entry) (k : Entry) (j : Instruction) → GoneAlloc later front k j → is_instructed (laters later front ++ j ∷ instructions_in front) ≡ true
whole-instructed later front k j gone = ap is_instructed (sym (whole-is later front k j gone)) ∙ instructed (later ++ k ∷ front) gone.legal

-- ---- what the others answer

abbrev Any : ExecKey → Type 0
Any key = Unit {0}

abbrev There : Instruction → AllocKey → Type 0
There j key = is_allocation_of key j ≡ false

all-any : (keys : List ExecKey) → All Any keys
all-any [] = All-nil Any
all-any (key ∷ keys) = All-cons Any key keys tt (all-any keys)

answers-alloc : (later front : List Entry) (k : Entry) (j : Instruction) → GoneAlloc later front k j → Answers Any Any (There j) (later ++ k ∷ front) (later ++ front)
answers-alloc later front k j gone =
    let links = same-links later front k gone.unlinked in
    let whole = whole-is later front k j gone in
    let rest = by-laters later front in
    let i = laters later front in
    let f = instructions_in front in
    record {
      taker = λ key fresh. ap (λ ls. taker_in ls key) links ∙ fresh;
      root = λ key any. ap (λ ls. root_in ls key) links;
      bust = λ key any none. ap (λ ls. bust_of_key ls key) links ∙ none;
      fill = λ key any. ap shaped (same-fill later front k key gone.unlinked);
      alloc_taker = λ key fresh. ap (λ is. alloc_taker_in is key) rest ∙ alloc_taker-out i f j key (ap (λ is. alloc_taker_in is key) (sym whole) ∙ fresh);
      allocation = λ key other. ap (λ is. is_allocation_in is key) rest ∙ allocation-out i f j key other ∙ ap (λ is. is_allocation_in is key) (sym whole);
      ended = λ key none. ap (λ is. ended_in is key) rest ∙ unended-out i f j key (ap (λ is. ended_in is key) (sym whole) ∙ none);
    }

-- ---- what can need it

-- whether an execution is of a chain that an allocation names which j ended
abbrev pub regained : Instruction → List Entry → ExecKey → Bool
regained j entries key = option_map_or (λ root. list_any (regains j root) (instructions_in entries)) (root_in (links_in entries) key) false

abbrev pub refers_to : Instruction → Option AllocKey → Bool
refers_to j reference = option_map_or (λ key. is_allocation_of key j) reference false

abbrev pub asks : Instruction → List Entry → Command → Bool
asks j entries command = refers_to j (alloc_reference command) || list_any (regained j entries) (listed_by command)

unknown-refused : (instructions : List Instruction) (j : Instruction) (found : Option AllocKey) → alloc_taker_in instructions j.key ≡ None → refers_to j found ≡ true
    → option_and_then (λ key. if is_allocation_in instructions key then None else Some UnknownAlloc) found ≡ None → ⊥
unknown-refused instructions j None fresh refers none = cc
unknown-refused instructions j (Some key) fresh refers none =
    let parts : (same_alloc j.key key ≡ true) × (brings_allocation j.role ≡ true) = and_parts _ _ refers in
    let away : is_allocation_in instructions key ≡ false = ap (is_allocation_in instructions) (sym (same_alloc-true j.key key parts.0)) ∙ unkeyed instructions j.key fresh in
    clash (rw away at none)

all-unanswered : {A B : Type 0} (f : A → Option B) (xs : List A) → first_of f xs ≡ None → All (λ x. f x ≡ None) xs
all-unanswered f [] none = All-nil (λ x. f x ≡ None)
all-unanswered f (x ∷ xs) none =
    let parts = or_parts (f x) (first_of f xs) none in
    All-cons (λ y. f y ≡ None) x xs parts.0 (all-unanswered f xs parts.1)

-- m doesn't refer to what j ended
beside-ended : (later front : List Instruction) (j : Instruction) (found : Option AllocKey) → option_and_then (ended_in (later ++ j ∷ front)) found ≡ None → (key : AllocKey) → ends key j.role ≡ true → is_reference found key ≡ false
beside-ended later front j None live key ended = refl
beside-ended later front j (Some reference) live key ended =
    elim (cases_Bool (same_alloc reference key)) [
      | inl same ↦ absurd (ended-whole later front j key ended (ap (ended_in (later ++ j ∷ front)) (sym (same_alloc-true reference key same)) ∙ live))
      | inr other ↦ other
    ]

regained-held : (later front : List Instruction) (j : Instruction) (reference : Option AllocKey) (found : Option ExecKey) → is_instructed (later ++ j ∷ front) ≡ true
    → ((key : AllocKey) → ends key j.role ≡ true → is_reference reference key ≡ false) → option_map_or (λ root. list_any (regains j root) (later ++ j ∷ front)) found false ≡ true
    → option_and_then (other_holder_in (later ++ front) reference) found ≡ None → ⊥
regained-held later front j reference None instructed beside some none = cc
regained-held later front j reference (Some root) instructed beside some none = holder-back later front j reference root instructed beside some none

lost-free : (later front : List Instruction) (j : Instruction) (reference : Option AllocKey) (found : Option ExecKey) → option_map_or (λ root. list_any (regains j root) (later ++ j ∷ front)) found false ≡ false
    → option_and_then (other_holder_in (later ++ j ∷ front) reference) found ≡ None → option_and_then (other_holder_in (later ++ front) reference) found ≡ None
lost-free later front j reference None lost none = refl
lost-free later front j reference (Some root) lost none = holder-out later front j reference root none lost

not-referred : (j : Instruction) (found : Option AllocKey) (key : AllocKey) → refers_to j found ≡ false → found ≡ Some key → is_allocation_of key j ≡ false
not-referred j found key none is = ap (refers_to j) (sym is) ∙ none

alloc-step : (later front : List Entry) (k : Entry) (j : Instruction) (command : Command) → GoneAlloc later front k j → refusal_in (later ++ k ∷ front) command ≡ None
    → is_none (refusal_in (later ++ front) command) ≡ not (asks j (later ++ k ∷ front) command)
alloc-step later front k j command gone is =
    let entries = later ++ k ∷ front in
    let others = later ++ front in
    let i = laters later front in
    let f = instructions_in front in
    let whole = whole-is later front k j gone in
    let rest = by-laters later front in
    let links = same-links later front k gone.unlinked in
    let follows = whole-instructed later front k j gone in
    let all = accepts entries command is in
    elim (cases_Bool (refers_to j (alloc_reference command))) [
      | inl refers ↦
          let fresh : alloc_taker_in (instructions_in others) j.key ≡ None = ap (λ is. alloc_taker_in is j.key) rest ∙ alloc-key-out i f j follows in
          let asked : asks j entries command ≡ true = or_left _ _ refers in
          unnamed (refusal_in others command) (λ out. unknown-refused (instructions_in others) j (alloc_reference command) fresh refers (accepts others command out).known) ∙ ap not (sym asked)
      | inr apart ↦
          elim (cases_Bool (list_any (regained j entries) (listed_by command))) [
            | inl some ↦
                let asked : asks j entries command ≡ true = or_right _ _ some in
                let beside = beside-ended i f j (alloc_reference command) (ap (λ is. option_and_then (ended_in is) (alloc_reference command)) (sym whole) ∙ unmapped DeadAlloc _ all.live) in
                unnamed (refusal_in others command)
                (λ out.
                let free = all-unanswered (other_holder (links_in others) (instructions_in others) (alloc_reference command)) (listed_by command) (unmapped ExecTaken _ (accepts others command out).untaken) in
                let one = any-All (regained j entries) (λ key. other_holder (links_in others) (instructions_in others) (alloc_reference command) key ≡ None) (listed_by command) some free in
                regained-held i f j (alloc_reference command) (root_in (links_in entries) one.0) follows beside
                (ap (λ is. option_map_or (λ root. list_any (regains j root) is) (root_in (links_in entries) one.0) false) (sym whole) ∙ one.1.0)
                (ap (λ is. option_and_then (other_holder_in is (alloc_reference command)) (root_in (links_in entries) one.0)) (sym rest)
                ∙ ap (λ ls. option_and_then (other_holder_in (instructions_in others) (alloc_reference command)) (root_in ls one.0)) (sym links) ∙ one.1.1)) ∙ ap not (sym asked)
            | inr none ↦
                let unasked : asks j entries command ≡ false = or_from _ _ apart none in
                let free : All (λ key. other_holder (links_in entries) (instructions_in entries) (alloc_reference command) key ≡ None → other_holder (links_in others) (instructions_in others) (alloc_reference command) key ≡ None) (listed_by command) =
                All-weaker (λ key. regained j entries key ≡ false)
                (λ key. other_holder (links_in entries) (instructions_in entries) (alloc_reference command) key ≡ None → other_holder (links_in others) (instructions_in others) (alloc_reference command) key ≡ None)
                (λ key lost held.
                ap (λ ls. option_and_then (other_holder_in (instructions_in others) (alloc_reference command)) (root_in ls key)) links
                ∙ ap (λ is. option_and_then (other_holder_in is (alloc_reference command)) (root_in (links_in entries) key)) rest
                ∙ lost-free i f j (alloc_reference command) (root_in (links_in entries) key)
                (ap (λ is. option_map_or (λ root. list_any (regains j root) is) (root_in (links_in entries) key) false) (sym whole) ∙ lost)
                (ap (λ is. option_and_then (other_holder_in is (alloc_reference command)) (root_in (links_in entries) key)) (sym whole) ∙ held)) (listed_by command) (any-none (regained j entries) (listed_by command) none) in
                let uses : Uses Any Any (There j) entries others command = record {
                  refers = all-any (exec_references command);
                  lists = all-any (listed_by command);
                  shows = all-any (listed_by command);
                  allocation = λ reference refers. not-referred j (alloc_reference command) reference apart refers;
                  holder = free;
                } in
                ap is_none (accepted others command (accepts-out Any Any (There j) entries others command (answers-alloc later front k j gone) uses all)) ∙ ap not (sym unasked)
          ]
    ]

-- ---- by kinds

-- j refers to its own key
referred-brings : (j : Instruction) (found : Option AllocKey) → brings_allocation j.role ≡ true → refers_to j found ≡ is_reference found j.key
referred-brings j None brings = refl
referred-brings j (Some key) brings =
    elim (cases_Bool (same_alloc j.key key)) [
      | inl same ↦ rw (same, sym (same_alloc-sym j.key key) ∙ same) brings
      | inr other ↦ rw (other, sym (same_alloc-sym j.key key) ∙ other) refl
    ]

cancels-none : (j : Instruction) (found : Option AllocKey) → brings_allocation j.role ≡ false → refers_to j found ≡ false
cancels-none j None brings = refl
cancels-none j (Some key) brings = and_right (same_alloc j.key key) (brings_allocation j.role) brings

-- what ends nothing gives nothing back
pub nothing-regained : (j : Instruction) (entries : List Entry) (found : Option ExecKey) → ((key : AllocKey) → ends key j.role ≡ false) → option_map_or (λ root. list_any (regains j root) (instructions_in entries)) found false ≡ false
nothing-regained j entries None none = refl
nothing-regained j entries (Some root) none =
    list_any_none (regains j root) (instructions_in entries)
    (all-of (λ i. regains j root i ≡ false) (instructions_in entries) (λ i. and_left _ (names root i) (and_left _ (brings_allocation i.role) (none i.key))))

-- what ends an allocation gives back the chains that it names
regained-names : (j : Instruction) (entries : List Entry) (reference : AllocKey) (found : Option ExecKey) → ((key : AllocKey) → ends key j.role ≡ same_alloc reference key)
    → option_map_or (λ root. list_any (λ i. is_allocation_of reference i && names root i) (instructions_in entries)) found false ≡ option_map_or (λ root. list_any (regains j root) (instructions_in entries)) found false
regained-names j entries reference None same = refl
regained-names j entries reference (Some root) same =
    any-agree (λ i. is_allocation_of reference i && names root i) (regains j root) (instructions_in entries)
    (all-of (λ i. (is_allocation_of reference i && names root i) ≡ regains j root i) (instructions_in entries)
    (λ i. ap (λ b. (b && brings_allocation i.role) && names root i) (same_alloc-sym i.key reference ∙ sym (same i.key))))

abbrev pub as_new : ℕ → AllocNew → Entry
as_new number new = record { number = number; command = NewCommand new }

abbrev pub as_replace : ℕ → AllocReplace → Entry
as_replace number replace = record { number = number; command = ReplaceCommand replace }

abbrev pub as_cancel : ℕ → AllocCancel → Entry
as_cancel number cancel = record { number = number; command = CancelCommand cancel }

pub new-needs : (j : Instruction) (entries : List Entry) (number : ℕ) (new : AllocNew) (command : Command) → j.key ≡ new.key → j.role ≡ Allocates → needs entries (as_new number new) command ≡ asks j entries command
new-needs j entries number new command key role =
    let first : refers_to j (alloc_reference command) ≡ is_reference (alloc_reference command) new.key = referred-brings j (alloc_reference command) (ap brings_allocation role) ∙ ap (is_reference (alloc_reference command)) key in
    let second : list_any (regained j entries) (listed_by command) ≡ false =
    list_any_none (regained j entries) (listed_by command) (all-of (λ k. regained j entries k ≡ false) (listed_by command) (λ k. nothing-regained j entries (root_in (links_in entries) k) (λ a. ap (ends a) role))) in
    sym (ap (λ b. b || list_any (regained j entries) (listed_by command)) first ∙ ap (λ b. is_reference (alloc_reference command) new.key || b) second)

names-listed : (j : Instruction) (entries : List Entry) (reference : AllocKey) (command : Command) → ((key : AllocKey) → ends key j.role ≡ same_alloc reference key)
    → list_any (names_chain_of entries reference) (listed_by command) ≡ list_any (regained j entries) (listed_by command)
names-listed j entries reference command same =
    any-agree (names_chain_of entries reference) (regained j entries) (listed_by command)
    (all-of (λ key. names_chain_of entries reference key ≡ regained j entries key) (listed_by command) (λ key. regained-names j entries reference (root_in (links_in entries) key) same))

pub replace-needs : (j : Instruction) (entries : List Entry) (number : ℕ) (replace : AllocReplace) (command : Command) → j.key ≡ replace.key → j.role ≡ Replaces replace.reference → needs entries (as_replace number replace) command ≡ asks j entries command
replace-needs j entries number replace command key role =
    let first : refers_to j (alloc_reference command) ≡ is_reference (alloc_reference command) replace.key = referred-brings j (alloc_reference command) (ap brings_allocation role) ∙ ap (is_reference (alloc_reference command)) key in
    ap (λ b. is_reference (alloc_reference command) replace.key || b) (names-listed j entries replace.reference command (λ a. ap (ends a) role))
    ∙ ap (λ b. b || list_any (regained j entries) (listed_by command)) (sym first)

pub cancel-needs : (j : Instruction) (entries : List Entry) (number : ℕ) (cancel : AllocCancel) (command : Command) → j.role ≡ Cancels cancel.reference → needs entries (as_cancel number cancel) command ≡ asks j entries command
cancel-needs j entries number cancel command role =
    let first : refers_to j (alloc_reference command) ≡ false = cancels-none j (alloc_reference command) (ap brings_allocation role) in
    names-listed j entries cancel.reference command (λ a. ap (ends a) role) ∙ ap (λ b. b || list_any (regained j entries) (listed_by command)) (sym first)

pub new-step : (number : ℕ) (new : AllocNew) → IsStep (as_new number new)
new-step number new = λ later front command legal rise out is.
    let k = as_new number new in
    let j : Instruction = record { number = number; key = new.key; role = Allocates; roots = roots_of_terms (links_in front) new.terms } in
    alloc-step later front k j command (record { unlinked = refl; instruction = refl; legal = legal; out = out }) is ∙ ap not (sym (new-needs j (later ++ k ∷ front) number new command refl refl))

pub replace-step : (number : ℕ) (replace : AllocReplace) → IsStep (as_replace number replace)
replace-step number replace = λ later front command legal rise out is.
    let k = as_replace number replace in
    let j : Instruction = record { number = number; key = replace.key; role = Replaces replace.reference; roots = roots_of_terms (links_in front) replace.terms } in
    alloc-step later front k j command (record { unlinked = refl; instruction = refl; legal = legal; out = out }) is ∙ ap not (sym (replace-needs j (later ++ k ∷ front) number replace command refl refl))

pub cancel-step : (number : ℕ) (cancel : AllocCancel) → IsStep (as_cancel number cancel)
cancel-step number cancel = λ later front command legal rise out is.
    let k = as_cancel number cancel in
    let j : Instruction = record { number = number; key = cancel.key; role = Cancels cancel.reference; roots = [] } in
    alloc-step later front k j command (record { unlinked = refl; instruction = refl; legal = legal; out = out }) is ∙ ap not (sym (cancel-needs j (later ++ k ∷ front) number cancel command refl))
