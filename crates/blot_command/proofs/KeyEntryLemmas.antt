-- The entry that takes up a key, among those newest first.
use Rattle.std.proofs.Common.{◌≡◌, ℕ, ◌+◌, ◌<◌, true, false, List, [], ◌∷◌, ◌++◌, reverse, Option, Some, None, refl, sym, ap, subst, ◌∙◌, arith, inl, inr, IfSome, find, nat_lt, if◌then◌else◌, option_and_then, option_map, ltb-true, append_assoc}
use Rattle.std.specs.List.{cons_option}
use Rattle.std.specs.Option.{option_map_or}
use Rattle.std.proofs.lemmas.Bool.{and_parts, cases_Bool}
use Rattle.std.proofs.lemmas.List.{reverse-reverse}
use Rattle.blot_types.specs.declared.{allocation.AllocRole.AllocRole, allocation.Instruction.Instruction, command.Command.Command, command.Entry.Entry, keys.AllocKey.AllocKey, keys.ExecKey.ExecKey, link.Link.Link, link.Role.Role}
use Rattle.blot_types.specs.declared.allocation.AllocRole.TheVariants.{Allocates, Replaces, Cancels}
use Rattle.blot_types.specs.declared.command.Command.TheVariants.{Trade, Correct, Bust, AllocNew, AllocReplace, AllocCancel, Withdraw}
use Rattle.blot_types.specs.declared.link.Role.TheVariants.{Begins, Corrects, Busts}
use Rattle.blot_types.specs.Allocations.{instruction_by, instructions_in, instructions_of, roots_of_terms}
use Rattle.blot_types.specs.Chains.{bust_in, current_in, is_above_links, taker_in, takes_up, version_before_in}
use Rattle.blot_types.specs.Instructions.{alloc_taker_in, ended_in}
use Rattle.blot_types.specs.Keys.{same_alloc, same_exec}
use Rattle.blot_types.specs.Legal.{is_above_entries, is_book, rises_in}
use Rattle.blot_types.specs.Refusals.{alloc_key, exec_key}
use Rattle.blot_types.specs.StandingVersion.{chain_by}
use Rattle.blot_types.specs.Survivors.{link_by, link_of, links_in, links_of}
use Rattle.blot_types.proofs.EntryLemmas.{is_above_links-links}
use Rattle.blot_command.specs.Book.{has_number}
use Rattle.blot_command.proofs.ChainEntryLemmas.{before-under, chain-parts, found-later, found-own, found-turned, from-before, from-current, from_in}
use Rattle.blot_command.specs.Withdrawing.{takes_exec}
use Rattle.blot_command.specs.Questions.{allocation_of, chain_in, chain_keyed, entry_in, takes_alloc}

-- the entry of a number, newest first
abbrev pub entry_at : List Entry → Option ℕ → Option Entry
entry_at entries number = option_and_then (λ n. find (has_number n) entries) number

pub at-turned : (entries : List Entry) (number : Option ℕ) → rises_in entries ≡ true → entry_at (reverse entries) number ≡ entry_at entries number
at-turned entries None rises = refl
at-turned entries (Some n) rises = found-turned n entries rises

at-later : (entry : Entry) (earlier : List Entry) (number : Option ℕ) → IfSome number (λ n. n < entry.number) → entry_at (entry ∷ earlier) number ≡ entry_at earlier number
at-later entry earlier None under = refl
at-later entry earlier (Some n) under = found-later entry earlier n under

taker-under : (key : ExecKey) (bound : ℕ) (links : List Link) → is_above_links bound links ≡ true → IfSome (taker_in links key) (λ n. n < bound)
taker-under key bound [] above = tt
taker-under key bound (link ∷ earlier) above =
    let parts : (nat_lt link.number bound ≡ true) × (is_above_links bound earlier ≡ true) = and_parts _ _ above in
    elim (cases_Bool (takes_up key link)) [
      | inl is ↦ rw is (ltb-true _ _ parts.0)
      | inr other ↦ rw other (taker-under key bound earlier parts.1)
    ]

module _ (key : ExecKey) (entry : Entry) (earlier : List Entry) where
  abbrev Rest : Type 0
  Rest = entry_at earlier (taker_in (links_in earlier) key) ≡ find (takes_exec key) earlier

  abbrev Under : Type 0
  Under = IfSome (taker_in (links_in earlier) key) (λ n. n < entry.number)

  abbrev Whole : Command → Type 0
  Whole command =
      entry_at (entry ∷ earlier) (taker_in (cons_option (link_by entry.number command) (links_in earlier)) key)
      ≡ (if option_map_or (λ own. same_exec own key) (exec_key command) false then Some entry else find (takes_exec key) earlier)

  other : Rest → Under → entry_at (entry ∷ earlier) (taker_in (links_in earlier) key) ≡ find (takes_exec key) earlier
  other rest under = at-later entry earlier (taker_in (links_in earlier) key) under ∙ rest

  linked :
      (own : ExecKey) (role : Role) → Rest → Under
      → entry_at (entry ∷ earlier) (taker_in (record { number = entry.number; key = own; role = role } ∷ links_in earlier) key)
      ≡ (if same_exec own key then Some entry else find (takes_exec key) earlier)
  linked own role rest under =
      elim (cases_Bool (same_exec own key)) [
        | inl same ↦ rw same (found-own entry earlier entry.number refl)
        | inr apart ↦ rw apart (other rest under)
      ]

  exec-by : (command : Command) → Rest → Under → Whole command
  exec-by (Trade trade) rest under = linked trade.key Begins rest under
  exec-by (Correct correct) rest under = linked correct.key (Corrects correct.reference) rest under
  exec-by (Bust bust) rest under = linked bust.key (Busts bust.reference) rest under
  exec-by (AllocNew new) rest under = other rest under
  exec-by (AllocReplace replace) rest under = other rest under
  exec-by (AllocCancel cancel) rest under = other rest under
  exec-by (Withdraw withdrawn) rest under = other rest under

pub exec-taken : (key : ExecKey) (entries : List Entry) → rises_in entries ≡ true → entry_at entries (taker_in (links_in entries) key) ≡ find (takes_exec key) entries
exec-taken key [] rises = refl
exec-taken key (entry ∷ earlier) rises =
    let parts : (is_above_entries entry.number earlier ≡ true) × (rises_in earlier ≡ true) = and_parts _ _ rises in
    exec-by key entry earlier entry.command (exec-taken key earlier parts.1) (taker-under key entry.number (links_in earlier) (is_above_links-links entry.number earlier parts.0))

module _ (key : AllocKey) (bound : ℕ) (entry : Entry) (earlier : List Entry) where
  abbrev Below : Type 0
  Below = IfSome (alloc_taker_in (instructions_in earlier) key) (λ n. n < bound)

  under-instructed : (own : AllocKey) (role : AllocRole) (roots : List ExecKey) → entry.number < bound → Below
      → IfSome (alloc_taker_in (record { number = entry.number; key = own; role = role; roots = roots } ∷ instructions_in earlier) key) (λ n. n < bound)
  under-instructed own role roots less rest =
      elim (cases_Bool (same_alloc own key)) [
        | inl same ↦ rw same less
        | inr apart ↦ rw apart rest
      ]

  under-by : (command : Command) → entry.number < bound → Below → IfSome (alloc_taker_in (cons_option (instruction_by (links_in earlier) entry.number command) (instructions_in earlier)) key) (λ n. n < bound)
  under-by (Trade trade) less rest = rest
  under-by (Correct correct) less rest = rest
  under-by (Bust bust) less rest = rest
  under-by (AllocNew new) less rest = under-instructed new.key Allocates (roots_of_terms (links_in earlier) new.terms) less rest
  under-by (AllocReplace replace) less rest = under-instructed replace.key (Replaces replace.reference) (roots_of_terms (links_in earlier) replace.terms) less rest
  under-by (AllocCancel cancel) less rest = under-instructed cancel.key (Cancels cancel.reference) [] less rest
  under-by (Withdraw withdrawn) less rest = rest

alloc-under : (key : AllocKey) (bound : ℕ) (entries : List Entry) → is_above_entries bound entries ≡ true → IfSome (alloc_taker_in (instructions_in entries) key) (λ n. n < bound)
alloc-under key bound [] above = tt
alloc-under key bound (entry ∷ earlier) above =
    let parts : (nat_lt entry.number bound ≡ true) × (is_above_entries bound earlier ≡ true) = and_parts _ _ above in
    under-by key bound entry earlier entry.command (ltb-true _ _ parts.0) (alloc-under key bound earlier parts.1)

module _ (key : AllocKey) (entry : Entry) (earlier : List Entry) where
  abbrev AllocRest : Type 0
  AllocRest = entry_at earlier (alloc_taker_in (instructions_in earlier) key) ≡ find (takes_alloc key) earlier

  abbrev AllocUnder : Type 0
  AllocUnder = IfSome (alloc_taker_in (instructions_in earlier) key) (λ n. n < entry.number)

  abbrev AllocWhole : Command → Type 0
  AllocWhole command =
      entry_at (entry ∷ earlier) (alloc_taker_in (cons_option (instruction_by (links_in earlier) entry.number command) (instructions_in earlier)) key)
      ≡ (if option_map_or (λ own. same_alloc own key) (alloc_key command) false then Some entry else find (takes_alloc key) earlier)

  alloc-other : AllocRest → AllocUnder → entry_at (entry ∷ earlier) (alloc_taker_in (instructions_in earlier) key) ≡ find (takes_alloc key) earlier
  alloc-other rest under = at-later entry earlier (alloc_taker_in (instructions_in earlier) key) under ∙ rest

  instructed :
      (own : AllocKey) (role : AllocRole) (roots : List ExecKey) → AllocRest → AllocUnder
      → entry_at (entry ∷ earlier) (alloc_taker_in (record { number = entry.number; key = own; role = role; roots = roots } ∷ instructions_in earlier) key)
      ≡ (if same_alloc own key then Some entry else find (takes_alloc key) earlier)
  instructed own role roots rest under =
      elim (cases_Bool (same_alloc own key)) [
        | inl same ↦ rw same (found-own entry earlier entry.number refl)
        | inr apart ↦ rw apart (alloc-other rest under)
      ]

  alloc-by : (command : Command) → AllocRest → AllocUnder → AllocWhole command
  alloc-by (Trade trade) rest under = alloc-other rest under
  alloc-by (Correct correct) rest under = alloc-other rest under
  alloc-by (Bust bust) rest under = alloc-other rest under
  alloc-by (AllocNew new) rest under = instructed new.key Allocates (roots_of_terms (links_in earlier) new.terms) rest under
  alloc-by (AllocReplace replace) rest under = instructed replace.key (Replaces replace.reference) (roots_of_terms (links_in earlier) replace.terms) rest under
  alloc-by (AllocCancel cancel) rest under = instructed cancel.key (Cancels cancel.reference) [] rest under
  alloc-by (Withdraw withdrawn) rest under = alloc-other rest under

pub alloc-taken : (key : AllocKey) (entries : List Entry) → rises_in entries ≡ true → entry_at entries (alloc_taker_in (instructions_in entries) key) ≡ find (takes_alloc key) entries
alloc-taken key [] rises = refl
alloc-taken key (entry ∷ earlier) rises =
    let parts : (is_above_entries entry.number earlier ≡ true) × (rises_in earlier ≡ true) = and_parts _ _ rises in
    alloc-by key entry earlier entry.command (alloc-taken key earlier parts.1) (alloc-under key entry.number earlier parts.0)

-- ---- by a list in rising order

numbers-fall : (list : List Entry) → is_book list ≡ true → rises_in (reverse list) ≡ true
numbers-fall list book = (and_parts _ _ (and_parts _ _ book).0).0

in-at : (list : List Entry) (number : Option ℕ) → is_book list ≡ true → entry_in list number ≡ entry_at (reverse list) number
in-at list number book =
    ap (λ all. entry_in all number) (sym (reverse-reverse list)) ∙ at-turned (reverse list) number (numbers-fall list book)

pub told-alloc :
    (list : List Entry) (instructions : List Instruction) (key : AllocKey) (number : Option ℕ) (entry : Option Entry) (ended : Option ℕ) → is_book list ≡ true → instructions ≡ instructions_of list
    → number ≡ alloc_taker_in instructions key → entry ≡ entry_in list number → ended ≡ ended_in instructions key
    → option_map (λ (entry : Entry). record { entry = entry; ended = ended }) entry ≡ allocation_of list key
told-alloc list instructions key number entry ended book are is found ends =
    let same : entry ≡ find (takes_alloc key) (reverse list) =
    found ∙ in-at list number book ∙ ap (entry_at (reverse list)) (is ∙ ap (λ all. alloc_taker_in all key) are) ∙ alloc-taken key (reverse list) (numbers-fall list book) in
    ap (λ (e : Option ℕ). option_map (λ (entry : Entry). record { entry = entry; ended = e }) entry) (ends ∙ ap (λ all. ended_in all key) are)
    ∙ ap (option_map (λ (entry : Entry). record { entry = entry; ended = ended_in (instructions_of list) key })) same

pub told-keyed :
    (list : List Entry) (links : List Link) (key : ExecKey) (number : Option ℕ) (entry : Option Entry) → is_book list ≡ true → links ≡ links_of list
    → number ≡ taker_in links key → entry ≡ entry_in list number → option_and_then (λ entry. chain_by links (link_of entry)) entry ≡ chain_keyed list key
told-keyed list links key number entry book are is found =
    let same : entry ≡ find (takes_exec key) (reverse list) =
    found ∙ in-at list number book ∙ ap (entry_at (reverse list)) (is ∙ ap (λ all. taker_in all key) are) ∙ exec-taken key (reverse list) (numbers-fall list book) in
    ap (λ (all : List Link). option_and_then (λ entry. chain_by all (link_of entry)) entry) are
    ∙ ap (option_and_then (λ entry. chain_by (links_of list) (link_of entry))) same

-- ---- the entries of a chain, found one by one

abbrev one : Option Entry → List Entry
one found = cons_option found []

one-before : (found : Option Entry) (rest : List Entry) → one found ++ rest ≡ cons_option found rest
one-before None rest = refl
one-before (Some entry) rest = refl

pub begin-chain :
    (list : List Entry) (links : List Link) (root : ExecKey) (bust current : Option ℕ) (entries : List Entry) → is_book list ≡ true → links ≡ links_of list
    → bust ≡ bust_in links root → current ≡ current_in links root → entries ≡ one (entry_in list bust)
    → entries ++ from_in root (reverse list) current ≡ chain_in (reverse list) root
begin-chain list links root bust current entries book are is_bust is_current found =
    let falls = numbers-fall list book in
    let bust_is : entry_in list bust ≡ entry_at (reverse list) (bust_in (links_of list) root) =
    in-at list bust book ∙ ap (entry_at (reverse list)) (is_bust ∙ ap (λ all. bust_in all root) are) in
    ap (λ all. all ++ from_in root (reverse list) current) (found ∙ ap one bust_is)
    ∙ ap (λ next. one (entry_at (reverse list) (bust_in (links_of list) root)) ++ from_in root (reverse list) next) (is_current ∙ ap (λ all. current_in all root) are)
    ∙ one-before (entry_at (reverse list) (bust_in (links_of list) root)) (from_in root (reverse list) (current_in (links_of list) root))
    ∙ ap (cons_option (entry_at (reverse list) (bust_in (links_of list) root))) (sym (from-current root (reverse list) falls))
    ∙ sym (chain-parts root (reverse list) falls (and_parts _ _ book).1)

pub go-on :
    (list : List Entry) (links : List Link) (root : ExecKey) (number : ℕ) (next : Option ℕ) (before after whole : List Entry) → is_book list ≡ true → links ≡ links_of list
    → next ≡ version_before_in links number root → after ≡ before ++ one (entry_in list (Some number)) → before ++ from_in root (reverse list) (Some number) ≡ whole
    → after ++ from_in root (reverse list) next ≡ whole
go-on list links root number next before after whole book are is_next more so_far =
    let falls = numbers-fall list book in
    let found = entry_at (reverse list) (Some number) in
    ap (λ all. all ++ from_in root (reverse list) next) (more ∙ ap (λ entry. before ++ one entry) (in-at list (Some number) book))
    ∙ append_assoc before (one found) (from_in root (reverse list) next)
    ∙ ap (λ all. before ++ all) (one-before found (from_in root (reverse list) next)
    ∙ ap (cons_option found) (ap (from_in root (reverse list)) (is_next ∙ ap (λ all. version_before_in all number root) are) ∙ sym (from-before root number (reverse list) falls)))
    ∙ so_far

pub smaller : (links : List Link) (root : ExecKey) (number : ℕ) (next : Option ℕ) → next ≡ version_before_in links number root → option_map_or (λ n. n + 1) next 0 < number + 1
smaller links root number next is = less next (subst (λ found. IfSome found (λ n. n < number)) (sym is) (before-under root number links))
  where
    less : (found : Option ℕ) → IfSome found (λ n. n < number) → option_map_or (λ n. n + 1) found 0 < number + 1
    less None under = omega arith
    less (Some n) under = (let below : n < number = under in omega (arith, below))
