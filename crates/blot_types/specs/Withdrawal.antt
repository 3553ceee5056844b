-- Which entry is the first that needs another: what an entry uses of an earlier one, and a list without one, and with it put back.
use Rattle.std.specs.Prelude.{◌≡◌, ℕ, ◌==◌, Bool, false, ◌&&◌, ◌||◌, not, List, [], ◌∷◌, ◌++◌, filter, reverse, Option, Some, None, is_none, nat_lt, if◌then◌else◌, option_and_then}
use Rattle.std.specs.List.{list_any}
use Rattle.std.specs.Option.{option_map_or, option_or}
use Rattle.blot_types.specs.declared.{command.Bust.Bust, command.Command.Command, command.Entry.Entry, fill.Fill.Fill, keys.AllocKey.AllocKey, keys.ExecKey.ExecKey}
use Rattle.blot_types.specs.declared.command.Command.TheVariants.{Correct, Bust as BustCommand}
use Rattle.blot_types.specs.Allocations.{allocation_of, instructions_in}
use Rattle.blot_types.specs.Chains.{root_in, current_of_key}
use Rattle.blot_types.specs.Instructions.{is_allocation_of, names, is_reference}
use Rattle.blot_types.specs.Keys.{same_text, is_among}
use Rattle.blot_types.specs.Legal.{is_book, without, least_needing}
use Rattle.blot_types.specs.Refusals.{alloc_reference, exec_references, listed_by, current_fill, same_sign}
use Rattle.blot_types.specs.Survivors.{is_number, links_in, version_of}

-- ---- by what is used of k. The entries stand newest first: those before m, k among them

-- m refers to the execution whose version k brings, or lists it
abbrev pub needs_execution : Entry → Command → Bool
needs_execution k command = option_map_or (λ version. is_among (exec_references command) version.key) (version_of k) false

-- m refers to the allocation that k brings
abbrev pub needs_allocation : Entry → Command → Bool
needs_allocation k command = option_map_or (λ allocation. is_reference (alloc_reference command) allocation.key) (allocation_of k.command) false

-- what a Correct refers to
abbrev pub corrected_by : Command → Option ExecKey
corrected_by (Correct correct) = Some correct.reference
corrected_by _ = None

-- the entries numbered below a number
abbrev pub below : ℕ → List Entry → List Entry
below number entries = filter (λ entry. nat_lt entry.number number) entries

-- the fill in whose place k came, where k is a Correct: that of the chain's last version before k
abbrev pub fill_before : List Entry → Entry → Option Fill
fill_before before k = option_and_then (current_fill (below k.number before)) (corrected_by k.command)

-- what an allocation asks of a fill is the same of both
abbrev pub alike : Fill → Fill → Bool
alike a b = same_text a.symbol b.symbol && same_sign a.sign b.sign && (a.qty == b.qty)

-- whether k is a Correct whose fill isn't like the one in whose place it came
abbrev pub changes_fill : List Entry → Entry → Bool
changes_fill before k = option_map_or (λ version. option_map_or (λ old. not (alike version.fill old)) (fill_before before k) false) (version_of k) false

-- whether the version of a number is the last one of the chain of a key
abbrev pub is_last_of : List Entry → ℕ → ExecKey → Bool
is_last_of before number key = is_number number (current_of_key (links_in before) key)

-- m lists an execution of k's chain, k is the chain's last version, and it changed the fill
abbrev pub needs_version : List Entry → Entry → Command → Bool
needs_version before k command = changes_fill before k && list_any (is_last_of before k.number) (listed_by command)

-- whether the allocation of a key names the chain of an execution
abbrev pub names_chain_of : List Entry → AllocKey → ExecKey → Bool
names_chain_of before allocation key =
    option_map_or (λ root. list_any (λ i. is_allocation_of allocation i && names root i) (instructions_in before)) (root_in (links_in before) key) false

-- m lists an execution of a chain that the allocation names which k ended
abbrev pub needs_end : List Entry → Entry → Command → Bool
needs_end before k command = option_map_or (λ allocation. list_any (names_chain_of before allocation) (listed_by command)) (alloc_reference k.command) false

-- m needs k
abbrev pub needs : List Entry → Entry → Command → Bool
needs before k command = needs_execution k command || needs_version before k command || needs_allocation k command || needs_end before k command

-- the number of the first entry after k that needs k
abbrev pub needed_in : Entry → List Entry → Option ℕ
needed_in k [] = None
needed_in k (entry ∷ earlier) =
    option_or (needed_in k earlier) (if nat_lt k.number entry.number && needs earlier k entry.command then Some entry.number else None)

abbrev pub first_needing : List Entry → Entry → Option ℕ
first_needing list k = needed_in k (reverse list)

-- ---- taken out, and put back

-- an entry put in at its place, by its number. The entries stand newest first
abbrev pub put_back_in : Entry → List Entry → List Entry
put_back_in entry [] = entry ∷ []
put_back_in entry (other ∷ earlier) =
    if nat_lt other.number entry.number then entry ∷ other ∷ earlier else other ∷ put_back_in entry earlier

-- the same, of a list in rising order
abbrev pub put_back : Entry → List Entry → List Entry
put_back entry list = reverse (put_back_in entry (reverse list))

-- ---- the laws

-- an entry that is taken out and put back stands where it stood
abbrev pub IsPutBack : List Entry → Type 0
IsPutBack list = (front back : List Entry) (k : Entry) → list ≡ front ++ k ∷ back → put_back k (without k.number list) ≡ list

-- nothing needs a Bust
abbrev pub IsBustUnneeded : List Entry → Type 0
IsBustUnneeded list =
    (front back : List Entry) (number : ℕ) (bust : Bust) → list ≡ front ++ record { number = number; command = BustCommand bust } ∷ back
    → least_needing list number ≡ None

-- the first entry that fails without k is the first that uses something of k
abbrev pub IsNeededFirst : List Entry → Type 0
IsNeededFirst list = (front back : List Entry) (k : Entry) → list ≡ front ++ k ∷ back → least_needing list k.number ≡ first_needing list k

-- a book without one of its entries is a book exactly where no entry needs that one
abbrev pub IsWithdrawn : List Entry → Type 0
IsWithdrawn list = (front back : List Entry) (k : Entry) → list ≡ front ++ k ∷ back → is_book (without k.number list) ≡ is_none (least_needing list k.number)
