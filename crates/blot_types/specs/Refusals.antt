-- Why a list of entries refuses a command: one definition a rule. The entries are newest first.
use Rattle.std.specs.Prelude.{ℕ, ◌==◌, Bool, true, false, ◌&&◌, not, ℤ, pos, List, [], ◌∷◌, ◌++◌, Option, Some, None, find, is_none, is_some, if◌then◌else◌, filter_map, option_map, option_and_then}
use Rattle.std.specs.List.{list_any}
use Rattle.std.specs.Option.{option_map_or, option_or}
use Rattle.std.specs.Ordering.{int_eq}
use Rattle.blot_types.specs.declared.{allocation.Instruction.Instruction, allocation.Line.Line, allocation.Terms.Terms, command.Command.Command, command.Entry.Entry, fill.Fill.Fill, fill.Sign.Sign, keys.AllocKey.AllocKey, keys.ExecKey.ExecKey, link.Link.Link, refused.Refused.Refused}
use Rattle.blot_types.specs.declared.command.Command.TheVariants.{Trade, Correct, Bust, AllocNew, AllocReplace, AllocCancel, Withdraw}
use Rattle.blot_types.specs.declared.fill.Sign.TheVariants.{Buy, Sell}
use Rattle.blot_types.specs.declared.refused.Refused.TheVariants.{DuplicateExec, DuplicateAlloc, UnknownAlloc, DeadAlloc, UnknownExec, BustedExec, RepeatedExec, ExecTaken, Instrument, Quantity, NotLive}
use Rattle.blot_types.specs.Allocations.{allocation_of, instructions_in}
use Rattle.blot_types.specs.Chains.{taker_in, root_in, is_root, bust_in, current_of_key}
use Rattle.blot_types.specs.Instructions.{alloc_taker_in, is_allocation_in, ended_in, other_holder_in}
use Rattle.blot_types.specs.Keys.{same_text}
use Rattle.blot_types.specs.Order.{total, cum_of}
use Rattle.blot_types.specs.Survivors.{links_in, version_numbered}

-- ---- what a command says, by its kind

-- the execution that it takes up
abbrev pub exec_key : Command → Option ExecKey
exec_key (Trade trade) = Some trade.key
exec_key (Correct correct) = Some correct.key
exec_key (Bust bust) = Some bust.key
exec_key _ = None

-- the allocation that it takes up
abbrev pub alloc_key : Command → Option AllocKey
alloc_key (AllocNew new) = Some new.key
alloc_key (AllocReplace replace) = Some replace.key
alloc_key (AllocCancel cancel) = Some cancel.key
alloc_key _ = None

-- the allocation that it refers to
abbrev pub alloc_reference : Command → Option AllocKey
alloc_reference (AllocReplace replace) = Some replace.reference
alloc_reference (AllocCancel cancel) = Some cancel.reference
alloc_reference _ = None

-- what it allocates
abbrev pub terms_of : Command → Option Terms
terms_of command = option_map (λ allocation. allocation.terms) (allocation_of command)

-- the executions that it lists to be allocated
abbrev pub listed_by : Command → List ExecKey
listed_by command = option_map_or (λ terms. terms.execs) (terms_of command) []

-- the executions that it refers to: that of a Correct or a Bust, those that an allocation lists
abbrev pub exec_references : Command → List ExecKey
exec_references (Correct correct) = correct.reference ∷ []
exec_references (Bust bust) = bust.reference ∷ []
exec_references command = listed_by command

-- the number of the entry that it takes out of the list: a Withdraw takes one out, and so is never an entry itself
abbrev pub withdrawn_by : Command → Option ℕ
withdrawn_by (Withdraw withdrawn) = Some withdrawn
withdrawn_by _ = None

-- ---- what the rules ask

-- whether the entry of a number is there
abbrev pub is_live : ℕ → List Entry → Bool
is_live number list = is_some (find (λ entry. entry.number == number) list)

-- the first answer that a question gives of some items, in their order
abbrev pub first_of : {A B : Type 0} → (A → Option B) → List A → Option B
first_of question [] = None
first_of question (item ∷ later) = option_or (question item) (first_of question later)

-- the number of the Bust of the chain of a key
abbrev pub bust_of_key : List Link → ExecKey → Option ℕ
bust_of_key links key = option_and_then (bust_in links) (root_in links key)

-- whether two keys are of one chain
abbrev pub same_chain : List Link → ExecKey → ExecKey → Bool
same_chain links key other = option_map_or (λ root. is_root root (root_in links other)) (root_in links key) false

-- the first key that is of the chain of one listed before it
abbrev pub repeated_in : List Link → List ExecKey → List ExecKey → Option ExecKey
repeated_in links before [] = None
repeated_in links before (key ∷ later) =
    if list_any (same_chain links key) before then Some key else repeated_in links (before ++ key ∷ []) later

-- the number of the live allocation that names the chain of a key, other than the one referred to
abbrev pub other_holder : List Link → List Instruction → Option AllocKey → ExecKey → Option ℕ
other_holder links instructions reference key = option_and_then (other_holder_in instructions reference) (root_in links key)

-- the fill of the last version of the chain of a key
abbrev pub current_fill : List Entry → ExecKey → Option Fill
current_fill entries key =
    option_map (λ version. version.fill)
    (option_and_then (version_numbered entries) (current_of_key (links_in entries) key))

-- whether two signs are one
abbrev pub same_sign : Sign → Sign → Bool
same_sign Buy Buy = true
same_sign Sell Sell = true
same_sign _ _ = false

-- whether a fill is of another instrument or side than the terms
abbrev pub differs : Terms → Fill → Bool
differs terms fill = not (same_text fill.symbol terms.symbol && same_sign fill.sign terms.sign)

-- the quantity that lines book
abbrev pub booked : List Line → ℤ
booked lines = total (λ line. pos line.qty) lines

-- the quantity found that isn't the one wanted: the block's, else the lines'
abbrev pub mismatch : ℤ → ℤ → ℤ → Option Refused
mismatch wanted block lines =
    if not (int_eq block wanted) then Some (Quantity wanted block)
    else if not (int_eq lines wanted) then Some (Quantity wanted lines) else None

-- ---- the rules, in their order

-- as an entry a Withdraw is refused by any list
abbrev pub never_entry : Command → Option Refused
never_entry command = option_map NotLive (withdrawn_by command)

-- DuplicateExec: an entry took up the execution that the command takes up; the number of that entry
abbrev pub duplicate_exec : List Entry → Command → Option Refused
duplicate_exec entries command = option_map DuplicateExec (option_and_then (taker_in (links_in entries)) (exec_key command))

-- DuplicateAlloc: an entry took up the allocation that the command takes up; the number of that entry
abbrev pub duplicate_alloc : List Entry → Command → Option Refused
duplicate_alloc entries command =
    option_map DuplicateAlloc (option_and_then (alloc_taker_in (instructions_in entries)) (alloc_key command))

-- UnknownAlloc: no AllocNew or AllocReplace took up the allocation that the command refers to
abbrev pub unknown_alloc : List Entry → Command → Option Refused
unknown_alloc entries command =
    option_and_then (λ key. if is_allocation_in (instructions_in entries) key then None else Some UnknownAlloc) (alloc_reference command)

-- DeadAlloc: the allocation that the command refers to was replaced or cancelled; the number of the entry that did so
abbrev pub dead_alloc : List Entry → Command → Option Refused
dead_alloc entries command = option_map DeadAlloc (option_and_then (ended_in (instructions_in entries)) (alloc_reference command))

-- UnknownExec: an execution that the command refers to has no root; the first such execution
abbrev pub unknown_exec : List Entry → Command → Option Refused
unknown_exec entries command = option_map UnknownExec (find (λ key. is_none (root_in (links_in entries) key)) (exec_references command))

-- BustedExec: the chain of an execution that the command refers to is busted; the number of that Bust, for the first such
-- execution
abbrev pub busted_exec : List Entry → Command → Option Refused
busted_exec entries command = option_map BustedExec (first_of (bust_of_key (links_in entries)) (exec_references command))

-- RepeatedExec: the command lists an execution of the chain of one listed before it; the first such execution
abbrev pub repeated_exec : List Entry → Command → Option Refused
repeated_exec entries command = option_map RepeatedExec (repeated_in (links_in entries) [] (listed_by command))

-- ExecTaken: a live allocation, other than the one referred to, names the chain of a listed execution; the number of that
-- allocation, for the first such execution
abbrev pub exec_taken : List Entry → Command → Option Refused
exec_taken entries command =
    option_map ExecTaken (first_of (other_holder (links_in entries) (instructions_in entries) (alloc_reference command)) (listed_by command))

-- Instrument: the last version of a listed execution has another symbol or sign than the allocation; the first such execution
abbrev pub instrument : List Entry → Command → Option Refused
instrument entries command =
    option_and_then (λ terms. option_map Instrument (find (λ key. option_map_or (differs terms) (current_fill entries key) false) terms.execs))
    (terms_of command)

-- Quantity: the block, or else the lines' sum, isn't the quantity of the listed executions' last versions; that quantity, and
-- the one that differs
abbrev pub quantity : List Entry → Command → Option Refused
quantity entries command =
    option_and_then (λ terms. mismatch (cum_of (filter_map (current_fill entries) terms.execs)) (pos terms.block) (booked terms.lines)) (terms_of command)
