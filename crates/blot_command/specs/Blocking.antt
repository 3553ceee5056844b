-- Which entry is the first that needs another, as the code asks it: over entries, and the chains and the allocations that are theirs.
use Rattle.std.specs.Prelude.{ℕ, ◌+◌, Bool, false, ◌&&◌, ◌||◌, not, List, Option, None, find, nat_lt, unwrap_or, if◌then◌else◌, option_and_then}
use Rattle.std.specs.Option.{option_map_or}
use Rattle.blot_types.specs.declared.{allocation.Instruction.Instruction, command.Command.Command, command.Correct.Correct as CorrectCommand, command.Entry.Entry, fill.Fill.Fill, keys.ExecKey.ExecKey, link.Link.Link, TheConstants.EVENTS_MAX}
use Rattle.blot_types.specs.declared.command.Command.TheVariants.{Trade, Correct, Bust, AllocNew, AllocReplace, AllocCancel, Withdraw}
use Rattle.blot_types.specs.Chains.{first_needing_link, root_in, version_after_in, version_before_in}
use Rattle.blot_types.specs.Instructions.{first_instruction, first_naming, first_needing_instruction, names}
use Rattle.blot_types.specs.Keys.{is_among}
use Rattle.blot_types.specs.Lesser.{lesser}
use Rattle.blot_types.specs.Refusals.{listed_by}
use Rattle.blot_types.specs.Survivors.{version_numbered}
use Rattle.blot_types.specs.Withdrawal.{alike}
use Rattle.blot_command.specs.Book.{has_number}

-- whether the entry of a number lists an execution
abbrev pub lists_at : List Entry → ExecKey → ℕ → Bool
lists_at entries key number = option_map_or (λ entry. is_among (listed_by entry.command) key) (find (has_number number) entries) false

-- whether an instruction needs the Correct of this key, of the chain of this root: it lists an execution of the chain, and is
-- numbered below `until` or lists the Correct itself
abbrev pub needs_correct : List Entry → ExecKey → ExecKey → ℕ → Instruction → Bool
needs_correct entries key root until instruction =
    names root instruction && (nat_lt instruction.number until || lists_at entries key instruction.number)

-- the number of the first instruction above a number that needs the Correct
abbrev pub first_listing : List Entry → ExecKey → ExecKey → ℕ → ℕ → List Instruction → Option ℕ
first_listing entries key root until number instructions = first_instruction (needs_correct entries key root until) number instructions

-- whether a fill isn't like that of the last version of the chain of a root below a number
abbrev pub changes_version : List Entry → List Link → ℕ → ExecKey → Fill → Bool
changes_version entries links number root fill =
    option_map_or (λ version. not (alike fill version.fill)) (option_and_then (version_numbered entries) (version_before_in links number root)) false

-- the number below which allocations see the fill of the version of a number as one that was changed: that of the chain's next
-- version, one above all where there is none, and 0 where the version changed nothing
abbrev pub needed_until : List Entry → List Link → ℕ → ExecKey → Fill → ℕ
needed_until entries links number root fill =
    if changes_version entries links number root fill then unwrap_or (version_after_in links number root) (EVENTS_MAX + 1) else 0

-- the number of the first entry that needs a Correct
abbrev pub blocked_correct : List Entry → List Link → List Instruction → ℕ → CorrectCommand → Option ℕ
blocked_correct entries links instructions number correct =
    option_and_then
    (λ root.
    lesser (first_needing_link links number)
    (first_listing entries correct.key root (needed_until entries links number root correct.fill) number instructions))
    (root_in links correct.key)

-- the number of the first entry that needs the command of a number
abbrev pub blocked_by : List Entry → List Link → List Instruction → ℕ → Command → Option ℕ
blocked_by entries links instructions number (Trade trade) = lesser (first_needing_link links number) (first_naming instructions number trade.key)
blocked_by entries links instructions number (Correct correct) = blocked_correct entries links instructions number correct
blocked_by entries links instructions number (Bust bust) = None
blocked_by entries links instructions number (AllocNew new) = first_needing_instruction instructions number
blocked_by entries links instructions number (AllocReplace replace) = first_needing_instruction instructions number
blocked_by entries links instructions number (AllocCancel cancel) = first_needing_instruction instructions number
blocked_by entries links instructions number (Withdraw withdrawn) = None
