-- A list of entries without one chain of executions, and when a chain can be taken out of it.
use Rattle.std.specs.Prelude.{◌≡◌, ℕ, ◌⊎◌, Bool, not, List, filter, find, Option, Some, None, is_none, if◌then◌else◌, option_map, option_and_then}
use Rattle.std.specs.List.{list_any}
use Rattle.std.specs.Option.{option_map_or}
use Rattle.blot_types.specs.declared.{command.Command.Command, command.Entry.Entry, keys.ExecKey.ExecKey, keys.OrderKey.OrderKey}
use Rattle.blot_types.specs.declared.command.Command.TheVariants.{Trade, Correct, Bust}
use Rattle.blot_types.specs.Chains.{is_root, bust_in}
use Rattle.blot_types.specs.Order.{order_of}
use Rattle.blot_types.specs.Position.{position_of}
use Rattle.blot_types.specs.Refusals.{listed_by}
use Rattle.blot_types.specs.Survivors.{links_of, root_of}
use Rattle.blot_withdraw.specs.declared.fault.EraseFault.{EraseFault}
use Rattle.blot_withdraw.specs.declared.fault.EraseFault.TheVariants.{UnknownExec, NotBusted, Named, NoMemory}

-- the execution by which a command is of a chain: its own for a Trade and a Correct, its reference for a Bust
abbrev pub chained_by : Command → Option ExecKey
chained_by (Trade trade) = Some trade.key
chained_by (Correct correct) = Some correct.key
chained_by (Bust bust) = Some bust.reference
chained_by _ = None

-- whether an entry is of the chain of a root: it is its Trade, one of its Corrects, or its Bust
abbrev pub is_of_chain : List Entry → ExecKey → Entry → Bool
is_of_chain list root entry = is_root root (option_and_then (root_of list) (chained_by entry.command))

-- the list without that chain
abbrev pub without_chain : List Entry → ExecKey → List Entry
without_chain list root = filter (λ entry. not (is_of_chain list root entry)) list

-- the list without the chain of a key; the list itself where the key has no root
abbrev pub without_chain_of : List Entry → ExecKey → List Entry
without_chain_of list key = option_map_or (without_chain list) (root_of list key) list

-- whether an entry is an allocation, live or ended, that lists an execution of the chain of a root
abbrev pub lists_chain : List Entry → ExecKey → Entry → Bool
lists_chain list root entry = list_any (λ key. is_root root (root_of list key)) (listed_by entry.command)

-- the number of the first that does
abbrev pub first_listing : List Entry → ExecKey → Option ℕ
first_listing list root = option_map (λ entry. entry.number) (find (lists_chain list root) list)

-- why the chain of a root isn't taken out: it isn't busted, or else an allocation lists an execution of it
abbrev pub chain_fault : List Entry → ExecKey → Option EraseFault
chain_fault list root = if is_none (bust_in (links_of list) root) then Some NotBusted else option_map Named (first_listing list root)

-- why the chain of a key isn't taken out: the key has no root, or else why that of its root isn't
abbrev pub erase_fault : List Entry → ExecKey → Option EraseFault
erase_fault list key = option_map_or (chain_fault list) (root_of list key) (Some UnknownExec)

-- the first fault that applies; or none applies, and memory ran out
abbrev pub IsEraseFault : List Entry → ExecKey → EraseFault → Type 0
IsEraseFault list key fault = erase_fault list key ≡ Some fault ⊎ ((erase_fault list key ≡ None) × (fault ≡ NoMemory))

-- each order has the line by one list that it has by another; so has each position
abbrev pub SameOrders : List Entry → List Entry → Type 0
SameOrders list other = (order : OrderKey) → order_of other order ≡ order_of list order

abbrev pub SamePositions : List Entry → List Entry → Type 0
SamePositions list other = (account symbol : List ℕ) → position_of other account symbol ≡ position_of list account symbol
