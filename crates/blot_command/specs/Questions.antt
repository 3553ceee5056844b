-- What is told of an execution, of an allocation, and of a withdrawal that isn't made. A word that ends in `_in` reads the entries newest
-- first: after an entry stand the earlier ones.
use Rattle.std.specs.Prelude.{ℕ, Bool, false, List, [], ◌∷◌, reverse, Option, find, if◌then◌else◌, option_map, option_and_then}
use Rattle.std.specs.Option.{option_map_or}
use Rattle.blot_types.specs.declared.{command.Entry.Entry, keys.AllocKey.AllocKey, keys.ExecKey.ExecKey}
use Rattle.blot_types.specs.Allocations.{instructions_of}
use Rattle.blot_types.specs.Chains.{bust_in, current_in, is_root}
use Rattle.blot_types.specs.Instructions.{ended_in, holder_in}
use Rattle.blot_types.specs.Keys.{same_alloc}
use Rattle.blot_types.specs.Refusals.{alloc_key}
use Rattle.blot_types.specs.StandingVersion.{chain_by}
use Rattle.blot_types.specs.Survivors.{link_of, links_in, links_of}
use Rattle.blot_command.specs.Book.{has_number}
use Rattle.blot_command.specs.Withdrawing.{takes_exec}
use Rattle.blot_command.specs.declared.{questions.AllocationAnswer.AllocationAnswer, questions.ExecutionAnswer.ExecutionAnswer}

-- whether an entry is of the chain of a root: it begins it, or corrects or busts an execution of it
abbrev pub is_of_chain : List Entry → ExecKey → Entry → Bool
is_of_chain earlier root entry = is_root root (chain_by (links_in earlier) (link_of entry))

-- the entries of the chain of a root
abbrev pub chain_in : List Entry → ExecKey → List Entry
chain_in [] root = []
chain_in (entry ∷ earlier) root = if is_of_chain earlier root entry then entry ∷ chain_in earlier root else chain_in earlier root

-- the same, in list order
abbrev pub chain_entries : List Entry → ExecKey → List Entry
chain_entries list root = reverse (chain_in (reverse list) root)

-- the entry of a number, if there is one and it is there
abbrev pub entry_in : List Entry → Option ℕ → Option Entry
entry_in list number = option_and_then (λ n. find (has_number n) list) number

-- whether an entry takes up the key of an allocation
abbrev pub takes_alloc : AllocKey → Entry → Bool
takes_alloc key entry = option_map_or (λ own. same_alloc own key) (alloc_key entry.command) false

-- the root of the chain that the entry of a key begins, corrects or busts
abbrev pub chain_keyed : List Entry → ExecKey → Option ExecKey
chain_keyed list key = option_and_then (λ entry. chain_by (links_of list) (link_of entry)) (find (takes_exec key) (reverse list))

-- what is told of the chain of a root: its entries, the Bust that ended it, its last version, and the live allocation that names it
abbrev pub chain_answer : List Entry → ExecKey → ExecutionAnswer
chain_answer list root = record {
  entries = chain_entries list root;
  bust = bust_in (links_of list) root;
  version = current_in (links_of list) root;
  allocation = holder_in (instructions_of list) root;
}

-- what is told of an execution: of the chain of its entry; nothing where no entry takes its key up
abbrev pub execution_of : List Entry → ExecKey → Option ExecutionAnswer
execution_of list key = option_map (chain_answer list) (chain_keyed list key)

-- what is told of an allocation: the entry that takes up its key, and the entry that replaced or cancelled it
abbrev pub allocation_of : List Entry → AllocKey → Option AllocationAnswer
allocation_of list key =
    option_map (λ entry. record { entry = entry; ended = ended_in (instructions_of list) key }) (find (takes_alloc key) (reverse list))
