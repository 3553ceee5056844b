-- What an entry of a Trade is to the entries before it: nothing.
use Rattle.std.proofs.Common.{◌≡◌, ℕ, List, None, refl, IsSome}
use Rattle.blot_types.specs.declared.{command.Command.Command, command.Entry.Entry}
use Rattle.blot_types.specs.declared.command.Command.TheVariants.{Trade, Correct, Bust, AllocNew, AllocReplace, AllocCancel, Withdraw}
use Rattle.blot_types.specs.Refusals.{alloc_reference}
use Rattle.blot_types.proofs.ChangeLemmas.{replaced_version}
use Rattle.blot_command.specs.Kinds.{trade_of}
use Rattle.blot_command.specs.Shown.{version_replaced}
use Rattle.blot_command.proofs.EntryMoveLemmas.{own_key}

-- it replaces no version, ends no allocation and brings none
pub record IsAlone (list : List Entry) (entry : Entry) : Type 0 where
  pub replaces : version_replaced list entry ≡ None
  pub was : replaced_version list entry ≡ None
  pub ends : alloc_reference entry.command ≡ None
  pub brings : own_key entry ≡ None

alone-by : (list : List Entry) (number : ℕ) (command : Command) → IsSome (trade_of command) → IsAlone list (record { number = number; command = command })
alone-by list number (Trade trade) is = record { replaces = refl; was = refl; ends = refl; brings = refl }
alone-by list number (Correct correct) is = cc
alone-by list number (Bust bust) is = cc
alone-by list number (AllocNew new) is = cc
alone-by list number (AllocReplace replace) is = cc
alone-by list number (AllocCancel cancel) is = cc
alone-by list number (Withdraw withdrawn) is = cc

pub alone : (list : List Entry) (entry : Entry) → IsSome (trade_of entry.command) → IsAlone list entry
alone list entry is = alone-by list entry.number entry.command is
