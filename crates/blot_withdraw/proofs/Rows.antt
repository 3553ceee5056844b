-- The definitions, computed on worked days. Executions E1, E2, .. and orders O1, O2, .. are of one peer, allocations
-- L1, L2, .. too; quantities are in units of 10^-6, prices in units of 10^-8.
use Rattle.std.proofs.Common.{◌≡◌, ℕ, ◌*◌, ◌^◌, pos, List, [], ◌∷◌, map, Option, Some, None, true, false, refl}
use Rattle.blot_types.specs.declared.{allocation.Terms.Terms, command.Entry.Entry, fill.Fill.Fill, fill.Sign.TheVariants.Buy, keys.AllocKey.AllocKey, keys.ExecKey.ExecKey, lines.OrderLine.OrderLine, lines.PositionLine.PositionLine}
use Rattle.blot_types.specs.declared.command.Command.TheVariants.{Trade, Correct, Bust, AllocNew, AllocReplace, AllocCancel}
use Rattle.blot_types.specs.Legal.{is_book}
use Rattle.blot_types.specs.Order.{order_of}
use Rattle.blot_types.specs.Position.{position_of}
use Rattle.blot_withdraw.specs.declared.fault.EraseFault.TheVariants.{UnknownExec, NotBusted, Named}
use Rattle.blot_withdraw.specs.Erasure.{chained_by, is_of_chain, without_chain, without_chain_of, lists_chain, first_listing, chain_fault, erase_fault}

abbrev exec : ℕ → ExecKey
exec n = record { peer = 66 ∷ []; id = 69 ∷ n ∷ [] }

abbrev alloc : ℕ → AllocKey
alloc n = record { peer = 66 ∷ []; id = 76 ∷ n ∷ [] }

-- so many bought of order O1, of 300, for account A1, at a whole price
abbrev bought : ℕ → ℕ → Fill
bought qty price = record {
  order = record { peer = 66 ∷ []; id = 79 ∷ 1 ∷ [] };
  account = Some (65 ∷ 1 ∷ []);
  symbol = 88 ∷ [];
  sign = Buy;
  size = pos (300 * 10 ^ 6);
  qty = qty * 10 ^ 6;
  price = pos (price * 10 ^ 8);
  day = pos 0;
}

abbrev trade : ℕ → ℕ → ℕ → ℕ → Entry
trade number key qty price = record { number = number; command = Trade (record { key = exec key; fill = bought qty price }) }

abbrev correct : ℕ → ℕ → ℕ → ℕ → ℕ → Entry
correct number key reference qty price =
    record { number = number; command = Correct (record { key = exec key; reference = exec reference; fill = bought qty price }) }

abbrev bust : ℕ → ℕ → ℕ → Entry
bust number key reference = record { number = number; command = Bust (record { key = exec key; reference = exec reference }) }

-- one execution, a block of so many, all to account B at 11
abbrev block : ℕ → ℕ → Terms
block key qty = record {
  symbol = 88 ∷ [];
  sign = Buy;
  day = pos 0;
  block = qty * 10 ^ 6;
  execs = exec key ∷ [];
  lines = record { account = 66 ∷ []; qty = qty * 10 ^ 6; price = pos (11 * 10 ^ 8) } ∷ [];
}

abbrev allocated : ℕ → ℕ → ℕ → ℕ → Entry
allocated number key listed qty = record { number = number; command = AllocNew (record { key = alloc key; terms = block listed qty }) }

abbrev replaced : ℕ → ℕ → ℕ → ℕ → ℕ → Entry
replaced number key reference listed qty =
    record { number = number; command = AllocReplace (record { key = alloc key; reference = alloc reference; terms = block listed qty }) }

abbrev cancelled : ℕ → ℕ → ℕ → Entry
cancelled number key reference = record { number = number; command = AllocCancel (record { key = alloc key; reference = alloc reference }) }

-- what is bought of order O1: filled, left, and its value
abbrev shows : ℕ → ℕ → ℕ → Option OrderLine
shows cum leaves value = Some (record {
  cum = pos (cum * 10 ^ 6);
  leaves = pos (leaves * 10 ^ 6);
  value = pos (value * 10 ^ 14);
  symbol = 88 ∷ [];
  sign = Buy;
})

-- what account A1 holds, and its value
abbrev holds : ℕ → ℕ → Option PositionLine
holds qty value = Some (record { qty = pos (qty * 10 ^ 6); value = pos (value * 10 ^ 14) })

-- ---- a busted Trade, and another on the same order

abbrev day : List Entry
day = trade 1 1 100 10 ∷ bust 2 4 1 ∷ trade 3 2 50 11 ∷ []

day_book : is_book day ≡ true
day_book = refl

day_rest : without_chain_of day (exec 1) ≡ trade 3 2 50 11 ∷ []
day_rest = refl

day_line : order_of (without_chain_of day (exec 1)) (bought 50 11).order ≡ shows 50 250 550
day_line = refl

day_position : position_of (without_chain_of day (exec 1)) (65 ∷ 1 ∷ []) (88 ∷ []) ≡ holds 50 550
day_position = refl

day_faults : map (erase_fault day) (exec 1 ∷ exec 2 ∷ []) ≡ None ∷ Some NotBusted ∷ []
day_faults = refl

-- a Bust's own key has no root
day_unknown : map (erase_fault day) (exec 4 ∷ exec 9 ∷ []) ≡ Some UnknownExec ∷ Some UnknownExec ∷ []
day_unknown = refl

-- ---- a corrected chain among another's entries: any key of it will do

abbrev corrected : List Entry
corrected = trade 1 1 100 10 ∷ trade 2 2 50 11 ∷ correct 3 3 1 80 10 ∷ correct 4 5 2 60 11 ∷ correct 5 6 3 70 10 ∷ bust 6 4 3 ∷ []

corrected_rests :
    map (without_chain_of corrected) (exec 1 ∷ exec 3 ∷ exec 6 ∷ [])
    ≡ (trade 2 2 50 11 ∷ correct 4 5 2 60 11 ∷ []) ∷ (trade 2 2 50 11 ∷ correct 4 5 2 60 11 ∷ []) ∷ (trade 2 2 50 11 ∷ correct 4 5 2 60 11 ∷ []) ∷ []
corrected_rests = refl

-- ---- a busted chain that an allocation lists, by an older version: live, cancelled, replaced

abbrev named : List Entry
named = trade 1 1 100 10 ∷ correct 2 3 1 50 11 ∷ allocated 3 1 1 50 ∷ bust 4 4 3 ∷ []

named_fault : erase_fault named (exec 3) ≡ Some (Named 3)
named_fault = refl

abbrev once_named : List Entry
once_named = trade 1 1 50 11 ∷ trade 2 2 50 11 ∷ allocated 3 1 1 50 ∷ cancelled 4 2 1 ∷ bust 5 4 1 ∷ []

once_named_fault : erase_fault once_named (exec 1) ≡ Some (Named 3)
once_named_fault = refl

abbrev replaced_by_another : List Entry
replaced_by_another = trade 1 1 50 11 ∷ trade 2 2 50 11 ∷ allocated 3 1 1 50 ∷ replaced 4 2 1 2 50 ∷ bust 5 4 1 ∷ []

replaced_fault : erase_fault replaced_by_another (exec 1) ≡ Some (Named 3)
replaced_fault = refl

replaced_book : is_book replaced_by_another ≡ true
replaced_book = refl

-- ---- word by word

chained : map (λ entry. chained_by entry.command) (trade 1 1 50 11 ∷ bust 2 4 1 ∷ allocated 3 1 1 50 ∷ []) ≡ Some (exec 1) ∷ Some (exec 1) ∷ None ∷ []
chained = refl

of_chain : map (is_of_chain day (exec 1)) day ≡ true ∷ true ∷ false ∷ []
of_chain = refl

rest_of_day : without_chain day (exec 1) ≡ trade 3 2 50 11 ∷ []
rest_of_day = refl

listed : map (lists_chain named (exec 1)) named ≡ false ∷ false ∷ true ∷ false ∷ []
listed = refl

first_listed : map (first_listing named) (exec 1 ∷ exec 2 ∷ []) ≡ Some 3 ∷ None ∷ []
first_listed = refl

faults_of_chains : map (chain_fault day) (exec 1 ∷ exec 2 ∷ []) ≡ None ∷ Some NotBusted ∷ []
faults_of_chains = refl

faults_of_keys : map (erase_fault day) (exec 9 ∷ exec 1 ∷ exec 2 ∷ []) ≡ Some UnknownExec ∷ None ∷ Some NotBusted ∷ []
faults_of_keys = refl
