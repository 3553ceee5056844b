-- Which entry is the first that needs another, by both definitions, and what a list is without an entry, computed on worked days.
use Rattle.std.proofs.Common.{◌≡◌, ℕ, ◌*◌, ◌^◌, pos, List, [], ◌∷◌, reverse, map, Option, Some, None, true, false, refl}
use Rattle.blot_types.specs.declared.{allocation.Terms.Terms, command.Command.Command, command.Entry.Entry, fill.Fill.Fill, fill.Sign.TheVariants.Buy, keys.AllocKey.AllocKey, keys.ExecKey.ExecKey}
use Rattle.blot_types.specs.declared.command.Command.TheVariants.{Trade, Correct, Bust, AllocNew, AllocReplace, AllocCancel}
use Rattle.blot_types.specs.declared.refused.Refused.TheVariants.{Needed, NotLive, UnknownExec}
use Rattle.blot_types.specs.Legal.{is_above_entries, rises_in, numbers_rise, refusal_in, entry_refusal, legal_in, is_legal, without, up_to, fails_at, least_needing, withdrawal_refusal, is_numbered, is_book}
use Rattle.blot_types.specs.Withdrawal.{first_needing, put_back_in, put_back}

abbrev exec : ℕ → ExecKey
exec n = record { peer = 66 ∷ []; id = 69 ∷ n ∷ [] }

abbrev alloc : ℕ → AllocKey
alloc n = record { peer = 66 ∷ []; id = 76 ∷ n ∷ [] }

abbrev filled : ℕ → Fill
filled qty = record {
  order = record { peer = 66 ∷ []; id = 79 ∷ [] };
  account = None;
  symbol = 88 ∷ [];
  sign = Buy;
  size = pos (300 * 10 ^ 6);
  qty = qty * 10 ^ 6;
  price = pos 1;
  day = pos 0;
}

abbrev block : ℕ → List ExecKey → Terms
block qty execs = record { symbol = 88 ∷ []; sign = Buy; day = pos 0; block = qty * 10 ^ 6; execs = execs; lines = record { account = 65 ∷ []; qty = qty * 10 ^ 6; price = pos 1 } ∷ [] }

abbrev trade : ℕ → ℕ → ℕ → Entry
trade number key qty = record { number = number; command = Trade (record { key = exec key; fill = filled qty }) }

abbrev correct : ℕ → ℕ → ℕ → ℕ → Entry
correct number key reference qty = record { number = number; command = Correct (record { key = exec key; reference = exec reference; fill = filled qty }) }

abbrev bust : ℕ → ℕ → ℕ → Entry
bust number key reference = record { number = number; command = Bust (record { key = exec key; reference = exec reference }) }

abbrev allocated : ℕ → ℕ → Terms → Entry
allocated number key terms = record { number = number; command = AllocNew (record { key = alloc key; terms = terms }) }

abbrev replaced : ℕ → ℕ → ℕ → Terms → Entry
replaced number key reference terms = record { number = number; command = AllocReplace (record { key = alloc key; reference = alloc reference; terms = terms }) }

abbrev cancelled : ℕ → ℕ → ℕ → Entry
cancelled number key reference = record { number = number; command = AllocCancel (record { key = alloc key; reference = alloc reference }) }

abbrev by_legality : List Entry → List (Option ℕ)
by_legality list = map (λ k. least_needing list k.number) list

abbrev by_use : List Entry → List (Option ℕ)
by_use list = map (first_needing list) list

-- an execution allocated, that allocation cancelled, and the execution allocated again
abbrev others_need : List Entry
others_need = trade 1 2 50 ∷ allocated 2 1 (block 50 (exec 2 ∷ [])) ∷ cancelled 3 3 1 ∷ allocated 4 2 (block 50 (exec 2 ∷ [])) ∷ []

others_need_legal : is_legal others_need ≡ true
others_need_legal = refl

others_need_legality : by_legality others_need ≡ Some 2 ∷ Some 3 ∷ Some 4 ∷ None ∷ []
others_need_legality = refl

others_need_use : by_use others_need ≡ Some 2 ∷ Some 3 ∷ Some 4 ∷ None ∷ []
others_need_use = refl

-- a correction whose quantity an allocation took, by a reference to the Trade
abbrev by_quantity : List Entry
by_quantity = trade 1 1 100 ∷ correct 2 3 1 80 ∷ allocated 3 1 (block 80 (exec 1 ∷ [])) ∷ []

by_quantity_legal : is_legal by_quantity ≡ true
by_quantity_legal = refl

by_quantity_legality : by_legality by_quantity ≡ Some 2 ∷ Some 3 ∷ None ∷ []
by_quantity_legality = refl

by_quantity_use : by_use by_quantity ≡ Some 2 ∷ Some 3 ∷ None ∷ []
by_quantity_use = refl

-- an allocation replaced, and the replacing one cancelled
abbrev chain_of_allocations : List Entry
chain_of_allocations = trade 1 1 100 ∷ allocated 2 1 (block 100 (exec 1 ∷ [])) ∷ replaced 3 2 1 (block 100 (exec 1 ∷ [])) ∷ cancelled 4 3 2 ∷ []

chain_of_allocations_legal : is_legal chain_of_allocations ≡ true
chain_of_allocations_legal = refl

chain_of_allocations_legality : by_legality chain_of_allocations ≡ Some 2 ∷ Some 3 ∷ Some 4 ∷ None ∷ []
chain_of_allocations_legality = refl

chain_of_allocations_use : by_use chain_of_allocations ≡ Some 2 ∷ Some 3 ∷ Some 4 ∷ None ∷ []
chain_of_allocations_use = refl

-- a named execution busted, where the allocation was cancelled
abbrev cancel_after_bust : List Entry
cancel_after_bust = trade 1 1 100 ∷ allocated 2 1 (block 100 (exec 1 ∷ [])) ∷ cancelled 3 2 1 ∷ bust 4 4 1 ∷ []

cancel_after_bust_legal : is_legal cancel_after_bust ≡ true
cancel_after_bust_legal = refl

cancel_after_bust_legality : by_legality cancel_after_bust ≡ Some 2 ∷ Some 3 ∷ None ∷ None ∷ []
cancel_after_bust_legality = refl

cancel_after_bust_use : by_use cancel_after_bust ≡ Some 2 ∷ Some 3 ∷ None ∷ None ∷ []
cancel_after_bust_use = refl

-- ---- word by word, on the correction whose quantity an allocation took

-- a bust of what isn't there
abbrev unknown_bust : Command
unknown_bust = Bust (record { key = exec 4; reference = exec 9 })

-- the day without the correction
abbrev without_it : List Entry
without_it = trade 1 1 100 ∷ allocated 3 1 (block 80 (exec 1 ∷ [])) ∷ []

above_entries : map (λ number. is_above_entries number by_quantity) (3 ∷ 4 ∷ []) ≡ false ∷ true ∷ []
above_entries = refl

newest_first : map rises_in (by_quantity ∷ reverse by_quantity ∷ []) ≡ false ∷ true ∷ []
newest_first = refl

oldest_first : map numbers_rise (by_quantity ∷ reverse by_quantity ∷ []) ≡ true ∷ false ∷ []
oldest_first = refl

rising : map is_numbered (by_quantity ∷ reverse by_quantity ∷ []) ≡ true ∷ false ∷ []
rising = refl

unknown_refused : refusal_in (reverse by_quantity) unknown_bust ≡ Some (UnknownExec (exec 9))
unknown_refused = refl

unknown_entry : entry_refusal by_quantity unknown_bust ≡ Some (UnknownExec (exec 9))
unknown_entry = refl

legal_newest_first : map legal_in (by_quantity ∷ reverse by_quantity ∷ []) ≡ false ∷ true ∷ []
legal_newest_first = refl

left_out : without 2 by_quantity ≡ without_it
left_out = refl

cut_off : up_to 2 by_quantity ≡ trade 1 1 100 ∷ correct 2 3 1 80 ∷ []
cut_off = refl

fails_without_first : map (fails_at by_quantity 1) (1 ∷ 2 ∷ 3 ∷ []) ≡ false ∷ true ∷ true ∷ []
fails_without_first = refl

first_failing : map (least_needing by_quantity) (1 ∷ 2 ∷ 3 ∷ []) ≡ Some 2 ∷ Some 3 ∷ None ∷ []
first_failing = refl

withdrawn : map (withdrawal_refusal by_quantity) (2 ∷ 3 ∷ 4 ∷ []) ≡ Some (Needed 3) ∷ None ∷ Some (NotLive 4) ∷ []
withdrawn = refl

book_with_it : map is_book (by_quantity ∷ without_it ∷ []) ≡ true ∷ false ∷ []
book_with_it = refl

put_back_reversed : put_back_in (correct 2 3 1 80) (reverse without_it) ≡ reverse by_quantity
put_back_reversed = refl

put_back_between : put_back (correct 2 3 1 80) without_it ≡ by_quantity
put_back_between = refl
