-- Withdrawals, computed on worked days.
use Rattle.std.proofs.Common.{◌≡◌, ℕ, ◌*◌, ◌^◌, true, false, pos, List, [], ◌∷◌, map, Some, None, refl}
use Rattle.blot_types.specs.declared.{allocation.Terms.Terms, command.Entry.Entry, fill.Fill.Fill, fill.Sign.TheVariants.Buy, keys.AllocKey.AllocKey, keys.ExecKey.ExecKey, keys.OrderKey.OrderKey, lines.OrderLine.OrderLine}
use Rattle.blot_types.specs.declared.command.Command.TheVariants.{Trade, Correct, Bust, AllocNew, AllocReplace, AllocCancel, Withdraw}
use Rattle.blot_types.specs.declared.refused.Refused.TheVariants.{Needed, NotLive}
use Rattle.blot_types.specs.Legal.{is_book, refusal_of}
use Rattle.blot_types.specs.Order.{order_of}
use Rattle.blot_command.specs.declared.fault.ApplyFault.TheVariants.{Refused}
use Rattle.blot_command.specs.declared.inverse.Inverse.TheVariants.{Number, Taken}
use Rattle.blot_command.specs.Book.{entry_number, has_number, numbers_of, entered, after, taken_of, inverse_of, before, command_at, command_of}
use Rattle.blot_command.specs.Meanings.{command_meaning}
use Rattle.blot_command.specs.Undoable.{numbers_in}

abbrev exec : ℕ → ExecKey
exec n = record { peer = 66 ∷ []; id = 69 ∷ n ∷ [] }

abbrev alloc : ℕ → AllocKey
alloc n = record { peer = 66 ∷ []; id = 76 ∷ n ∷ [] }

abbrev order : ℕ → OrderKey
order n = record { peer = 66 ∷ []; id = 79 ∷ n ∷ [] }

-- a fill of an order of a size: so much at a price in hundredths
abbrev filled : ℕ → ℕ → ℕ → ℕ → Fill
filled o size qty price = record {
  order = order o;
  account = None;
  symbol = 88 ∷ [];
  sign = Buy;
  size = pos (size * 10 ^ 6);
  qty = qty * 10 ^ 6;
  price = pos (price * 10 ^ 6);
  day = pos 0;
}

abbrev trade : ℕ → ℕ → Fill → Entry
trade number key fill = record { number = number; command = Trade (record { key = exec key; fill = fill }) }

abbrev correct : ℕ → ℕ → ℕ → Fill → Entry
correct number key reference fill = record { number = number; command = Correct (record { key = exec key; reference = exec reference; fill = fill }) }

abbrev bust : ℕ → ℕ → ℕ → Entry
bust number key reference = record { number = number; command = Bust (record { key = exec key; reference = exec reference }) }

-- a block of so many of one execution, all to one account
abbrev block : ℕ → ℕ → Terms
block key qty = record {
  symbol = 88 ∷ [];
  sign = Buy;
  day = pos 0;
  block = qty * 10 ^ 6;
  execs = exec key ∷ [];
  lines = record { account = 65 ∷ []; qty = qty * 10 ^ 6; price = pos 1 } ∷ [];
}

abbrev allocated : ℕ → ℕ → ℕ → ℕ → Entry
allocated number key listed qty = record { number = number; command = AllocNew (record { key = alloc key; terms = block listed qty }) }

abbrev replaced : ℕ → ℕ → ℕ → ℕ → ℕ → Entry
replaced number key reference listed qty =
    record { number = number; command = AllocReplace (record { key = alloc key; reference = alloc reference; terms = block listed qty }) }

abbrev cancelled : ℕ → ℕ → ℕ → Entry
cancelled number key reference = record { number = number; command = AllocCancel (record { key = alloc key; reference = alloc reference }) }

-- the line of an order: cum, leaves, and value in hundredths
abbrev line : ℕ → ℕ → ℕ → OrderLine
line cum leaves value = record { cum = pos (cum * 10 ^ 6); leaves = pos (leaves * 10 ^ 6); value = pos (value * 10 ^ 12); symbol = 88 ∷ []; sign = Buy }

-- ---- a bust withdrawn: a trade, a second one, a correction of the first, and its bust

abbrev corrected : List Entry
corrected = trade 1 1 (filled 1 300 100 1050) ∷ trade 2 2 (filled 1 250 50 1100) ∷ correct 3 3 1 (filled 1 300 80 1025) ∷ []

abbrev busted : List Entry
busted = trade 1 1 (filled 1 300 100 1050) ∷ trade 2 2 (filled 1 250 50 1100) ∷ correct 3 3 1 (filled 1 300 80 1025) ∷ bust 4 4 3 ∷ []

busted_line : order_of busted (order 1) ≡ Some (line 50 200 55000)
busted_line = refl

withdrawn_accepted : refusal_of busted (Withdraw 4) ≡ None
withdrawn_accepted = refl

withdrawn_list : after busted (Withdraw 4) 5 ≡ corrected
withdrawn_list = refl

withdrawn_inverse : inverse_of busted (Withdraw 4) 5 ≡ Taken (bust 4 4 3)
withdrawn_inverse = refl

withdrawn_line : order_of corrected (order 1) ≡ Some (line 130 170 137000)
withdrawn_line = refl

withdrawn_back : before corrected (Taken (bust 4 4 3)) ≡ busted
withdrawn_back = refl

again : refusal_of corrected (Withdraw 4) ≡ Some (NotLive 4)
again = refl

no_entry : refusal_of corrected (Withdraw 5) ≡ Some (NotLive 5)
no_entry = refl

-- ---- entries that later ones need: the first of those is named

needed_by_correct : refusal_of corrected (Withdraw 1) ≡ Some (Needed 3)
needed_by_correct = refl

needed_by_bust : refusal_of busted (Withdraw 3) ≡ Some (Needed 4)
needed_by_bust = refl

unneeded : refusal_of busted (Withdraw 2) ≡ None
unneeded = refl

-- an allocation, replaced, and its end
abbrev ended : List Entry
ended = trade 1 1 (filled 1 300 100 1000) ∷ allocated 2 1 1 100 ∷ replaced 3 2 1 1 100 ∷ cancelled 4 3 2 ∷ []

ended_book : is_book ended ≡ true
ended_book = refl

needed_by_end : refusal_of ended (Withdraw 3) ≡ Some (Needed 4)
needed_by_end = refl

end_accepted : refusal_of ended (Withdraw 4) ≡ None
end_accepted = refl

-- a correction, and an allocation of the quantity that it leaves
abbrev reduced : List Entry
reduced = trade 1 1 (filled 1 300 100 1000) ∷ correct 2 3 1 (filled 1 300 80 1000) ∷ allocated 3 1 1 80 ∷ []

reduced_book : is_book reduced ≡ true
reduced_book = refl

needed_by_allocation : refusal_of reduced (Withdraw 2) ≡ Some (Needed 3)
needed_by_allocation = refl

-- ---- a bust withdrawn out of order: what came after it stays

abbrev first : Entry
first = trade 1 1 (filled 1 300 100 1000)

abbrev after_it : List Entry
after_it = trade 3 2 (filled 2 300 50 1000) ∷ trade 4 6 (filled 2 300 20 1000) ∷ correct 5 5 2 (filled 2 300 40 1000) ∷ allocated 6 1 6 20 ∷ []

out_of_order : after (first ∷ bust 2 4 1 ∷ after_it) (Withdraw 2) 7 ≡ first ∷ after_it
out_of_order = refl

out_of_order_accepted : refusal_of (first ∷ bust 2 4 1 ∷ after_it) (Withdraw 2) ≡ None
out_of_order_accepted = refl

stands_again : order_of (first ∷ after_it) (order 1) ≡ Some (line 100 200 100000)
stands_again = refl

busted_again : before (first ∷ after_it) (inverse_of (first ∷ bust 2 4 1 ∷ after_it) (Withdraw 2) 7) ≡ first ∷ bust 2 4 1 ∷ after_it
busted_again = refl

-- ---- word by word, on the first of those days

entry_numbers : map entry_number corrected ≡ 1 ∷ 2 ∷ 3 ∷ []
entry_numbers = refl

its_number : map (has_number 3) corrected ≡ false ∷ false ∷ true ∷ []
its_number = refl

numbers : numbers_of corrected ≡ 1 ∷ 2 ∷ 3 ∷ []
numbers = refl

at_the_end : entered corrected (bust 4 4 3).command 4 ≡ busted
at_the_end = refl

taken_out : map (taken_of busted) (4 ∷ 9 ∷ []) ≡ Taken (bust 4 4 3) ∷ Number 9 ∷ []
taken_out = refl

under_number : map (command_at busted) (4 ∷ 9 ∷ []) ≡ Some (bust 4 4 3).command ∷ None ∷ []
under_number = refl

taken_back : map (command_of busted) (Number 4 ∷ Taken (bust 5 5 2) ∷ []) ≡ Some (bust 4 4 3).command ∷ Some (Withdraw 5) ∷ []
taken_back = refl

-- the bust's slot is kept
with_kept : numbers_in command_meaning (record { list = corrected; kept = bust 4 4 3 ∷ [] }) ≡ 4 ∷ 1 ∷ 2 ∷ 3 ∷ []
with_kept = refl

refused_by_list : command_meaning.refused corrected (Withdraw 1) ≡ Some (Refused (Needed 3))
refused_by_list = refl
