-- The definitions of allocations and positions, computed on worked days. Executions E1, E2, .., orders and
-- allocations are of one peer; quantities are in units of 10^-6, prices in units of 10^-8, values in units of 10^-14.
use Rattle.std.proofs.Common.{◌≡◌, ℕ, ◌*◌, ◌^◌, ℤ, pos, neg_ℤ, List, [], ◌∷◌, ◌++◌, reverse, map, codes, Option, Some, None, true, false, refl, option_map}
use Rattle.blot_types.specs.declared.allocation.AllocRole.TheVariants.{Allocates, Replaces, Cancels}
use Rattle.blot_types.specs.declared.{allocation.Instruction.Instruction, allocation.Line.Line, allocation.Terms.Terms, command.Command.Command, command.Entry.Entry, fill.Fill.Fill, fill.Sign.Sign, keys.AllocKey.AllocKey, keys.ExecKey.ExecKey, lines.PositionLine.PositionLine, part.Part.Part}
use Rattle.blot_types.specs.declared.command.Command.TheVariants.{Trade, Correct, Bust, AllocNew, AllocReplace, AllocCancel, Withdraw}
use Rattle.blot_types.specs.declared.fill.Sign.TheVariants.{Buy, Sell}
use Rattle.blot_types.specs.declared.refused.Refused.TheVariants.{DuplicateExec, DuplicateAlloc, UnknownAlloc, DeadAlloc, UnknownExec, BustedExec, RepeatedExec, ExecTaken, Instrument, Quantity, NotLive}
use Rattle.blot_types.specs.Allocations.{roots_of_terms, instruction_by, instructions_in, instructions_of, allocation_of, live_allocations, named_roots}
use Rattle.blot_types.specs.Chains.{taker_in}
use Rattle.blot_types.specs.Instructions.{is_keyed, alloc_taker_in, brings_allocation, is_allocation_of, is_allocation_in, ends, ended_in, is_live_in, names, holds_in, named_in, is_reference, holds_beside, other_holder_in}
use Rattle.blot_types.specs.Legal.{is_legal, refusal_of}
use Rattle.blot_types.specs.Order.{order_of}
use Rattle.blot_types.specs.Position.{house, signed, account_of, part_of_fill, part_of_line, from_house, moves_of_line, moves_of, is_named, part_of, parts_of, is_at, position_by, position_of, signed_part}
use Rattle.blot_types.specs.Refusals.{exec_key, alloc_key, alloc_reference, terms_of, listed_by, exec_references, withdrawn_by, is_live, first_of, bust_of_key, same_chain, repeated_in, other_holder, current_fill, same_sign, differs, booked, mismatch, never_entry, duplicate_exec, duplicate_alloc, unknown_alloc, dead_alloc, unknown_exec, busted_exec, repeated_exec, exec_taken, instrument, quantity}
use Rattle.blot_types.specs.Survivors.{links_of, survivors, version_numbered}

abbrev exec : ℕ → ExecKey
exec n = record { peer = 66 ∷ []; id = 69 ∷ n ∷ [] }

abbrev alloc : ℕ → AllocKey
alloc n = record { peer = 66 ∷ []; id = 76 ∷ n ∷ [] }

-- accounts, and the symbol
abbrev A : List ℕ
A = 65 ∷ []

abbrev B : List ℕ
B = 66 ∷ []

abbrev A1 : List ℕ
A1 = 65 ∷ 49 ∷ []

abbrev XYZ : List ℕ
XYZ = 88 ∷ 89 ∷ 90 ∷ []

-- so many at a price in hundredths, in account A1
abbrev filled : Sign → List ℕ → ℕ → ℤ → Fill
filled sign symbol qty price = record {
  order = record { peer = 66 ∷ []; id = 79 ∷ [] };
  account = Some A1;
  symbol = symbol;
  sign = sign;
  size = pos (300 * 10 ^ 6);
  qty = qty * 10 ^ 6;
  price = price;
  day = pos 0;
}

abbrev hundredths : ℕ → ℤ
hundredths price = pos (price * 10 ^ 6)

abbrev trade : ℕ → ℕ → Fill → Entry
trade number key fill = record { number = number; command = Trade (record { key = exec key; fill = fill }) }

abbrev correct : ℕ → ℕ → ℕ → Fill → Entry
correct number key reference fill = record { number = number; command = Correct (record { key = exec key; reference = exec reference; fill = fill }) }

abbrev bust : ℕ → ℕ → ℕ → Entry
bust number key reference = record { number = number; command = Bust (record { key = exec key; reference = exec reference }) }

-- so many to an account, at a price in ten-thousandths
abbrev line : List ℕ → ℕ → ℕ → Line
line account qty price = record { account = account; qty = qty * 10 ^ 6; price = pos (price * 10 ^ 4) }

abbrev bought : ℕ → List ExecKey → List Line → Terms
bought block execs lines = record { symbol = XYZ; sign = Buy; day = pos 0; block = block * 10 ^ 6; execs = execs; lines = lines }

abbrev allocated : ℕ → Terms → Command
allocated key terms = AllocNew (record { key = alloc key; terms = terms })

abbrev cancelled : ℕ → ℕ → Command
cancelled key reference = AllocCancel (record { key = alloc key; reference = alloc reference })

abbrev replaced : ℕ → ℕ → Terms → Command
replaced key reference terms = AllocReplace (record { key = alloc key; reference = alloc reference; terms = terms })

abbrev under : ℕ → Command → Entry
under number command = record { number = number; command = command }

-- a position, its value in ten-thousandths
abbrev shows : ℤ → ℤ → Option PositionLine
shows qty value = Some (record { qty = qty; value = value })

abbrev units : ℕ → ℤ
units qty = pos (qty * 10 ^ 6)

abbrev worth : ℕ → ℤ
worth value = pos (value * 10 ^ 10)

-- a bust of an allocated execution: the accounts keep their lines, and the break stands in the house account
abbrev allocated_day : List Entry
allocated_day = trade 1 2 (filled Buy XYZ 50 (hundredths 1100)) ∷ under 2 (allocated 1 (bought 50 (exec 2 ∷ []) (line A 30 110000 ∷ line B 20 110000 ∷ []))) ∷ []

allocated_legal : is_legal allocated_day ≡ true
allocated_legal = refl

allocated_positions :
    map (λ account. position_of allocated_day account XYZ) (A ∷ B ∷ house ∷ A1 ∷ [])
    ≡ shows (units 30) (worth 3300000) ∷ shows (units 20) (worth 2200000) ∷ shows (pos 0) (pos 0) ∷ None ∷ []
allocated_positions = refl

allocated_names : named_roots allocated_day ≡ exec 2 ∷ []
allocated_names = refl

abbrev broken_day : List Entry
broken_day = allocated_day ++ bust 3 3 2 ∷ []

broken_positions :
    map (λ account. position_of broken_day account XYZ) (A ∷ B ∷ house ∷ [])
    ≡ shows (units 30) (worth 3300000) ∷ shows (units 20) (worth 2200000) ∷ shows (neg_ℤ (units 50)) (neg_ℤ (worth 5500000)) ∷ []
broken_positions = refl

broken_order : order_of broken_day (record { peer = 66 ∷ []; id = 79 ∷ [] }) ≡ None
broken_order = refl

-- an average-price allocation: what its rounding leaves stands in the house account
abbrev average_day : List Entry
average_day =
    trade 1 1 (filled Buy XYZ 100 (hundredths 1000)) ∷ trade 2 2 (filled Buy XYZ 50 (hundredths 1001))
    ∷ under 3 (allocated 1 (bought 150 (exec 1 ∷ exec 2 ∷ []) (line A 100 100033 ∷ line B 50 100033 ∷ []))) ∷ []

average_positions :
    map (λ account. position_of average_day account XYZ) (A ∷ B ∷ house ∷ [])
    ≡ shows (units 100) (worth 10003300) ∷ shows (units 50) (worth 5001650) ∷ shows (pos 0) (worth 50) ∷ []
average_positions = refl

-- a quantity that doesn't add up: the block's comes first
abbrev one_fill : List Entry
one_fill = trade 1 2 (filled Buy XYZ 50 (hundredths 1100)) ∷ []

lines_short : refusal_of one_fill (allocated 1 (bought 50 (exec 2 ∷ []) (line A 49 110000 ∷ []))) ≡ Some (Quantity (units 50) (units 49))
lines_short = refl

block_short : refusal_of one_fill (allocated 1 (bought 49 (exec 2 ∷ []) (line A 50 110000 ∷ []))) ≡ Some (Quantity (units 50) (units 49))
block_short = refl

-- allocations that are refused
abbrev corrected_day : List Entry
corrected_day = trade 1 1 (filled Buy XYZ 100 (hundredths 1000)) ∷ correct 2 3 1 (filled Buy XYZ 80 (hundredths 1000)) ∷ trade 3 4 (filled Sell XYZ 10 (hundredths 1000)) ∷ []

repeated : refusal_of corrected_day (allocated 1 (bought 80 (exec 1 ∷ exec 3 ∷ []) (line A 80 100000 ∷ []))) ≡ Some (RepeatedExec (exec 3))
repeated = refl

a_sell_of_a_buy : refusal_of corrected_day (allocated 1 (bought 90 (exec 1 ∷ exec 4 ∷ []) (line A 90 100000 ∷ []))) ≡ Some (Instrument (exec 4))
a_sell_of_a_buy = refl

taken : refusal_of allocated_day (allocated 2 (bought 50 (exec 2 ∷ []) (line A 50 110000 ∷ []))) ≡ Some (ExecTaken 2)
taken = refl

of_the_replaced_one : refusal_of allocated_day (replaced 2 1 (bought 50 (exec 2 ∷ []) (line A 50 110000 ∷ []))) ≡ None
of_the_replaced_one = refl

abbrev cancelled_day : List Entry
cancelled_day = allocated_day ++ under 3 (cancelled 2 1) ∷ []

dead : refusal_of cancelled_day (replaced 3 1 (bought 50 (exec 2 ∷ []) (line A 50 110000 ∷ []))) ≡ Some (DeadAlloc 3)
dead = refl

a_cancel_is_no_allocation : refusal_of cancelled_day (cancelled 3 2) ≡ Some UnknownAlloc
a_cancel_is_no_allocation = refl

duplicate : refusal_of cancelled_day (cancelled 2 1) ≡ Some (DuplicateAlloc 3)
duplicate = refl

back_in_its_own : position_of cancelled_day A1 XYZ ≡ shows (units 50) (worth 5500000)
back_in_its_own = refl

-- an unknown execution that is listed third comes before a busted one that is listed first
unknown_first : refusal_of broken_day (allocated 2 (bought 50 (exec 2 ∷ exec 2 ∷ exec 9 ∷ []) [])) ≡ Some (UnknownExec (exec 9))
unknown_first = refl

busted_then : refusal_of broken_day (allocated 2 (bought 50 (exec 2 ∷ exec 2 ∷ []) [])) ≡ Some (BustedExec 3)
busted_then = refl

-- a cross sell at a price below zero
cross_sell : position_of (trade 1 1 (filled Sell XYZ 10 (neg_ℤ (hundredths 50))) ∷ []) A1 XYZ ≡ shows (neg_ℤ (units 10)) (worth 50000)
cross_sell = refl

-- ---- word by word: instructions, newest first

-- L1 allocates E2
abbrev booking : Instruction
booking = record { number = 2; key = alloc 1; role = Allocates; roots = exec 2 ∷ [] }

-- L2 cancels L1
abbrev ending : Instruction
ending = record { number = 3; key = alloc 2; role = Cancels (alloc 1); roots = [] }

-- 50 of E2, without lines
abbrev of_E2 : Terms
of_E2 = bought 50 (exec 2 ∷ []) []

-- E3 busts E2
abbrev busting : Command
busting = Bust (record { key = exec 3; reference = exec 2 })

-- the day with that allocation, and the day with its cancel, newest first
abbrev live_one : List Instruction
live_one = booking ∷ []

abbrev ended_one : List Instruction
ended_one = ending ∷ booking ∷ []

own_alloc : map (λ key. is_keyed key booking) (alloc 1 ∷ alloc 2 ∷ []) ≡ true ∷ false ∷ []
own_alloc = refl

alloc_taker : map (alloc_taker_in ended_one) (alloc 2 ∷ alloc 9 ∷ []) ≡ Some 3 ∷ None ∷ []
alloc_taker = refl

brings_by_role : map brings_allocation (Allocates ∷ Replaces (alloc 1) ∷ Cancels (alloc 1) ∷ []) ≡ true ∷ true ∷ false ∷ []
brings_by_role = refl

brings_this : map (λ key. map (is_allocation_of key) ended_one) (alloc 1 ∷ alloc 2 ∷ []) ≡ (false ∷ true ∷ []) ∷ (false ∷ false ∷ []) ∷ []
brings_this = refl

ended_is_there : map (is_allocation_in ended_one) (alloc 1 ∷ alloc 2 ∷ []) ≡ true ∷ false ∷ []
ended_is_there = refl

ends_by_role : map (ends (alloc 1)) (Allocates ∷ Replaces (alloc 1) ∷ Cancels (alloc 1) ∷ Cancels (alloc 2) ∷ []) ≡ false ∷ true ∷ true ∷ false ∷ []
ends_by_role = refl

end_number : map (ended_in ended_one) (alloc 1 ∷ alloc 2 ∷ []) ≡ Some 3 ∷ None ∷ []
end_number = refl

live_until_ended : map (λ instructions. is_live_in instructions booking) (live_one ∷ ended_one ∷ []) ≡ true ∷ false ∷ []
live_until_ended = refl

names_its_root : map (λ root. names root booking) (exec 2 ∷ exec 1 ∷ []) ≡ true ∷ false ∷ []
names_its_root = refl

holds_while_live : map (λ instructions. holds_in instructions (exec 2) booking) (live_one ∷ ended_one ∷ []) ≡ true ∷ false ∷ []
holds_while_live = refl

named_while_live : map named_in (live_one ∷ ended_one ∷ []) ≡ (exec 2 ∷ []) ∷ [] ∷ []
named_while_live = refl

this_reference : map (λ reference. is_reference reference (alloc 1)) (None ∷ Some (alloc 1) ∷ Some (alloc 2) ∷ []) ≡ false ∷ true ∷ false ∷ []
this_reference = refl

holds_unless_referred : map (λ reference. holds_beside live_one reference (exec 2) booking) (None ∷ Some (alloc 1) ∷ []) ≡ true ∷ false ∷ []
holds_unless_referred = refl

holder_unless_referred : map (λ reference. other_holder_in live_one reference (exec 2)) (None ∷ Some (alloc 1) ∷ []) ≡ Some 2 ∷ None ∷ []
holder_unless_referred = refl

-- E3 corrects E1, and E9 isn't there
listed_roots : roots_of_terms (links_of corrected_day) (bought 80 (exec 3 ∷ exec 9 ∷ []) []) ≡ exec 1 ∷ []
listed_roots = refl

instruction_by_kind : map (instruction_by (links_of one_fill) 2) (allocated 1 of_E2 ∷ busting ∷ []) ≡ Some booking ∷ None ∷ []
instruction_by_kind = refl

reversed_instructions : instructions_in (reverse cancelled_day) ≡ ended_one
reversed_instructions = refl

newest_first : instructions_of cancelled_day ≡ ended_one
newest_first = refl

allocation_by_kind : map allocation_of (allocated 1 of_E2 ∷ cancelled 2 1 ∷ []) ≡ Some (record { key = alloc 1; terms = of_E2 }) ∷ None ∷ []
allocation_by_kind = refl

live_keys : map (λ day. map (λ allocation. allocation.key) (live_allocations day)) (allocated_day ∷ cancelled_day ∷ []) ≡ (alloc 1 ∷ []) ∷ [] ∷ []
live_keys = refl

-- ---- the parts of positions

-- a sell of 50
abbrev sold : Fill
sold = filled Sell XYZ 50 (hundredths 1100)

-- 30 to account A, and the same out of the house account
abbrev to_A : Part
to_A = record { account = A; symbol = XYZ; qty = units 30; value = worth 3300000 }

abbrev out_of_house : Part
out_of_house = record { account = house; symbol = XYZ; qty = neg_ℤ (units 30); value = neg_ℤ (worth 3300000) }

house_name : house ≡ codes "*"
house_name = refl

by_side : map (λ sign. signed sign (pos 5)) (Buy ∷ Sell ∷ []) ≡ pos 5 ∷ neg_ℤ (pos 5) ∷ []
by_side = refl

house_if_named : map (λ named. account_of named sold) (true ∷ false ∷ []) ≡ house ∷ A1 ∷ []
house_if_named = refl

five_sold : signed_part A1 XYZ Sell 5 (pos 3) ≡ record { account = A1; symbol = XYZ; qty = neg_ℤ (pos 5); value = neg_ℤ (pos 15) }
five_sold = refl

sold_part : part_of_fill false sold ≡ record { account = A1; symbol = XYZ; qty = neg_ℤ (units 50); value = neg_ℤ (worth 5500000) }
sold_part = refl

line_part : part_of_line (bought 50 [] []) (line A 30 110000) ≡ to_A
line_part = refl

house_part : from_house to_A ≡ out_of_house
house_part = refl

line_moves : moves_of_line (bought 50 [] []) (line A 30 110000) ≡ to_A ∷ out_of_house ∷ []
line_moves = refl

all_moves : map (λ part. part.account) (moves_of (bought 50 [] (line A 30 110000 ∷ line B 20 110000 ∷ []))) ≡ A ∷ house ∷ B ∷ house ∷ []
all_moves = refl

named_until_cancelled : map (λ day. is_named day (exec 2)) (allocated_day ∷ cancelled_day ∷ []) ≡ true ∷ false ∷ []
named_until_cancelled = refl

house_until_cancelled :
    map (λ day. map (λ version. (part_of day version).account) (survivors day)) (allocated_day ∷ cancelled_day ∷ [])
    ≡ (house ∷ []) ∷ (A1 ∷ []) ∷ []
house_until_cancelled = refl

all_parts : map (λ part. part.account) (parts_of allocated_day) ≡ house ∷ A ∷ house ∷ B ∷ house ∷ []
all_parts = refl

its_position : map (is_at A XYZ) (to_A ∷ out_of_house ∷ []) ≡ true ∷ false ∷ []
its_position = refl

summed : map position_by ([] ∷ (to_A ∷ to_A ∷ []) ∷ []) ≡ None ∷ shows (units 60) (worth 6600000) ∷ []
summed = refl

-- ---- what a command says

exec_taken_up : map exec_key (busting ∷ cancelled 2 1 ∷ []) ≡ Some (exec 3) ∷ None ∷ []
exec_taken_up = refl

alloc_taken_up : map alloc_key (busting ∷ cancelled 2 1 ∷ []) ≡ None ∷ Some (alloc 2) ∷ []
alloc_taken_up = refl

alloc_referred_to : map alloc_reference (allocated 2 of_E2 ∷ cancelled 2 1 ∷ []) ≡ None ∷ Some (alloc 1) ∷ []
alloc_referred_to = refl

what_is_allocated : map terms_of (allocated 2 of_E2 ∷ cancelled 2 1 ∷ []) ≡ Some of_E2 ∷ None ∷ []
what_is_allocated = refl

execs_listed : map listed_by (allocated 2 of_E2 ∷ busting ∷ []) ≡ (exec 2 ∷ []) ∷ [] ∷ []
execs_listed = refl

execs_referred_to : map exec_references (allocated 2 of_E2 ∷ busting ∷ cancelled 2 1 ∷ []) ≡ (exec 2 ∷ []) ∷ (exec 2 ∷ []) ∷ [] ∷ []
execs_referred_to = refl

number_withdrawn : map withdrawn_by (Withdraw 4 ∷ busting ∷ []) ≡ Some 4 ∷ None ∷ []
number_withdrawn = refl

-- ---- what the rules ask

number_is_there : map (λ number. is_live number allocated_day) (2 ∷ 3 ∷ []) ≡ true ∷ false ∷ []
number_is_there = refl

bust_of_chain : map (bust_of_key (links_of broken_day)) (exec 9 ∷ exec 2 ∷ []) ≡ None ∷ Some 3 ∷ []
bust_of_chain = refl

first_answer : first_of (taker_in (links_of broken_day)) (exec 9 ∷ exec 3 ∷ exec 2 ∷ []) ≡ Some 3
first_answer = refl

one_chain : map (same_chain (links_of corrected_day) (exec 1)) (exec 3 ∷ exec 4 ∷ []) ≡ true ∷ false ∷ []
one_chain = refl

first_repeated : repeated_in (links_of corrected_day) [] (exec 1 ∷ exec 4 ∷ exec 3 ∷ []) ≡ Some (exec 3)
first_repeated = refl

holder_of_chain : map (other_holder (links_of allocated_day) live_one None) (exec 2 ∷ exec 9 ∷ []) ≡ Some 2 ∷ None ∷ []
holder_of_chain = refl

by_number : option_map (λ version. version.key) (version_numbered corrected_day 2) ≡ Some (exec 3)
by_number = refl

last_fill : current_fill (reverse corrected_day) (exec 1) ≡ Some (filled Buy XYZ 80 (hundredths 1000))
last_fill = refl

one_sign : map (same_sign Buy) (Buy ∷ Sell ∷ []) ≡ true ∷ false ∷ []
one_sign = refl

other_side : map (differs of_E2) (filled Buy XYZ 50 (hundredths 1100) ∷ sold ∷ []) ≡ false ∷ true ∷ []
other_side = refl

booked_by_lines : booked (line A 30 110000 ∷ line B 20 110000 ∷ []) ≡ units 50
booked_by_lines = refl

block_first :
    map (λ block. mismatch (pos 50) block (pos 48)) (pos 49 ∷ pos 50 ∷ [])
    ≡ Some (Quantity (pos 50) (pos 49)) ∷ Some (Quantity (pos 50) (pos 48)) ∷ []
block_first = refl

-- ---- each rule by itself

withdraw_as_entry : never_entry (Withdraw 4) ≡ Some (NotLive 4)
withdraw_as_entry = refl

bust_twice : duplicate_exec (reverse broken_day) busting ≡ Some (DuplicateExec 3)
bust_twice = refl

alloc_twice : duplicate_alloc (reverse allocated_day) (allocated 1 of_E2) ≡ Some (DuplicateAlloc 2)
alloc_twice = refl

cancel_of_cancel : unknown_alloc (reverse cancelled_day) (cancelled 3 2) ≡ Some UnknownAlloc
cancel_of_cancel = refl

cancel_of_cancelled : dead_alloc (reverse cancelled_day) (cancelled 3 1) ≡ Some (DeadAlloc 3)
cancel_of_cancelled = refl

unknown_listed : unknown_exec (reverse allocated_day) (allocated 2 (bought 50 (exec 2 ∷ exec 9 ∷ []) [])) ≡ Some (UnknownExec (exec 9))
unknown_listed = refl

busted_listed : busted_exec (reverse broken_day) (allocated 2 of_E2) ≡ Some (BustedExec 3)
busted_listed = refl

repeated_listed : repeated_exec (reverse corrected_day) (allocated 1 (bought 80 (exec 1 ∷ exec 3 ∷ []) [])) ≡ Some (RepeatedExec (exec 3))
repeated_listed = refl

taken_listed : exec_taken (reverse allocated_day) (allocated 2 of_E2) ≡ Some (ExecTaken 2)
taken_listed = refl

sold_listed : instrument (reverse corrected_day) (allocated 1 (bought 90 (exec 1 ∷ exec 4 ∷ []) [])) ≡ Some (Instrument (exec 4))
sold_listed = refl

block_amiss : quantity (reverse one_fill) (allocated 1 (bought 49 (exec 2 ∷ []) [])) ≡ Some (Quantity (units 50) (units 49))
block_amiss = refl
