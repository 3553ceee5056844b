-- The lines of a day, computed on worked days. Executions and allocations are of one peer, B, the executions fill its
-- order O of 300; quantities are in units of 10^-6, prices in units of 10^-8, values in units of 10^-14.
use Rattle.std.proofs.Common.{◌≡◌, ℕ, ◌*◌, ◌^◌, ℤ, pos, neg_ℤ, List, [], ◌∷◌, Some, true, refl}
use Rattle.blot_types.specs.declared.{allocation.Line.Line, command.Entry.Entry, fill.Sign.TheVariants.Buy, keys.AllocKey.AllocKey, keys.ExecKey.ExecKey, keys.OrderKey.OrderKey}
use Rattle.blot_types.specs.declared.command.Command.TheVariants.{Trade, Bust, AllocNew, AllocCancel}
use Rattle.blot_types.specs.Legal.{is_legal}
use Rattle.blot_report.specs.declared.{lines.OrderRow.OrderRow, lines.PositionRow.PositionRow}
use Rattle.blot_report.specs.Lines.{day_lines_of}

abbrev A : List ℕ
A = 65 ∷ []

abbrev B : List ℕ
B = 66 ∷ []

abbrev A1 : List ℕ
A1 = 65 ∷ 49 ∷ []

abbrev XYZ : List ℕ
XYZ = 88 ∷ 89 ∷ 90 ∷ []

abbrev house : List ℕ
house = 42 ∷ []

abbrev exec : ℕ → ExecKey
exec n = record { peer = B; id = n ∷ [] }

abbrev alloc : ℕ → AllocKey
alloc n = record { peer = B; id = n ∷ [] }

abbrev order : ℕ → OrderKey
order n = record { peer = B; id = n ∷ [] }

-- a fill of so many at a price in hundredths, of an order, in account A1, on a day
abbrev trade : ℕ → ℕ → ℕ → ℕ → ℕ → ℤ → Entry
trade number key id qty price day = record {
  number = number;
  command = Trade (record {
    key = exec key;
    fill = record {
      order = order id;
      account = Some A1;
      symbol = XYZ;
      sign = Buy;
      size = pos (300 * 10 ^ 6);
      qty = qty * 10 ^ 6;
      price = pos (price * 10 ^ 6);
      day = day;
    };
  });
}

-- so many to an account, at a price in ten-thousandths
abbrev line : List ℕ → ℕ → ℕ → Line
line account qty price = record { account = account; qty = qty * 10 ^ 6; price = pos (price * 10 ^ 4) }

-- an allocation of a block of executions, on a day
abbrev allocated : ℕ → ℕ → ℕ → List ExecKey → List Line → ℤ → Entry
allocated number key block execs lines day = record {
  number = number;
  command = AllocNew (record { key = alloc key; terms = record { symbol = XYZ; sign = Buy; day = day; block = block * 10 ^ 6; execs = execs; lines = lines } });
}

-- the row of an order of so many filled and left, of a value in ten-thousandths
abbrev filled : ℕ → ℕ → ℕ → ℕ → OrderRow
filled id cum leaves value = record {
  order = order id;
  line = record { cum = pos (cum * 10 ^ 6); leaves = pos (leaves * 10 ^ 6); value = pos (value * 10 ^ 10); symbol = XYZ; sign = Buy };
}

-- the row of a position of so many, of a value in ten-thousandths
abbrev holds : List ℕ → ℕ → ℕ → PositionRow
holds account qty value = record { position = record { account = account; symbol = XYZ }; line = record { qty = pos (qty * 10 ^ 6); value = pos (value * 10 ^ 10) } }

abbrev owes : List ℕ → ℕ → ℕ → PositionRow
owes account qty value = record { position = record { account = account; symbol = XYZ }; line = record { qty = neg_ℤ (pos (qty * 10 ^ 6)); value = neg_ℤ (pos (value * 10 ^ 10)) } }

-- an empty list has no lines
empty_day : day_lines_of [] (pos 0) ≡ record { day = pos 0; orders = []; positions = [] }
empty_day = refl

-- two fills, allocated at their average price: the house account keeps what rounding left
abbrev average : List Entry
average =
    trade 1 1 79 100 1000 (pos 0) ∷ trade 2 2 79 50 1001 (pos 0)
    ∷ allocated 3 1 150 (exec 1 ∷ exec 2 ∷ []) (line A 100 100033 ∷ line B 50 100033 ∷ []) (pos 0) ∷ []

average_legal : is_legal average ≡ true
average_legal = refl

average_day :
    day_lines_of average (pos 0)
    ≡ record { day = pos 0; orders = filled 79 150 150 15005000 ∷ []; positions = holds house 0 50 ∷ holds A 100 10003300 ∷ holds B 50 5001650 ∷ [] }
average_day = refl

-- the day after has no lines
day_after : day_lines_of average (pos 1) ≡ record { day = pos 1; orders = []; positions = [] }
day_after = refl

-- an allocated fill is busted: the accounts keep their lines, and the order is gone
abbrev busted : List Entry
busted =
    trade 1 2 79 50 1100 (pos 0) ∷ allocated 2 1 50 (exec 2 ∷ []) (line A 30 110000 ∷ line B 20 110000 ∷ []) (pos 0)
    ∷ record { number = 3; command = Bust (record { key = exec 3; reference = exec 2 }) } ∷ []

busted_day :
    day_lines_of busted (pos 0)
    ≡ record { day = pos 0; orders = []; positions = owes house 50 5500000 ∷ holds A 30 3300000 ∷ holds B 20 2200000 ∷ [] }
busted_day = refl

-- an allocation on the day after its execution: the execution sits in the house account on its own day, the lines and
-- what they take from there stand on the allocation's
abbrev late : List Entry
late = trade 1 1 79 100 1000 (pos 0) ∷ allocated 2 1 100 (exec 1 ∷ []) (line A 100 100000 ∷ []) (pos 1) ∷ []

late_first :
    day_lines_of late (pos 0) ≡ record { day = pos 0; orders = filled 79 100 200 10000000 ∷ []; positions = holds house 100 10000000 ∷ [] }
late_first = refl

late_second :
    day_lines_of late (pos 1) ≡ record { day = pos 1; orders = []; positions = owes house 100 10000000 ∷ holds A 100 10000000 ∷ [] }
late_second = refl

-- an allocation that was cancelled names nothing, and moves nothing
late_cancelled :
    day_lines_of (trade 1 1 79 100 1000 (pos 0) ∷ allocated 2 1 100 (exec 1 ∷ []) (line A 100 100000 ∷ []) (pos 1)
    ∷ record { number = 3; command = AllocCancel (record { key = alloc 2; reference = alloc 1 }) } ∷ []) (pos 0)
    ≡ record { day = pos 0; orders = filled 79 100 200 10000000 ∷ []; positions = holds A1 100 10000000 ∷ [] }
late_cancelled = refl

-- an order of two days shows on each the fills of that day; orders stand by OrderID, whatever came first
two_days :
    day_lines_of (trade 1 1 79 100 1000 (pos 0) ∷ trade 2 2 79 50 1000 (pos 1) ∷ trade 3 3 78 10 1000 (pos 1) ∷ []) (pos 1)
    ≡ record { day = pos 1; orders = filled 78 10 290 1000000 ∷ filled 79 50 250 5000000 ∷ []; positions = holds A1 60 6000000 ∷ [] }
two_days = refl
