use Rattle.std.proofs.Common.{◌≡◌, false}
use Rattle.std.specs.List.{list_any}
use Rattle.std.specs.Io.KnownBytes.{Consumes}
use Rattle.blot_ask.specs.Lines.{is_end, unread}
use Rattle.blot_ask.proofs.ahead.Ahead.next_line.Given as goal

abbrev pub invariant-loop : goal.invariant-loop
invariant-loop g l =
    Consumes (unread l.initial.self (g.R.Read.remaining l.initial.stream)) (unread l.self (g.R.Read.remaining l.stream)) l.line.items
    × (list_any is_end l.line.items ≡ false)
