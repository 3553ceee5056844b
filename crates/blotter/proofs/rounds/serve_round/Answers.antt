use Rattle.std.proofs.Common.{length, ap, arith}
use Rattle.std.proofs.lemmas.List.{length-map}
use Rattle.blotter.proofs.RoundLemmas.{as-many}
use Rattle.blotter.proofs.rounds.serve_round.Goals as goal

pub put_seats-requires-clause-room : goal.put_seats-requires-clause-room
put_seats-requires-clause-room g c =
    let many = as-many c.replace-waiting.result.items _ c.in-Ok.ensures.submits in
    let mapped = length-map c.in-Ok.endings.items (λ ending. ending.1) in
    let seats = ap (λ seats. length seats.items) c.replace-waiting.ensures.value in
    omega (arith, many, mapped, seats, ap length c.deref.ensures.value, c.deref.ensures.len, c.len.ensures, c.in_ok-served.ensures.capacity, c.args.seats.now.ok)
