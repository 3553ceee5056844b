use Rattle.std.proofs.lemmas.Result.{IfOk-weaker}
use Rattle.blot_terminals.proofs.StaffLemmas.{grows-both}
use Rattle.blot_terminals.proofs.operators.Operators.into_seats.Goals as goal

pub returns : goal.returns
returns g c =
    IfOk-weaker c.put_spare.result _ _ (λ seats more. grows-both c.args.others.items c.in_ok-seats.seats.items seats.items c.in_ok-seats.ensures more) c.put_spare.ensures
