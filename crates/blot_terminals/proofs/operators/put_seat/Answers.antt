use Rattle.std.proofs.Common.{Some, refl, rules}
use Rattle.blot_terminals.proofs.StaffLemmas.{own-changed, set-nowhere}
use Rattle.blot_terminals.proofs.operators.put_seat.Goals as goal

pub returns-in-Some-clause-own : goal.returns-in-Some-clause-own
returns-in-Some-clause-own g c =
    own-changed c.args.named.now.entries (c.get_mut.follows.lender (Some c.args.seat)).entries c.args.seat.name (Some c.args.seat) c.requires.own (search rules) refl

pub returns-in_default-clause-put : goal.returns-in_default-clause-put
returns-in_default-clause-put g c = set-nowhere c.args.named.now.entries _ c.args.seat.name (Some c.args.seat) (search rules) (search rules)
