use Rattle.std.proofs.Common.{refl}
use Rattle.blot_order.proofs.NumberLemmas.{listed-set, put-marked}
use Rattle.blot_order.proofs.fill_numbers.mark_put.Goals as goal

pub returns-clause-listed : goal.returns-clause-listed
returns-clause-listed c = listed-set c.args.number c.args.listed.now c.in-Ok.place _ (c.in-Ok.ensures.at _) refl c.requires.listed c.in-Ok.ensures

pub returns-clause-put : goal.returns-clause-put
returns-clause-put c = put-marked 0 c.args.number c.args.listed.now c.in-Ok.place _ (c.in-Ok.ensures.at _) refl c.requires.listed.rise c.in-Ok.ensures c.requires.unput
