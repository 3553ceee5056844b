use Rattle.std.proofs.Common.{sym, ◌∙◌, eqb-true}
use Rattle.std.proofs.lemmas.Bool.{and_parts}
use Rattle.blot_fields.proofs.CountLemmas.{executions_short}
use Rattle.blot_fields.proofs.allocation.executions_of.Goals as goal

pub returns-clause-few : goal.returns-clause-few
returns-clause-few c =
    let are = and_parts _ _ (sym c.are_executions.ensures ∙ c.if-not-are_executions.false) in
    let same = sym c.requires.executions ∙ eqb-true c.args.look.executions c.in_ok-count.count are.0 in
    executions_short c.in_ok-count.count c.args.fields.now c.ids_of.result c.in_ok-count.ensures.range same c.ids_of.ensures
