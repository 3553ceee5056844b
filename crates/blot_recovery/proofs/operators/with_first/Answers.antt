use Rattle.std.proofs.Common.{List, ◌++◌, ap, ◌∙◌, option_to_list}
use Rattle.std.specs.List.{list_any}
use Rattle.blot_types.specs.Keys.{same_text}
use Rattle.blot_recovery.specs.declared.{operators.KeptOperators.KeptOperators, parties.KeptOperator.KeptOperator}
use Rattle.blot_recovery.specs.Parties.{operator_names}
use Rattle.blot_recovery.proofs.OperatorLemmas.{operators-first, operators-more}
use Rattle.blot_recovery.proofs.operators.with_first.Goals as goal

pub returns-clause-kept : goal.returns-clause-kept
returns-clause-kept g c =
    let before : KeptOperators g.row.L.Denot = record { named = c.new-named.result; spare = c.args.seats } in
    operators-more _ before _ c.new.result c.in-Some.seat c.in_ok-push.ensures.items
    (c.pop.ensures.items ∙ ap (λ given. c.pop.new.self.items ++ option_to_list given) c.in-Some.is)
    (ap (λ (operator : KeptOperator g.row.L.Denot). operator.seat) c.new.ensures) (ap (λ (operator : KeptOperator g.row.L.Denot). operator.records) c.new.ensures)
    (ap (λ (operators : List (KeptOperator g.row.L.Denot)). list_any (same_text c.new.result.name) (operator_names operators)) c.new-named.ensures.items)
    (operators-first before c.new-named.ensures.items c.requires.empty)
