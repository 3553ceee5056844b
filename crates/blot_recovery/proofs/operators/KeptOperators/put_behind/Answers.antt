use Rattle.std.proofs.Common.{◌++◌, ap, ◌∙◌, option_to_list}
use Rattle.std.specs.List.{list_any}
use Rattle.blot_types.specs.Keys.{same_text}
use Rattle.blot_recovery.specs.declared.parties.KeptOperator.{KeptOperator}
use Rattle.blot_recovery.specs.Parties.{operator_names}
use Rattle.blot_recovery.proofs.OperatorLemmas.{first-more, operators-more, seat-put}
use Rattle.blot_recovery.proofs.operators.KeptOperators.put_behind.Goals as goal

pub returns-clause-kept : goal.returns-clause-kept
returns-clause-kept g c = λ text.
    operators-more text c.args.self.now _ c.new.result c.in-Some.seat c.in-Ok.ensures.items
    (c.pop.ensures.items ∙ ap (λ given. c.pop.new.self.items ++ option_to_list given) c.in-Some.is)
    (ap (λ (operator : KeptOperator g.row.L.Denot). operator.seat) c.new.ensures) (ap (λ (operator : KeptOperator g.row.L.Denot). operator.records) c.new.ensures)
    (ap (λ (operator : KeptOperator g.row.L.Denot). list_any (same_text operator.name) (operator_names c.args.self.now.named.items)) c.new.ensures ∙ c.requires)

pub returns-clause-first : goal.returns-clause-first
returns-clause-first g c = λ first. first-more first c.args.self.now.named.items c.push.new.self.items c.new.result c.in-Ok.ensures.items

pub returns-clause-seat : goal.returns-clause-seat
returns-clause-seat g c =
    seat-put c.args.self.now _ c.new.result c.in-Some.seat c.args.name (ap (λ (operator : KeptOperator g.row.L.Denot). operator.name) c.new.ensures) c.in-Ok.ensures.items
    (c.pop.ensures.items ∙ ap (λ given. c.pop.new.self.items ++ option_to_list given) c.in-Some.is)
