use Rattle.std.proofs.Common.{◌<◌, ap, sym, subst, ◌∙◌, IsSome, is_some, option_to_list}
use Rattle.blot_session.proofs.ActionLemmas.{popped}
use Rattle.blot_session.proofs.delivery.delivered.Goals as goal

pub returns-clause-command : goal.returns-clause-command
returns-clause-command c number =
    let some = subst (λ count. 0 < count → IsSome c.pop.result) c.args.actions.ok.0 c.pop.ensures.variant.1 in
    (popped c.args.actions.items c.pop.new.self.items c.pop.result (record { is = c.pop.ensures.items; some = some }) c.requires).0 number
    ∙ ap option_to_list (sym c.command_of.ensures)

pub returns-clause-some : goal.returns-clause-some
returns-clause-some c =
    let some = subst (λ count. 0 < count → IsSome c.pop.result) c.args.actions.ok.0 c.pop.ensures.variant.1 in
    (popped c.args.actions.items c.pop.new.self.items c.pop.result (record { is = c.pop.ensures.items; some = some }) c.requires).1
    ∙ ap is_some (sym c.command_of.ensures)
