use Rattle.std.proofs.Common.{[], ◌∷◌, ◌++◌, ap, refl, ◌∙◌, arith}
use Rattle.blot_desk.proofs.DeskLemmas.{desk_more}
use Rattle.blot_desk.proofs.held.Held.step.Goals as goal

pub invariant_of-self-2 : goal.invariant_of-self-2
invariant_of-self-2 c =
    desk_more _ _ c.self.inside.history.items _ c.args.event c.args.event c.in-Ok-take.reply c.self.invariant
    (omega (arith, c.self.invariant.few)) c.in-Ok-take.ensures.ok refl
    (c.record.ensures ∙ ap (λ items. items ++ record { event = c.args.event; reply = c.in-Ok-take.reply } ∷ []) c.reserve.ensures.items)
