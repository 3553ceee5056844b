use Rattle.std.proofs.Common.{◌≡◌, false, Some, refl, sym, ap, subst, ◌∙◌, is_some}
use Rattle.blot_session.specs.States.{awaited_of}
use Rattle.blot_capture.specs.declared.handled.Handled.TheVariants as handled
use Rattle.blot_capture.specs.Handling.{IsHandled}
use Rattle.blot_capture.specs.Replay.{submitted}
use Rattle.blot_capture.specs.Trace.{actions_after, became_of}
use Rattle.blot_capture.proofs.SessionLemmas.{delivers-none}
use Rattle.blot_capture.proofs.handling.take_delivered.Goals as goal

pub returns-then-not-is_awaiting-clause-desk : goal.returns-then-not-is_awaiting-clause-desk
returns-then-not-is_awaiting-clause-desk g c =
    let quiet : is_some (awaited_of c.args.session.now) ≡ false = sym c.is_awaiting.ensures ∙ c.if-not-is_awaiting.true in
    ap (submitted (g.D.TakesCommands.desk_of c.args.desk.now)) (sym (delivers-none c.args.session.now c.args.actions.items c.requires.awaits quiet))

pub returns-then-not-is_awaiting-clause-handled : goal.returns-then-not-is_awaiting-clause-handled
returns-then-not-is_awaiting-clause-handled g c =
    let quiet : is_some (awaited_of c.args.session.now) ≡ false = sym c.is_awaiting.ensures ∙ c.if-not-is_awaiting.true in
    λ met.
    subst (λ commands. IsHandled (became_of met (g.D.TakesCommands.desk_of c.args.desk.now) commands) (actions_after c.args.session.now (g.D.TakesCommands.desk_of c.args.desk.now) c.args.now c.args.actions.items commands) (Some met)
    (handled.Met c.args.actions)) (sym (delivers-none c.args.session.now c.args.actions.items c.requires.awaits quiet)) (record { became = refl; wanted = refl })
