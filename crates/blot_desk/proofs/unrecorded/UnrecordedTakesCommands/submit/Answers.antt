use Rattle.std.proofs.Common.{◌≡◌, ◌<◌, ◌+◌, ◌++◌, [], ◌∷◌, length, refl, ap, ◌∙◌, arith}
use Rattle.std.proofs.lemmas.List.{length_push}
use Rattle.blot_types.specs.declared.TheConstants.{EVENTS_MAX}
use Rattle.blot_desk.specs.declared.{event.Event.Event, event.Event.TheVariants.Submit, event.Recorded.Recorded}
use Rattle.blot_desk.proofs.DeskLemmas.{desk_more}
use Rattle.blot_desk.proofs.unrecorded.UnrecordedTakesCommands.submit.Goals as goal

pub invariant_of-self : goal.invariant_of-self
invariant_of-self c =
    let history = c.self.inside.history.items in
    let event : Event = Submit c.args.command.now in
    let last : Recorded = record { event = event; reply = c.in-Ok.reply } in
    let room : length history < EVENTS_MAX = omega (arith, c.self.invariant.0.few, c.self.invariant.1, c.if-self-eq-EVENTS_MAX.false) in
    let grown : c.remember.new.history.items ≡ history ++ last ∷ [] = c.remember.ensures in
    let longer : length c.remember.new.history.items ≡ length history + 1 = ap length grown ∙ length_push history last in (
      desk_more _ _ history c.remember.new.history.items event event c.in-Ok.reply c.self.invariant.0 room (rw c.in-Ok.is at c.submit-answer.ensures.ok)
          refl grown,
      omega (arith, c.self.invariant.1, longer),
    )
