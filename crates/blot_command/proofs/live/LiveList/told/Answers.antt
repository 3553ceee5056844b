use Rattle.std.proofs.Common.{drop, ap, ◌∙◌}
use Rattle.std.proofs.lemmas.List.{drop_all}
use Rattle.blot_command.specs.Book.{Shown}
use Rattle.blot_command.specs.Slots.{entries_in}
use Rattle.blot_command.specs.Standings.{told_of}
use Rattle.blot_command.proofs.StandingLemmas.{told-all}
use Rattle.blot_command.proofs.live.LiveList.told.Goals as goal

pub returns-clause-told : goal.returns-clause-told
returns-clause-told c =
    let slots = c.deref-slot-items.result.now in
    told-all c.loop-slot.told.items (entries_in slots) (entries_in (drop c.loop-slot.slot-index slots)) c.loop-slot.invariant.told
    (ap entries_in (drop_all c.loop-slot.slot-index slots c.loop-slot-test.false)) c.loop-slot.invariant.each
    ∙ ap (λ s. told_of (entries_in s)) c.deref-slot-items.ensures.value ∙ ap (λ (shown : Shown). told_of shown.list) c.self.view_is
