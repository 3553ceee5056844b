use Rattle.std.proofs.Common.{ap, ◌∙◌}
use Rattle.blot_types.specs.Legal.{entry_refusal}
use Rattle.blot_command.specs.Book.{Shown}
use Rattle.blot_command.specs.Slots.{entries_in}
use Rattle.blot_command.proofs.live.LiveList.refusal.Goals as goal

pub returns-clause-refusal : goal.returns-clause-refusal
returns-clause-refusal c =
    c.refusal.ensures ∙ ap (λ slots. entry_refusal (entries_in slots) c.args.command.now) c.deref.ensures.value
    ∙ ap (λ (shown : Shown). entry_refusal shown.list c.args.command.now) c.self.view_is
