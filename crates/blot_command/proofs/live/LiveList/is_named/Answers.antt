use Rattle.std.proofs.Common.{sym, ◌∙◌, ap, is_some}
use Rattle.blot_types.specs.Position.{is_named}
use Rattle.blot_command.specs.Book.{Shown}
use Rattle.blot_command.specs.Slots.{entries_in}
use Rattle.blot_command.proofs.LiveLemmas.{named-root}
use Rattle.blot_command.proofs.live.LiveList.is_named.Goals as goal

pub returns-in-Some : goal.returns-in-Some
returns-in-Some c =
    c.is_some.ensures ∙ ap is_some c.holder_of.ensures.holder
    ∙ named-root (entries_in c.self.inside.slots.items) c.args.key.now c.in-Some.root c.self.inside.chains.list c.self.inside.allocs.list c.self.invariant.holds
    (sym c.root_of.ensures.root ∙ c.in-Some.is)
    ∙ ap (λ (shown : Shown). is_named shown.list c.args.key.now) c.self.view_is
