use Rattle.std.proofs.Common.{◌≡◌, Some, sym, ap, ◌∙◌, find, option_copied}
use Rattle.blot_command.specs.Blocking.{blocked_by}
use Rattle.blot_command.specs.Book.{has_number}
use Rattle.blot_command.specs.Slots.{entries_in}
use Rattle.blot_command.proofs.BlockedLemmas.{blocked-is}
use Rattle.blot_command.proofs.blocked.blocked.Goals as goal

pub returns : goal.returns
returns c =
    let list = entries_in c.args.slots.now in
    let k = c.in_ok-entry.entry.now in
    let found : find (has_number c.args.number) list ≡ Some k = sym (ap option_copied (sym c.in_ok-entry.was) ∙ c.entry_numbered.ensures) in
    c.blocked_by.ensures
    ∙ (λ i. blocked_by list (c.requires.holds.chains.links_are i) (c.requires.holds.instructions_are i) c.args.number k.command)
    ∙ blocked-is list c.args.number k c.requires.book found
