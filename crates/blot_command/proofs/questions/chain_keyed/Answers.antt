use Rattle.std.proofs.Common.{None, Some, refl, sym, ap, ◌∙◌, option_copied}
use Rattle.blot_types.specs.StandingVersion.{chain_by}
use Rattle.blot_command.specs.Slots.{entries_in}
use Rattle.blot_command.proofs.KeyEntryLemmas.{told-keyed}
use Rattle.blot_command.proofs.questions.chain_keyed.Goals as goal

pub returns-in_default : goal.returns-in_default
returns-in_default c =
    told-keyed (entries_in c.args.slots.now) c.args.chains.now.list c.args.key.now None None c.requires.book c.requires.holds.links_are
    (sym c.in_default.is ∙ c.number_of.ensures) refl

pub returns-in_default-entry_numbered : goal.returns-in_default-entry_numbered
returns-in_default-entry_numbered c =
    told-keyed (entries_in c.args.slots.now) c.args.chains.now.list c.args.key.now (Some c.in-Some.number) None c.requires.book c.requires.holds.links_are
    (sym c.in-Some.is ∙ c.number_of.ensures) (sym (ap option_copied c.in_default-entry_numbered.is) ∙ c.entry_numbered.ensures)

pub returns : goal.returns
returns c =
    c.chain_by.ensures ∙ ap (chain_by c.args.chains.now.list) c.link.ensures
    ∙ told-keyed (entries_in c.args.slots.now) c.args.chains.now.list c.args.key.now (Some c.in-Some.number) (Some c.in-Some-entry_numbered.entry.now) c.requires.book c.requires.holds.links_are
    (sym c.in-Some.is ∙ c.number_of.ensures) (sym (ap option_copied c.in-Some-entry_numbered.is) ∙ c.entry_numbered.ensures)
