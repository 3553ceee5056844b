use Rattle.std.proofs.Common.{None, Some, refl, sym, ap, ◌∙◌, option_copied}
use Rattle.blot_types.specs.Instructions.{ended_in}
use Rattle.blot_command.specs.Slots.{entries_in}
use Rattle.blot_command.proofs.KeyEntryLemmas.{told-alloc}
use Rattle.blot_command.proofs.questions.allocation.Goals as goal

pub returns-in_default : goal.returns-in_default
returns-in_default c =
    told-alloc (entries_in c.args.slots.now) c.args.allocs.now.list c.args.key.now None None (ended_in c.args.allocs.now.list c.args.key.now) c.requires.book c.requires.instructions
    (sym c.in_default.is ∙ c.number_of.ensures) refl refl

pub returns-in_default-entry_numbered : goal.returns-in_default-entry_numbered
returns-in_default-entry_numbered c =
    told-alloc (entries_in c.args.slots.now) c.args.allocs.now.list c.args.key.now (Some c.in-Some.number) None (ended_in c.args.allocs.now.list c.args.key.now) c.requires.book c.requires.instructions
    (sym c.in-Some.is ∙ c.number_of.ensures) (sym (ap option_copied c.in_default-entry_numbered.is) ∙ c.entry_numbered.ensures) refl

pub returns : goal.returns
returns c =
    told-alloc (entries_in c.args.slots.now) c.args.allocs.now.list c.args.key.now (Some c.in-Some.number) (Some c.in_ok-entry.entry) c.ended_by-ended.result c.requires.book c.requires.instructions
    (sym c.in-Some.is ∙ c.number_of.ensures) (ap Some c.in_ok-entry.ensures ∙ sym (ap option_copied c.in-Some-entry_numbered.is) ∙ c.entry_numbered.ensures) c.ended_by-ended.ensures
