use Rattle.std.proofs.Common.{◌∙◌, ap, option_copied}
use Rattle.blot_command.specs.Slots.{entries_in}
use Rattle.blot_command.proofs.RefusalLemmas.{fill_found}
use Rattle.blot_command.proofs.TurnLemmas.{entries_rise}
use Rattle.blot_command.proofs.refusal.current_fill.Goals as goal

pub returns-in_err-current_number : goal.returns-in_err-current_number
returns-in_err-current_number c =
    ap option_copied c.from_residual.ensures
    ∙ fill_found c.args.chains.now.list (entries_in c.args.slots.now) c.args.key.now _ c.in_err-current_number.ensures c.requires.links_are (entries_rise c.args.slots.now c.requires.numbered)

pub returns : goal.returns
returns c =
    c.fill_numbered.ensures
    ∙ fill_found c.args.chains.now.list (entries_in c.args.slots.now) c.args.key.now _ c.in_ok-current_number.ensures c.requires.links_are (entries_rise c.args.slots.now c.requires.numbered)
