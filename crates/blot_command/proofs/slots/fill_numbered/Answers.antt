use Rattle.std.proofs.Common.{ap, ◌∙◌, option_and_then, option_copied, option_map}
use Rattle.blot_types.specs.declared.lines.Version.{Version}
use Rattle.blot_types.specs.Survivors.{version_of}
use Rattle.blot_command.specs.Slots.{entries_in}
use Rattle.blot_command.proofs.SearchLemmas.{rise, fill-by_number}
use Rattle.blot_command.proofs.TurnLemmas.{entries_rise}
use Rattle.blot_command.proofs.slots.fill_numbered.Goals as goal

pub returns-in_err-entry_numbered : goal.returns-in_err-entry_numbered
returns-in_err-entry_numbered c =
    let list = entries_in c.args.slots.now in
    ap option_copied c.from_residual.ensures
    ∙ ap (λ entry. option_map (λ (version : Version). version.fill) (option_and_then version_of entry)) c.in_err-entry_numbered.ensures
    ∙ fill-by_number c.args.number list (rise list (entries_rise c.args.slots.now c.requires))

pub returns : goal.returns
returns c =
    let list = entries_in c.args.slots.now in
    c.fill.ensures
    ∙ ap (λ entry. option_map (λ (version : Version). version.fill) (option_and_then version_of entry)) c.in_ok-entry_numbered.ensures
    ∙ fill-by_number c.args.number list (rise list (entries_rise c.args.slots.now c.requires))
