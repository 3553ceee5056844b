use Rattle.std.proofs.Common.{Some, sym, ap, ◌∙◌, option_copied, option_map}
use Rattle.blot_command.proofs.NewestLemmas.{slot_number, last-there}
use Rattle.blot_command.proofs.slots.newest_number.Goals as goal

pub returns-in-None : goal.returns-in-None
returns-in-None c = ap (option_map slot_number) (ap option_copied (sym c.in-None.is) ∙ c.last_there.ensures) ∙ last-there c.args.slots.now

pub returns-in-Some : goal.returns-in-Some
returns-in-Some c = ap Some c.number.ensures ∙ ap (option_map slot_number) (ap option_copied (sym c.in-Some.is) ∙ c.last_there.ensures) ∙ last-there c.args.slots.now
