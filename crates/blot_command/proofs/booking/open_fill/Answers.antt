use Rattle.std.proofs.Common.{sym, ◌∙◌}
use Rattle.blot_command.proofs.OpenLemmas.{fill-made, fill-opens, fill-there}
use Rattle.blot_command.proofs.booking.open_fill.Goals as goal

pub returns-then-is_open-clause-made : goal.returns-then-is_open-clause-made
returns-then-is_open-clause-made c =
    fill-there c.args.fill.now c.of_fill-part.result c.args.positions.now c.of_fill-part.ensures.part (sym c.is_open.ensures ∙ c.if-is_open.true) c.requires

pub returns-clause-opens : goal.returns-clause-opens
returns-clause-opens c =
    fill-opens c.open-2.result c.of_fill-part.result c.house_account.result c.args.positions.now c.open.new.self c.open-2.new.self
    c.house_account.ensures c.in_ok-open.ensures.ok c.open-2.ensures.ok c.open-2.ensures.err

pub returns-clause-made : goal.returns-clause-made
returns-clause-made c =
    fill-made c.open-2.result c.args.fill.now c.of_fill-part.result c.house_account.result c.args.positions.now c.open.new.self c.open-2.new.self
    c.of_fill-part.ensures.part c.house_account.ensures c.in_ok-open.ensures.ok c.open-2.ensures.ok
