use Rattle.std.proofs.Common.{Some, ap, sym, ◌∙◌, option_map}
use Rattle.blot_types.specs.Position.{part_of, part_of_fill}
use Rattle.blot_types.specs.Survivors.{version_by}
use Rattle.blot_command.proofs.UnnamedLemmas.{unnamed-last}
use Rattle.blot_command.proofs.accounts.part_by.Goals as goal

pub returns-in-Trade : goal.returns-in-Trade
returns-in-Trade c =
    let list = c.args.live.now.list in
    let last = c.args.entry.now in
    let trade = c.in-Trade.trade in
    let unnamed = unnamed-last list last trade c.requires.last c.in-Trade.is c.requires.book in
    ap Some (c.of_fill.ensures.part ∙ ap (λ named. part_of_fill named trade.fill) (sym unnamed))
    ∙ ap (λ command. option_map (part_of list) (version_by last.number command)) (sym c.in-Trade.is)
