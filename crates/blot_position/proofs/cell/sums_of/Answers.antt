use Rattle.std.proofs.Common.{Some, None, ap, sym, ◌∙◌, option_copied}
use Rattle.blot_position.proofs.CellLemmas.{sums_at-found}
use Rattle.blot_position.proofs.cell.sums_of.Goals as goal

pub returns-in-Some : goal.returns-in-Some
returns-in-Some c =
    sym (sums_at-found c.args.cells.now.entries c.args.position.now (Some c.in-Some.sums.now) (sym c.get.ensures.value ∙ ap option_copied c.in-Some.is))

pub returns-in-None : goal.returns-in-None
returns-in-None c =
    c.none.ensures ∙ sym (sums_at-found c.args.cells.now.entries c.args.position.now None (sym c.get.ensures.value ∙ ap option_copied c.in-None.is))
