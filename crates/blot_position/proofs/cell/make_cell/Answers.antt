use Rattle.std.proofs.Common.{◌≡◌, None, false, ap, sym, ◌∙◌, rules, is_none}
use Rattle.std.specs.FinMap as finite
use Rattle.std.specs.Map.{lookup}
use Rattle.blot_position.specs.Positions.{same_key}
use Rattle.blot_position.specs.Cells.{cells_in}
use Rattle.blot_position.proofs.CellLemmas.{cells-there, cells-written, sums_at-found}
use Rattle.blot_position.proofs.cell.make_cell.Goals as goal

pub returns-in_ok-insert-clause-ok : goal.returns-in_ok-insert-clause-ok
returns-in_ok-insert-clause-ok c =
    let entries = c.args.cells.now.entries in
    let key = c.args.position.now in
    let none : lookup (same_key key) entries ≡ None = search rules in
    cells-written entries c.insert.new.self.entries key c.none.result (λ other. c.in_ok-insert.ensures.updates.0 other)
    ∙ ap (finite.insert (cells_in entries) key) (c.none.ensures ∙ sym (sums_at-found entries key None none))

pub returns-else-is_none-clause-ok : goal.returns-else-is_none-clause-ok
returns-else-is_none-clause-ok c =
    let entries = c.args.cells.now.entries in
    let key = c.args.position.now in
    let there : is_none (lookup (same_key key) entries) ≡ false = search rules in
    cells-there entries key there
