use Rattle.std.proofs.Common.{sym, subst, rules}
use Rattle.blot_position.specs.Sums.{HasRoom, with_one}
use Rattle.blot_position.proofs.CellLemmas.{cells-put, sums-found}
use Rattle.blot_position.proofs.cell.put_part.Goals as goal

pub add-requires : goal.add-requires
add-requires c =
    let was = sums-found c.args.cells.now.entries c.args.position.now _ c.none.result c.or_insert.result.now c.in_ok-entry.ensures.value c.none.ensures c.or_insert.ensures.value in
    subst (λ sums. HasRoom sums c.args.qty c.args.value) (sym was) c.requires

pub returns-clause-ok : goal.returns-clause-ok
returns-clause-ok c =
    let was = sums-found c.args.cells.now.entries c.args.position.now _ c.none.result c.or_insert.result.now c.in_ok-entry.ensures.value c.none.ensures c.or_insert.ensures.value in
    cells-put c.args.cells.now.entries _ c.args.position.now c.or_insert.result.now c.add.new.self (with_one c.args.qty c.args.value) was c.add.ensures
    (λ other. let put = (c.in_ok-entry.ensures.update.0 c.add.new.self).0 other in search rules)
