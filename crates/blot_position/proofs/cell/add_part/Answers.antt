use Rattle.std.proofs.Common.{◌≡◌, Some, None, true, false, sym, subst, ap, ◌∙◌, is_some}
use Rattle.std.specs.Map.{lookup}
use Rattle.std.specs.Option.{option_copied_mut}
use Rattle.blot_position.specs.Positions.{same_key}
use Rattle.blot_position.specs.Sums.{HasRoom, with_one}
use Rattle.blot_position.proofs.CellLemmas.{has_cell-found, cells-changed, sums_at-found}
use Rattle.blot_position.proofs.cell.add_part.Goals as goal

pub unreachable-requires : goal.unreachable-requires
unreachable-requires c =
    let entries = c.args.cells.now.entries in
    let key = c.args.position.now in
    let none : lookup (same_key key) entries ≡ None = sym c.get_mut.ensures.value ∙ ap option_copied_mut c.in-None.is in
    let clash : true ≡ false = sym c.requires.made ∙ has_cell-found entries key ∙ ap is_some none in
    cc

pub add-requires : goal.add-requires
add-requires c =
    subst (λ sums. HasRoom sums c.args.qty c.args.value)
    (sums_at-found c.args.cells.now.entries c.args.position.now (Some c.in-Some.sums.now) (sym c.in-Some.ensures.value)) c.requires.room

pub returns : goal.returns
returns c =
    cells-changed c.args.cells.now.entries _ c.args.position.now c.in-Some.sums.now c.add.new.self (with_one c.args.qty c.args.value)
    (sym c.in-Some.ensures.value) c.add.ensures
    (λ other. ((c.get_mut.follows.holds c.add.new.self).3 (ap is_some (sym c.in-Some.ensures.value))).0 other)
