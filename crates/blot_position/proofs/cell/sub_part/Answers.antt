use Rattle.std.proofs.Common.{◌≡◌, Some, None, sym, subst, ap, ◌∙◌, is_some, arith}
use Rattle.std.specs.Map.{lookup}
use Rattle.std.specs.Option.{option_copied_mut}
use Rattle.blot_position.specs.Positions.{same_key}
use Rattle.blot_position.specs.Sums.{HasPart, without_one}
use Rattle.blot_position.proofs.CellLemmas.{cells-changed, sums_at-found}
use Rattle.blot_position.proofs.cell.sub_part.Goals as goal

pub unreachable-requires : goal.unreachable-requires
unreachable-requires c =
    let entries = c.args.cells.now.entries in
    let key = c.args.position.now in
    let none : lookup (same_key key) entries ≡ None = sym c.get_mut.ensures.value ∙ ap option_copied_mut c.in-None.is in
    let some = (subst (λ sums. HasPart sums c.args.qty c.args.value) (sums_at-found entries key None none) c.requires).some in
    omega (arith, some)

pub without_part-requires : goal.without_part-requires
without_part-requires c =
    subst (λ sums. HasPart sums c.args.qty c.args.value)
    (sums_at-found c.args.cells.now.entries c.args.position.now (Some c.in-Some.sums.now) (sym c.in-Some.ensures.value)) c.requires

pub returns : goal.returns
returns c =
    cells-changed c.args.cells.now.entries _ c.args.position.now c.in-Some.sums.now c.without_part.result (without_one c.args.qty c.args.value)
    (sym c.in-Some.ensures.value) c.without_part.ensures
    (λ other. ((c.get_mut.follows.holds c.without_part.result).3 (ap is_some (sym c.in-Some.ensures.value))).0 other)
