use Rattle.std.proofs.Common.{◌≡◌, map, take}
use Rattle.blot_types.specs.Order.{line_of, IsWithin, fills_of}
use Rattle.blot_model.proofs.orders.order_of.Given as goal

abbrev pub invariant-loop-version : goal.invariant-loop-version
invariant-loop-version l =
    (l.line ≡ line_of (fills_of (map (λ version. version.fill) (take l.version-index l.version-items)) l.order)) × IsWithin l.version-index l.line
