use Rattle.std.proofs.Common.{arith, subst, sym}
use Rattle.blot_order.specs.FillNumbers.{AreListed}
use Rattle.blot_order.proofs.NumberLemmas.{length-put}
use Rattle.blot_order.proofs.fill_numbers.FillNumbers.add_kept.Goals as goal

pub invariant_of-self-2 : goal.invariant_of-self-2
invariant_of-self-2 c =
    let same = c.in_ok-reserve.ensures.items in
    let room = c.in_ok-reserve.ensures.ok in
    let long = length-put c.reserve.new.self.items in
    (subst AreListed (sym same) c.self.invariant.0, omega (arith, room, long))
