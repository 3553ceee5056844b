use Rattle.std.proofs.Common.{ℕ, List, ap, arith, length, subst, sym, Contains}
use Rattle.blot_order.specs.FillNumbers.{PutAndKept, numbers_put}
use Rattle.blot_order.proofs.NumberLemmas.{length-without}
use Rattle.blot_order.proofs.fill_numbers.FillNumbers.take.Goals as goal

pub invariant_of-self : goal.invariant_of-self
invariant_of-self c =
    let there = subst (λ (these : PutAndKept). Contains these.put c.args.number) (sym c.self.view_is) c.requires in
    let taken = ap (λ (numbers : List ℕ). length numbers) c.take_number.ensures.taken in
    let shorter = length-without c.args.number (numbers_put c.self.inside.listed.items) there in
    let room = c.self.invariant.1 in
    (c.take_number.ensures.listed, omega (arith, taken, shorter, room, c.take_number.ensures.capacity))
