use Rattle.std.proofs.Common.{ℕ, List, ap, arith, length, ◌∙◌}
use Rattle.blot_order.specs.FillNumbers.{PutAndKept, numbers_put}
use Rattle.blot_order.proofs.NumberLemmas.{length-with}
use Rattle.blot_order.proofs.fill_numbers.FillNumbers.put.Goals as goal

pub invariant_of-self : goal.invariant_of-self
invariant_of-self c =
    let longer = ap (λ (numbers : List ℕ). length numbers) c.put_number.ensures.put ∙ length-with c.args.number (numbers_put c.self.inside.listed.items) in
    let kept = ap (λ (these : PutAndKept). these.kept) c.self.view_is in
    let room = c.self.invariant.1 in
    (c.put_number.ensures.listed, omega (arith, longer, kept, room, c.requires.kept, c.put_number.ensures.capacity))
