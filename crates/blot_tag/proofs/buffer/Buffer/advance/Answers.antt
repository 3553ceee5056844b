use Rattle.std.proofs.Common.{arith, length-drop}
use Rattle.blot_tag.proofs.buffer.Buffer.advance.Goals as goal

pub invariant_of-self : goal.invariant_of-self
invariant_of-self c =
    let old = c.args.self.now in
    record { in_range = omega (arith, length-drop old.start old.bytes.items, c.find_first-found.ensures.inside, c.unwrap_or.ensures, old.in_range) }
