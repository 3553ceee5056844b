use Rattle.std.proofs.Common.{◌≡◌, [], ◌++◌, None, ap, subst, ◌∙◌, All, option_to_list}
use Rattle.blot_terminals.proofs.StaffLemmas.{all-front, own-inserted}
use Rattle.blot_terminals.proofs.operators.OperatorTable.take_new.Goals as goal

pub invariant_of-self-2 : goal.invariant_of-self-2
invariant_of-self-2 g c = (
  own-inserted c.self.inside.named.entries c.insert.new.self.entries c.args.name None c.self.invariant.0 c.in-Ok.ensures.entries tt,
  all-front (λ receipts. receipts ≡ []) c.pop.new.self.items c.unwrap-seat.result
      (subst (All (λ receipts. receipts ≡ [])) (c.pop.ensures.items ∙ ap (λ given. c.pop.new.self.items ++ option_to_list given) c.unwrap-seat.ensures) c.self.invariant.1),
)
