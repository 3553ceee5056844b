use Rattle.std.proofs.Common.{Some, refl, subst, sym}
use Rattle.blot_desk.specs.Makers.{IsFoundBy}
use Rattle.blot_operator.proofs.operated.OpenOperated.look.Goals as goal

pub returns-clause-finds : goal.returns-clause-finds
returns-clause-finds g c = record {
  found = c.in_ok-found.found;
  makers = Some c.new.result;
  finds = subst (IsFoundBy c.args.question.now c.in_ok-found.found) (sym c.new.ensures) c.in_ok-found.ensures;
  answer_is = refl;
}
