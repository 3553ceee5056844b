use Rattle.std.proofs.Common.{refl, subst, sym}
use Rattle.std.proofs.lemmas.Result.{on_ok_weaker}
use Rattle.blot_recovery.specs.Parties.{IsKeptOperator}
use Rattle.blot_recovery.proofs.OperatorLemmas.{first-set, operators-asked, seat-set}
use Rattle.blot_recovery.proofs.operators.KeptOperators.take.Goals as goal

pub returns-clause-operators : goal.returns-clause-operators
returns-clause-operators g c =
    let at = c.in_ok-at.at in
    let operator = c.index_mut.result.now in
    let is = c.index_mut.ensures.value in
    on_ok_weaker c.take.result (λ holds text more last before.
    let came = c.in_ok-at.ensures.kept text before in
    operators-asked text more c.args.kept last c.place_for.new.self _ at c.args.name c.take.new.self operator c.in_ok-at.ensures.within c.in_ok-at.ensures.name c.requires.asked is
    c.take.ensures.name refl refl (holds text more last (subst (IsKeptOperator text) (sym is) (came.named at operator c.in_ok-at.ensures.within))) came) c.take.ensures.operator

pub returns-clause-first : goal.returns-clause-first
returns-clause-first g c =
    on_ok_weaker c.take.result (λ _ first before.
    first-set first c.place_for.new.self.named.items _ c.in_ok-at.at c.take.new.self c.index_mut.result.now c.index_mut.ensures.value c.take.ensures.name refl
    (c.in_ok-at.ensures.first first before)) c.take.ensures.operator

pub returns-clause-seat : goal.returns-clause-seat
returns-clause-seat g c =
    on_ok_weaker c.take.result (λ _.
    seat-set c.args.name c.args.self.now c.place_for.new.self _ c.in_ok-at.at c.take.new.self c.index_mut.result.now c.index_mut.ensures.value c.take.ensures.name refl refl
    c.in_ok-at.ensures.seat) c.take.ensures.operator
