use Rattle.std.proofs.Common.{subst, sym, ap, ◌∙◌, not, All, filter, option_to_list}
use Rattle.std.proofs.lemmas.Result.{IfErr-weaker, IfOk-weaker}
use Rattle.blot_desk.specs.Desk.{DeskState}
use Rattle.blot_desk.specs.Keeping.{is_ask, kept_events}
use Rattle.blot_diary.proofs.AskLemmas.{all-kept}
use Rattle.blot_recovery.specs.Refusals.{IsRecoverFault}
use Rattle.blot_recovery.specs.Parties.{AreKeptOperators, IsFirst, IsKeptPeer, operator_names}
use Rattle.blot_recovery.specs.Taking.{AreInPlace, names_of}
use Rattle.blot_recovery.specs.declared.operators.KeptOperators.{KeptOperators}
use Rattle.blot_recovery.proofs.RefusalLemmas.{empty-fault, recover-fault}
use Rattle.blot_recovery.proofs.TestLemmas.{if-told}
use Rattle.blot_recovery.proofs.recovering.recover.Goals as goal

pub returns-in_err-take_all-clause-fault : goal.returns-in_err-take_all-clause-fault
returns-in_err-take_all-clause-fault g c =
    let text = g.P.Pieces.text c.args.text.now in
    let fault = c.in_err-take_all.field-0.0 in
    let made = c.in_ok-taking.ensures in
    if-told (IsRecoverFault c.args.own c.args.day c.args.peers.now (option_to_list c.args.operator) text) fault c.from_residual-in_err-take_all.result
    c.from_residual-in_err-take_all.ensures.1
    (recover-fault c.args.own c.args.day c.args.peers.now (option_to_list c.args.operator) c.in_ok-taking.taking made.own made.wanted made.listed made.named text fault
    c.in_err-take_all.ensures.fault)

pub returns-clause-kept : goal.returns-clause-kept
returns-clause-kept g c =
    let text = g.P.Pieces.text c.args.text.now in
    IfOk-weaker c.into_recovered.result _ _ (λ recovered is. ap (λ (opening : DeskState). kept_events opening.history) is
    ∙ ap (filter (λ event. not (is_ask event))) c.in_ok-take_all.ensures.taken.taken.has.events ∙ all-kept text) c.into_recovered.ensures.opening

pub returns-clause-peers : goal.returns-clause-peers
returns-clause-peers g c =
    let text = g.P.Pieces.text c.args.text.now in
    let taken = c.in_ok-take_all.ensures.taken in
    IfOk-weaker c.into_recovered.result _ _ (λ recovered is. subst (λ own. All (IsKeptPeer own text) recovered.peers.items)
    (taken.asks.own_is ∙ c.in_ok-taking.ensures.own) (subst (All (IsKeptPeer c.take_all.new.taker.own text)) (sym is) taken.taken.has.peers)) c.into_recovered.ensures.peers

pub returns-clause-operators : goal.returns-clause-operators
returns-clause-operators g c =
    let text = g.P.Pieces.text c.args.text.now in
    IfOk-weaker c.into_recovered.result _ _ (λ recovered is. subst (AreKeptOperators text) (sym is) c.in_ok-take_all.ensures.taken.taken.has.operators)
    c.into_recovered.ensures.operators

pub returns-clause-first : goal.returns-clause-first
returns-clause-first g c =
    let first = c.in_ok-take_all.ensures.taken.asks.first_is c.args.operator c.in_ok-taking.ensures.operator in
    IfOk-weaker c.into_recovered.result _ _ (λ recovered is. subst (λ (operators : KeptOperators g.row.L.Denot). IsFirst c.args.operator (operator_names operators.named.items)) (sym is) first)
    c.into_recovered.ensures.operators

pub returns-clause-in_place : goal.returns-clause-in_place
returns-clause-in_place g c =
    let text = g.P.Pieces.text c.args.text.now in
    let taken = c.in_ok-take_all.ensures.taken in
    let made = c.in_ok-taking.ensures in
    let all = subst (λ own. AreInPlace own (names_of c.take_all.new.taker.peers.items) text) (taken.asks.own_is ∙ made.own)
    taken.taken.in_place in
    let all_listed = subst (λ names. AreInPlace c.args.own names text) (taken.asks.names_are ∙ made.listed) all in
    IfOk-weaker c.into_recovered.result _ _ (λ _ _. all_listed) c.into_recovered.ensures.opening

pub returns-clause-fault : goal.returns-clause-fault
returns-clause-fault g c =
    let text = g.P.Pieces.text c.args.text.now in
    let taken = c.in_ok-take_all.ensures.taken in
    IfErr-weaker c.into_recovered.result _ _ (λ fault is.
    subst (IsRecoverFault c.args.own c.args.day c.args.peers.now (option_to_list c.args.operator) text) (sym is.0)
    (empty-fault c.args.own c.args.day c.args.peers.now (option_to_list c.args.operator) text (taken.taken.nothing is.1))) c.into_recovered.ensures.none
