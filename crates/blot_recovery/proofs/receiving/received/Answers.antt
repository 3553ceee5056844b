use Rattle.std.proofs.Common.{refl, sym, ap, subst, ◌∙◌, flat_map}
use Rattle.std.proofs.lemmas.Result.{IfErr-weaker}
use Rattle.blot_recovery.specs.Received.{IsReceiveFault, received_in}
use Rattle.blot_recovery.proofs.FrameLemmas.{frames_of-nil}
use Rattle.blot_recovery.proofs.ReceivedLemmas.{receive-fault, receive-nothing}
use Rattle.blot_recovery.proofs.receiving.received.Goals as goal

pub take_all-requires-clause-first : goal.take_all-requires-clause-first
take_all-requires-clause-first g c = record {
  own_is = refl;
  received_is = c.new.ensures.items ∙ ap (flat_map (received_in c.args.own)) (sym frames_of-nil);
  begun = λ begun. absurd cc;
  nothing = λ _. refl;
}

pub returns-in-Err-clause-fault : goal.returns-in-Err-clause-fault
returns-in-Err-clause-fault g c = receive-fault c.args.own _ refl (g.P.Pieces.text c.args.text.now) c.in-Err.fault c.in-Err.ensures.fault

pub returns-in-Ok-clause-fault : goal.returns-in-Ok-clause-fault
returns-in-Ok-clause-fault g c =
    let text = g.P.Pieces.text c.args.text.now in
    IfErr-weaker c.into_received.result _ _ (λ fault is.
    subst (IsReceiveFault c.args.own text) (sym is.0) (receive-nothing c.args.own text (c.in-Ok.ensures.taken.nothing is.1))) c.into_received.ensures.none
