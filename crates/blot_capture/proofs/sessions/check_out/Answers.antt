use Rattle.std.proofs.Common.{◌≡◌, length, ap, sym, subst, ◌∙◌}
use Rattle.blot_slots.specs.Slots.{slot_of}
use Rattle.blot_slots.proofs.SlotLemmas.{answer_of-ok}
use Rattle.blot_capture.specs.Sessions.{session_in, IsAt}
use Rattle.blot_capture.proofs.LookupLemmas.{sessions-out, at-end}
use Rattle.blot_capture.proofs.sessions.check_out.Goals as goal

pub returns-in-Ok-push-clause-same : goal.returns-in-Ok-push-clause-same
returns-in-Ok-push-clause-same c =
    ap (λ out. session_in out c.check_out.new.self) c.in-Ok-push.ensures.items
    ∙ sessions-out c.args.out.now.items c.args.table.now c.check_out.new.self c.args.peer.now c.in-Ok.session c.requires.none
    (answer_of-ok (slot_of c.args.table.now c.args.peer.now) c.in-Ok.session c.in-Ok.ensures.answer) c.in-Ok.ensures.ok c.in-Ok.ensures.waiting.of_peer

pub returns-in-Ok-push-clause-place : goal.returns-in-Ok-push-clause-place
returns-in-Ok-push-clause-place c =
    let at = at-end c.args.peer.now c.args.out.now.items c.in-Ok.session c.requires.none c.in-Ok.ensures.waiting.of_peer in
    let place : length c.args.out.now.items ≡ c.len-place.result = sym (c.len-place.ensures ∙ c.args.out.now.ok.0) in
    subst (λ place. IsAt c.args.peer.now c.push.new.self.items place) place
    (subst (λ out. IsAt c.args.peer.now out (length c.args.out.now.items)) (sym c.in-Ok-push.ensures.items) at)
