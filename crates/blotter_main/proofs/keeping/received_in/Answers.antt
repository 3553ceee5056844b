use Rattle.std.proofs.Common.{ap, sym, ◌∙◌, eqb-true, flat_map}
use Rattle.std.proofs.lemmas.List.{nil_from_length}
use Rattle.blot_capture.proofs.StreamLemmas.{frames_of-nil}
use Rattle.blot_recovery.specs.Received.{received_in, received_of}
use Rattle.blotter_main.proofs.keeping.received_in.Goals as goal

pub returns-then-is_empty-clause-received : goal.returns-then-is_empty-clause-received
returns-then-is_empty-clause-received g =
    let empty = nil_from_length g.in-Ok.text.now (eqb-true _ 0 (sym g.is_empty.ensures ∙ g.if-is_empty.true)) in
    let none = sym g.in-Ok.ensures.text ∙ empty in
    g.new.ensures.items ∙ sym (ap (received_of g.args.own) none ∙ ap (λ frames. flat_map (received_in g.args.own) frames) frames_of-nil)
