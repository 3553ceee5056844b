use Rattle.std.proofs.Common.{◌∙◌, ap, sym}
use Rattle.blot_types.proofs.GeneralLemmas.{on_err}
use Rattle.blot_ask.specs.Lines.{is_blank, unread}
use Rattle.blot_ask.specs.Typed.{typed}
use Rattle.blot_ask.proofs.AskingLemmas.{asked_in_part, asked_of, front_all, nothing_sent, passed_over}
use Rattle.blot_ask.proofs.asking.turn.Goals as goal

pub returns-then-is_blank-clause-talks : goal.returns-then-is_blank-clause-talks
returns-then-is_blank-clause-talks g c =
    passed_over c.args.prompts c.in_ok-take_input.field-0 _ _ _ _ _ _ c.take_input.new.line.items c.if-not-branch.false c.in_ok-take_input.ensures.taken
    (sym (c.is_blank.ensures ∙ ap is_blank c.deref.ensures.value) ∙ c.if-is_blank.true) c.in_ok-show_where.ensures.shown

pub returns-clause-talks : goal.returns-clause-talks
returns-clause-talks g c =
    asked_of c.args.prompts c.in_ok-take_input.field-0 _ _ _ _ _ _ _ _ _ c.take_input.new.line.items c.deref-3.result.now c.if-not-branch.false
    c.in_ok-take_input.ensures.taken
    (sym (c.is_blank.ensures ∙ ap is_blank c.deref.ensures.value) ∙ c.if-is_blank.false) c.in_ok-show_where.ensures.shown
    (c.deref-3.ensures.value ∙ c.in_ok-send.ensures.kept ∙ c.in_ok-asked.ensures ∙ ap typed c.deref-2.ensures.value)
    (rw (c.deref-3.ensures.value ∙ c.in_ok-send.ensures.kept) c.in_ok-send.ensures.sent) c.in_ok-tell_answer.ensures.told

pub returns-in_err-asked-clause-fault : goal.returns-in_err-asked-clause-fault
returns-in_err-asked-clause-fault g c =
    on_err c.from_residual-in_err-asked.result
    (nothing_sent (unread c.args.ahead.now (g.I.Read.remaining c.args.input.now)) (g.Q.Write.contents c.args.requests.now))

pub returns-in_err-send-clause-fault : goal.returns-in_err-send-clause-fault
returns-in_err-send-clause-fault g c =
    on_err c.from_residual-in_err-send.result
    (asked_in_part c.in_ok-take_input.field-0 _ _ _ _ c.take_input.new.line.items c.in_ok-asked.asked.items c.if-not-branch.false
    c.in_ok-take_input.ensures.taken
    (sym (c.is_blank.ensures ∙ ap is_blank c.deref.ensures.value) ∙ c.if-is_blank.false)
    (c.in_ok-asked.ensures ∙ ap typed c.deref-2.ensures.value) c.in_err-send.ensures.fault)

pub returns-in_err-tell_answer-clause-fault : goal.returns-in_err-tell_answer-clause-fault
returns-in_err-tell_answer-clause-fault g c =
    on_err c.from_residual-in_err-tell_answer.result
    (asked_in_part c.in_ok-take_input.field-0 _ _ _ _ c.take_input.new.line.items c.in_ok-asked.asked.items c.if-not-branch.false
    c.in_ok-take_input.ensures.taken
    (sym (c.is_blank.ensures ∙ ap is_blank c.deref.ensures.value) ∙ c.if-is_blank.false)
    (c.in_ok-asked.ensures ∙ ap typed c.deref-2.ensures.value) (front_all _ _ _ c.in_ok-send.ensures.sent))
