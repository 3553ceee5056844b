use Rattle.std.proofs.Common.{Err, ap, subst, sym, ◌∙◌, append_assoc}
use Rattle.blot_tag.specs.Views.{text_of}
use Rattle.blot_recovery.proofs.WalkLemmas.{fault-here, one-more}
use Rattle.blot_recovery.proofs.walking.taken_by.Goals as goal

pub returns-in-Ok-clause-taken : goal.returns-in-Ok-clause-taken
returns-in-Ok-clause-taken g c = λ first text behind so.
    one-more g.T.Takes.After first text (text_of c.args.frame.now) behind c.args.place c.args.taker.now c.take.new.self c.text-size.ensures.last
    (λ before whole after. c.in-Ok.ensures.taken first before whole after) so

pub returns-in-Err-clause-fault : goal.returns-in-Err-clause-fault
returns-in-Err-clause-fault g c = λ first text behind valid so.
    fault-here g.T.Takes.After g.T.Takes.IsOther g.T.Takes.Refuses first text (text_of c.args.frame.now) behind c.args.place c.args.taker.now c.in-Err.fault valid
    (λ found is. subst (λ text. g.T.Takes.IsOther first text found) (append_assoc so.before (text_of c.args.frame.now) behind ∙ sym so.joined)
    (c.take.ensures.other found (c.in-Err.is ∙ ap Err is) first so.before behind so.whole so.after))
    (λ at is. c.take.ensures.damaged at (c.in-Err.is ∙ ap Err is))
    c.in-Err.ensures.refused so
