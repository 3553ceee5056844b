use Rattle.blot_operator.proofs.answering.answer_event.Goals as goal

pub returns-in-Ok-clause-tellable : goal.returns-in-Ok-clause-tellable
returns-in-Ok-clause-tellable g c = rw (c.with_key.ensures, c.asked_by-asked.ensures) c.in-Ok.ensures.tellable
