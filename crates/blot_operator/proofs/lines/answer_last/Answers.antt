use Rattle.std.proofs.Common.{sym}
use Rattle.blot_types.proofs.GeneralLemmas.{on_err}
use Rattle.blot_operator.proofs.LineLemmas.{nothing, something}
use Rattle.blot_operator.proofs.DialogueLemmas.{HasTold-last, HasTold-done, StopsAmong-last}
use Rattle.blot_operator.proofs.lines.answer_last.Goals as goal

pub returns-then-is_empty-clause-ok : goal.returns-then-is_empty-clause-ok
returns-then-is_empty-clause-ok g c = λ start bytes before has.
    HasTold-done start bytes _ _ before _ (nothing c.args.line.now (sym c.if-is_empty.ensures)) has

pub returns-clause-ok : goal.returns-clause-ok
returns-clause-ok g c = λ start bytes before has.
    HasTold-last start bytes _ _ _ before _ _ (something c.args.line.now (sym c.if-is_empty.ensures)) has c.in_ok-answer_line.ensures.ok

pub returns-in_err-answer_line-clause-err : goal.returns-in_err-answer_line-clause-err
returns-in_err-answer_line-clause-err g c =
    on_err c.from_residual.result (λ start bytes before has.
    StopsAmong-last start bytes _ _ _ before _ _ (something c.args.line.now (sym c.if-is_empty.ensures)) has c.in_err-answer_line.ensures.err)
