use Rattle.std.proofs.Common.{◌∙◌, [], inr, refl, subst}
use Rattle.std.specs.Io.KnownBytes.{Appends}
use Rattle.std.proofs.KnownBytes.{Appends-nil}
use Rattle.blot_types.proofs.GeneralLemmas.{on_err}
use Rattle.blot_console.specs.Answers.{answer_text}
use Rattle.blot_operator.proofs.OpenDayLemmas.{closed-is}
use Rattle.blot_operator.proofs.answering.answer_line.Goals as goal

pub returns-clause-ok : goal.returns-clause-ok
returns-clause-ok g c =
    record {
      answer = c.in_ok-answer.answer;
      answered = c.in_ok-answer.ensures.ok;
      written = subst (Appends (g.W.Write.contents c.args.output.now) (g.W.Write.contents c.tell.new.output))
          (c.deref.ensures.value ∙ c.in_ok-text.ensures) c.in_ok-tell.ensures.ok;
    }

pub returns-clause-closed : goal.returns-clause-closed
returns-clause-closed g c = c.is_closed.ensures ∙ closed-is g.D.Operated.ways c.args.state.now c.args.line.now c.in_ok-answer.answer _ c.in_ok-answer.ensures.ok

pub returns-in_err-text-clause-err : goal.returns-in_err-text-clause-err
returns-in_err-text-clause-err g c =
    on_err c.from_residual-in_err-text.result (inr (record {
      answer = c.in_ok-answer.answer;
      answered = c.in_ok-answer.ensures.ok;
      front = [];
      back = answer_text c.in_ok-answer.answer;
      text_is = refl;
      written = Appends-nil (g.W.Write.contents c.args.output.now);
    }))

pub returns-in_err-tell-clause-err : goal.returns-in_err-tell-clause-err
returns-in_err-tell-clause-err g c =
    let wrote = c.in_err-tell.ensures.err in
    on_err c.from_residual-in_err-tell.result (inr (record {
      answer = c.in_ok-answer.answer;
      answered = c.in_ok-answer.ensures.ok;
      front = wrote.0;
      back = wrote.1;
      text_is = wrote.2 ∙ c.deref.ensures.value ∙ c.in_ok-text.ensures;
      written = wrote.3;
    }))
