use Rattle.std.proofs.Common.{ap, ◌∙◌}
use Rattle.std.proofs.lemmas.Result.{IfOk-weaker}
use Rattle.blot_report.specs.Lines.{day_lines_of}
use Rattle.blot_report.specs.Text.{report_text}
use Rattle.blotter.proofs.settling.day_report.Goals as goal

pub returns : goal.returns
returns g c =
    let lines = c.in_ok-lines.ensures.lines ∙ ap (λ list. day_lines_of list c.args.day) c.into_book-book.ensures.run in
    IfOk-weaker c.report_text.result _ _ (λ text is. is ∙ ap report_text lines) c.report_text.ensures
