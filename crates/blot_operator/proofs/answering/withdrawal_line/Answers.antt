use Rattle.std.proofs.Common.{◌≡◌, ◌∙◌, ap, rules}
use Rattle.blot_console.specs.Parsing.{parsed}
use Rattle.blot_operator.specs.Asking.{withdrawal_text}
use Rattle.blot_operator.proofs.AskingLemmas.{withdrawal_asks}
use Rattle.blot_operator.proofs.answering.withdrawal_line.Goals as goal

pub returns-clause-asks : goal.returns-clause-asks
returns-clause-asks g low =
    let is : g.into_bytes.result.items ≡ withdrawal_text g.args.number = search rules in
    ap parsed is ∙ withdrawal_asks g.args.number low
