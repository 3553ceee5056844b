use Rattle.blot_arguments.proofs.RefusalLemmas.{passed_on}
use Rattle.blot_arguments.proofs.words.read_replay.Goals as goal

pub returns-in_err-day-clause-refused : goal.returns-in_err-day-clause-refused
returns-in_err-day-clause-refused c =
    passed_on _ c.from_residual-in_err-day.result _ c.from_residual-in_err-day.ensures.1 (λ other fits. c.in_err-day.ensures.refused other fits.day_text)
