use Rattle.std.proofs.Common.{◌∙◌, Some, ap, option_map, sym}
use Rattle.blot_arguments.proofs.RefusalLemmas.{apart_of, passed_on}
use Rattle.blot_arguments.specs.Words.{journal_word, peer_words}
use Rattle.blot_arguments.proofs.words.read_open.Goals as goal

pub returns-in_err-day-clause-refused : goal.returns-in_err-day-clause-refused
returns-in_err-day-clause-refused c =
    passed_on _ c.from_residual-in_err-day.result _ c.from_residual-in_err-day.ensures.1 (λ other fits. c.in_err-day.ensures.refused other fits.as_replay.day_text)

pub returns-in_err-lanes-clause-refused : goal.returns-in_err-lanes-clause-refused
returns-in_err-lanes-clause-refused c =
    passed_on _ c.from_residual-in_err-lanes.result _ c.from_residual-in_err-lanes.ensures.1 (λ other fits. c.in_err-lanes.ensures.refused other fits.lanes_count)

pub returns-in_err-check_apart-clause-refused : goal.returns-in_err-check_apart-clause-refused
returns-in_err-check_apart-clause-refused c =
    passed_on _ c.from_residual-in_err-check_apart.result _ c.from_residual-in_err-check_apart.ensures.1
    (λ other fits. c.in_err-check_apart.ensures.refused other
    (apart_of (journal_word c.args.matches.now) _ (peer_words c.args.matches.now) c.in_ok-own.own c.deref.result.now c.in_ok-own.ensures.value
    (sym c.get_strs.ensures ∙ ap (option_map _) c.in-Some.is ∙ ap Some (sym c.in_ok-peers.ensures.value) ∙ ap Some (sym c.deref.ensures.value))
    fits.apart))
