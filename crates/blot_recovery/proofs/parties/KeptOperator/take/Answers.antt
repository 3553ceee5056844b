use Rattle.std.proofs.Common.{refl, ap, ◌∙◌}
use Rattle.std.proofs.lemmas.Result.{on_ok_weaker}
use Rattle.blot_recovery.specs.Parties.{events_told}
use Rattle.blot_recovery.specs.Taking.{with_event}
use Rattle.blot_recovery.proofs.PartyLemmas.{operator-more}
use Rattle.blot_recovery.proofs.parties.KeptOperator.take.Goals as goal

pub returns-clause-operator : goal.returns-clause-operator
returns-clause-operator g c =
    let old = c.args.self.now in
    on_ok_weaker c.take_up.result (λ told text more last holds.
    operator-more text more c.args.kept last old (record { name = old.name; seat = c.take_up.new.seat; records = c.args.kept.number }) c.requires.kept
    c.requires.asked refl refl (told ∙ ap (with_event (events_told old.seat)) c.into_noted.ensures.value) holds) c.take_up.ensures.seat
