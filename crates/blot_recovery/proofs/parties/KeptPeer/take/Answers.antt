use Rattle.std.proofs.Common.{refl, ap, ◌∙◌}
use Rattle.std.proofs.lemmas.Result.{on_ok_weaker}
use Rattle.blot_recovery.specs.Parties.{events_told}
use Rattle.blot_recovery.specs.Taking.{with_event}
use Rattle.blot_recovery.proofs.PartyLemmas.{peer-more}
use Rattle.blot_recovery.proofs.parties.KeptPeer.take.Goals as goal

pub returns-clause-peer : goal.returns-clause-peer
returns-clause-peer g c =
    let old = c.args.self.now in
    on_ok_weaker c.take_up.result (λ told text more last holds.
    peer-more text more c.args.kept last c.args.own.now old (record {
      peer = old.peer;
      seat = c.take_up.new.seat;
      numbers = c.after-self.result;
      records = c.peer_record_after-self.result;
    }) c.requires.kept c.requires.stands refl c.after-self.ensures.value (c.after-self.ensures.range holds.range c.requires.kept) c.peer_record_after-self.ensures
    (told ∙ ap (with_event (events_told old.seat)) c.into_noted.ensures.value) holds) c.take_up.ensures.seat
