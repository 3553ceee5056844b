use Rattle.std.proofs.Common.{refl}
use Rattle.blot_recovery.proofs.PartyLemmas.{peer-first}
use Rattle.blot_recovery.proofs.parties.KeptPeer.new.Goals as goal

pub returns-clause-kept : goal.returns-clause-kept
returns-clause-kept g c = λ own.
    peer-first own (record { peer = c.args.peer; seat = c.args.seat; numbers = c.first.result; records = 0 }) c.requires c.first.ensures.value c.first.ensures.range refl
