use Rattle.std.proofs.Common.{ap}
use Rattle.blot_command.specs.Book.{Shown}
use Rattle.blot_command.proofs.StandingLemmas.{told}
use Rattle.blot_command.proofs.live.LiveList.standings.Goals as goal

pub returns : goal.returns
returns c =
    told c.standings_in.result c.deref.result.now c.self.inside.slots.items c.self.inside.chains.list c.self.inside.allocs.list _ c.self.invariant.holds c.deref.ensures.value
    (ap (λ (shown : Shown). shown.list) c.self.view_is) c.standings_in.ensures
