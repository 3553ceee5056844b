use Rattle.std.proofs.Common.{drop, ap, ◌∙◌}
use Rattle.std.proofs.lemmas.List.{drop_all}
use Rattle.blot_command.specs.Standings.{told_of}
use Rattle.blot_command.proofs.StandingLemmas.{told-all}
use Rattle.blot_command.proofs.snapshot.SnapshotReported.told.Goals as goal

pub returns-clause-told : goal.returns-clause-told
returns-clause-told c =
    let entries = c.deref-entry-items.result.now in
    told-all c.loop-place.told.items entries (drop c.loop-place.place entries) c.loop-place.invariant.told (drop_all c.loop-place.place entries c.loop-place-test.false)
    c.loop-place.invariant.each
    ∙ ap told_of (c.deref-entry-items.ensures.value ∙ c.self.view_is)
