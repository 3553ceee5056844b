use Rattle.std.proofs.Common.{refl, arith, ◌∙◌}
use Rattle.std.proofs.lemmas.Grind.{common_steps}
use Rattle.blot_chain.proofs.CellLemmas.{found-places, same-under}
use Rattle.blot_chain.proofs.PlaceLemmas.{keeps-reached, places-kept, room-kept, there-reached}
use Rattle.blot_chain.proofs.cells.Cells.reach.Goals as goal

pub returns-clause-place : goal.returns-clause-place
returns-clause-place g c =
    there-reached g.K.PartialEq.eq c.args.key.now c.self.inside.cells.entries _ _ c.new.result c.or_insert.result.now
    c.in_ok-entry.ensures.value c.or_insert.ensures.value (grind (arith, common_steps))
    c.index-place.result (c.index-place.ensures ∙ c.in_ok-entry.ensures.index) (g.met.K.Eq.laws.refl c.args.key.now)

pub returns-clause-same : goal.returns-clause-same
returns-clause-same g c =
    rw (← c.self.view_is)
    (same-under g.K.PartialEq.eq g.met.K.Eq.laws _ _ c.args.key.now c.or_insert.result.now c.or_insert.result.now
    (found-places g.K.PartialEq.eq _ c.args.key.now _ c.new.result c.or_insert.result.now c.in_ok-entry.ensures.value c.or_insert.ensures.value c.new.ensures.takers c.new.ensures.versions c.new.ensures.busts)
    (λ other. grind (arith, common_steps))
    (record { takers = refl; versions = refl; busts = refl }))

pub returns-clause-places : goal.returns-clause-places
returns-clause-places g c =
    rw (← c.self.view_is)
    (places-kept _ _
    (keeps-reached g.K.PartialEq.eq c.args.key.now c.self.inside.cells.entries _ _ c.new.result c.or_insert.result.now
    c.in_ok-entry.ensures.value c.or_insert.ensures.value (grind (arith, common_steps))))

pub returns-clause-room : goal.returns-clause-room
returns-clause-room g c =
    rw (← c.self.view_is)
    (room-kept _ _
    (keeps-reached g.K.PartialEq.eq c.args.key.now c.self.inside.cells.entries _ _ c.new.result c.or_insert.result.now
    c.in_ok-entry.ensures.value c.or_insert.ensures.value (grind (arith, common_steps))))
