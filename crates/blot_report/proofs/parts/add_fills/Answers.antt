use Rattle.std.proofs.Common.{◌≡◌, ◌+◌, arith, ◌∷◌, [], ◌++◌, Option, Some, sym, ap, subst, ◌∙◌, IfSome, filter_map}
use Rattle.blot_types.specs.declared.{command.Entry.Entry, part.Part.Part}
use Rattle.blot_types.specs.Position.{IsSmall}
use Rattle.blot_command.specs.declared.standing.Standing.{Standing}
use Rattle.blot_command.specs.Standings.{standing_of}
use Rattle.blot_report.specs.Standings.{between, entries_in, part_on}
use Rattle.blot_report.specs.Sums.{MadeOf}
use Rattle.blot_report.proofs.ListLemmas.{between-more, all-found, all-passed, found-one, found-none}
use Rattle.blot_report.proofs.PartLemmas.{light-fills}
use Rattle.blot_report.proofs.WeightLemmas.{IsLight}
use Rattle.blot_report.proofs.RowLemmas.{made-more, room-more}
use Rattle.blot_report.proofs.parts.add_fills.Goals as goal
use Rattle.blot_report.proofs.parts.add_fills.Goals.{in-Some+in_ok-add, in_default}

pub add-requires : goal.add-requires
add-requires c =
    let list = entries_in c.args.told.now in
    let f : Entry → Option Part = λ e. part_on c.args.day.now (standing_of list e) e in
    let entry = c.told_at.result.now.entry in
    let part = c.in-Some.part in
    let before = between list c.args.first c.loop-place.place in
    let after = between list c.args.first (c.loop-place.place + 1) in
    let next = between-more list c.args.first c.loop-place.place entry c.loop-place.invariant.low (omega (arith, c.loop-place-test.true, c.requires.within)) c.told_at.ensures.own in
    let told = c.part_on.ensures.part ∙ ap (λ (s : Standing). part_on c.args.day.now s entry) c.told_at.ensures.standing in
    let brought : f entry ≡ Some part = sym told ∙ c.in-Some.is in
    let small = all-found IsSmall f before after entry part next c.loop-place.invariant.small brought
    (subst (λ found. IfSome found IsSmall) c.in-Some.is c.part_on.ensures.small) in
    let light = subst IsLight (found-one f before after entry part next brought)
    (light-fills list c.args.day.now c.args.first (c.loop-place.place + 1) c.requires.told.book small) in
    record { room = room-more (filter_map f before) part c.loop-place.positions light c.loop-place.invariant.made }

pub loop-place-preserved : goal.loop-place-preserved
loop-place-preserved c =
    let list = entries_in c.args.told.now in
    let f : Entry → Option Part = λ e. part_on c.args.day.now (standing_of list e) e in
    let entry = c.told_at.result.now.entry in
    let before = between list c.args.first c.loop-place.place in
    let after = between list c.args.first (c.loop-place.place + 1) in
    let next = between-more list c.args.first c.loop-place.place entry c.loop-place.invariant.low (omega (arith, c.loop-place-test.true, c.requires.within)) c.told_at.ensures.own in
    let told = c.part_on.ensures.part ∙ ap (λ (s : Standing). part_on c.args.day.now s entry) c.told_at.ensures.standing in
    elim c.match-part_on.branch [
      | in-Some+in_ok-add w ↦
          let part = w.in-Some.part in
          let brought = sym told ∙ w.in-Some.is in
          let made = made-more (filter_map f before) part c.loop-place.positions c.loop-place.invariant.made in
          record {
            low = omega (arith, c.loop-place.invariant.low);
            made = subst (λ parts. MadeOf parts c.match-part_on.positions) (sym (found-one f before after entry part next brought))
                (subst (MadeOf (filter_map f before ++ part ∷ [])) (sym (w.positions-is ∙ w.in_ok-add.ensures.ok)) made);
            small = all-found IsSmall f before after entry part next c.loop-place.invariant.small brought
                (subst (λ found. IfSome found IsSmall) w.in-Some.is c.part_on.ensures.small);
          }
      | in_default w ↦
          let none = sym told ∙ w.in_default.is in
          record {
            low = omega (arith, c.loop-place.invariant.low);
            made = subst (λ parts. MadeOf parts c.match-part_on.positions) (sym (found-none f before after entry next none))
                (subst (MadeOf (filter_map f before)) (sym w.positions-is) c.loop-place.invariant.made);
            small = all-passed IsSmall f before after entry next c.loop-place.invariant.small none;
          }
    ]
