use Rattle.std.proofs.Common.{◌≡◌, ◌+◌, arith, List, [], ◌∷◌, ◌++◌, Option, Some, take, sym, ap, subst, ◌∙◌, All, flat_map, option_copied, append_assoc, take_all}
use Rattle.blot_types.specs.declared.{allocation.Terms.Terms, command.Entry.Entry, part.Part.Part}
use Rattle.blot_types.specs.Position.{moves_of, TermsFit}
use Rattle.blot_position.specs.Positions.{with_part}
use Rattle.blot_command.specs.declared.standing.Standing.{Standing}
use Rattle.blot_command.specs.Standings.{standing_of}
use Rattle.blot_report.specs.Standings.{between, entries_in, moves_among, parts_among, parts_between, terms_among, terms_on}
use Rattle.blot_report.specs.Sums.{MadeOf}
use Rattle.blot_report.proofs.ListLemmas.{between-more, all-found, all-passed, found-none, more}
use Rattle.blot_report.proofs.HalfLemmas.{half-light}
use Rattle.blot_report.proofs.PartLemmas.{light-moves, light-told, moved-more}
use Rattle.blot_report.proofs.WeightLemmas.{IsLight}
use Rattle.blot_report.proofs.RowLemmas.{made-more, room-more}
use Rattle.blot_report.proofs.parts.add_moves.Goals as goal
use Rattle.blot_report.proofs.parts.add_moves.Goals.{in-Some+in_ok-put_moves+else-loop-part-test, in_default}

-- what was put into an empty list
put : (moves from : List Part) (terms : Terms) → from ≡ [] → moves ≡ from ++ moves_of terms → moves ≡ moves_of terms
put moves from terms empty is = is ∙ ap (λ front. front ++ moves_of terms) empty

pub add-requires : goal.add-requires
add-requires c =
    let list = entries_in c.args.told.now in
    let day = c.args.day.now in
    let f : Entry → Option Terms = λ e. terms_on day (standing_of list e) e in
    let entry = c.told_at.result.now.entry in
    let terms = c.in-Some.terms.now in
    let before = between list c.args.first c.loop-place.place in
    let after = between list c.args.first (c.loop-place.place + 1) in
    let next = between-more list c.args.first c.loop-place.place entry c.loop-place.invariant.low (omega (arith, c.loop-place-test.true, c.requires.within)) c.told_at.ensures.own in
    let told = c.terms_on.ensures ∙ ap (λ (s : Standing). terms_on day s entry) c.told_at.ensures.standing in
    let brought : f entry ≡ Some terms = sym told ∙ ap option_copied c.in-Some.is in
    let fit = all-found TermsFit f before after entry terms next c.loop-place.invariant.fit brought c.in_ok-put_moves.ensures.fit in
    let fills = parts_among list day (between list c.args.first c.args.after) in
    let moved = moves_among list day before in
    let moves = c.deref-part-items.result.now in
    let own : moves ≡ moves_of terms = put moves c.clear.new.self.items terms c.clear.ensures.items (c.deref-part-items.ensures.value ∙ c.in_ok-put_moves.ensures.parts) in
    let whole : fills ++ moves_among list day after ≡ (fills ++ moved) ++ moves =
    ap (λ back. fills ++ back) (moved-more list day before after entry terms next brought)
    ∙ sym (append_assoc fills moved (moves_of terms)) ∙ ap (λ back. (fills ++ moved) ++ back) (sym own) in
    let light = subst IsLight whole (light-told list day c.args.first c.args.after (c.loop-place.place + 1) c.requires.told.book c.requires.small fit) in
    record {
      room = room-more ((fills ++ moved) ++ take c.loop-part.part-index moves) c.part-item.result c.loop-part.positions
          (light-moves (fills ++ moved) moves c.loop-part.part-index c.part-item.result light c.loop-part-test.true c.part-item.is) c.loop-part.invariant;
    }

pub loop-part-preserved : goal.loop-part-preserved
loop-part-preserved c =
    let list = entries_in c.args.told.now in
    let done = parts_among list c.args.day.now (between list c.args.first c.args.after) ++ moves_among list c.args.day.now (between list c.args.first c.loop-place.place) in
    let moves = c.deref-part-items.result.now in
    let index = c.loop-part.part-index in
    let part = c.part-item.result in
    let next : (done ++ take index moves) ++ part ∷ [] ≡ done ++ take (index + 1) moves =
    append_assoc done (take index moves) (part ∷ []) ∙ ap (λ back. done ++ back) (sym (more moves index part c.loop-part-test.true c.part-item.is)) in
    let made = made-more (done ++ take index moves) part c.loop-part.positions c.loop-part.invariant in
    subst (MadeOf (done ++ take (index + 1) moves)) (sym c.in_ok-add.ensures.ok)
    (subst (λ parts. MadeOf parts (with_part part.account part.symbol part.qty part.value c.loop-part.positions)) next made)

pub loop-place-preserved : goal.loop-place-preserved
loop-place-preserved c =
    let list = entries_in c.args.told.now in
    let day = c.args.day.now in
    let f : Entry → Option Terms = λ e. terms_on day (standing_of list e) e in
    let entry = c.told_at.result.now.entry in
    let before = between list c.args.first c.loop-place.place in
    let after = between list c.args.first (c.loop-place.place + 1) in
    let next = between-more list c.args.first c.loop-place.place entry c.loop-place.invariant.low (omega (arith, c.loop-place-test.true, c.requires.within)) c.told_at.ensures.own in
    let told = c.terms_on.ensures ∙ ap (λ (s : Standing). terms_on day s entry) c.told_at.ensures.standing in
    let fills = parts_among list day (between list c.args.first c.args.after) in
    let moved = moves_among list day before in
    let positions = c.match-terms_on.positions in
    elim c.match-terms_on.branch [
      | in-Some+in_ok-put_moves+else-loop-part-test w ↦
          let terms = w.in-Some.terms.now in
          let brought = sym told ∙ ap option_copied w.in-Some.is in
          let moves = w.deref-part-items.result.now in
          let own : moves ≡ moves_of terms = put moves w.clear.new.self.items terms w.clear.ensures.items (w.deref-part-items.ensures.value ∙ w.in_ok-put_moves.ensures.parts) in
          let all : (fills ++ moved) ++ take w.loop-part.part-index moves ≡ fills ++ moves_among list day after =
          ap (λ back. (fills ++ moved) ++ back) (take_all w.loop-part.part-index moves w.loop-part-test.false ∙ own) ∙ append_assoc fills moved (moves_of terms)
          ∙ ap (λ back. fills ++ back) (sym (moved-more list day before after entry terms next brought)) in
          record {
            low = omega (arith, c.loop-place.invariant.low);
            made = subst (λ parts. MadeOf parts positions) all
                (subst (MadeOf ((fills ++ moved) ++ take w.loop-part.part-index moves)) (sym w.positions-is) w.loop-part.invariant);
            fit = all-found TermsFit f before after entry terms next c.loop-place.invariant.fit brought w.in_ok-put_moves.ensures.fit;
          }
      | in_default w ↦
          let none = sym told ∙ ap option_copied w.in_default.is in
          record {
            low = omega (arith, c.loop-place.invariant.low);
            made = subst (λ parts. MadeOf parts positions) (ap (λ found. fills ++ flat_map moves_of found) (sym (found-none f before after entry next none)))
                (subst (MadeOf (fills ++ moved)) (sym w.positions-is) c.loop-place.invariant.made);
            fit = all-passed TermsFit f before after entry next c.loop-place.invariant.fit none;
          }
    ]

pub returns : goal.returns
returns c =
    let list = entries_in c.args.told.now in
    let day = c.args.day.now in
    let first = c.args.first in
    let after = c.args.after in
    let all : c.loop-place.place ≡ after = omega (arith, c.loop-place-test.false, c.loop-place.auto.place-end, c.requires.rising) in
    let fills = parts_among list day (between list first after) in
    let made = subst (λ place. MadeOf (fills ++ moves_among list day (between list first place)) c.loop-place.positions) all c.loop-place.invariant.made in
    let fit = subst (λ place. All TermsFit (terms_among list day (between list first place))) all c.loop-place.invariant.fit in
    record { made = made; half = half-light (parts_between list day first after) c.loop-place.positions (light-told list day first after after c.requires.told.book c.requires.small fit) made }
