use Rattle.std.proofs.Common.{◌/◌, length, subst}
use Rattle.blot_report.specs.Day.{day_parts_of}
use Rattle.blot_report.specs.Standings.{parts_between}
use Rattle.blot_report.specs.Sums.{IsOfParts}
use Rattle.blot_report.proofs.HalfLemmas.{AreOfBoth, parts-cut, shows-both}
use Rattle.blot_report.proofs.ListLemmas.{if_was}
use Rattle.blot_report.proofs.StandingLemmas.{as-many-standings}
use Rattle.blot_report.proofs.parts.positions_in_halves.Goals as goal

pub returns : goal.returns
returns g c =
    let list = g.B.Reported.list_of c.args.book.now in
    let day = c.args.day.now in
    let all = length c.args.standings.now in
    let middle = all / 2 in
    let first = parts_between list day 0 middle in
    let second = parts_between list day middle all in
    let one = if_was c.join-first.result.0 c.in_ok-positions.positions (IsOfParts first) c.in_ok-positions.was c.join-first.ensures.first in
    let two = if_was c.join-first.result.1 c.in_ok-others.others (IsOfParts second) c.in_ok-others.was c.join-first.ensures.second in
    shows-both first second (day_parts_of list day) c.in_ok-positions.positions c.in_ok-others.others c.add_positions.new.positions one.made two.made c.in_ok-add_positions.ensures
    (subst (λ after. AreOfBoth first (parts_between list day middle after) (day_parts_of list day)) (as-many-standings list c.args.standings.now c.requires) (parts-cut list day middle))
