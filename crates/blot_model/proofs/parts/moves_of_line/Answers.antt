use Rattle.std.proofs.Common.{◌*◌, arith, ◌∙◌}
use Rattle.blot_types.specs.Bounds.{BOOK_QTY}
use Rattle.blot_model.proofs.PositionLemmas.{sums-line, line-range, line-up_to, house-up_to, up_to-weaker, up_to-joined}
use Rattle.blot_model.proofs.parts.moves_of_line.Goals as goal

pub joined-requires-clause-first : goal.joined-requires-clause-first
joined-requires-clause-first c =
    let terms = c.args.terms.now in
    let line = c.args.line.now in
    let part = c.of_line-part.result in
    let is = c.of_line-part.ensures.part in
    let range = line-range terms line part is c.of_line-part.ensures.small in
    up_to-weaker line.qty BOOK_QTY c.shown-booked.result (omega (arith, range)) (c.shown-booked.ensures.small line.qty (line-up_to terms line part is c.of_line-part.ensures.small))

pub joined-requires-clause-second : goal.joined-requires-clause-second
joined-requires-clause-second c =
    let terms = c.args.terms.now in
    let line = c.args.line.now in
    let part = c.of_line-part.result in
    let is = c.of_line-part.ensures.part in
    let range = line-range terms line part is c.of_line-part.ensures.small in
    let small = house-up_to line.qty part c.from_house.result c.from_house.ensures.part (line-up_to terms line part is c.of_line-part.ensures.small) in
    up_to-weaker line.qty BOOK_QTY c.shown-taken.result (omega (arith, range)) (c.shown-taken.ensures.small line.qty small)

pub returns-clause-sums : goal.returns-clause-sums
returns-clause-sums c =
    c.joined.ensures
    ∙ sums-line c.args.account.now c.args.symbol.now c.args.terms.now c.args.line.now c.of_line-part.result c.from_house.result c.shown-booked.result c.shown-taken.result
    c.of_line-part.ensures.part c.from_house.ensures.part c.shown-booked.ensures.sums c.shown-taken.ensures.sums

pub returns-clause-small : goal.returns-clause-small
returns-clause-small c =
    let qty = c.args.line.now.qty in
    let part = c.of_line-part.result in
    let small = line-up_to c.args.terms.now c.args.line.now part c.of_line-part.ensures.part c.of_line-part.ensures.small in
    up_to-joined qty qty (2 * qty) c.shown-booked.result c.shown-taken.result c.joined.result c.joined.ensures
    (c.shown-booked.ensures.small qty small) (c.shown-taken.ensures.small qty (house-up_to qty part c.from_house.result c.from_house.ensures.part small)) (omega arith)

pub returns-clause-range : goal.returns-clause-range
returns-clause-range c = line-range c.args.terms.now c.args.line.now c.of_line-part.result c.of_line-part.ensures.part c.of_line-part.ensures.small
