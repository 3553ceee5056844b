use Rattle.std.proofs.Common.{◌≤◌, ◌^◌, arith, rules}
use Rattle.blot_types.specs.Position.{house}
use Rattle.blot_command.proofs.OpenLemmas.{house-made, line-fits, line-made, line-opens, opens-house, other-made, terms-fit, terms-made}
use Rattle.blot_command.proofs.booking.open_terms.Goals as goal

pub loop-line-init : goal.loop-line-init
loop-line-init c =
    let symbol = c.args.terms.now.symbol in
    record {
      opens = opens-house c.house_account.result symbol c.args.positions.now c.open.new.self c.house_account.ensures c.in_ok-open.ensures.ok;
      housed = house-made c.house_account.result symbol c.args.positions.now c.open.new.self c.house_account.ensures c.in_ok-open.ensures.ok;
      made = search rules;
      small = search rules;
    }

pub loop-line-preserved : goal.loop-line-preserved
loop-line-preserved c =
    let terms = c.args.terms.now in
    let part = c.of_line-part.result in
    let lines = c.as_slice-line-items.result.now in
    record {
      opens = line-opens terms c.line-item.result part c.args.positions.now c.loop-line.positions c.open-in-loop-line.new.self c.of_line-part.ensures.part c.in_ok-open-2.ensures.ok
          c.loop-line.invariant.housed c.loop-line.invariant.opens;
      housed = other-made part.account part.symbol house terms.symbol c.loop-line.positions c.open-in-loop-line.new.self c.in_ok-open-2.ensures.ok c.loop-line.invariant.housed;
      made = line-made terms lines c.loop-line.line-index c.line-item.result part c.loop-line.positions c.open-in-loop-line.new.self c.loop-line-test.true
          c.line-item.is c.of_line-part.ensures.part c.in_ok-open-2.ensures.ok c.loop-line.invariant.made;
      small = line-fits terms lines c.loop-line.line-index c.line-item.result part c.loop-line-test.true c.line-item.is
          c.of_line-part.ensures.part c.of_line-part.ensures.small c.loop-line.invariant.small;
    }

pub returns-clause-made : goal.returns-clause-made
returns-clause-made c =
    terms-made c.args.terms.now c.as_slice-line-items.result.now c.loop-line.line-index c.loop-line.positions
    c.loop-line-test.false c.as_slice-line-items.ensures.items c.loop-line.invariant.made c.loop-line.invariant.housed

pub returns-clause-fits : goal.returns-clause-fits
returns-clause-fits c =
    let value = c.units-block.ensures.value in
    let range = c.units-block.ensures.range in
    let block : c.args.terms.now.block ≤ 10 ^ 16 = omega (arith, value, range) in
    terms-fit c.args.terms.now c.as_slice-line-items.result.now c.loop-line.line-index c.loop-line-test.false
    c.as_slice-line-items.ensures.items c.as_slice-line-items.ensures.few c.loop-line.invariant.small block
