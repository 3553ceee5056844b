use Rattle.std.proofs.Common.{subst}
use Rattle.blot_types.specs.Position.{part_of_line, IsSmall}
use Rattle.blot_types.proofs.GeneralLemmas.{all-more}
use Rattle.blot_report.proofs.PartLemmas.{moves-next}
use Rattle.blot_report.proofs.parts.put_moves.Goals as goal

pub loop-line-preserved : goal.loop-line-preserved
loop-line-preserved c =
    let terms = c.args.terms.now in
    let lines = c.as_slice-line-items.result.now in
    let index = c.loop-line.line-index in
    let line = c.line-item.result in
    let within = c.loop-line-test.true in
    record {
      items = moves-next c.args.parts.now.items c.loop-line.parts.items c.push.new.self.items c.push-in-loop-line.new.self.items terms lines index line c.of_line-part.result
          c.from_house.result within c.line-item.is c.loop-line.invariant.items c.of_line-part.ensures.part c.from_house.ensures.part c.in_ok-push.ensures.items
          c.in_ok-push-2.ensures.items;
      small = all-more (λ l. IsSmall (part_of_line terms l)) lines index line within c.line-item.is c.loop-line.invariant.small
          (subst IsSmall c.of_line-part.ensures.part c.of_line-part.ensures.small);
    }
