use Rattle.blot_report.proofs.KeyLemmas.{positions-sorted}
use Rattle.blot_report.proofs.positions.sorted_positions.Goals as goal

pub returns : goal.returns
returns c = λ parts made.
    positions-sorted c.args.positions.now c.in_ok-keys.keys.items c.sort_unstable.new.self.items parts c.in_ok-keys.ensures made c.sort_unstable.ensures.permutation c.sort_unstable.ensures.sorted
