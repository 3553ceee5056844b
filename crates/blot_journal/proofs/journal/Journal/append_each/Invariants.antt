use Rattle.std.proofs.Common.{◌≡◌, ◌≤◌, ◌++◌, [], ℕ, List, false, take}
use Rattle.std.specs.List.{concat}
use Rattle.blot_journal.specs.Device.{LeavesOnly}
use Rattle.blot_journal.specs.File.{Stands}
use Rattle.blot_journal.specs.Journal.{StandsAmong, contents, text_in_journal}
use Rattle.blot_journal.proofs.journal.Journal.append_each.Given as goal

abbrev pub invariant-loop-batch : goal.invariant-loop-batch
invariant-loop-batch g l =
    let text = text_in_journal g.D.Device.seen l.fn.self in
    (l.self.is_broken ≡ false)
    × (l.self.waiting ≡ [])
    × (l.durable ≡ l.batch-index)
    × (text_in_journal g.D.Device.seen l.self ≡ text ++ concat (take l.batch-index (contents l.batches)))
    × ((file : List ℕ) → g.D.Device.may_leave l.self.device file → Stands (text_in_journal g.D.Device.seen l.self) file)
    × LeavesOnly g.D.Device.moment g.D.Device.left_since l.fn.self.device l.self.device (StandsAmong text (contents l.batches) 0)
    × (g.D.Device.failures l.fn.self.device ≤ g.D.Device.failures l.self.device)
