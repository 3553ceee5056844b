use Rattle.std.proofs.Common.{drop}
use Rattle.blot_desk.proofs.MarkLemmas.{IsMarking}
use Rattle.blot_desk.proofs.settling.mark_receipts.Given as goal

abbrev pub invariant-loop-receipt : goal.invariant-loop-receipt
invariant-loop-receipt l = IsMarking l.history l.fn.marks l.marks l.receipts (drop l.receipt-index l.receipts) l.from
