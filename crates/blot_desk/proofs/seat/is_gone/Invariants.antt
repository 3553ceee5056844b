use Rattle.std.proofs.Common.{◌≡◌, false, [], take}
use Rattle.blot_desk.specs.Receipts.{seen_in}
use Rattle.blot_desk.proofs.seat.is_gone.Given as goal

-- the receipts so far: whether the number is gone, and, where none of them withdraws it, that no step did
abbrev pub invariant-loop-place : goal.invariant-loop-place
invariant-loop-place l =
    (l.gone ≡ (seen_in l.number (take l.place l.receipts)).gone) × (l.withdrawn ≡ false → (seen_in l.number (take l.place l.receipts)).withdrawals ≡ [])
