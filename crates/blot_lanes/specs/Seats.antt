-- A broker's seat.
use Rattle.std.specs.Prelude.{◌≡◌, ℕ, List}
use Rattle.blot_desk.specs.declared.receipt.Receipt.{Receipt}
use Rattle.blot_gateway.specs.AtOnce.{TakesReceipt}
use Rattle.blot_gateway.specs.Wires.{Notice, hands}

-- whose seat it is, and its receipts
pub record Seated : Type 0 where
  pub peer : List ℕ
  pub receipts : List Receipt

-- what it does as the sink of a session: it gets the receipt of a command, none of word of another frame, and stays the same peer's
pub record TakesAs (before : Seated) (notice : Notice) (after : Seated) : Type 0 where
  pub takes : hands TakesReceipt before.receipts notice after.receipts
  pub same_peer : after.peer ≡ before.peer
