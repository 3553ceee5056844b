-- An operator's seat.
use Rattle.std.specs.Prelude.{ℕ, List}
use Rattle.blot_desk.specs.declared.receipt.Receipt.{Receipt}

-- whose seat it is, and its receipts
pub record Named : Type 0 where
  pub name : List ℕ
  pub receipts : List Receipt
