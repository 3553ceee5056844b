-- What several workers make of a list.
use Rattle.std.specs.Prelude.{◌≡◌, List, Result, Ok, Vec, map, flat_map}
use Rattle.std.specs.Borrow.{Bor}
use Rattle.std.specs.List.{AllZip}

-- items were made of the pieces of a list, those of each piece by themselves, and stand in the order of the pieces
pub record JoinsPieces {K T A E : Type 0} (made : Bor (List K) → Result (Vec T A) E → Type 0) (list : List K) (items : List T) : Type 0 where
  pub pieces : List (Bor (List K))
  pub found : List (Vec T A)
  pub whole : flat_map (λ (piece : Bor (List K)). piece.now) pieces ≡ list
  pub each : AllZip made pieces (map Ok found)
  pub joined : items ≡ flat_map (λ (own : Vec T A). own.items) found
