-- How many rounds there were.
use Rattle.std.proofs.Common.{◌≡◌, ℕ, ◌+◌, ◌<◌, List, [], ◌∷◌, length, refl, ap, subst, sym, arith, suc}
use Rattle.blot_desk.specs.declared.receipt.Receipt.{Receipt}
use Rattle.blot_gateway.specs.AtOnce.{EachAdds}
use Rattle.blotter.specs.Rounds.{FewerLead, RoundsLead}

-- after a round there are as many seats
pub as-many : (before after : List (List Receipt)) → EachAdds before after → length after ≡ length before
as-many [] [] adds = refl
as-many (x ∷ before) (y ∷ after) adds = ap suc (as-many before after adds.1)
as-many [] (y ∷ after) adds = absurd adds
as-many (x ∷ before) [] adds = absurd adds

-- one more round
pub one-more : (round : List (List Receipt) → List (List Receipt) → Type 0) (count : ℕ) (before between after : List (List Receipt))
    → RoundsLead round count before between → round between after → RoundsLead round (count + 1) before after
one-more round count before between after rounds last =
    let same : suc count ≡ count + 1 = omega arith in
    subst (λ count. RoundsLead round count before after) same (between, rounds, last)

-- rounds that stop at one that serves none
pub stops-at : (round : List (List Receipt) → List (List Receipt) → Type 0) (count rounds : ℕ) (before between after : List (List Receipt))
    → count < rounds → RoundsLead round count before between → after ≡ between → FewerLead round rounds before after
stops-at round count rounds before between after less led kept = (count, less, subst (λ seats. RoundsLead round count before seats) (sym kept) led)
