-- Seats that are taken from a list one by one.
use Rattle.std.proofs.Common.{◌≡◌, ℕ, List, [], ◌∷◌, ◌++◌, ap, ◌∙◌}
use Rattle.blot_desk.specs.declared.receipt.Receipt.{Receipt}
use Rattle.blot_lanes.specs.Listing.{Listed}
use Rattle.blot_lanes.specs.Seats.{Seated}
use Rattle.blotter.specs.Serving.{begins_as}

-- a listed peer at number 1 both ways, with a seat
abbrev with_seat : Seated → Listed
with_seat seat = record { peer = seat.peer; receipts = seat.receipts; expected = 1; next = 1 }

-- one more peer begins, with a seat that has no receipts
pub one-begins : (listed new before : List Listed) (one : Listed) (seat : Seated) (peer : List ℕ) (receipts : List Receipt) → new ≡ listed ++ one ∷ [] → one ≡ with_seat seat
    → seat ≡ record { peer = peer; receipts = receipts } → receipts ≡ [] → listed ≡ before → new ≡ before ++ begins_as peer ∷ []
one-begins listed new before one seat peer receipts pushed is of empty same =
    let with_receipts : List Receipt → Seated = λ receipts. record { peer = peer; receipts = receipts } in
    let begins : one ≡ begins_as peer = is ∙ ap with_seat of ∙ ap (λ receipts. with_seat (with_receipts receipts)) empty in
    pushed ∙ ap (λ one. listed ++ one ∷ []) begins ∙ ap (λ listed. listed ++ begins_as peer ∷ []) same
