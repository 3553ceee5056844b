-- The places of frames, computed.
use Rattle.std.proofs.Common.{◌≡◌, [], ◌∷◌, refl, codes}
use Rattle.blot_tag.specs.Places.{after_bytes, place_in, placed_in}

-- the first place at which the text goes on with the frame, and not one at which it only begins to
first_place : place_in (codes "AB") (codes "AAABAB") ≡ 2
first_place = refl

-- each is looked for after the one before it
two_places : placed_in (codes "AB" ∷ codes "B" ∷ []) (codes "xxAByyyBz") ≡ record { passed = 2; text = codes "AB" } ∷ record { passed = 3; text = codes "B" } ∷ []
two_places = refl

-- frames that stand side by side
side_by_side : placed_in (codes "A" ∷ codes "A" ∷ []) (codes "AA") ≡ record { passed = 0; text = codes "A" } ∷ record { passed = 0; text = codes "A" } ∷ []
side_by_side = refl

more_before : after_bytes 4 (record { passed = 2; text = codes "AB" } ∷ record { passed = 3; text = codes "B" } ∷ [])
    ≡ record { passed = 6; text = codes "AB" } ∷ record { passed = 3; text = codes "B" } ∷ []
more_before = refl
