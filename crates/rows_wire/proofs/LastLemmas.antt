-- the last field of a message in the making is the one that was put last
use Rattle.std.proofs.Common.{◌≡◌, refl, List, [], ◌∷◌, ◌++◌}
use Rattle.blot_tag.specs.Fields.{TagValue}
use Rattle.blot_tag.specs.Writing.{last_of}

pub last_of_put : (first field : TagValue) (fields : List TagValue) → last_of first (fields ++ field ∷ []) ≡ field
last_of_put first field [] = refl
last_of_put first field (next ∷ fields) = last_of_put next field fields
