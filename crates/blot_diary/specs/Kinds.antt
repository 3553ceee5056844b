-- The types of frames that only a journal has. Source: this project's rule.
use Rattle.std.specs.Prelude.{ℕ, List, [], ◌∷◌, codes, unwrap_or}
use Rattle.std.specs.Map.{lookup}
use Rattle.blot_types.specs.Keys.{same_text}
use Rattle.blot_diary.specs.declared.kinds.Kind.{Kind}
use Rattle.blot_diary.specs.declared.kinds.Kind.TheVariants as kinds

-- the four of them
abbrev pub own_types : List (List ℕ × Kind)
own_types = (codes "UD", kinds.Beginning) ∷ (codes "UR", kinds.Wrapped) ∷ (codes "UN", kinds.Numbers) ∷ (codes "UL", kinds.Asked) ∷ []

-- the type that a value names
unfoldable pub kind_of : List ℕ → Kind
kind_of value = unwrap_or (lookup (same_text value) own_types) kinds.Message
