-- Lists in the making.
use Rattle.std.specs.Prelude.{◌≡◌, ◌≤◌, Bool, true, List, ◌∷◌, [], ◌++◌, Result, Ok, Err, IsOkAnd, length}
use Rattle.blot_types.specs.declared.TheConstants.{ITEMS_MAX}

-- the items so far, and whether there was memory for each
pub record Made (T : Type 0) : Type 0 where
  pub items : List T
  pub complete : Bool

-- where the new list is complete, so was the old one, and the item stands after it
abbrev pub Grows : {T : Type 0} → T → Made T → Made T → Type 0
Grows item old new = new.complete ≡ true → (old.complete ≡ true) × (new.items ≡ old.items ++ item ∷ [])

-- the list is complete only where it has these items
abbrev pub HoldsItems : {T : Type 0} → Made T → List T → Type 0
HoldsItems made items = made.complete ≡ true → made.items ≡ items

-- the list that is meant was made, as far as memory went; or the fault that is meant came
abbrev pub Makes : {T F : Type 0} → Result (Made T) F → Result (List T) F → Type 0
Makes (Ok made) meant = IsOkAnd meant (HoldsItems made)
Makes (Err fault) meant = meant ≡ Err fault

-- a list that is complete isn't longer than a list may be
abbrev pub IsShort : {T : Type 0} → Made T → Type 0
IsShort made = made.complete ≡ true → length made.items ≤ ITEMS_MAX
