-- The first place of a text where a frame, or a part of one that reaches to the text's end, begins.
use Rattle.std.specs.Prelude.{◌≡◌, ℕ, ◌+◌, ◌<◌, ◌≤◌, List, length, drop, slice_index, unwrap_or, Err, ok_or}
use Rattle.blot_tag.specs.Looking.{look_of}
use Rattle.blot_tag.specs.declared.look.Miss.TheVariants.{Partial, Neither}
use Rattle.blot_tag.specs.declared.find.Found.{Found}

-- neither begins before place n
abbrev pub NeitherBefore : ℕ → List ℕ → Type 0
NeitherBefore n text = (place : ℕ) → place < n → look_of (drop place text) ≡ Err Neither

-- the place is the first, and the length that of the frame there, if it is one
pub record IsFound (text : List ℕ) (found : Found) : Type 0 where
  pub inside : found.place + unwrap_or found.length 0 ≤ length text
  pub before : NeitherBefore found.place text
  pub here : look_of (drop found.place text) ≡ ok_or found.length Partial

-- no frame can begin from one place up to another, since no `8` stands there
pub record IsNextStart (text : List ℕ) (start next : ℕ) : Type 0 where
  pub low : start ≤ next
  pub high : next ≤ length text
  pub none : (place : ℕ) → start ≤ place → place < next → ¬ (slice_index text place ≡ 56)
