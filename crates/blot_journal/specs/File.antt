-- The file of a journal: a head of 4,096 bytes, and the text behind it. The head has a switch and two lengths, each in a sector of
-- its own, and the switch says which length counts.
use Rattle.std.specs.Prelude.{◌≡◌, ◌⊎◌, ℕ, ◌+◌, ◌≤◌, ◌==◌, Bool, true, false, not, List, [], ◌∷◌, ◌++◌, length, take, drop, slice_index, codes}
use Rattle.std.specs.Int.{w64, from_le_bytes}

-- the sixteen bytes by which a journal is known
abbrev pub signature : List ℕ
signature = codes "blotter journal" ++ 10 ∷ []

-- the bytes that stand where a journal has them
abbrev pub signed_in : List ℕ → List ℕ
signed_in file = take 16 (drop 1536 file)

-- the switch is 1: the second length counts
abbrev pub is_second : List ℕ → Bool
is_second file = slice_index file 0 == 1

-- the switch that says which
abbrev pub switch_for : Bool → ℕ
switch_for false = 0
switch_for true = 1

-- where the first or the second length stands
abbrev pub place : Bool → ℕ
place false = 512
place true = 1024

-- the first or the second length
abbrev pub size_in : Bool → List ℕ → ℕ
size_in second file = from_le_bytes w64 (take 8 (drop (place second) file))

-- the text, by the first or the second length
abbrev pub text_in : Bool → List ℕ → List ℕ
text_in second file = take (size_in second file) (drop 4096 file)

-- the text that a file stands for, whatever a crash made of it
abbrev pub text_of : List ℕ → List ℕ
text_of file = text_in (is_second file) file

-- it begins with the head of a journal
pub record IsJournal (file : List ℕ) : Type 0 where
  pub head : 4096 ≤ length file
  pub signed : signed_in file ≡ signature

-- and the text that counts is there to its end
pub record IsWhole (file : List ℕ) : Type 0 where
  pub journal : IsJournal file
  pub room : size_in (is_second file) file + 4096 ≤ length file

-- a file stands for the same text as another, and is whole where that is
pub record SameText (old file : List ℕ) : Type 0 where
  pub says : text_of file ≡ text_of old
  pub whole : IsWhole old → IsWhole file

-- a file stands for this text, whole
pub record Stands (text file : List ℕ) : Type 0 where
  pub says : text_of file ≡ text
  pub whole : IsWhole file

-- for a text with more behind it, or without
abbrev pub StandsBeforeOrAfter : List ℕ → List ℕ → List ℕ → Type 0
StandsBeforeOrAfter text more file = Stands text file ⊎ Stands (text ++ more) file

-- the length that counts is this one, and so long
pub record HasHead (second : Bool) (size : ℕ) (file : List ℕ) : Type 0 where
  pub switch : is_second file ≡ second
  pub size_is : size_in second file ≡ size
  pub signed : signed_in file ≡ signature
  pub room : size + 4096 ≤ length file

-- and by the other length the file has a text with more behind it
pub record IsStaged (second : Bool) (size : ℕ) (text more file : List ℕ) : Type 0 where
  pub head : HasHead second size file
  pub says : text_of file ≡ text
  pub next_size : size_in (not second) file ≡ size + length more
  pub next_room : size + length more + 4096 ≤ length file
  pub next_text : text_in (not second) file ≡ text ++ more

-- a file stands for the text of another, or for that of one of its lengths
abbrev pub Turned : Bool → List ℕ → List ℕ → Type 0
Turned second old file = Stands (text_of old) file ⊎ Stands (text_in second old) file
