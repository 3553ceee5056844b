-- The rows of each line as a table, and what it means that a place is the first bad one.
use Rattle.std.specs.Prelude.{◌≡◌, ℕ, pos, ◌+◌, ◌-◌, ◌==◌, List, [], ◌∷◌, ◌++◌, length, take, drop, Option, Some, None, unwrap_or, is_some, Ok, if◌then◌else◌}
use Rattle.std.specs.List.{AllByRecursion}
use Rattle.blot_decimal.specs.Meaning.{qty_units}
use Rattle.blot_console.specs.declared.{allocate.TheConstants.EXECS_PLACE, kinds.Kind.Kind}
use Rattle.blot_console.specs.declared.kinds.Kind.TheVariants as kinds
use Rattle.blot_console.specs.Forms.{number_form, count_form, rows_form, text_form, sign_form, day_form, price_form, qty_form}
use Rattle.blot_console.specs.Parsing.{kind_of}
use Rattle.blot_console.specs.Words.{words_of, word_at}

-- a row finds the place of a word bad, or well
abbrev pub Row : Type 0
Row = List (List ℕ) → Option ℕ

-- whether a word has a form; the word's place where it hasn't
abbrev pub unless_read : {A : Type 0} → ℕ → Option A → Option ℕ
unless_read place said = if is_some said then None else Some place

-- the word at a place has to have a form
abbrev pub needs : {A : Type 0} → ℕ → (List ℕ → Option A) → Row
needs place form words = unless_read place (form (word_at place words))

-- the rows of ExecIDs that stand from a place on
abbrev pub exec_rows : ℕ → List (List ℕ) → List Row
exec_rows place [] = []
exec_rows place (word ∷ words) = (λ line. unless_read place (text_form word)) ∷ exec_rows (place + 1) words

-- the rows of pairs that stand from a place on
abbrev pub pair_rows : ℕ → List (List ℕ) → List Row
pair_rows place [] = []
pair_rows place (first ∷ []) = []
pair_rows place (first ∷ second ∷ words) =
    (λ line. unless_read place (text_form first)) ∷ (λ line. unless_read (place + 1) (qty_form second)) ∷ pair_rows (place + 2) words

-- the sum of the quantities of pairs
abbrev pub pairs_sum : List (List ℕ) → ℕ
pairs_sum [] = 0
pairs_sum (first ∷ []) = 0
pairs_sum (first ∷ second ∷ words) = unwrap_or (qty_form second) 0 + pairs_sum words

-- the sum of the pairs has to be a quantity; if it isn't, the last word is told
abbrev pub block_row : List (List ℕ) → Row
block_row pairs line = unless_read (length line - 1) (qty_units (pos (pairs_sum pairs)))

-- the rows after n, where it says how many executions follow
abbrev pub rows_behind : Option ℕ → List (List ℕ) → List Row
rows_behind None words = []
rows_behind (Some count) words =
    exec_rows EXECS_PLACE (take count (drop EXECS_PLACE words))
    ++ (pair_rows (EXECS_PLACE + count) (drop (EXECS_PLACE + count) words) ++ block_row (drop (EXECS_PLACE + count) words) ∷ [])

-- the rows of an allocation
abbrev pub allocate_rows : List (List ℕ) → List Row
allocate_rows words =
    needs 1 text_form ∷ needs 2 text_form ∷ needs 3 text_form ∷ needs 4 sign_form ∷ needs 5 day_form ∷ needs 6 price_form
    ∷ needs 7 count_form ∷ rows_behind (count_form (word_at 7 words)) words

-- the row of a word that may be left out
abbrev pub optional_rows : List (List ℕ) → List Row
optional_rows words = if length words == 1 then [] else needs 1 text_form ∷ []

-- the rows of a kind of line
abbrev pub rows_of : Kind → List (List ℕ) → List Row
rows_of kinds.Undo words = needs 1 number_form ∷ []
rows_of kinds.Redo words = []
rows_of kinds.Withdraw words = needs 1 number_form ∷ []
rows_of kinds.Mine words = []
rows_of kinds.Order words = needs 1 text_form ∷ needs 2 text_form ∷ []
rows_of kinds.Position words = needs 1 text_form ∷ needs 2 text_form ∷ []
rows_of kinds.Report words = needs 1 day_form ∷ []
rows_of kinds.Allocate words = allocate_rows words
rows_of kinds.Entry words = needs 1 number_form ∷ []
rows_of kinds.Execution words = needs 1 text_form ∷ needs 2 text_form ∷ []
rows_of kinds.Allocation words = needs 1 text_form ∷ needs 2 text_form ∷ []
rows_of kinds.Needs words = needs 1 number_form ∷ []
rows_of kinds.Orders words = optional_rows words
rows_of kinds.Positions words = optional_rows words
rows_of kinds.Steps words = needs 1 rows_form ∷ []
rows_of kinds.Refusals words = needs 1 rows_form ∷ []

-- the words are well by each row
abbrev pub AreWell : List (List ℕ) → List Row → Type 0
AreWell words rows = AllByRecursion (λ row. row words ≡ None) rows

-- the place that the first row at fault finds bad
pub record IsFirstBad (words : List (List ℕ)) (rows : List Row) (place : ℕ) : Type 0 where
  pub before : List Row
  pub row : Row
  pub behind : List Row
  pub table : rows ≡ before ++ row ∷ behind
  pub well : AreWell words before
  pub found : row words ≡ Some place

-- the first bad place of a line, by the table of the kind that its first word names
pub record IsBadAt (line : List ℕ) (place : ℕ) : Type 0 where
  pub kind : Kind
  pub named : kind_of (word_at 0 (words_of line)) ≡ Ok kind
  pub first : IsFirstBad (words_of line) (rows_of kind (words_of line)) place
