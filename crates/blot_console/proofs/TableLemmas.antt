-- The place that is told is the first bad one.
use Rattle.std.proofs.Common.{◌≡◌, ℕ, ℤ, pos, ◌+◌, ◌-◌, Bool, true, false, List, [], ◌∷◌, ◌++◌, length, take, drop, Option, Some, None, Result, Ok, Err, refl, sym, ap, subst, ◌∙◌, if◌then◌else◌, ◌==◌, nat_lt, nat_le, codes}
use Rattle.std.specs.Option.{option_or}
use Rattle.blot_decimal.specs.Meaning.{qty_units}
use Rattle.blot_time.specs.Results.{◌>>=◌}
use Rattle.blot_types.specs.declared.{allocation.Line.Line, keys.ExecKey.ExecKey}
use Rattle.blot_types.specs.Keys.{same_text}
use Rattle.blot_console.specs.declared.{allocate.TheConstants.EXECS_PLACE, ask.Ask.Ask, fault.LineFault.LineFault, fault.Wrong.Wrong, kinds.Kind.Kind, parsing.TheConstants.LINE_MAX}
use Rattle.blot_console.specs.declared.ask.Ask.TheVariants.{Orders, Positions}
use Rattle.blot_console.specs.declared.fault.LineFault.TheVariants as faults
use Rattle.blot_console.specs.declared.fault.Wrong.TheVariants.{UnknownWord, WrongCount, BadValue, TooLong}
use Rattle.blot_console.specs.declared.kinds.Kind.TheVariants as kinds
use Rattle.blot_console.specs.Allocate.{are_pairs, counted_by, execs_counted, execs_of, line_of, lines_of, block_of, allocate_line}
use Rattle.blot_console.specs.Forms.{number_form, count_form, rows_form, text_form, sign_form, day_form, price_form, qty_form}
use Rattle.blot_console.specs.Lines.{undo_line, redo_line, withdraw_line, mine_line, order_line, position_line, report_line}
use Rattle.blot_console.specs.QuestionLines.{allocation_line, entry_line, execution_line, needs_line, optional_text, orders_line, positions_line, refusals_line, second_text, steps_line}
use Rattle.blot_console.specs.Parsing.{kind_of, question_kind_of, line_by, words_line, ask_of, ask_or_fault, parsed}
use Rattle.blot_console.specs.Rows.{counted, at, value_at}
use Rattle.blot_console.specs.Tables.{Row, unless_read, needs, exec_rows, pair_rows, pairs_sum, block_row, rows_behind, allocate_rows, optional_rows, rows_of, IsFirstBad, IsBadAt}
use Rattle.blot_console.specs.Words.{words_of, word_at}

-- the first place that a row finds bad
abbrev first_bad : List (List ℕ) → List Row → Option ℕ
first_bad words [] = None
first_bad words (row ∷ rows) = option_or (row words) (first_bad words rows)

-- a bad value is told at the first bad place
abbrev Tells : {A : Type 0} → List (List ℕ) → List Row → Result A Wrong → Type 0
Tells words rows (Ok value) = Unit {0}
Tells words rows (Err UnknownWord) = Unit {0}
Tells words rows (Err WrongCount) = Unit {0}
Tells words rows (Err (BadValue place)) = first_bad words rows ≡ Some place
Tells words rows (Err TooLong) = Unit {0}

-- a row that finds its place well changes nothing
past : {A : Type 0} (words : List (List ℕ)) (row : Row) (rows : List Row) (read : Result A Wrong) → row words ≡ None → Tells words rows read → Tells words (row ∷ rows) read
past words row rows (Ok value) well tells = tt
past words row rows (Err UnknownWord) well tells = tt
past words row rows (Err WrongCount) well tells = tt
past words row rows (Err (BadValue place)) well tells = rw well tells
past words row rows (Err TooLong) well tells = tt

-- a word that is read by a row
at_row : {A B : Type 0} (words : List (List ℕ)) (row : Row) (rows : List Row) (place : ℕ) (said : Option A) (next : A → Result B Wrong)
    → row words ≡ unless_read place said → ((value : A) → said ≡ Some value → Tells words rows (next value)) → Tells words (row ∷ rows) (at place said >>= next)
at_row words row rows place None next is later = rw is refl
at_row words row rows place (Some value) next is later = past words row rows (next value) is (later value refl)

value_row : {A B : Type 0} (words : List (List ℕ)) (place : ℕ) (form : List ℕ → Option A) (rows : List Row) (next : A → Result B Wrong)
    → ((value : A) → form (word_at place words) ≡ Some value → Tells words rows (next value)) → Tells words (needs place form ∷ rows) (value_at place form words >>= next)
unfolding value_at
value_row words place form rows next later = at_row words (needs place form) rows place (form (word_at place words)) next refl later

-- the count of words is no row
counted_row : {B : Type 0} (words : List (List ℕ)) (count : ℕ) (rows : List Row) (next : Unit {0} → Result B Wrong) → Tells words rows (next tt) → Tells words rows (counted count words >>= next)
unfolding counted
counted_row words count rows next later = by_count (length words == count)
  where
    by_count : (same : Bool) → Tells words rows ((if same then Ok tt else Err WrongCount) >>= next)
    by_count true = later
    by_count false = tt

-- the lines without lists
undo-tells : (words : List (List ℕ)) → Tells words (rows_of kinds.Undo words) (undo_line words)
unfolding undo_line
undo-tells words = counted_row words 2 (rows_of kinds.Undo words) _ (value_row words 1 number_form [] _ (λ newest is. tt))

redo-tells : (words : List (List ℕ)) → Tells words (rows_of kinds.Redo words) (redo_line words)
unfolding redo_line
redo-tells words = counted_row words 1 [] _ tt

withdraw-tells : (words : List (List ℕ)) → Tells words (rows_of kinds.Withdraw words) (withdraw_line words)
unfolding withdraw_line
withdraw-tells words = counted_row words 2 (rows_of kinds.Withdraw words) _ (value_row words 1 number_form [] _ (λ number is. tt))

mine-tells : (words : List (List ℕ)) → Tells words (rows_of kinds.Mine words) (mine_line words)
unfolding mine_line
mine-tells words = counted_row words 1 [] _ tt

order-tells : (words : List (List ℕ)) → Tells words (rows_of kinds.Order words) (order_line words)
unfolding order_line
order-tells words =
    counted_row words 3 (rows_of kinds.Order words) _ (value_row words 1 text_form (needs 2 text_form ∷ []) _ (λ peer is. value_row words 2 text_form [] _ (λ id is. tt)))

position-tells : (words : List (List ℕ)) → Tells words (rows_of kinds.Position words) (position_line words)
unfolding position_line
position-tells words =
    counted_row words 3 (rows_of kinds.Position words) _ (value_row words 1 text_form (needs 2 text_form ∷ []) _ (λ account is. value_row words 2 text_form [] _ (λ symbol is. tt)))

report-tells : (words : List (List ℕ)) → Tells words (rows_of kinds.Report words) (report_line words)
unfolding report_line
report-tells words = counted_row words 2 (rows_of kinds.Report words) _ (value_row words 1 day_form [] _ (λ day is. tt))

-- ---- the questions

-- a step within a step
nested : {A B C : Type 0} (read : Result A Wrong) (next : A → Result B Wrong) (last : B → Result C Wrong) → ((read >>= next) >>= last) ≡ (read >>= λ value. next value >>= last)
nested (Ok value) next last = refl
nested (Err wrong) next last = refl

entry-tells : (words : List (List ℕ)) → Tells words (rows_of kinds.Entry words) (entry_line words)
unfolding entry_line
entry-tells words = counted_row words 2 (rows_of kinds.Entry words) _ (value_row words 1 number_form [] _ (λ number is. tt))

execution-tells : (words : List (List ℕ)) → Tells words (rows_of kinds.Execution words) (execution_line words)
unfolding execution_line
execution-tells words =
    counted_row words 3 (rows_of kinds.Execution words) _ (value_row words 1 text_form (needs 2 text_form ∷ []) _ (λ peer is. value_row words 2 text_form [] _ (λ id is. tt)))

allocation-tells : (words : List (List ℕ)) → Tells words (rows_of kinds.Allocation words) (allocation_line words)
unfolding allocation_line
allocation-tells words =
    counted_row words 3 (rows_of kinds.Allocation words) _ (value_row words 1 text_form (needs 2 text_form ∷ []) _ (λ peer is. value_row words 2 text_form [] _ (λ id is. tt)))

needs-tells : (words : List (List ℕ)) → Tells words (rows_of kinds.Needs words) (needs_line words)
unfolding needs_line
needs-tells words = counted_row words 2 (rows_of kinds.Needs words) _ (value_row words 1 number_form [] _ (λ number is. tt))

steps-tells : (words : List (List ℕ)) → Tells words (rows_of kinds.Steps words) (steps_line words)
unfolding steps_line
steps-tells words = counted_row words 2 (rows_of kinds.Steps words) _ (value_row words 1 rows_form [] _ (λ count is. tt))

refusals-tells : (words : List (List ℕ)) → Tells words (rows_of kinds.Refusals words) (refusals_line words)
unfolding refusals_line
refusals-tells words = counted_row words 2 (rows_of kinds.Refusals words) _ (value_row words 1 rows_form [] _ (λ count is. tt))

second-tells : {A : Type 0} (words : List (List ℕ)) (next : Option (List ℕ) → A) → Tells words (needs 1 text_form ∷ []) (second_text words >>= λ text. Ok (next text))
unfolding second_text
second-tells words next =
    subst (λ read. Tells words (needs 1 text_form ∷ []) read) (sym (nested (counted 2 words) (λ done. value_at 1 text_form words >>= λ text. Ok (Some text)) (λ text. Ok (next text))))
    (counted_row words 2 (needs 1 text_form ∷ []) _
    (subst (λ read. Tells words (needs 1 text_form ∷ []) read) (sym (nested (value_at 1 text_form words) (λ text. Ok (Some text)) (λ text. Ok (next text))))
    (value_row words 1 text_form [] _ (λ text is. tt))))

optional-tells : {A : Type 0} (words : List (List ℕ)) (next : Option (List ℕ) → A) → Tells words (optional_rows words) (optional_text words >>= λ text. Ok (next text))
unfolding optional_text
optional-tells words next = by_count (length words == 1) (second-tells words next)
  where
    by_count : (one : Bool) → Tells words (needs 1 text_form ∷ []) (second_text words >>= λ text. Ok (next text))
        → Tells words (if one then [] else needs 1 text_form ∷ []) ((if one then Ok None else second_text words) >>= λ text. Ok (next text))
    by_count true second = tt
    by_count false second = second

orders-tells : (words : List (List ℕ)) → Tells words (rows_of kinds.Orders words) (orders_line words)
unfolding orders_line
orders-tells words = optional-tells words Orders

positions-tells : (words : List (List ℕ)) → Tells words (rows_of kinds.Positions words) (positions_line words)
unfolding positions_line
positions-tells words = optional-tells words Positions

-- ---- the lists of an allocation

execs-tell : {C : Type 0} (words : List (List ℕ)) (peer : List ℕ) (place : ℕ) (execs : List (List ℕ)) (rows : List Row) (next : List ExecKey → Result C Wrong)
    → ((read : List ExecKey) → Tells words rows (next read)) → Tells words (exec_rows place execs ++ rows) (execs_of peer place execs >>= next)
unfolding execs_of
execs-tell words peer place [] rows next later = later []
execs-tell {C} words peer place (word ∷ execs) rows next later =
    let row : Row = λ line. unless_read place (text_form word) in
    let others : List Row = exec_rows (place + 1) execs ++ rows in
    let exec : List ℕ → ExecKey = λ id. record { peer = peer; id = id } in
    let P : Result C Wrong → Type 0 = λ read. Tells words (row ∷ others) read in
    let Q : Result C Wrong → Type 0 = λ read. Tells words others read in
    subst P (sym (nested (at place (text_form word)) (λ id. execs_of peer (place + 1) execs >>= λ read. Ok (exec id ∷ read)) next))
    (at_row words row others place (text_form word) (λ id. (execs_of peer (place + 1) execs >>= λ read. Ok (exec id ∷ read)) >>= next) refl
    (λ id is. subst Q (sym (nested (execs_of peer (place + 1) execs) (λ read. Ok (exec id ∷ read)) next))
    (execs-tell words peer (place + 1) execs rows (λ read. next (exec id ∷ read)) (λ read. later (exec id ∷ read)))))

lines-tell : {C : Type 0} (words : List (List ℕ)) (price : ℤ) (place : ℕ) (pairs : List (List ℕ)) (rows : List Row) (next : List Line → Result C Wrong)
    → ((read : List Line) → block_of read ≡ pairs_sum pairs → Tells words rows (next read)) → Tells words (pair_rows place pairs ++ rows) (lines_of price place pairs >>= next)
unfolding lines_of line_of
lines-tell words price place [] rows next later = later [] refl
lines-tell words price place (first ∷ []) rows next later = later [] refl
lines-tell {C} words price place (first ∷ second ∷ pairs) rows next later =
    by_pair (λ line. lines-tell words price (place + 2) pairs rows (λ lines. next (line ∷ lines))) (text_form first) refl (qty_form second) refl
  where
    by_pair : ((line : Line) → ((read : List Line) → block_of read ≡ pairs_sum pairs → Tells words rows (next (line ∷ read)))
        → Tells words (pair_rows (place + 2) pairs ++ rows) (lines_of price (place + 2) pairs >>= λ lines. next (line ∷ lines)))
        → (account : Option (List ℕ)) → text_form first ≡ account → (qty : Option ℕ) → qty_form second ≡ qty
        → Tells words (pair_rows place (first ∷ second ∷ pairs) ++ rows) (lines_of price place (first ∷ second ∷ pairs) >>= next)
    by_pair deeper None is qty is_qty = rw is refl
    by_pair deeper (Some account) is None is_qty = rw (is, is_qty) refl
    by_pair deeper (Some account) is (Some qty) is_qty =
        let line : Line = record { account = account; qty = qty; price = price } in
        let others : List Row = pair_rows (place + 2) pairs ++ rows in
        let one : Row = λ all. unless_read place (text_form first) in
        let two : Row = λ all. unless_read (place + 1) (qty_form second) in
        let step : lines_of price place (first ∷ second ∷ pairs) ≡ (lines_of price (place + 2) pairs >>= λ lines. Ok (line ∷ lines)) = rw (is, is_qty) refl in
        let P : Result (List Line) Wrong → Type 0 = λ read. Tells words (one ∷ two ∷ others) (read >>= next) in
        let Q : Result C Wrong → Type 0 = λ read. Tells words others read in
        subst P (sym step) (past words one (two ∷ others) _ (rw is refl) (past words two others _ (rw is_qty refl)
        (subst Q (sym (nested (lines_of price (place + 2) pairs) (λ lines. Ok (line ∷ lines)) next))
        (deeper line (λ lines sum. later (line ∷ lines) (rw (is_qty, sum) refl))))))

-- the count of an allocation's words is no row
counted-tells : {B : Type 0} (words : List (List ℕ)) (rows : List Row) (next : Option ℕ → Result B Wrong)
    → Tells words rows (next (count_form (word_at 7 words))) → Tells words rows (execs_counted words >>= next)
unfolding execs_counted
counted-tells words rows next later = by_short (nat_lt (length words) EXECS_PLACE) (count_form (word_at 7 words)) later
  where
    by_pairs : (count : ℕ) (pairs : Bool) → Tells words rows (next (Some count)) → Tells words rows ((if pairs then Ok (Some count) else Err WrongCount) >>= next)
    by_pairs count true later = later
    by_pairs count false later = tt

    by_short : (short : Bool) (count : Option ℕ) → Tells words rows (next count) → Tells words rows ((if short then Err WrongCount else counted_by count words) >>= next)
    by_short true count later = tt
    by_short false None later = later
    by_short false (Some count) later = by_pairs count (are_pairs (length words - (EXECS_PLACE + count))) later

-- the rows after n are those of what it says
behind_n : {A : Type 0} (words : List (List ℕ)) (said : Option ℕ) (count : ℕ) (read : Result A Wrong) → said ≡ Some count
    → Tells words (rows_behind (Some count) words) read → Tells words (rows_behind said words) read
behind_n words said count read is tells =
    let P : Option ℕ → Type 0 = λ said. Tells words (rows_behind said words) read in
    subst P (sym is) tells

-- the rows from a place on
abbrev rows_from_7 : List (List ℕ) → List Row
rows_from_7 words = needs 7 count_form ∷ rows_behind (count_form (word_at 7 words)) words

abbrev rows_from_4 : List (List ℕ) → List Row
rows_from_4 words = needs 4 sign_form ∷ needs 5 day_form ∷ needs 6 price_form ∷ rows_from_7 words

allocate-tells : (words : List (List ℕ)) → Tells words (allocate_rows words) (allocate_line words)
unfolding allocate_line
allocate-tells words =
    counted-tells words (allocate_rows words) _
    (value_row words 1 text_form (needs 2 text_form ∷ needs 3 text_form ∷ rows_from_4 words) _
    (λ peer is. value_row words 2 text_form (needs 3 text_form ∷ rows_from_4 words) _
    (λ id is. value_row words 3 text_form (rows_from_4 words) _
    (λ symbol is. value_row words 4 sign_form (needs 5 day_form ∷ needs 6 price_form ∷ rows_from_7 words) _
    (λ sign is. value_row words 5 day_form (needs 6 price_form ∷ rows_from_7 words) _
    (λ day is. value_row words 6 price_form (rows_from_7 words) _
    (λ price is. at_row words (needs 7 count_form) (rows_behind (count_form (word_at 7 words)) words) 7 (count_form (word_at 7 words)) _ refl
    (λ count is.
    let pairs = drop (EXECS_PLACE + count) words in
    behind_n words (count_form (word_at 7 words)) count _ is
    (execs-tell words peer EXECS_PLACE (take count (drop EXECS_PLACE words)) (pair_rows (EXECS_PLACE + count) pairs ++ block_row pairs ∷ []) _
    (λ execs. lines-tell words price (EXECS_PLACE + count) pairs (block_row pairs ∷ []) _
    (λ lines sum. at_row words (block_row pairs) [] (length words - 1) (qty_units (pos (block_of lines))) _ (rw sum refl) (λ block is. tt))))))))))))

-- ---- each line

line-tells : (kind : Kind) (words : List (List ℕ)) → Tells words (rows_of kind words) (line_by kind words)
line-tells kinds.Undo words = undo-tells words
line-tells kinds.Redo words = redo-tells words
line-tells kinds.Withdraw words = withdraw-tells words
line-tells kinds.Mine words = mine-tells words
line-tells kinds.Order words = order-tells words
line-tells kinds.Position words = position-tells words
line-tells kinds.Report words = report-tells words
line-tells kinds.Allocate words = allocate-tells words
line-tells kinds.Entry words = entry-tells words
line-tells kinds.Execution words = execution-tells words
line-tells kinds.Allocation words = allocation-tells words
line-tells kinds.Needs words = needs-tells words
line-tells kinds.Orders words = orders-tells words
line-tells kinds.Positions words = positions-tells words
line-tells kinds.Steps words = steps-tells words
line-tells kinds.Refusals words = refusals-tells words

-- the place that is found is that of the first row at fault
first_of_rows : (words : List (List ℕ)) (rows : List Row) (place : ℕ) → first_bad words rows ≡ Some place → IsFirstBad words rows place
first_of_rows words [] place some = absurd cc
first_of_rows words (row ∷ rows) place some = by_row (row words) refl some (first_of_rows words rows place)
  where
    by_row : (found : Option ℕ) → row words ≡ found → option_or found (first_bad words rows) ≡ Some place
        → (first_bad words rows ≡ Some place → IsFirstBad words rows place) → IsFirstBad words (row ∷ rows) place
    by_row None is some others =
        let later = others some in
        record { before = row ∷ later.before; row = later.row; behind = later.behind; table = ap (λ rest. row ∷ rest) later.table; well = (is, later.well); found = later.found }
    by_row (Some other) is some others = record { before = []; row = row; behind = rows; table = refl; well = tt; found = is ∙ some }

-- the first word is never told as a bad value
question_never : (word : List ℕ) (place : ℕ) → question_kind_of word ≡ Err (BadValue place) → ⊥
unfolding question_kind_of
question_never word place is =
    by_word (same_text word (codes "entry")) (same_text word (codes "execution")) (same_text word (codes "allocation")) (same_text word (codes "needs"))
    (same_text word (codes "orders")) (same_text word (codes "positions")) (same_text word (codes "steps")) (same_text word (codes "refusals")) is
  where
    by_word : (entry execution allocation needs orders positions steps refusals : Bool)
        → (if entry then Ok kinds.Entry
        else (if execution then Ok kinds.Execution
        else (if allocation then Ok kinds.Allocation
        else (if needs then Ok kinds.Needs
        else (if orders then Ok kinds.Orders
        else (if positions then Ok kinds.Positions
        else (if steps then Ok kinds.Steps
        else (if refusals then Ok kinds.Refusals
        else Err UnknownWord)))))))) ≡ Err (BadValue place) → ⊥
    by_word true execution allocation needs orders positions steps refusals is = cc
    by_word false true allocation needs orders positions steps refusals is = cc
    by_word false false true needs orders positions steps refusals is = cc
    by_word false false false true orders positions steps refusals is = cc
    by_word false false false false true positions steps refusals is = cc
    by_word false false false false false true steps refusals is = cc
    by_word false false false false false false true refusals is = cc
    by_word false false false false false false false true is = cc
    by_word false false false false false false false false is = cc

kind_never : (word : List ℕ) (place : ℕ) → kind_of word ≡ Err (BadValue place) → ⊥
unfolding kind_of
kind_never word place is =
    by_word (same_text word (codes "undo")) (same_text word (codes "redo")) (same_text word (codes "withdraw")) (same_text word (codes "mine"))
    (same_text word (codes "order")) (same_text word (codes "position")) (same_text word (codes "report")) (same_text word (codes "allocate")) (question_kind_of word) (question_never word place) is
  where
    by_word : (undo redo withdraw mine order position report allocate : Bool) (rest : Result Kind Wrong) → (rest ≡ Err (BadValue place) → ⊥)
        → (if undo then Ok kinds.Undo
        else (if redo then Ok kinds.Redo
        else (if withdraw then Ok kinds.Withdraw
        else (if mine then Ok kinds.Mine
        else (if order then Ok kinds.Order
        else (if position then Ok kinds.Position
        else (if report then Ok kinds.Report
        else (if allocate then Ok kinds.Allocate
        else rest)))))))) ≡ Err (BadValue place) → ⊥
    by_word true redo withdraw mine order position report allocate rest never is = cc
    by_word false true withdraw mine order position report allocate rest never is = cc
    by_word false false true mine order position report allocate rest never is = cc
    by_word false false false true order position report allocate rest never is = cc
    by_word false false false false true position report allocate rest never is = cc
    by_word false false false false false true report allocate rest never is = cc
    by_word false false false false false false true allocate rest never is = cc
    by_word false false false false false false false true rest never is = cc
    by_word false false false false false false false false rest never is = never is

-- a bad value of a line of words
abbrev refused_at : ℕ → Result Ask Wrong
refused_at place = Err (BadValue place)

bad_words : (words : List (List ℕ)) (place : ℕ) → words_line words ≡ refused_at place
    → (kind : Kind) × (kind_of (word_at 0 words) ≡ Ok kind) × IsFirstBad words (rows_of kind words) place
unfolding words_line
bad_words words place is = by_kind (kind_of (word_at 0 words)) refl is
  where
    by_line : (kind : Kind) (read : Result Ask Wrong) → Tells words (rows_of kind words) read → read ≡ refused_at place → IsFirstBad words (rows_of kind words) place
    by_line kind read tells is =
        let P : Result Ask Wrong → Type 0 = λ asked. Tells words (rows_of kind words) asked in
        first_of_rows words (rows_of kind words) place (subst P is tells)

    by_kind : (named : Result Kind Wrong) → kind_of (word_at 0 words) ≡ named → (named >>= λ kind. line_by kind words) ≡ refused_at place
        → (kind : Kind) × (kind_of (word_at 0 words) ≡ Ok kind) × IsFirstBad words (rows_of kind words) place
    by_kind (Ok kind) named is = (kind, named, by_line kind (line_by kind words) (line-tells kind words) is)
    by_kind (Err UnknownWord) named is = absurd cc
    by_kind (Err WrongCount) named is = absurd cc
    by_kind (Err (BadValue other)) named is = absurd (kind_never (word_at 0 words) other named)
    by_kind (Err TooLong) named is = absurd cc

-- a bad value that is told is the first
abbrev bad_value : ℕ → Result Ask LineFault
bad_value place = Err (faults.BadValue place)

pub parsed_first : (line : List ℕ) (place : ℕ) → parsed line ≡ Err (faults.BadValue place) → IsBadAt line place
unfolding parsed ask_of
parsed_first line place is = by_asked (ask_of line) refl is
  where
    by_length : (short : Bool) (other : ℕ) → (if short then words_line (words_of line) else Err TooLong) ≡ refused_at other
        → words_line (words_of line) ≡ refused_at other
    by_length true other is = is
    by_length false other is = absurd cc

    by_place : (other : ℕ) → ask_of line ≡ refused_at other → IsBadAt line other
    by_place other is =
        let bad = bad_words (words_of line) other (by_length (nat_le (length line) LINE_MAX) other is) in
        record { kind = bad.0; named = bad.1; first = bad.2 }

    by_asked : (asked : Result Ask Wrong) → ask_of line ≡ asked → ask_or_fault asked ≡ bad_value place → IsBadAt line place
    by_asked (Ok ask) asked is = absurd cc
    by_asked (Err UnknownWord) asked is = absurd cc
    by_asked (Err WrongCount) asked is = absurd cc
    by_asked (Err (BadValue other)) asked is =
        let same : other ≡ place = cc in
        let P : ℕ → Type 0 = λ place. IsBadAt line place in
        subst P same (by_place other asked)
    by_asked (Err TooLong) asked is = absurd cc
