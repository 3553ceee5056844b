-- Lines that end with their maker.
use Rattle.std.proofs.Common.{◌≡◌, ℕ, suc, ◌+◌, ◌-◌, ◌<◌, List, [], ◌∷◌, ◌++◌, drop, get_or, length, take, Option, Some, None, refl, sym, ap, ◌∙◌, arith, slice_get, flat_map, append-nil, append_assoc, length-append, length-take}
use Rattle.std.proofs.lemmas.List.{take_more}
use Rattle.blot_types.specs.declared.command.Command.{Command}
use Rattle.blot_types.specs.declared.command.Command.TheVariants as commands
use Rattle.blot_desk.specs.declared.{question.Found.Found, question.RefusalRow.RefusalRow, question.StepRow.StepRow}
use Rattle.blot_desk.specs.declared.question.Found.TheVariants as found
use Rattle.blot_desk.specs.declared.question.StepRow.TheVariants as steps
use Rattle.blot_report.specs.Text.{end_text}
use Rattle.blot_console.specs.Entries.{command_text}
use Rattle.blot_console.specs.Replies.{word_text}
use Rattle.blot_console.specs.Founds.{found_by_text, found_text, line_by, lines_by, refusal_text, step_text}

-- ---- lines without makers

nobody : {Row : Type 0} (text : Row → List ℕ) (rows : List Row) → lines_by text rows [] ≡ flat_map text rows
nobody text [] = refl
nobody text (row ∷ later) = ap (λ rest. text row ++ rest) (nobody text later)

pub by_nobody : (it : Found) → found_by_text it [] ≡ found_text it
by_nobody (found.Entry entry) = refl
by_nobody (found.Execution key answer) = refl
by_nobody (found.Allocation key answer) = refl
by_nobody (found.Needs reason) = refl
by_nobody (found.Steps rows) = ap (λ lines. lines ++ end_text (length rows)) (nobody step_text rows)
by_nobody (found.Refusals rows) = ap (λ lines. lines ++ end_text (length rows)) (nobody refusal_text rows)

-- ---- one row more

next_get : {A : Type 0} (xs : List A) (n : ℕ) → slice_get (drop 1 xs) n ≡ slice_get xs (suc n)
next_get [] n = refl
next_get (x ∷ xs) n = refl

pub one_row_more : {Row : Type 0} (text : Row → List ℕ) (rows : List Row) (row : Row) (makers : List (List ℕ))
    → lines_by text (rows ++ row ∷ []) makers ≡ lines_by text rows makers ++ line_by (text row) (slice_get makers (length rows))
one_row_more text [] row makers = append-nil _
one_row_more text (first ∷ later) row makers =
    ap (λ rest. line_by (text first) (slice_get makers 0) ++ rest) (one_row_more text later row (drop 1 makers))
    ∙ ap (λ maker. line_by (text first) (slice_get makers 0) ++ (lines_by text later (drop 1 makers) ++ line_by (text row) maker)) (next_get makers (length later))
    ∙ sym (append_assoc (line_by (text first) (slice_get makers 0)) (lines_by text later (drop 1 makers)) (line_by (text row) (slice_get makers (suc (length later)))))

-- the lines of one row more, the row at a place
pub lines_on : {Row : Type 0} (text : Row → List ℕ) (rows : List Row) (makers : List (List ℕ)) (place : ℕ) (row : Row) (maker : Option (List ℕ)) → place < length rows
    → row ≡ get_or rows place row → maker ≡ slice_get makers place
    → lines_by text (take (place + 1) rows) makers ≡ lines_by text (take place rows) makers ++ line_by (text row) maker
lines_on text rows makers place row maker within at of =
    let front = take place rows in
    let long : length front ≡ place = omega (arith, within, length-take place rows) in
    ap (λ some. lines_by text some makers) (take_more rows place row within ∙ ap (λ last. front ++ last ∷ []) (sym at))
    ∙ one_row_more text front row makers
    ∙ ap (λ found. lines_by text front makers ++ line_by (text row) found) (ap (slice_get makers) long ∙ sym of)

-- ---- the last line of a text

cut_behind : (text line : List ℕ) → 0 < length line → take (length (text ++ line) - 1) (text ++ line) ≡ text ++ take (length line - 1) line
cut_behind [] line some = refl
cut_behind (byte ∷ text) line some =
    let long : length (text ++ line) ≡ length text + length line = length-append text line in
    let same : length (byte ∷ text ++ line) - 1 ≡ suc (length (text ++ line) - 1) = omega (arith, long, some) in
    ap (λ n. take n (byte ∷ text ++ line)) same ∙ ap (λ rest. byte ∷ rest) (cut_behind text line some)

last_by : (text line : List ℕ) (maker : Option (List ℕ)) → 0 < length line → line_by (text ++ line) maker ≡ text ++ line_by line maker
last_by text line None some = refl
last_by text line (Some maker) some =
    let cut = take (length line - 1) line in
    ap (λ front. (front ++ word_text maker) ++ 10 ∷ []) (cut_behind text line some)
    ∙ ap (λ front. front ++ 10 ∷ []) (append_assoc text cut (word_text maker))
    ∙ append_assoc text (cut ++ word_text maker) (10 ∷ [])

some_command : (number : ℕ) (command : Command) → 0 < length (command_text number command)
some_command number (commands.Trade trade) = omega arith
some_command number (commands.Correct correct) = omega arith
some_command number (commands.Bust bust) = omega arith
some_command number (commands.AllocNew new) = omega arith
some_command number (commands.AllocReplace replace) = omega arith
some_command number (commands.AllocCancel cancel) = omega arith
some_command number (commands.Withdraw withdrawn) = omega arith

some_step : (row : StepRow) → 0 < length (step_text row)
some_step (steps.Entry entry) = some_command entry.number entry.command
some_step (steps.Withdraw number withdrawn) = omega arith
some_step (steps.Withdrawn number) = omega arith

pub step_by : (text : List ℕ) (row : StepRow) (maker : Option (List ℕ)) → line_by (text ++ step_text row) maker ≡ text ++ line_by (step_text row) maker
step_by text row maker = last_by text (step_text row) maker (some_step row)

pub refusal_by : (text : List ℕ) (row : RefusalRow) (maker : Option (List ℕ))
    → line_by (text ++ refusal_text row) maker ≡ text ++ line_by (refusal_text row) maker
refusal_by text row maker = last_by text (refusal_text row) maker (omega arith)
