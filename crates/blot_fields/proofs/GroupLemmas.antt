-- The rows of an allocation's groups find their first fault.
use Rattle.std.proofs.Common.{◌≡◌, ℕ, ℤ, Bool, true, false, List, [], ◌∷◌, ◌++◌, Option, Some, None, Result, Ok, Err, refl, sym, ap, ◌∙◌, if◌then◌else◌, ◌&&◌, ◌||◌, ◌==◌, nat_le, is_none, option_map, ok_or}
use Rattle.std.specs.Option.{option_or}
use Rattle.std.specs.Result.{result_err}
use Rattle.std.specs.List.{list_any}
use Rattle.blot_tag.specs.Bytes.{is_number, number_of}
use Rattle.blot_tag.specs.Fields.{TagValue}
use Rattle.blot_tag.specs.Results.{◌>>=◌}
use Rattle.blot_types.proofs.GeneralLemmas.{or-none}
use Rattle.blot_fields.specs.declared.{allocation.AllocationLine.AllocationLine, fault.Flaw.Flaw, fault.Wrong.Wrong}
use Rattle.blot_fields.specs.declared.fault.Flaw.TheVariants.{RequiredTagMissing, ValueIncorrect, IncorrectDataFormat, IncorrectGroupCount}
use Rattle.blot_fields.specs.Forms.{text_form, any_form, number_form, count_form, qty_form, price_form}
use Rattle.blot_fields.specs.Groups.{bears, behind, are_executions, are_lines, lacks_price, lines_in, some_line_lacks_price, average_of, ids_of, executions_of, line_of, each_line_of, lines_of}
use Rattle.blot_fields.specs.Rows.{wrong, at, values, one_of, only, there, needed, optional, optional_in}
use Rattle.blot_fields.specs.Tables.{needs, may_have, value_wrong, value_or_empty, needs_average, group_row, id_rows, line_rows, execution_group, line_group}
use Rattle.blot_fields.proofs.IndexLemmas.{values-has, values-not}
use Rattle.blot_fields.proofs.TableLemmas.{first_fault, step, last, option_or-or, then_done, needs-row, may_have-row, there-row, first-there, first_fault-append}

-- a step that gave a value
pub bound : {A B : Type 0} (read : Result A Wrong) (next : A → Result B Wrong) (result : B) → (read >>= next) ≡ Ok result → (value : A) × (read ≡ Ok value) × (next value ≡ Ok result)
bound (Ok value) next result is = (value, refl, is)
bound (Err wrong) next result is = absurd cc

at_ok : {A : Type 0} (tag : ℕ) (read : Result A Flaw) (said : A) → at tag read ≡ Ok said → read ≡ Ok said
at_ok tag (Ok value) said is = cc
at_ok tag (Err flaw) said is = absurd cc

-- what a row says is what the first value of its tag says
pub form-said : {A : Type 0} (tag : ℕ) (form : List ℕ → Result A Flaw) (fields : List TagValue) (said : A) → needed tag form fields ≡ Ok said → form (value_or_empty tag fields) ≡ Ok said
unfolding needed
form-said tag form fields said is =
    let value = bound (there tag fields) (λ value. at tag (form value)) said is in
    rw (first-there tag fields value.0 value.1) (at_ok tag (form value.0) said value.2)

number-said : (low high : ℕ) (value : List ℕ) (number : ℕ) → number_form low high value ≡ Ok number → number_of value ≡ number
unfolding number_form
number-said low high value number is = by_form (is_number value) (nat_le low (number_of value) && nat_le (number_of value) high) is
  where
    by_form : (form range : Bool) → (if form then (if range then Ok (number_of value) else Err ValueIncorrect) else Err IncorrectDataFormat) ≡ Ok number → number_of value ≡ number
    by_form true true is = cc
    by_form true false is = absurd cc
    by_form false range is = absurd cc

-- AvgPx
pub average-row : (fields : List TagValue) → result_err (average_of fields) ≡ needs_average fields
unfolding average_of needs_average
average-row fields = by_lack (some_line_lacks_price fields)
  where
    by_lack : (lacks : Bool)
        → result_err (if lacks then (needed 6 price_form fields >>= λ price. Ok (Some price)) else (there 6 fields >>= λ price. Ok None))
        ≡ (if lacks then needs 6 price_form fields else needs 6 any_form fields)
    by_lack true = then_done (needed 6 price_form fields) (λ price. Some price) ∙ needs-row 6 price_form fields
    by_lack false = then_done (there 6 fields) (λ price. None) ∙ there-row 6 fields

-- each ExecID
at-row : {A : Type 0} (tag : ℕ) (form : List ℕ → Result A Flaw) (value : List ℕ) → result_err (at tag (form value)) ≡ value_wrong tag form value
at-row tag form value = by_form (form value)
  where
    by_form : {A : Type 0} (read : Result A Flaw) → result_err (at tag read) ≡ option_map (wrong tag) (result_err read)
    by_form (Ok said) = refl
    by_form (Err flaw) = refl

ids-rows : (fields : List TagValue) (values : List (List ℕ)) → result_err (ids_of values) ≡ first_fault fields (id_rows values)
unfolding ids_of
ids-rows fields [] = refl
ids-rows fields (value ∷ values) =
    step (at 17 (text_form value)) (λ id. ids_of values >>= λ ids. Ok (id ∷ ids)) (value_wrong 17 text_form value) (first_fault fields (id_rows values)) (at-row 17 text_form value)
    (λ id is. last (ids_of values) (λ ids. id ∷ ids) (first_fault fields (id_rows values)) (ids-rows fields values))

pub executions-rows : (fields : List TagValue) → result_err (executions_of fields) ≡ first_fault fields (execution_group fields)
unfolding executions_of
executions-rows fields =
    step (needed 124 count_form fields) (λ count. if are_executions count fields then ids_of (values 17 fields) else Err (wrong 124 IncorrectGroupCount)) (needs 124 count_form fields) (first_fault fields (group_row 124 are_executions ∷ id_rows (values 17 fields))) (needs-row 124 count_form fields)
    (λ count is. rw (number-said 1 200 (value_or_empty 124 fields) count (form-said 124 count_form fields count is)) (by_group (are_executions count fields)))
  where
    by_group : (whole : Bool) → result_err (if whole then ids_of (values 17 fields) else Err (wrong 124 IncorrectGroupCount))
        ≡ option_or (if whole then None else Some (wrong 124 IncorrectGroupCount)) (first_fault fields (id_rows (values 17 fields)))
    by_group true = ids-rows fields (values 17 fields)
    by_group false = refl

-- a line without AllocPrice
none-optional : {A : Type 0} (tag : ℕ) (form : List ℕ → Result A Flaw) (all : List (List ℕ)) → optional_in tag form (one_of all) ≡ Ok None → all ≡ []
none-optional tag form [] is = refl
none-optional tag form (value ∷ []) is = absurd (let found = bound (at tag (form value)) (λ said. Ok (Some said)) None is in let no = found.2 in cc)
none-optional tag form (value ∷ second ∷ more) is = absurd cc

values-nil-any : (tag : ℕ) (line : List TagValue) → values tag line ≡ [] → list_any (bears tag) line ≡ false
values-nil-any tag [] none = refl
values-nil-any tag (field ∷ line) none = by_tag (field.tag == tag) refl (values-nil-any tag line)
  where
    by_tag : (same : Bool) → (field.tag == tag) ≡ same → (values tag line ≡ [] → list_any (bears tag) line ≡ false) → list_any (bears tag) (field ∷ line) ≡ false
    by_tag true is others = absurd (let has = sym (values-has tag field line is) ∙ none in cc)
    by_tag false is others = rw is (others (sym (values-not tag field line is) ∙ none))

no-own : (line : List TagValue) → optional 366 price_form line ≡ Ok None → lacks_price line ≡ true
unfolding optional only
no-own line is = rw (values-nil-any 366 line (none-optional 366 price_form (values 366 line) is)) refl

-- a step after which nothing is at fault
never : {A B : Type 0} (read : Result A Wrong) (next : A → Result B Wrong) (found : Option Wrong)
    → result_err read ≡ found → ((value : A) → read ≡ Ok value → result_err (next value) ≡ None) → result_err (read >>= next) ≡ found
never read next found is well = step read next found None is well ∙ or-none found

-- a line's price, its own or the average
line-priced : (average own : Option ℤ) (line : List TagValue) (done : ℤ → AllocationLine)
    → (is_none average ≡ true → lacks_price line ≡ false) → optional 366 price_form line ≡ Ok own
    → result_err (ok_or (option_or own average) (wrong 366 RequiredTagMissing) >>= λ price. Ok (done price)) ≡ None
line-priced average (Some price) line done priced is = refl
line-priced (Some price) None line done priced is = refl
line-priced None None line done priced is = absurd (let no = sym (priced refl) ∙ no-own line is in cc)

-- the rows of one line
line-rows : (average : Option ℤ) (line : List TagValue) → (is_none average ≡ true → lacks_price line ≡ false)
    → result_err (line_of average line) ≡ option_or (needs 79 text_form line) (option_or (needs 80 qty_form line) (may_have 366 price_form line))
unfolding line_of
line-rows average line priced =
    step (needed 79 text_form line) _ (needs 79 text_form line) _ (needs-row 79 text_form line)
    (λ account is. step (needed 80 qty_form line) _ (needs 80 qty_form line) _ (needs-row 80 qty_form line)
    (λ qty is. never (optional 366 price_form line) _ (may_have 366 price_form line) (may_have-row 366 price_form line)
    (λ own is.
    let done : ℤ → AllocationLine = λ price. record { account = account; qty = qty; price = price } in
    line-priced average own line done priced is)))

-- the rows of each line
or_false_left : (a b : Bool) → (a || b) ≡ false → a ≡ false
or_false_left true b is = absurd cc
or_false_left false b is = refl

or_false_right : (a b : Bool) → (a || b) ≡ false → b ≡ false
or_false_right true b is = absurd cc
or_false_right false b is = is

each-line-rows : (fields : List TagValue) (average : Option ℤ) (lines : List (List TagValue)) → (is_none average ≡ true → list_any lacks_price lines ≡ false)
    → result_err (each_line_of average lines) ≡ first_fault fields (line_rows lines)
unfolding each_line_of
each-line-rows fields average [] priced = refl
each-line-rows fields average (line ∷ lines) priced =
    let account = needs 79 text_form line in
    let qty = needs 80 qty_form line in
    let price = may_have 366 price_form line in
    let others = first_fault fields (line_rows lines) in
    step (line_of average line) (λ first. each_line_of average lines >>= λ lines. Ok (first ∷ lines)) (option_or account (option_or qty price)) others
    (line-rows average line (λ none. or_false_left (lacks_price line) (list_any lacks_price lines) (priced none)))
    (λ first is. last (each_line_of average lines) (λ lines. first ∷ lines) others
    (each-line-rows fields average lines (λ none. or_false_right (lacks_price line) (list_any lacks_price lines) (priced none))))
    ∙ option_or-or account (option_or qty price) others ∙ ap (option_or account) (option_or-or qty price others)

abbrev given : Option ℤ → Result (Option ℤ) Wrong
given found = Ok found

no_none : (average : Option ℤ) (price : ℤ) → given (Some price) ≡ given average → is_none average ≡ true → ⊥
no_none None price is none = cc
no_none (Some other) price is none = cc

-- without an average each line has a price
average-none : (fields : List TagValue) (average : Option ℤ) → average_of fields ≡ Ok average → is_none average ≡ true → some_line_lacks_price fields ≡ false
unfolding average_of
average-none fields average is none = by_lack (some_line_lacks_price fields) is
  where
    by_lack : (lacks : Bool)
        → (if lacks then (needed 6 price_form fields >>= λ price. Ok (Some price)) else (there 6 fields >>= λ price. Ok None)) ≡ Ok average → lacks ≡ false
    by_lack true is = absurd (let found = bound (needed 6 price_form fields) (λ price. Ok (Some price)) average is in no_none average found.0 found.2 none)
    by_lack false is = refl

pub lines-rows : (fields : List TagValue) (average : Option ℤ) → average_of fields ≡ Ok average → result_err (lines_of average fields) ≡ first_fault fields (line_group fields)
unfolding lines_of
lines-rows fields average is_average =
    step (needed 78 count_form fields) (λ count. if are_lines count fields then each_line_of average (lines_in (behind 78 fields)) else Err (wrong 78 IncorrectGroupCount)) (needs 78 count_form fields) (first_fault fields (group_row 78 are_lines ∷ line_rows (lines_in (behind 78 fields)))) (needs-row 78 count_form fields)
    (λ count is. rw (number-said 1 200 (value_or_empty 78 fields) count (form-said 78 count_form fields count is)) (by_group (are_lines count fields)))
  where
    by_group : (whole : Bool) → result_err (if whole then each_line_of average (lines_in (behind 78 fields)) else Err (wrong 78 IncorrectGroupCount))
        ≡ option_or (if whole then None else Some (wrong 78 IncorrectGroupCount)) (first_fault fields (line_rows (lines_in (behind 78 fields))))
    by_group true = each-line-rows fields average (lines_in (behind 78 fields)) (average-none fields average is_average)
    by_group false = refl

-- both groups, one after the other
pub groups-rows : {A : Type 0} (fields : List TagValue) (average : Option ℤ) (done : List (List ℕ) → List AllocationLine → A) → average_of fields ≡ Ok average
    → result_err (executions_of fields >>= λ executions. lines_of average fields >>= λ lines. Ok (done executions lines)) ≡ first_fault fields (execution_group fields ++ line_group fields)
groups-rows fields average done is =
    step (executions_of fields) (λ executions. lines_of average fields >>= λ lines. Ok (done executions lines)) (first_fault fields (execution_group fields)) (first_fault fields (line_group fields)) (executions-rows fields)
    (λ executions is_read. last (lines_of average fields) (λ lines. done executions lines) (first_fault fields (line_group fields)) (lines-rows fields average is))
    ∙ sym (first_fault-append fields (execution_group fields) (line_group fields))
