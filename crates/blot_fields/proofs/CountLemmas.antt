-- The groups of an allocation are as long as their counts say, and so no longer than a list may be.
use Rattle.std.proofs.Common.{◌≡◌, ℕ, ℤ, ◌≤◌, ◌+◌, Bool, true, false, List, [], ◌∷◌, length, filter, take, drop, Option, Result, Ok, refl, sym, ap, ◌∙◌, suc, arith, length-append, if◌then◌else◌, IfOk, take-append-drop}
use Rattle.std.proofs.lemmas.List.{length-map}
use Rattle.std.proofs.lemmas.List.Elements.{filter-append}
use Rattle.std.proofs.lemmas.List.Sums.{length-filter}
use Rattle.std.specs.List.{position_or_len}
use Rattle.blot_tag.specs.Fields.{TagValue}
use Rattle.blot_tag.specs.Results.{◌>>=◌}
use Rattle.blot_types.specs.ItemsBuilder.{Made, Makes, IsShort}
use Rattle.blot_types.proofs.BuilderLemmas.{makes_short}
use Rattle.blot_fields.specs.declared.{allocation.AllocationLine.AllocationLine, allocation.TheConstants.ENTRIES_MAX, fault.Wrong.Wrong}
use Rattle.blot_fields.specs.Forms.{text_form}
use Rattle.blot_fields.specs.Groups.{bears, before, behind, count_of, ids_of, line_of, lines_in, each_line_of}
use Rattle.blot_fields.specs.Rows.{at, values}
use Rattle.blot_fields.proofs.GroupLemmas.{bound}

abbrev given : {A : Type 0} → A → Result A Wrong
given value = Ok value

given_same : {A : Type 0} (a b : A) → given a ≡ Ok b → a ≡ b
given_same a b is = cc

-- a list of which each item was read is as long as what it was read from
ids-length : (values ids : List (List ℕ)) → ids_of values ≡ Ok ids → length ids ≡ length values
unfolding ids_of
ids-length [] ids is = ap length (sym (given_same [] ids is))
ids-length (value ∷ values) ids is =
    let first = bound (at 17 (text_form value)) (λ id. ids_of values >>= λ ids. Ok (id ∷ ids)) ids is in
    let others = bound (ids_of values) (λ ids. Ok (first.0 ∷ ids)) ids first.2 in
    ap length (sym (given_same (first.0 ∷ others.0) ids others.2)) ∙ ap suc (ids-length values others.0 others.1)

lines-length : (average : Option ℤ) (groups : List (List TagValue)) (lines : List AllocationLine) → each_line_of average groups ≡ Ok lines → length lines ≡ length groups
unfolding each_line_of
lines-length average [] lines is = ap length (sym (given_same [] lines is))
lines-length average (group ∷ groups) lines is =
    let first = bound (line_of average group) (λ line. each_line_of average groups >>= λ lines. Ok (line ∷ lines)) lines is in
    let others = bound (each_line_of average groups) (λ lines. Ok (first.0 ∷ lines)) lines first.2 in
    ap length (sym (given_same (first.0 ∷ others.0) lines others.2)) ∙ ap suc (lines-length average groups others.0 others.1)

-- a tag has as many values as fields
values-length : (tag : ℕ) (fields : List TagValue) → length (values tag fields) ≡ count_of tag fields
values-length tag fields =
    length-map (filter (bears tag) fields) (λ (field : TagValue). field.value) ∙ length-filter (bears tag) fields

-- as many lines begin as fields are an AllocAccount
begun-length : (fields : List TagValue) → length (lines_in fields) ≡ length (filter (bears 79) fields)
begun-length [] = refl
begun-length (field ∷ fields) = by_same (bears 79 field) (begun-length fields)
  where
    by_same : (same : Bool) → length (lines_in fields) ≡ length (filter (bears 79) fields)
        → length (if same then (field ∷ before 79 fields) ∷ lines_in fields else lines_in fields)
        ≡ length (if same then field ∷ filter (bears 79) fields else filter (bears 79) fields)
    by_same true others = ap suc others
    by_same false others = others

-- no more fields of a tag stand after a field than in all
count-drop : (tag place : ℕ) (fields : List TagValue) → count_of tag (drop place fields) ≤ count_of tag fields
count-drop tag place fields =
    let whole = ap (λ all. length (filter (bears tag) all)) (sym (take-append-drop place fields))
    ∙ ap length (filter-append (bears tag) (take place fields) (drop place fields))
    ∙ length-append (filter (bears tag) (take place fields)) (filter (bears tag) (drop place fields)) in
    let all = length-filter (bears tag) fields in
    let rest = length-filter (bears tag) (drop place fields) in
    omega (arith, whole, all, rest)

-- the executions are as many as their count says
pub executions_short : (count : ℕ) (fields : List TagValue) (result : Result (Made (List ℕ)) Wrong)
    → count ≤ ENTRIES_MAX → count_of 17 fields ≡ count → Makes result (ids_of (values 17 fields)) → IfOk result IsShort
executions_short count fields result low same makes =
    makes_short result (ids_of (values 17 fields)) (λ ids is.
    let as_long = ids-length (values 17 fields) ids is ∙ values-length 17 fields ∙ same in
    omega (arith, as_long)) makes

-- so are the lines
pub lines_short : (count : ℕ) (average : Option ℤ) (fields : List TagValue) (result : Result (Made AllocationLine) Wrong)
    → count ≤ ENTRIES_MAX → count_of 79 fields ≡ count → Makes result (each_line_of average (lines_in (behind 78 fields))) → IfOk result IsShort
lines_short count average fields result low same makes =
    let all_behind = count-drop 79 (position_or_len (bears 78) fields + 1) fields in
    makes_short result (each_line_of average (lines_in (behind 78 fields))) (λ lines is.
    let as_long = lines-length average (lines_in (behind 78 fields)) lines is ∙ begun-length (behind 78 fields) ∙ length-filter (bears 79) (behind 78 fields) in
    omega (arith, as_long, all_behind)) makes
