-- How the lines of an allocation are made.
use Rattle.std.proofs.Common.{◌≡◌, ℕ, ℤ, Bool, true, false, List, [], ◌∷◌, Option, Some, None, Result, Ok, Err, refl, sym, ap, subst, ◌∙◌, suc, ◌+◌, take, arith, eq-eqb, eqb-true, if◌then◌else◌, ◌==◌, not, MatchBool, option_map}
use Rattle.std.specs.List.{prefix_len}
use Rattle.blot_tag.specs.Fields.{TagValue}
use Rattle.blot_tag.specs.Results.{◌>>=◌}
use Rattle.blot_types.specs.ItemsBuilder.{Made, Makes}
use Rattle.blot_types.proofs.BuilderLemmas.{with_first, IsFront, front_grows, front_faults, front_ends}
use Rattle.blot_fields.specs.declared.{allocation.AllocationLine.AllocationLine, fault.Flaw.Flaw, fault.Wrong.Wrong}
use Rattle.blot_fields.specs.Drafts.{Draft, line_from, with_field, begun, Pushes, NextLine}
use Rattle.blot_fields.specs.Groups.{bears, before, lines_in, line_of, each_line_of}
use Rattle.blot_fields.specs.Index.{together}
use Rattle.blot_fields.specs.Occurrences.{with_value}
use Rattle.blot_fields.specs.Rows.{values, one_of, needed, there, optional, only, needed_in, optional_in}
use Rattle.blot_fields.specs.Forms.{text_form, qty_form, price_form}
use Rattle.blot_fields.proofs.IndexLemmas.{values-has, values-not, together-nil, together-next}

-- a line's draft, together with its fields that are still to come
abbrev pub known : Draft → List TagValue → Draft
known draft later = record {
  account = draft.account;
  qty = together draft.qty (values 80 later);
  price = together draft.price (values 366 later);
}

-- a line before the others
abbrev pub with_line : Result AllocationLine Wrong → Result (List AllocationLine) Wrong → Result (List AllocationLine) Wrong
with_line (Ok line) others = with_first line others
with_line (Err wrong) others = Err wrong

-- the open line before the others, where no field of it is to come
abbrev pub with_open : Option ℤ → Option Draft → Result (List AllocationLine) Wrong → Result (List AllocationLine) Wrong
with_open average None others = others
with_open average (Some draft) others = with_line (line_from average draft) others

-- the lines to come, of which one may be open
abbrev pub resumed : Option ℤ → Option Draft → List TagValue → Result (List AllocationLine) Wrong
resumed average None rest = each_line_of average (lines_in rest)
resumed average (Some draft) rest = with_line (line_from average (known draft (before 79 rest))) (each_line_of average (lines_in rest))

-- what stands before a tag, where the first field has it, or hasn't
pub before-has : (tag : ℕ) (field : TagValue) (fields : List TagValue) → (field.tag == tag) ≡ true → before tag (field ∷ fields) ≡ []
before-has tag field fields has = rw has refl

pub before-not : (tag : ℕ) (field : TagValue) (fields : List TagValue) → (field.tag == tag) ≡ false → before tag (field ∷ fields) ≡ field ∷ before tag fields
before-not tag field fields other =
    let count : ℕ = prefix_len (λ x. not (bears tag x)) fields in
    let one_more : 1 + count ≡ suc count = omega arith in
    rw other (ap (λ n. take n (field ∷ fields)) one_more)

-- no field before the first with a tag has it
values-before : (tag : ℕ) (fields : List TagValue) → values tag (before tag fields) ≡ []
values-before tag [] = refl
values-before tag (field ∷ fields) = by_same (bears tag field) refl (values-before tag fields)
  where
    by_same : (same : Bool) → bears tag field ≡ same → values tag (before tag fields) ≡ [] → values tag (before tag (field ∷ fields)) ≡ []
    by_same true is others = rw is refl
    by_same false is others = ap (values tag) (before-not tag field fields is) ∙ values-not tag field (before tag fields) is ∙ others

-- one occurrence, with a field that may be its own
together-field : (tag : ℕ) (found : Result (Option (List ℕ)) Flaw) (field : TagValue) (later : List TagValue)
    → together found (values tag (field ∷ later)) ≡ together (if field.tag == tag then with_value found field.value else found) (values tag later)
together-field tag found field later = by_same (field.tag == tag) refl
  where
    by_same : (same : Bool) → (field.tag == tag) ≡ same → together found (values tag (field ∷ later)) ≡ together (if same then with_value found field.value else found) (values tag later)
    by_same true is = ap (together found) (values-has tag field later is) ∙ sym (together-next found field.value (values tag later))
    by_same false is = ap (together found) (values-not tag field later is)

known-with : (draft : Draft) (field : TagValue) (later : List TagValue) → known draft (field ∷ later) ≡ known (with_field draft field) later
known-with draft field later =
    let qty = together-field 80 draft.qty field later in
    let price = together-field 366 draft.price field later in
    rw (qty, price) refl

known-nil : (draft : Draft) → known draft [] ≡ draft
known-nil draft =
    let qty = together-nil draft.qty in
    let price = together-nil draft.price in
    rw (qty, price) refl

-- a row of a line reads what is found in it
row-needed : {A : Type 0} (tag : ℕ) (form : List ℕ → Result A Flaw) (fields : List TagValue) → needed tag form fields ≡ needed_in tag form (one_of (values tag fields))
unfolding needed there only
row-needed tag form fields = refl

row-optional : {A : Type 0} (tag : ℕ) (form : List ℕ → Result A Flaw) (fields : List TagValue) → optional tag form fields ≡ optional_in tag form (one_of (values tag fields))
unfolding optional only
row-optional tag form fields = refl

-- a line that begins, with its fields that are to come, is the line of these fields
line-begun : (average : Option ℤ) (field : TagValue) (later : List TagValue) → (field.tag == 79) ≡ true → values 79 later ≡ []
    → line_of average (field ∷ later) ≡ line_from average (known (begun field.value) later)
unfolding line_of line_from
line-begun average field later begins none =
    let account : values 79 (field ∷ later) ≡ field.value ∷ [] = values-has 79 field later begins ∙ ap (λ others. field.value ∷ others) none in
    let qty : values 80 (field ∷ later) ≡ values 80 later = values-not 80 field later (not_also 79 80 field.tag refl begins) in
    let price : values 366 (field ∷ later) ≡ values 366 later = values-not 366 field later (not_also 79 366 field.tag refl begins) in
    rw (row-needed 79 text_form (field ∷ later), row-needed 80 qty_form (field ∷ later), row-optional 366 price_form (field ∷ later), account, qty, price) refl
  where
    not_also : (one other tag : ℕ) → (one == other) ≡ false → (tag == one) ≡ true → (tag == other) ≡ false
    not_also one other tag differ is = rw (eqb-true tag one is) differ

lines_in-begins : (field : TagValue) (later : List TagValue) → (field.tag == 79) ≡ true → lines_in (field ∷ later) ≡ (field ∷ before 79 later) ∷ lines_in later
lines_in-begins field later begins = rw begins refl

lines_in-goes_on : (field : TagValue) (later : List TagValue) → (field.tag == 79) ≡ false → lines_in (field ∷ later) ≡ lines_in later
lines_in-goes_on field later other = rw other refl

each_line_of-cons : (average : Option ℤ) (line : List TagValue) (lines : List (List TagValue)) → each_line_of average (line ∷ lines) ≡ with_line (line_of average line) (each_line_of average lines)
unfolding each_line_of
each_line_of-cons average line lines = by_line (line_of average line) (each_line_of average lines)
  where
    by_line : (first : Result AllocationLine Wrong) (others : Result (List AllocationLine) Wrong)
        → (first >>= λ line. others >>= λ lines. Ok (line ∷ lines)) ≡ with_line first others
    by_line (Ok line) (Ok lines) = refl
    by_line (Ok line) (Err wrong) = refl
    by_line (Err wrong) others = refl

-- where a line begins, the one before ends
resumed-first : (average : Option ℤ) (field : TagValue) (later : List TagValue) → (field.tag == 79) ≡ true
    → each_line_of average (lines_in (field ∷ later)) ≡ resumed average (Some (begun field.value)) later
resumed-first average field later begins =
    ap (each_line_of average) (lines_in-begins field later begins)
    ∙ each_line_of-cons average (field ∷ before 79 later) (lines_in later)
    ∙ ap (λ first. with_line first (each_line_of average (lines_in later))) (line-begun average field (before 79 later) begins (values-before 79 later))

resumed-begins : (average : Option ℤ) (line : Option Draft) (field : TagValue) (later : List TagValue) → (field.tag == 79) ≡ true
    → resumed average line (field ∷ later) ≡ with_open average line (resumed average (Some (begun field.value)) later)
resumed-begins average None field later begins = resumed-first average field later begins
resumed-begins average (Some draft) field later begins =
    let ended = ap (known draft) (before-has 79 field later begins) ∙ known-nil draft in
    ap (λ whole. with_line (line_from average whole) (each_line_of average (lines_in (field ∷ later)))) ended
    ∙ ap (with_line (line_from average draft)) (resumed-first average field later begins)

-- another field goes on with the open line, if there is one
resumed-goes_on : (average : Option ℤ) (line : Option Draft) (field : TagValue) (later : List TagValue) → (field.tag == 79) ≡ false
    → resumed average line (field ∷ later) ≡ resumed average (option_map (λ draft. with_field draft field) line) later
resumed-goes_on average None field later other = ap (each_line_of average) (lines_in-goes_on field later other)
resumed-goes_on average (Some draft) field later other =
    let more = ap (known draft) (before-not 79 field later other) ∙ known-with draft field (before 79 later) in
    ap (λ whole. with_line (line_from average whole) (each_line_of average (lines_in (field ∷ later)))) more
    ∙ ap (λ lines. with_line (line_from average (known (with_field draft field) (before 79 later))) (each_line_of average lines)) (lines_in-goes_on field later other)

resumed-nil : (average : Option ℤ) (line : Option Draft) → resumed average line [] ≡ with_open average line (Ok [])
unfolding each_line_of
resumed-nil average None = refl
resumed-nil average (Some draft) = ap (λ whole. with_line (line_from average whole) (Ok [])) (known-nil draft)

-- the lines so far, the open one and those to come are what is meant
abbrev pub LinesFront : Option ℤ → Made AllocationLine → Option Draft → List TagValue → Result (List AllocationLine) Wrong → Type 0
LinesFront average lines line fields meant = IsFront lines (resumed average line fields) meant

pub pushed_front : (average : Option ℤ) (line : Option Draft) (old new : Made AllocationLine) (rest meant : Result (List AllocationLine) Wrong)
    → Pushes average line old (Ok tt) new → IsFront old (with_open average line rest) meant → IsFront new rest meant
pushed_front average None old new rest meant pushes front =
    let P : Made AllocationLine → Type 0 = λ lines. IsFront lines rest meant in
    subst P (sym pushes.1) front
pushed_front average (Some draft) old new rest meant pushes front =
    let P : Result AllocationLine Wrong → Type 0 = λ line. IsFront old (with_line line rest) meant in
    front_grows pushes.0 old new rest meant pushes.2 (subst P pushes.1 front)

pub pushed_fault : (average : Option ℤ) (line : Option Draft) (old new : Made AllocationLine) (rest meant : Result (List AllocationLine) Wrong) (wrong : Wrong)
    → Pushes average line old (Err wrong) new → IsFront old (with_open average line rest) meant → meant ≡ Err wrong
pushed_fault average None old new rest meant wrong pushes front = absurd (let no = pushes.0 in cc)
pushed_fault average (Some draft) old new rest meant wrong pushes front =
    let P : Result AllocationLine Wrong → Type 0 = λ line. IsFront old (with_line line rest) meant in
    front_faults old wrong meant (subst P pushes front)

-- one more field, without a fault
pub next_front : (average : Option ℤ) (line next : Option Draft) (field : TagValue) (all later : List TagValue) (old new : Made AllocationLine) (meant : Result (List AllocationLine) Wrong)
    → all ≡ field ∷ later → NextLine average line field old (Ok next) new → LinesFront average old line all meant → LinesFront average new next later meant
next_front average line next field all later old new meant is came front =
    let P : List TagValue → Type 0 = λ fields. LinesFront average old line fields meant in
    by_tag (field.tag == 79) refl came (subst P is front)
  where
    by_tag : (begins : Bool) → (field.tag == 79) ≡ begins
        → MatchBool begins (Pushes average line old (Ok tt) new × (next ≡ Some (begun field.value))) ((next ≡ option_map (λ draft. with_field draft field) line) × (new ≡ old))
        → LinesFront average old line (field ∷ later) meant → LinesFront average new next later meant
    by_tag true is came front =
        let Q : Result (List AllocationLine) Wrong → Type 0 = λ rest. IsFront old rest meant in
        let pushed = pushed_front average line old new (resumed average (Some (begun field.value)) later) meant came.0 (subst Q (resumed-begins average line field later is) front) in
        let R : Option Draft → Type 0 = λ begun. LinesFront average new begun later meant in
        subst R (sym came.1) pushed
    by_tag false is came front =
        let Q : Result (List AllocationLine) Wrong → Type 0 = λ rest. IsFront old rest meant in
        let R : Option Draft → Type 0 = λ begun. LinesFront average old begun later meant in
        let S : Made AllocationLine → Type 0 = λ lines. LinesFront average lines next later meant in
        subst S (sym came.1) (subst R (sym came.0) (subst Q (resumed-goes_on average line field later is) front))

-- one more field, which ends a line at fault
pub next_fault : (average : Option ℤ) (line : Option Draft) (field : TagValue) (all later : List TagValue) (old new : Made AllocationLine) (wrong : Wrong) (meant : Result (List AllocationLine) Wrong)
    → all ≡ field ∷ later → NextLine average line field old (Err wrong) new → LinesFront average old line all meant → meant ≡ Err wrong
next_fault average line field all later old new wrong meant is came front =
    let P : List TagValue → Type 0 = λ fields. LinesFront average old line fields meant in
    let Q : Result (List AllocationLine) Wrong → Type 0 = λ rest. IsFront old rest meant in
    pushed_fault average line old new (resumed average (Some (begun field.value)) later) meant wrong came.1
    (subst Q (resumed-begins average line field later (eq-eqb field.tag 79 came.0)) (subst P is front))

-- no more field
pub end_front : (average : Option ℤ) (line : Option Draft) (all : List TagValue) (old new : Made AllocationLine) (meant : Result (List AllocationLine) Wrong)
    → all ≡ [] → Pushes average line old (Ok tt) new → LinesFront average old line all meant → Makes (Ok new) meant
end_front average line all old new meant is pushes front =
    let P : List TagValue → Type 0 = λ fields. LinesFront average old line fields meant in
    let Q : Result (List AllocationLine) Wrong → Type 0 = λ rest. IsFront old rest meant in
    front_ends new meant (pushed_front average line old new (Ok []) meant pushes (subst Q (resumed-nil average line) (subst P is front)))

pub end_fault : (average : Option ℤ) (line : Option Draft) (all : List TagValue) (old new : Made AllocationLine) (wrong : Wrong) (meant : Result (List AllocationLine) Wrong)
    → all ≡ [] → Pushes average line old (Err wrong) new → LinesFront average old line all meant → meant ≡ Err wrong
end_fault average line all old new wrong meant is pushes front =
    let P : List TagValue → Type 0 = λ fields. LinesFront average old line fields meant in
    let Q : Result (List AllocationLine) Wrong → Type 0 = λ rest. IsFront old rest meant in
    pushed_fault average line old new (Ok []) meant wrong pushes (subst Q (resumed-nil average line) (subst P is front))
