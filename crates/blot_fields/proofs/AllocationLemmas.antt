-- How the lists of an allocation are made.
use Rattle.std.proofs.Common.{◌≡◌, ℕ, List, [], ◌∷◌, Result, Ok, Err, refl, ap, subst, ◌∙◌, eq-eqb}
use Rattle.blot_tag.specs.Fields.{TagValue}
use Rattle.blot_tag.specs.Results.{◌>>=◌}
use Rattle.blot_types.specs.ItemsBuilder.{Made, Grows, Makes}
use Rattle.blot_types.proofs.BuilderLemmas.{with_first, IsFront, front_grows, front_faults, front_ends}
use Rattle.blot_fields.specs.declared.fault.Wrong.{Wrong}
use Rattle.blot_fields.specs.Forms.{text_form}
use Rattle.blot_fields.specs.Groups.{ids_of}
use Rattle.blot_fields.specs.Rows.{at, values}
use Rattle.blot_fields.proofs.IndexLemmas.{values-has}

-- the first identifier, and the others
then_others : {T : Type 0} (first : Result T Wrong) (others : Result (List T) Wrong) (item : T) → first ≡ Ok item
    → (first >>= λ id. others >>= λ ids. Ok (id ∷ ids)) ≡ with_first item others
then_others first (Ok others) item is = rw is refl
then_others first (Err wrong) item is = rw is refl

-- the identifiers of fields are a front of these
abbrev pub IdsFront : Made (List ℕ) → List TagValue → Result (List (List ℕ)) Wrong → Type 0
IdsFront made fields meant = IsFront made (ids_of (values 17 fields)) meant

pub ids_grow : (old new : Made (List ℕ)) (all later : List TagValue) (field : TagValue) (id : List ℕ) (meant : Result (List (List ℕ)) Wrong)
    → all ≡ field ∷ later → field.tag ≡ 17 → at 17 (text_form field.value) ≡ Ok id → Grows id old new → IdsFront old all meant → IdsFront new later meant
unfolding ids_of
ids_grow old new all later field id meant is has read grows front =
    let P : Result (List (List ℕ)) Wrong → Type 0 = λ rest. IsFront old rest meant in
    let step = ap (λ fields. ids_of (values 17 fields)) is ∙ ap ids_of (values-has 17 field later (eq-eqb field.tag 17 has)) ∙ then_others (at 17 (text_form field.value)) (ids_of (values 17 later)) id read in
    front_grows id old new (ids_of (values 17 later)) meant grows (subst P step front)

pub ids_fail : (made : Made (List ℕ)) (all later : List TagValue) (field : TagValue) (wrong : Wrong) (meant : Result (List (List ℕ)) Wrong)
    → all ≡ field ∷ later → field.tag ≡ 17 → at 17 (text_form field.value) ≡ Err wrong → IdsFront made all meant → meant ≡ Err wrong
unfolding ids_of
ids_fail made all later field wrong meant is has read front =
    let P : Result (List (List ℕ)) Wrong → Type 0 = λ rest. IsFront made rest meant in
    let step = ap (λ fields. ids_of (values 17 fields)) is ∙ ap ids_of (values-has 17 field later (eq-eqb field.tag 17 has)) ∙ rw read refl in
    front_faults made wrong meant (subst P step front)

pub ids_end : (made : Made (List ℕ)) (all : List TagValue) (meant : Result (List (List ℕ)) Wrong)
    → all ≡ [] → IdsFront made all meant → Makes (Ok made) meant
unfolding ids_of
ids_end made all meant is front =
    let P : Result (List (List ℕ)) Wrong → Type 0 = λ rest. IsFront made rest meant in
    front_ends made meant (subst P (ap (λ fields. ids_of (values 17 fields)) is) front)
