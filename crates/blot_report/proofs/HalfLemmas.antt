-- Positions that were made of two halves of the entries, brought together.
use Rattle.std.proofs.Common.{◌≡◌, ℕ, ℤ, ◌+◌, ◌<◌, ◌==◌, ◌^◌, pos, ◌+ℤ◌, arith, Bool, true, false, ◌||◌, List, [], ◌∷◌, ◌++◌, length, map, take, drop, Option, Some, None, refl, sym, ap, subst, ◌∙◌, inl, inr, filter, is_some, not, unsigned_abs, if◌then◌else◌, flat_map, unwrap_or, eq-eqb, ne_eqb, take-append-drop, take_all}
use Rattle.std.specs.FinMap as finite
use Rattle.std.specs.List.{list_any, AllByRecursion, IsDistinct}
use Rattle.std.proofs.lemmas.Bool.{cases_Bool}
use Rattle.std.proofs.lemmas.Grind.{flat_map-append}
use Rattle.std.proofs.lemmas.Int.{ints}
use Rattle.std.proofs.lemmas.List.Elements.{filter_map-append}
use Rattle.std.proofs.lemmas.List.Folds.{list_any-append}
use Rattle.std.proofs.lemmas.Map.Keys.{IsDistinct-head}
use Rattle.blot_types.specs.declared.{command.Entry.Entry, keys.PositionKey.PositionKey, lines.PositionLine.PositionLine, part.Part.Part}
use Rattle.blot_types.specs.Keys.{position_at}
use Rattle.blot_types.specs.Order.{total}
use Rattle.blot_types.specs.Position.{is_at, moves_of, position_by}
use Rattle.blot_types.proofs.SumLemmas.{total-append, total-where}
use Rattle.blot_types.proofs.GeneralLemmas.{or-false}
use Rattle.blot_position.specs.declared.sums.Sums.{Sums}
use Rattle.blot_position.specs.Positions.{Cells, has_cell, same_key, sums_at, with_part, AreKeysOf}
use Rattle.blot_position.specs.Sums.{line_by, no_parts, HasRoom}
use Rattle.blot_position.proofs.PositionLemmas.{has_cell-with_part, same_position-refl, same_position-sym, same_position-true, sums_at-with_part}
use Rattle.blot_command.specs.Standings.{standing_of}
use Rattle.blot_command.proofs.PositionLineLemmas.{line-of, ones}
use Rattle.blot_command.proofs.AllocNeedLemmas.{or-turned}
use Rattle.blot_report.specs.Day.{day_parts_of}
use Rattle.blot_report.specs.Lines.{position_key}
use Rattle.blot_report.specs.Standings.{between, moves_among, part_on, parts_among, parts_between, terms_among, terms_on}
use Rattle.blot_report.specs.Sums.{with_sums, AddsSums, LeavesHalf, MadeOf, ShowsParts}
use Rattle.blot_report.proofs.ListLemmas.{any-mapped}
use Rattle.blot_report.proofs.PartLemmas.{day_parts-told}
use Rattle.blot_report.proofs.RowLemmas.{light-whole}
use Rattle.blot_report.proofs.WeightLemmas.{IsLight}

or-true : (test : Bool) → true ≡ (test || true)
or-true true = refl
or-true false = refl

-- ---- one position after the other

-- the sums of others that were added, where some keys are left
abbrev pub added : Cells → List PositionKey → PositionKey → Sums
added others left key = if list_any (same_key key) left then no_parts else sums_at others key.account key.symbol

-- the cells with a line added at a key, if there is one
abbrev pub put : Option PositionLine → PositionKey → Cells → Cells
put None key cells = cells
put (Some line) key cells = with_part key.account key.symbol line.qty line.value cells

-- without a cell there is no part
no-cell : (cells : Cells) (key : PositionKey) → has_cell cells key.account key.symbol ≡ false → sums_at cells key.account key.symbol ≡ no_parts
no-cell cells key none =
    (elim (finite.get cells (position_at key.account key.symbol)) as (λ found. is_some found ≡ false → unwrap_or found no_parts ≡ no_parts) [
      | None ↦ λ is. refl
      | Some sums ↦ λ is. absurd (cc is)
    ]) none

pub adds-none : (own others : Cells) (keys : List PositionKey) → AreKeysOf others keys → AddsSums own (added others keys) own
adds-none own others keys are =
    let none : (key : PositionKey) → added others keys key ≡ no_parts = λ key.
    elim (cases_Bool (list_any (same_key key) keys)) [
      | inl has ↦ rw has refl
      | inr hasnt ↦ rw hasnt (no-cell others key (sym (are.all key) ∙ hasnt))
    ] in
    record {
      sums = λ key. sym (ap (λ sums. with_sums sums (sums_at own key.account key.symbol)) (none key));
      cells = λ key. sym (or-false (has_cell own key.account key.symbol)) ∙ sym (ap (λ (sums : Sums). has_cell own key.account key.symbol || not (sums.parts == 0)) (none key));
    }

none-left : (key : PositionKey) (left : List PositionKey) → AllByRecursion (λ other. same_key key other ≡ false) left → list_any (same_key key) left ≡ false
none-left key [] apart = refl
none-left key (other ∷ left) apart = rw (apart.0) (none-left key left apart.1)

-- a key that is left has its own sums yet
not-yet : (own others before : Cells) (key : PositionKey) (left : List PositionKey) → AddsSums own (added others (key ∷ left)) before → sums_at before key.account key.symbol ≡ sums_at own key.account key.symbol
not-yet own others before key left adds =
    let none : added others (key ∷ left) key ≡ no_parts = rw (same_position-refl key.account key.symbol) refl in
    adds.sums key ∙ ap (λ sums. with_sums sums (sums_at own key.account key.symbol)) none

put-sums : (sums : Sums) (key : PositionKey) (cells : Cells) → sums_at (put (line_by sums) key cells) key.account key.symbol ≡ with_sums sums (sums_at cells key.account key.symbol)
put-sums sums key cells = elim (cases_Bool (sums.parts == 0)) [
  | inl none ↦ rw none refl
  | inr some ↦ rw some (sums_at-with_part key.account key.symbol key.account key.symbol sums.qty sums.value cells ∙ rw (same_position-refl key.account key.symbol) refl)
]

put-cell : (sums : Sums) (key : PositionKey) (cells : Cells) → has_cell (put (line_by sums) key cells) key.account key.symbol ≡ (has_cell cells key.account key.symbol || not (sums.parts == 0))
put-cell sums key cells = elim (cases_Bool (sums.parts == 0)) [
  | inl none ↦ rw none (sym (or-false (has_cell cells key.account key.symbol)))
  | inr some ↦ rw some (has_cell-with_part key.account key.symbol key.account key.symbol sums.qty sums.value cells ∙ rw (same_position-refl key.account key.symbol) (or-true (has_cell cells key.account key.symbol)))
]

put-other :
    (found : Option PositionLine) (key other : PositionKey) (cells : Cells) → same_key key other ≡ false
    → (sums_at (put found key cells) other.account other.symbol ≡ sums_at cells other.account other.symbol) × (has_cell (put found key cells) other.account other.symbol ≡ has_cell cells other.account other.symbol)
put-other None key other cells apart = (refl, refl)
put-other (Some line) key other cells apart = (
  sums_at-with_part key.account key.symbol other.account other.symbol line.qty line.value cells ∙ rw apart refl,
  has_cell-with_part key.account key.symbol other.account other.symbol line.qty line.value cells ∙ rw apart refl,
)

-- what was added, at one key
abbrev AddsAt : Cells → Sums → Cells → PositionKey → Type 0
AddsAt own sums both key =
    (sums_at both key.account key.symbol ≡ with_sums sums (sums_at own key.account key.symbol)) × (has_cell both key.account key.symbol ≡ (has_cell own key.account key.symbol || not (sums.parts == 0)))

next-at :
    (own others before : Cells) (key : PositionKey) (left : List PositionKey) → IsDistinct same_key (key ∷ left) → AddsSums own (added others (key ∷ left)) before
    → (at : PositionKey) → AddsAt own (added others left at) (put (line_by (sums_at others key.account key.symbol)) key before) at
next-at own others before key left apart adds at =
    let sums = sums_at others key.account key.symbol in
    let after = put (line_by sums) key before in
    elim (cases_Bool (same_key key at)) [
      | inl same ↦
          let both = same_position-true key.account key.symbol at.account at.symbol same in
          let now : added others left key ≡ sums = rw (none-left key left (IsDistinct-head same_key key left apart)) refl in
          let cell : has_cell before key.account key.symbol ≡ has_cell own key.account key.symbol =
          adds.cells key ∙ rw (same_position-refl key.account key.symbol) (or-false (has_cell own key.account key.symbol)) in
          subst (λ (k : PositionKey). AddsAt own (added others left k) after k) (λ i. record { account = both.0 i; symbol = both.1 i })
          (subst (λ s. AddsAt own s after key) (sym now) (
            put-sums sums key before ∙ ap (with_sums sums) (not-yet own others before key left adds),
            put-cell sums key before ∙ ap (λ has. has || not (sums.parts == 0)) cell,
          ))
      | inr other ↦
          let same : added others (key ∷ left) at ≡ added others left at = rw (same_position-sym at.account at.symbol key.account key.symbol ∙ other) refl in
          let kept = put-other (line_by sums) key at before other in
          subst (λ s. AddsAt own s after at) same (kept.0 ∙ adds.sums at, kept.1 ∙ adds.cells at)
    ]

pub adds-next :
    (own others before after : Cells) (key : PositionKey) (left : List PositionKey) → IsDistinct same_key (key ∷ left) → AddsSums own (added others (key ∷ left)) before
    → after ≡ put (line_by (sums_at others key.account key.symbol)) key before → AddsSums own (added others left) after
adds-next own others before after key left apart adds is =
    let at = next-at own others before key left apart adds in
    subst (AddsSums own (added others left)) (sym is) (record { sums = λ key. (at key).0; cells = λ key. (at key).1 })

-- ---- there is room

line-told : (none : Bool) (qty value : ℤ) (line : PositionLine) → (if none then None else Some (record { qty = qty; value = value })) ≡ Some line → line ≡ record { qty = qty; value = value }
line-told true qty value line is = absurd (cc is)
line-told false qty value line is = cc is

pub room-half :
    (own others before : Cells) (key : PositionKey) (left : List PositionKey) (line : PositionLine) → LeavesHalf own → LeavesHalf others → AddsSums own (added others (key ∷ left)) before
    → line_by (sums_at others key.account key.symbol) ≡ Some line → HasRoom (sums_at before key.account key.symbol) line.qty line.value
room-half own others before key left line half other_half adds is =
    let a = key.account in
    let s = key.symbol in
    let sums = sums_at others a s in
    subst (λ (own_sums : Sums). HasRoom own_sums line.qty line.value) (sym (not-yet own others before key left adds))
    (subst (λ (l : PositionLine). HasRoom (sums_at own a s) l.qty l.value) (sym (line-told (sums.parts == 0) sums.qty sums.value line is)) (record {
      fewer = half.parts a s;
      fits_qty = (omega (arith, ints, half.qty a s, other_half.qty a s), omega (arith, ints, half.qty a s, other_half.qty a s));
      fits_value = (omega (arith, ints, half.value a s, other_half.value a s), omega (arith, ints, half.value a s, other_half.value a s));
    }))

-- light parts leave half
pub half-light : (parts : List Part) (cells : Cells) → IsLight parts → MadeOf parts cells → LeavesHalf cells
half-light parts cells light made =
    let whole = light-whole parts light in
    record {
      parts = λ a s. omega (arith, ints, whole.few a s, made.sums.parts a s);
      qty = λ a s. subst (λ sum. unsigned_abs sum < 2 ^ 126) (sym (made.sums.qty a s)) (omega (arith, whole.qtys a s));
      value = λ a s. subst (λ sum. unsigned_abs sum < 2 ^ 126) (sym (made.sums.value a s)) (omega (arith, whole.values a s));
    }

-- ---- what both show

-- sums are those of parts
record SumUp (parts : List Part) (sums : Sums) : Type 0 where
  count : pos sums.parts ≡ pos (length parts)
  qty : sums.qty ≡ total (λ p. p.qty) parts
  value : sums.value ≡ total (λ p. p.value) parts

sum_up : (parts : List Part) (cells : Cells) (a s : List ℕ) → MadeOf parts cells → SumUp (filter (is_at a s) parts) (sums_at cells a s)
sum_up parts cells a s made = record {
  count = made.sums.parts a s ∙ sym (total-where (λ part. pos 1) (is_at a s) parts) ∙ ones (filter (is_at a s) parts);
  qty = made.sums.qty a s ∙ sym (total-where (λ part. part.qty) (is_at a s) parts);
  value = made.sums.value a s ∙ sym (total-where (λ part. part.value) (is_at a s) parts);
}

-- the line of the sums of both is that of the parts of both, whatever their order
line-both :
    (first second both : List Part) (own others : Sums) → SumUp first own → SumUp second others → ((f : Part → ℤ) → total f both ≡ (total f first +ℤ total f second))
    → line_by (with_sums others own) ≡ position_by both
line-both first [] both own others one two same =
    let none : others.parts ≡ 0 = omega (arith, ints, two.count) in
    rw (eq-eqb others.parts 0 none)
    (line-of both own (omega (arith, ints, one.count, ones first, ones both, same (λ part. pos 1))) (omega (arith, ints, one.qty, same (λ p. p.qty)))
    (omega (arith, ints, one.value, same (λ p. p.value))))
line-both first (part ∷ second) both own others one two same =
    let all : Sums = record { parts = own.parts + others.parts; qty = own.qty +ℤ others.qty; value = own.value +ℤ others.value } in
    let some : (others.parts == 0) ≡ false = ne_eqb others.parts 0 (λ none. omega (arith, ints, two.count, none)) in
    let some_both : (own.parts + others.parts == 0) ≡ false = ne_eqb (own.parts + others.parts) 0 (λ none. omega (arith, ints, two.count, none)) in
    let next : (own.parts + 1 == 0) ≡ false = ne_eqb (own.parts + 1) 0 (λ none. omega (arith, none)) in
    let line : line_by (with_sums others own) ≡ line_by all = rw (some, some_both, next) refl in
    line
    ∙ line-of both all (omega (arith, ints, one.count, two.count, ones first, ones (part ∷ second), ones both, same (λ part. pos 1)))
    (omega (arith, ints, one.qty, two.qty, same (λ p. p.qty))) (omega (arith, ints, one.value, two.value, same (λ p. p.value)))

-- parts are those of two lists, whatever their order
pub record AreOfBoth (first second both : List Part) : Type 0 where
  pub totals : (f : Part → ℤ) → total f both ≡ (total f first +ℤ total f second)
  pub any : (p : Part → Bool) → list_any p both ≡ (list_any p first || list_any p second)

any-some : (p : Part → Bool) (parts : List Part) → list_any p parts ≡ not (length (filter p parts) == 0)
any-some p [] = refl
any-some p (part ∷ parts) = elim (cases_Bool (p part)) [
  | inl here ↦ rw here (sym (ap not (ne_eqb (length (part ∷ filter p parts)) 0 (λ none. omega (arith, none)))))
  | inr other ↦ rw other (any-some p parts)
]

any-key : (key : PositionKey) (parts : List Part) → list_any (same_key key) (map position_key parts) ≡ list_any (is_at key.account key.symbol) parts
any-key key parts = any-mapped (same_key key) position_key parts ∙ (λ i. list_any (λ (part : Part). same_position-sym key.account key.symbol part.account part.symbol i) parts)

pub shows-both :
    (first second both : List Part) (own others cells : Cells) → MadeOf first own → MadeOf second others → AddsSums own (λ key. sums_at others key.account key.symbol) cells
    → AreOfBoth first second both → ShowsParts both cells
shows-both first second both own others cells one two adds are = record {
  lines = λ a s.
      let here = is_at a s in
      let sums : (f : Part → ℤ) → total f (filter here both) ≡ (total f (filter here first) +ℤ total f (filter here second)) = λ f.
      total-where f here both ∙ are.totals (λ part. if here part then f part else pos 0) ∙ (λ i. sym (total-where f here first) i +ℤ sym (total-where f here second) i) in
      ap line_by (adds.sums (position_at a s))
      ∙ line-both (filter here first) (filter here second) (filter here both) (sums_at own a s) (sums_at others a s) (sum_up first own a s one) (sum_up second others a s two) sums;
  cells = λ key.
      let here = is_at key.account key.symbol in
      let sums = sums_at others key.account key.symbol in
      let count : sums.parts ≡ length (filter here second) = omega (arith, ints, (sum_up second others key.account key.symbol two).count) in
      adds.cells key ∙ (λ i. (one.cells key ∙ any-key key first) i || (ap (λ (n : ℕ). not (n == 0)) count ∙ sym (any-some here second)) i) ∙ sym (any-key key both ∙ are.any here);
}

-- ---- the parts of the entries before a place and from it on

cut : (list : List Entry) (middle : ℕ) → list ≡ between list 0 middle ++ between list middle (length list)
cut list middle = sym (ap (λ back. take middle list ++ drop middle back) (take_all (length list) list (omega arith)) ∙ take-append-drop middle list)

pub parts-cut : (list : List Entry) (day : Option ℤ) (middle : ℕ) → AreOfBoth (parts_between list day 0 middle) (parts_between list day middle (length list)) (day_parts_of list day)
parts-cut list day middle =
    let front = between list 0 middle in
    let back = between list middle (length list) in
    let a = parts_among list day front in
    let b = parts_among list day back in
    let c = moves_among list day front in
    let d = moves_among list day back in
    let fills : parts_among list day list ≡ a ++ b = ap (parts_among list day) (cut list middle) ∙ filter_map-append (λ e. part_on day (standing_of list e) e) front back in
    let moves : moves_among list day list ≡ c ++ d =
    ap (moves_among list day) (cut list middle)
    ∙ ap (flat_map moves_of) (filter_map-append (λ e. terms_on day (standing_of list e) e) front back)
    ∙ flat_map-append moves_of (terms_among list day front) (terms_among list day back) in
    let whole : day_parts_of list day ≡ (a ++ b) ++ (c ++ d) = sym (day_parts-told list day) ∙ (λ i. fills i ++ moves i) in
    record {
      totals = λ f.
          ap (total f) whole
          ∙ omega (arith, ints, total-append f (a ++ b) (c ++ d), total-append f a b, total-append f c d, total-append f a c, total-append f b d);
      any = λ p.
          let any = list_any-append p in
          ap (list_any p) whole ∙ any (a ++ b) (c ++ d) ∙ (λ i. any a b i || any c d i) ∙ or-turned (list_any p a) (list_any p b) (list_any p c) (list_any p d)
          ∙ sym (λ i. any a c i || any b d i);
    }

-- all entries bring the parts of the day
pub parts-whole : (list : List Entry) (day : Option ℤ) → parts_between list day 0 (length list) ≡ day_parts_of list day
parts-whole list day = ap (λ entries. parts_among list day entries ++ moves_among list day entries) (take_all (length list) list (omega arith)) ∙ day_parts-told list day
