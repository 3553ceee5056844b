-- What a walk sees of the groups is what their definitions say.
use Rattle.std.proofs.Common.{◌≡◌, ℕ, ◌+◌, Bool, true, false, List, ◌∷◌, refl, sym, ap, subst, ◌∙◌, drop, suc, arith, if◌then◌else◌, ◌&&◌, ◌||◌, not, eqb-true}
use Rattle.std.specs.List.{list_any, prefix_len}
use Rattle.std.proofs.Math.Bool.{or_assoc}
use Rattle.std.proofs.lemmas.List.Sums.{sum_by-cons}
use Rattle.blot_tag.specs.Fields.{TagValue}
use Rattle.blot_fields.specs.declared.groups.Look.{Look}
use Rattle.blot_fields.specs.Groups.{bears, before, behind, count_of, is_of_line, lacks_price, lines_in, some_line_lacks_price}
use Rattle.blot_fields.specs.Looks.{look_with}
use Rattle.blot_fields.proofs.LineLemmas.{before-has, before-not}

-- those of the fields to come that stand behind a tag, where the walk has passed it, or hasn't
abbrev pub later_behind : ℕ → Bool → List TagValue → List TagValue
later_behind tag passed later = if passed then later else behind tag later

-- a stray is to come: no more once a line was begun, else before a line, or before NoAllocs too
abbrev pub has_stray_later : Bool → Bool → List TagValue → Bool
has_stray_later passed true later = false
has_stray_later true false later = list_any is_of_line (before 79 later)
has_stray_later false false later = list_any is_of_line (before 78 later) || list_any is_of_line (before 79 (behind 78 later))

-- the last line, with what is to come of it, has no price, or a line to come has none
abbrev pub lacks_price_later : Bool → Bool → List TagValue → Bool
lacks_price_later passed last later =
    (last && lacks_price (before 79 later)) || list_any lacks_price (lines_in (later_behind 78 passed later))

-- what was seen, and what is to come, is what is in all fields
pub record SeesBefore (look : Look) (later fields : List TagValue) : Type 0 where
  pub executions : look.executions + count_of 17 later ≡ count_of 17 fields
  pub executions_behind :
      look.executions_behind + count_of 17 (later_behind 124 look.is_behind_executions later) ≡ count_of 17 (behind 124 fields)
  pub lines : look.lines + count_of 79 later ≡ count_of 79 fields
  pub has_stray : (look.has_stray || has_stray_later look.is_behind_lines look.is_line_begun later)
      ≡ (list_any is_of_line (before 78 fields) || list_any is_of_line (before 79 (behind 78 fields)))
  pub lacks_price :
      (look.some_lacks_price || lacks_price_later look.is_behind_lines look.last_lacks_price later) ≡ some_line_lacks_price fields

-- how each word goes on at a field
behind-cons : (tag : ℕ) (field : TagValue) (fields : List TagValue) → behind tag (field ∷ fields) ≡ later_behind tag (bears tag field) fields
behind-cons tag field fields = by_same (bears tag field) refl
  where
    count : ℕ
    count = prefix_len (λ x. not (bears tag x)) fields

    one_more : (1 + count) + 1 ≡ suc (count + 1)
    one_more = omega arith

    by_same : (same : Bool) → bears tag field ≡ same → behind tag (field ∷ fields) ≡ later_behind tag same fields
    by_same true is = rw is refl
    by_same false is = rw is (ap (λ n. drop n (field ∷ fields)) one_more)

list_any-before : (tag : ℕ) (p : TagValue → Bool) (field : TagValue) (fields : List TagValue)
    → list_any p (before tag (field ∷ fields)) ≡ (not (bears tag field) && (p field || list_any p (before tag fields)))
list_any-before tag p field fields = by_same (bears tag field) refl
  where
    by_same : (same : Bool) → bears tag field ≡ same
        → list_any p (before tag (field ∷ fields)) ≡ (not same && (p field || list_any p (before tag fields)))
    by_same true is = ap (list_any p) (before-has tag field fields is)
    by_same false is = ap (list_any p) (before-not tag field fields is)

count_of-cons : (tag : ℕ) (field : TagValue) (fields : List TagValue)
    → count_of tag (field ∷ fields) ≡ (if bears tag field then 1 else 0) + count_of tag fields
count_of-cons tag field fields = sum_by-cons (λ (x : TagValue). if bears tag x then 1 else 0) field fields

count_of-later_behind : (passed : Bool) (field : TagValue) (later : List TagValue)
    → count_of 17 (later_behind 124 passed (field ∷ later))
    ≡ (if passed && bears 17 field then 1 else 0) + count_of 17 (later_behind 124 (passed || bears 124 field) later)
count_of-later_behind true field later = count_of-cons 17 field later
count_of-later_behind false field later = let rest = ap (count_of 17) (behind-cons 124 field later) in omega (arith, rest)

has_stray_later-cons : (passed begun : Bool) (field : TagValue) (later : List TagValue)
    → has_stray_later passed begun (field ∷ later)
    ≡ ((is_of_line field && not (begun || (passed && bears 79 field)))
    || has_stray_later (passed || bears 78 field) (begun || (passed && bears 79 field)) later)
has_stray_later-cons passed true field later = by_line (is_of_line field)
  where
    by_line : (line : Bool) → false ≡ ((line && false) || false)
    by_line true = refl
    by_line false = refl
has_stray_later-cons true false field later = list_any-before 79 is_of_line field later ∙ by_tag (bears 79 field) (is_of_line field)
  where
    by_tag : (begins line : Bool)
        → (not begins && (line || has_stray_later true false later)) ≡ ((line && not begins) || has_stray_later true begins later)
    by_tag true true = refl
    by_tag true false = refl
    by_tag false true = refl
    by_tag false false = refl
has_stray_later-cons false false field later =
    rw (list_any-before 78 is_of_line field later, behind-cons 78 field later)
    (by_tag (bears 78 field) (is_of_line field) (λ is. rw (eqb-true field.tag 78 is) refl))
  where
    by_tag : (counts line : Bool) → (counts ≡ true → line ≡ false)
        → ((not counts && (line || list_any is_of_line (before 78 later))) || list_any is_of_line (before 79 (later_behind 78 counts later)))
        ≡ ((line && true) || has_stray_later counts false later)
    by_tag true true none = absurd (let no = none refl in cc)
    by_tag true false none = refl
    by_tag false true none = refl
    by_tag false false none = refl

lacks_price-lines : (passed : Bool) (field : TagValue) (later : List TagValue)
    → list_any lacks_price (lines_in (later_behind 78 passed (field ∷ later)))
    ≡ (((bears 79 field && passed) && lacks_price (field ∷ before 79 later))
    || list_any lacks_price (lines_in (later_behind 78 (passed || bears 78 field) later)))
lacks_price-lines true field later = by_tag (bears 79 field)
  where
    by_tag : (begins : Bool) → list_any lacks_price (if begins then (field ∷ before 79 later) ∷ lines_in later else lines_in later)
        ≡ (((begins && true) && lacks_price (field ∷ before 79 later)) || list_any lacks_price (lines_in later))
    by_tag true = refl
    by_tag false = refl
lacks_price-lines false field later =
    ap (λ fields. list_any lacks_price (lines_in fields)) (behind-cons 78 field later) ∙ by_tag (bears 79 field)
  where
    others : Bool
    others = list_any lacks_price (lines_in (later_behind 78 (bears 78 field) later))

    by_tag : (begins : Bool) → others ≡ (((begins && false) && lacks_price (field ∷ before 79 later)) || others)
    by_tag true = refl
    by_tag false = refl

lacks_price_later-cons : (passed last : Bool) (field : TagValue) (later : List TagValue)
    → lacks_price_later passed last (field ∷ later)
    ≡ ((bears 79 field && last)
    || lacks_price_later (passed || bears 78 field) (if bears 79 field then passed else (last && not (bears 366 field))) later)
lacks_price_later-cons passed last field later =
    let others = list_any lacks_price (lines_in (later_behind 78 (passed || bears 78 field) later)) in
    rw (list_any-before 79 (bears 366) field later, lacks_price-lines passed field later)
    (by_tag (bears 79 field) (bears 366 field) last (list_any (bears 366) (before 79 later)) others
    (λ is. rw (eqb-true field.tag 79 is) refl))
  where
    by_tag : (begins price last priced others : Bool) → (begins ≡ true → price ≡ false)
        → ((last && not (not begins && (price || priced))) || (((begins && passed) && not (price || priced)) || others))
        ≡ ((begins && last) || (((if begins then passed else (last && not price)) && not priced) || others))
    by_tag true true last priced others none = absurd (let no = none refl in cc)
    by_tag true false true priced others none = refl
    by_tag true false false priced others none = refl
    by_tag false true true priced others none = refl
    by_tag false false true priced others none = refl
    by_tag false price false priced others none = refl

-- a walk goes on by a field
pub sees_next : (look : Look) (field : TagValue) (all later fields : List TagValue)
    → all ≡ field ∷ later → SeesBefore look all fields → SeesBefore (look_with look field) later fields
sees_next look field all later fields is so_far =
    let P : List TagValue → Type 0 = λ rest. SeesBefore look rest fields in
    let sees : SeesBefore look (field ∷ later) fields = subst P is so_far in
    let stray = has_stray_later-cons look.is_behind_lines look.is_line_begun field later in
    let lacks = lacks_price_later-cons look.is_behind_lines look.last_lacks_price field later in
    record {
      executions = one_more look.executions _ _ (count_of-cons 17 field later) ∙ sees.executions;
      executions_behind = one_more look.executions_behind _ _ (count_of-later_behind look.is_behind_executions field later) ∙ sees.executions_behind;
      lines = one_more look.lines _ _ (count_of-cons 79 field later) ∙ sees.lines;
      has_stray = or_assoc look.has_stray _ _ ∙ ap (λ more. look.has_stray || more) (sym stray) ∙ sees.has_stray;
      lacks_price = or_assoc look.some_lacks_price _ _ ∙ ap (λ more. look.some_lacks_price || more) (sym lacks) ∙ sees.lacks_price;
    }
  where
    one_more : (seen now later : ℕ) {all : ℕ} → all ≡ now + later → (seen + now) + later ≡ seen + all
    one_more seen now later is = omega (arith, is)
