-- The lines of orders as they grow, and the rows that they give.
use Rattle.std.proofs.Common.{◌≡◌, ℕ, ◌+◌, ◌<◌, arith, List, [], ◌∷◌, ◌++◌, length, take, get_or, Option, Some, None, refl, sym, ap, subst, ◌∙◌, inl, inr, if◌then◌else◌, filter_map, option_map, append-nil}
use Rattle.std.specs.List.{cons_option}
use Rattle.std.proofs.lemmas.Bool.{cases_Bool}
use Rattle.std.proofs.lemmas.Int.{ints}
use Rattle.std.proofs.lemmas.List.Elements.{filter-append}
use Rattle.blot_types.specs.declared.{command.Entry.Entry, fill.Fill.Fill, keys.OrderKey.OrderKey, lines.OrderLine.OrderLine}
use Rattle.blot_types.specs.Keys.{same_order}
use Rattle.blot_types.specs.Order.{line_of, fills_of, with_fill, IsWithin}
use Rattle.blot_types.proofs.OrderLemmas.{line_of-push, IsWithin-weaker}
use Rattle.blot_types.proofs.KeyLemmas.{same_order-true}
use Rattle.blot_report.specs.Lines.{order_row}
use Rattle.blot_report.specs.Orders.{line_at, with_line, AddsFill, AreLinesOf, GrowsByOne, line_rows}
use Rattle.blot_report.proofs.ListLemmas.{found-more, more}

one-fill : (fill : Fill) (order : OrderKey) → fills_of (fill ∷ []) order ≡ (if same_order fill.order order then fill ∷ [] else [])
one-fill fill order =
    elim (cases_Bool (same_order fill.order order)) [
      | inl own ↦ rw own refl
      | inr other ↦ rw other refl
    ]

-- the line of an order's fills, with one fill more of any order
line-more :
    (lines : List (OrderKey × OrderLine)) (fills : List Fill) (fill : Fill) (order : OrderKey) → AreLinesOf lines fills
    → with_line fill lines order ≡ line_of (fills_of (fills ++ fill ∷ []) order)
line-more lines fills fill order are =
    let split : fills_of (fills ++ fill ∷ []) order ≡ fills_of fills order ++ fills_of (fill ∷ []) order = filter-append (λ f. same_order f.order order) fills (fill ∷ []) in
    elim (cases_Bool (same_order fill.order order)) [
      | inl own ↦
          let same : fill.order ≡ order = same_order-true fill.order order own in
          let more : fills_of (fills ++ fill ∷ []) order ≡ fills_of fills order ++ fill ∷ [] =
          split ∙ ap (λ back. fills_of fills order ++ back) (one-fill fill order ∙ ap (λ test. if test then fill ∷ [] else []) own) in
          ap (λ test. if test then Some (with_fill (line_at lines fill.order) fill) else line_at lines order) own
          ∙ ap (λ line. Some (with_fill line fill)) (ap (line_at lines) same ∙ are order)
          ∙ sym (ap line_of more ∙ line_of-push (fills_of fills order) fill)
      | inr other ↦
          let more : fills_of (fills ++ fill ∷ []) order ≡ fills_of fills order =
          split ∙ ap (λ back. fills_of fills order ++ back) (one-fill fill order ∙ ap (λ test. if test then fill ∷ [] else []) other) ∙ append-nil (fills_of fills order) in
          ap (λ test. if test then Some (with_fill (line_at lines fill.order) fill) else line_at lines order) other
          ∙ are order ∙ sym (ap line_of more)
    ]

-- the lines of what the first entries bring, each of at most as many fills
pub record HoldsFirst (f : Entry → Option Fill) (lines : List (OrderKey × OrderLine)) (entries : List Entry) (index : ℕ) : Type 0 where
  pub are : AreLinesOf lines (filter_map f (take index entries))
  pub few : (order : OrderKey) → IsWithin index (line_at lines order)

-- one fill more, for every order
few-more :
    (old : List (OrderKey × OrderLine)) (fill : Fill) (index : ℕ) (order : OrderKey) → ((order : OrderKey) → IsWithin index (line_at old order))
    → GrowsByOne fill old
    → IsWithin (index + 1) (with_line fill old order)
few-more old fill index order few grows =
    elim (cases_Bool (same_order fill.order order)) [
      | inl own ↦ subst (λ key. IsWithin (index + 1) (with_line fill old key)) (same_order-true fill.order order own) (grows index (few fill.order))
      | inr other ↦
          subst (IsWithin (index + 1)) (sym (ap (λ test. if test then Some (with_fill (line_at old fill.order) fill) else line_at old order) other))
          (IsWithin-weaker index (index + 1) (line_at old order) (omega arith) (few order))
    ]

pub holds-more :
    (f : Entry → Option Fill) (old new : List (OrderKey × OrderLine)) (entries : List Entry) (index : ℕ) (entry : Entry) (fill : Fill)
    → HoldsFirst f old entries index → index < length entries → entry ≡ get_or entries index entry → f entry ≡ Some fill → AddsFill fill old new → GrowsByOne fill old
    → HoldsFirst f new entries (index + 1)
holds-more f old new entries index entry fill holds within is brought written grows =
    let fills : filter_map f (take (index + 1) entries) ≡ filter_map f (take index entries) ++ fill ∷ [] =
    found-more f (take index entries) (take (index + 1) entries) entry (more entries index entry within is) ∙ ap (λ o. filter_map f (take index entries) ++ cons_option o []) brought in
    record {
      are = λ order. written order ∙ line-more old (filter_map f (take index entries)) fill order holds.are ∙ sym (ap (λ own. line_of (fills_of own order)) fills);
      few = λ order. subst (IsWithin (index + 1)) (sym (written order)) (few-more old fill index order holds.few grows);
    }

-- an entry that brings none
pub holds-on :
    (f : Entry → Option Fill) (old new : List (OrderKey × OrderLine)) (entries : List Entry) (index : ℕ) (entry : Entry)
    → HoldsFirst f old entries index → index < length entries → entry ≡ get_or entries index entry → f entry ≡ None → new ≡ old → HoldsFirst f new entries (index + 1)
holds-on f old new entries index entry holds within is none kept =
    let fills : filter_map f (take (index + 1) entries) ≡ filter_map f (take index entries) =
    found-more f (take index entries) (take (index + 1) entries) entry (more entries index entry within is) ∙ ap (λ o. filter_map f (take index entries) ++ cons_option o []) none ∙ append-nil (filter_map f (take index entries)) in
    subst (λ lines. HoldsFirst f lines entries (index + 1)) (sym kept) (record {
      are = λ order. holds.are order ∙ sym (ap (λ own. line_of (fills_of own order)) fills);
      few = λ order. IsWithin-weaker index (index + 1) (line_at old order) (omega arith) (holds.few order);
    })

-- no fill yet
pub holds-none : (f : Entry → Option Fill) (lines : List (OrderKey × OrderLine)) (entries : List Entry) → lines ≡ [] → HoldsFirst f lines entries 0
holds-none f lines entries none =
    subst (λ l. HoldsFirst f l entries 0) (sym none) (record {
      are = λ order. refl;
      few = λ order. record { cum_low = omega (arith, ints); cum_high = omega (arith, ints); value_low = omega (arith, ints); value_high = omega (arith, ints) };
    })

-- all of them
pub holds-all :
    (f : Entry → Option Fill) (lines : List (OrderKey × OrderLine)) (entries : List Entry) (index : ℕ) (fills : List Fill) → HoldsFirst f lines entries index
    → take index entries ≡ entries → filter_map f entries ≡ fills → AreLinesOf lines fills
holds-all f lines entries index fills holds all is order =
    holds.are order ∙ ap (λ own. line_of (fills_of (filter_map f own) order)) all ∙ ap (λ own. line_of (fills_of own order)) is

-- the rows of lines are those of the fills
pub rows-same : (lines : List (OrderKey × OrderLine)) (fills : List Fill) (keys : List OrderKey) → AreLinesOf lines fills → line_rows lines keys ≡ filter_map (order_row fills) keys
rows-same lines fills [] are = refl
rows-same lines fills (key ∷ keys) are =
    ap (λ o. cons_option (option_map (λ line. record { order = key; line = line }) o) (line_rows lines keys)) (are key)
    ∙ ap (cons_option (order_row fills key)) (rows-same lines fills keys are)
