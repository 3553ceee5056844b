-- The table is compared with the list of tags at each tag that it covers, by computing.
use Rattle.std.proofs.Common.{◌≡◌, ℕ, zero, suc, ◌<◌, ◌≤◌, Bool, true, false, ◌&&◌, ◌==◌, ◌∷◌, [], nat_eq, nat_lt, get_or, List, refl, arith, inl, inr, sym, ◌∙◌, length, eqb-true, ne_eqb, ltb-true}
use Rattle.std.proofs.lemmas.Bool.{cases_eq, and_parts}
use Rattle.std.specs.List.{list_all, position_or_len}
use Rattle.blot_fields.specs.declared.{index.TheConstants.TAGS, index.TheConstants.ROW_OF_TAG}
use Rattle.blot_fields.specs.Index.{row_of, row_tags}
use Rattle.blot_fields.proofs.index.row_of.Goals as goal

-- the two answers agree below n
agree_below : (ℕ → ℕ) → (ℕ → ℕ) → ℕ → Bool
agree_below f g zero = true
agree_below f g (suc n) = nat_eq (f n) (g n) && agree_below f g n

agree_at : (f g : ℕ → ℕ) (n : ℕ) → agree_below f g n ≡ true → (k : ℕ) → k < n → f k ≡ g k
unfolding agree_below
agree_at f g zero h k lt = absurd (omega arith)
agree_at f g (suc n) h k lt =
    let both = and_parts (nat_eq (f n) (g n)) (agree_below f g n) h in
    elim (cases_eq k n) [ inl same ↦ rw same (eqb-true _ _ both.0) | inr other ↦ agree_at f g n both.1 k (omega arith) ]

from_table : (table : List ℕ) (tag : ℕ) → tag < TAGS → agree_below (λ k. get_or table k 0) row_of TAGS ≡ true → get_or table tag 0 ≡ row_of tag
from_table table tag low h = agree_at _ _ TAGS h tag low

-- a tag that is above all of a list stands nowhere in it
past_all : (tags : List ℕ) (tag : ℕ) → list_all (λ t. nat_lt t TAGS) tags ≡ true → TAGS ≤ tag → position_or_len (λ t. t == tag) tags ≡ length tags
past_all [] tag low high = refl
past_all (first ∷ tags) tag low high =
    let both = and_parts (nat_lt first TAGS) (list_all (λ t. nat_lt t TAGS) tags) low in
    let below = ltb-true first TAGS both.0 in
    rw (ne_eqb first tag (λ same. absurd (omega (arith, high, below, same)))) (omega (arith, past_all tags tag both.1 high))

pub returns-then-tag-lt-TAGS : goal.returns-then-tag-lt-TAGS
unfolding agree_below
returns-then-tag-lt-TAGS c = c.from.ensures ∙ from_table ROW_OF_TAG c.args.tag c.if-tag-lt-TAGS.true refl

pub returns-else-tag-lt-TAGS : goal.returns-else-tag-lt-TAGS
returns-else-tag-lt-TAGS c = sym (past_all row_tags c.args.tag refl c.if-tag-lt-TAGS.false)
