use Rattle.std.proofs.Common.{ℕ, ◌==◌, List, length, get_or, Option, Some, None, inl, inr, arith}
use Rattle.std.proofs.lemmas.Bool.{cases_Bool}
use Rattle.std.proofs.lemmas.List.Sums.{position_or_len_is}
use Rattle.memchr.specs.Find.{IsFirstByte, is_byte}
use Rattle.blot_tag.specs.Bytes.{IsFirstPlace}
use Rattle.blot_tag.proofs.bytes.find_byte.Goals as goal

first_place : (byte : ℕ) (text : List ℕ) (r : Option ℕ) → IsFirstByte (is_byte byte) text r → IsFirstPlace byte text r
first_place byte text None h =
    position_or_len_is (λ x. x == byte) text (length text) 0 (omega arith)
    (λ k inside. elim (cases_Bool (get_or text k 0 == byte)) [ inl y ↦ absurd (h k (omega arith) inside y) | inr n ↦ n ])
    (λ beyond. absurd (omega arith))
first_place byte text (Some i) h = (
  position_or_len_is (λ x. x == byte) text i 0 (omega (arith, h.0.high))
      (λ k before. elim (cases_Bool (get_or text k 0 == byte)) [ inl y ↦ absurd (h.0.before k (omega arith) before y) | inr n ↦ n ])
      (λ inside. h.1),
  h.0.high,
)

pub returns : goal.returns
returns c = first_place c.args.byte c.args.text.now c.memchr.result c.memchr.ensures
