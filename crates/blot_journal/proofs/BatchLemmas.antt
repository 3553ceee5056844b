-- The steps of a sync.
use Rattle.std.proofs.Common.{◌≡◌, inl, inr, ℕ, zero, suc, ◌+◌, ◌<◌, ◌≤◌, ◌^◌, ◌==◌, Bool, true, false, not, List, [], ◌∷◌, ◌++◌, length, take, drop, refl, sym, ◌∙◌, ap, subst, arith, zero-add, length-drop, drop-drop, take_all, w64}
use Rattle.std.proofs.lemmas.Nat.{from_le_bytes-to_le_bytes_8}
use Rattle.std.specs.Int.{from_le_bytes, to_le_bytes}
use Rattle.blot_journal.specs.Device.{HasWritten, Torn, Follows, Only}
use Rattle.blot_journal.specs.File.{is_second, switch_for, place, size_in, text_in, text_of, IsWhole, SameText, StandsBeforeOrAfter, HasHead, IsStaged, Turned}
use Rattle.blot_journal.proofs.WriteLemmas.{part_less, written, torn, no_shorter}
use Rattle.blot_journal.proofs.HeadLemmas.{place_low, text_is, same_head, head_whole, torn_behind, kept_place, torn_place, same_text, eight_same, signed_same, text_same, torn_switch}

take_add : (m n : ℕ) (xs : List ℕ) → take (m + n) xs ≡ take m xs ++ take n (drop m xs)
take_add zero n xs = rw zero-add refl
take_add (suc m) n [] = take_all (suc m + n) [] (omega arith) ∙ sym (take_all n [] (omega arith))
take_add (suc m) n (x ∷ xs) = let more : suc m + n ≡ suc (m + n) = omega arith in ap (λ (k : ℕ). take k (x ∷ xs)) more ∙ ap (λ (l : List ℕ). x ∷ l) (take_add m n xs)

module _ (old : List ℕ) (second : Bool) (size : ℕ) (head : HasHead second size old) where
  -- both writes, cut short or not
  pub torn_both : (count : ℕ) (mid file : List ℕ) → Torn (size + 4096) count old mid → Torn (place (not second)) 8 mid file → SameText old file
  torn_both count mid file first later =
      let long : size + 4096 ≤ length mid = omega (arith, first.no_shorter, head.room) in
      same_text old mid file (torn_behind old second size head count mid first)
      (torn_place second mid file (same_head old second size head mid first.before long).switch later (omega (arith, long)))

  pub staged : (more mid new : List ℕ) → HasWritten old (size + 4096) more mid → HasWritten mid (place (not second)) (to_le_bytes w64 (size + length more)) new → size + length more < 2 ^ 62
      → IsStaged second size (text_of old) more new
  staged more mid new holds holds_next few =
      let first = torn old (size + 4096) more mid head.room holds in
      let long : size + 4096 + length more ≤ length mid = no_shorter old (size + 4096) more mid head.room holds in
      let head_mid = same_head old second size head mid first.before (omega (arith, long)) in
      let within : place (not second) ≤ length mid = omega (arith, place_low (not second), long) in
      let later : Torn (place (not second)) 8 mid new = torn mid (place (not second)) (to_le_bytes w64 (size + length more)) new within holds_next in
      let kept = kept_place second mid new later in
      let longer : length mid ≤ length new = later.no_shorter in
      let next_size : size_in (not second) new ≡ size + length more =
      ap (λ (l : List ℕ). from_le_bytes w64 l) (written mid (place (not second)) (to_le_bytes w64 (size + length more)) new within holds_next)
      ∙ from_le_bytes-to_le_bytes_8 (size + length more) (omega arith) in
      let front : take size (drop 4096 mid) ≡ text_of old = part_less 4096 size (size + 4096) mid old (omega arith) first.before ∙ sym (text_is old second size head) in
      let behind : take (length more) (drop size (drop 4096 mid)) ≡ more =
      ap (λ (l : List ℕ). take (length more) l) (drop-drop size 4096 mid ∙ ap (λ (n : ℕ). drop n mid) (omega arith)) ∙ written old (size + 4096) more mid head.room holds in
      record {
        head = record {
          switch = kept.switch ∙ head_mid.switch;
          size_is = kept.size_is ∙ head_mid.size_is;
          signed = kept.signed ∙ head_mid.signed;
          room = omega (arith, head_mid.room, longer);
        };
        says = (torn_both (length more) mid new first later).says;
        next_size = next_size;
        next_room = omega (arith, long, longer);
        next_text = (λ i. take (next_size i) (kept.text i)) ∙ take_add size (length more) (drop 4096 mid) ∙ (λ i. front i ++ behind i);
      }

  pub stage_crash : (count : ℕ) (was now : List ℕ → Type 0) → Only old was → Follows (Torn (size + 4096) count) was now → (file : List ℕ) → now file → Torn (size + 4096) count old file
  stage_crash count was now only follows file left =
      let from = follows file left in
      subst (λ f. Torn (size + 4096) count f file) (only from.0 from.1) from.2

-- the switch is turned
pub turned : (other : Bool) (old new : List ℕ) → IsWhole old → size_in other old + 4096 ≤ length old → HasWritten old 0 (switch_for other ∷ []) new
    → HasHead other (size_in other old) new × (text_of new ≡ text_in other old)
turned other old new whole room holds =
    let after : drop 1 new ≡ drop 1 old = ap (λ (l : List ℕ). drop 1 l) holds in
    let switch : is_second new ≡ other = ap is_second holds ∙ is_on other in (
      record {
        switch = switch;
        size_is = eight_same old new after other;
        signed = signed_same old new after ∙ whole.journal.signed;
        room = omega (arith, room, ap length holds, length-drop 1 old);
      },
      ap (λ (b : Bool). text_in b new) switch ∙ text_same old new after other,
    )
  where
    is_on : (b : Bool) → (switch_for b == 1) ≡ b
    is_on true = refl
    is_on false = refl

-- a write of the switch that is cut short leaves either text
pub turn_crash : (other : Bool) (old : List ℕ) → is_second old ≡ not other → IsWhole old → size_in other old + 4096 ≤ length old → (was now : List ℕ → Type 0) → Only old was → Follows (Torn 0 1) was now
    → (file : List ℕ) → now file → Turned other old file
turn_crash other old switch whole room was now only follows file left =
    let from = follows file left in
    torn_switch other old file switch whole room (subst (λ f. Torn 0 1 f file) (only from.0 from.1) from.2)

pub twice : (b : Bool) → b ≡ not (not b)
twice true = refl
twice false = refl

-- a file that is the same, or turned, stands for the text with more behind it or without
pub same_stands : (old : List ℕ) (second : Bool) (size : ℕ) (more file : List ℕ) → HasHead second size old → SameText old file → StandsBeforeOrAfter (text_of old) more file
same_stands old second size more file head same = inl (record { says = same.says; whole = same.whole (head_whole second size old head) })

pub turned_stands : (second : Bool) (size : ℕ) (text more mid file : List ℕ) → IsStaged second size text more mid → Turned (not second) mid file → StandsBeforeOrAfter text more file
turned_stands second size text more mid file staged (inl before) = inl (record { says = before.says ∙ staged.says; whole = before.whole })
turned_stands second size text more mid file staged (inr after) = inr (record { says = after.says ∙ staged.next_text; whole = after.whole })
