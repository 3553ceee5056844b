-- What a file stands for after each write to it.
use Rattle.std.proofs.Common.{◌≡◌, inl, inr, ℕ, ◌+◌, ◌≤◌, ◌==◌, Bool, true, false, not, List, length, get_or, take, drop, replicate, [], ◌++◌, subst, refl, sym, ◌∙◌, ap, arith, get_or-take, take-take, length-take-le, w64}
use Rattle.std.proofs.lemmas.Bool.{cases_Bool}
use Rattle.std.specs.Int.{from_le_bytes}
use Rattle.blot_journal.specs.Device.{Torn, Cut}
use Rattle.blot_journal.specs.File.{is_second, place, signed_in, signature, size_in, text_in, text_of, IsWhole, SameText, Stands, HasHead, Turned}
use Rattle.blot_journal.proofs.WriteLemmas.{part_less, drop_less, torn}

-- the switch is in a front
pub front_switch : (n : ℕ) (xs ys : List ℕ) → 1 ≤ n → take n xs ≡ take n ys → is_second xs ≡ is_second ys
front_switch n xs ys some same =
    ap (λ (b : ℕ). b == 1) (sym (get_or-take n xs 0 0 (omega arith)) ∙ ap (λ (l : List ℕ). get_or l 0 0) same ∙ get_or-take n ys 0 0 (omega arith))

-- each length stands below the text
pub place_low : (second : Bool) → place second + 8 ≤ 1536
place_low true = omega arith
place_low false = omega arith

-- a file with a head is whole
pub head_whole : (second : Bool) (size : ℕ) (file : List ℕ) → HasHead second size file → IsWhole file
head_whole second size file head = record {
  journal = record { head = omega (arith, head.room); signed = head.signed };
  room = omega (arith, ap (λ (b : Bool). size_in b file) head.switch, head.size_is, head.room);
}

pub same_text : (a b c : List ℕ) → SameText a b → SameText b c → SameText a c
same_text a b c ab bc = record { says = bc.says ∙ ab.says; whole = λ w. bc.whole (ab.whole w) }

pub itself : (a : List ℕ) → SameText a a
itself a = record { says = refl; whole = λ w. w }

-- a file with the same front, as far as the text goes
module _ (old : List ℕ) (second : Bool) (size : ℕ) (head : HasHead second size old) where
  switch_is : size_in (is_second old) old ≡ size
  switch_is = ap (λ (b : Bool). size_in b old) head.switch ∙ head.size_is

  pub text_is : text_of old ≡ take size (drop 4096 old)
  text_is = ap (λ (n : ℕ). take n (drop 4096 old)) switch_is

  module _ (file : List ℕ) (same : take (size + 4096) file ≡ take (size + 4096) old) where
    pub same_head : size + 4096 ≤ length file → HasHead second size file
    same_head room = record {
      switch = front_switch (size + 4096) file old (omega arith) same ∙ head.switch;
      size_is = ap (λ (l : List ℕ). from_le_bytes w64 l) (part_less (place second) 8 (size + 4096) file old (omega (arith, place_low second)) same) ∙ head.size_is;
      signed = part_less 1536 16 (size + 4096) file old (omega arith) same ∙ head.signed;
      room = room;
    }

    pub same_front : size + 4096 ≤ length file → SameText old file
    same_front room =
        let now = same_head room in
        let size_is : size_in (is_second file) file ≡ size = ap (λ (b : Bool). size_in b file) now.switch ∙ now.size_is in
        record {
          says = ap (λ (n : ℕ). take n (drop 4096 file)) size_is ∙ part_less 4096 size (size + 4096) file old (omega arith) same ∙ sym text_is;
          whole = λ _. head_whole second size file now;
        }

  -- behind the text any bytes may stand
  pub torn_behind : (count : ℕ) (file : List ℕ) → Torn (size + 4096) count old file → SameText old file
  torn_behind count file torn = same_front file torn.before (omega (arith, torn.no_shorter, head.room))

  pub cut_behind : (file : List ℕ) → Cut (size + 4096) old file → SameText old file
  cut_behind file cut =
      let long : size + 4096 ≤ length file = omega (arith, cut.no_shorter, head.room) in
      let same : take (size + 4096) file ≡ take (size + 4096) old =
      sym (ap (λ (l : List ℕ). take (size + 4096) l) cut.front) ∙ take-take (size + 4096) (length file) old long in
      same_front file same long

  -- what is cut there keeps its head and its text
  pub trimmed : HasHead second size (take (size + 4096) old) × (text_of (take (size + 4096) old) ≡ text_of old)
  trimmed =
      let front : take (size + 4096) (take (size + 4096) old) ≡ take (size + 4096) old = take-take (size + 4096) (size + 4096) old (omega arith) in
      let room : size + 4096 ≤ length (take (size + 4096) old) = omega (arith, length-take-le (size + 4096) old head.room) in
      (same_head (take (size + 4096) old) front room, (same_front (take (size + 4096) old) front room).says)

torn_long : (at count : ℕ) (old file : List ℕ) → at + count ≤ length old → Torn at count old file → length file ≡ length old
torn_long at count old file le torn = omega (arith, torn.no_shorter, torn.no_longer)

-- a file of the same length, with the same signature and the same size
whole_with : (old file : List ℕ) → signed_in file ≡ signed_in old → size_in (is_second file) file ≡ size_in (is_second old) old → length file ≡ length old
    → IsWhole old → IsWhole file
whole_with old file signed same long whole = record {
  journal = record { head = omega (arith, long, whole.journal.head); signed = signed ∙ whole.journal.signed };
  room = omega (arith, same, whole.room, long);
}

-- the length that doesn't count may be anything: the switch, the other length, the signature and the text stay
pub record KeptPlace (second : Bool) (old file : List ℕ) : Type 0 where
  pub switch : is_second file ≡ is_second old
  pub size_is : size_in second file ≡ size_in second old
  pub signed : signed_in file ≡ signed_in old
  pub text : drop 4096 file ≡ drop 4096 old

pub kept_place : (second : Bool) (old file : List ℕ) → Torn (place (not second)) 8 old file → KeptPlace second old file
kept_place true old file torn = record {
  switch = front_switch 512 file old (omega arith) torn.before;
  size_is = ap (λ (l : List ℕ). from_le_bytes w64 (take 8 l)) (drop_less 520 504 1024 file old (omega arith) torn.after);
  signed = ap (λ (l : List ℕ). take 16 l) (drop_less 520 1016 1536 file old (omega arith) torn.after);
  text = drop_less 520 3576 4096 file old (omega arith) torn.after;
}
kept_place false old file torn = record {
  switch = front_switch 1024 file old (omega arith) torn.before;
  size_is = ap (λ (l : List ℕ). from_le_bytes w64 l) (part_less 512 8 1024 file old (omega arith) torn.before);
  signed = ap (λ (l : List ℕ). take 16 l) (drop_less 1032 504 1536 file old (omega arith) torn.after);
  text = drop_less 1032 3064 4096 file old (omega arith) torn.after;
}

pub torn_place : (second : Bool) (old file : List ℕ) → is_second old ≡ second → Torn (place (not second)) 8 old file → 4096 ≤ length old → SameText old file
torn_place second old file switch torn long =
    let kept = kept_place second old file torn in
    let on : size_in (is_second file) file ≡ size_in (is_second old) old =
    ap (λ (b : Bool). size_in b file) (kept.switch ∙ switch) ∙ kept.size_is ∙ ap (λ (b : Bool). size_in b old) (sym switch) in
    record {
      says = (λ i. take (on i) (kept.text i));
      whole = λ w. whole_with old file kept.signed on (torn_long (place (not second)) 8 old file (omega (arith, place_low (not second), long)) torn) w;
    }

-- all but the switch stays
module _ (old file : List ℕ) (after : drop 1 file ≡ drop 1 old) where
  pub eight_same : (second : Bool) → size_in second file ≡ size_in second old
  eight_same true = ap (λ (l : List ℕ). from_le_bytes w64 (take 8 l)) (drop_less 1 1023 1024 file old (omega arith) after)
  eight_same false = ap (λ (l : List ℕ). from_le_bytes w64 (take 8 l)) (drop_less 1 511 512 file old (omega arith) after)

  pub signed_same : signed_in file ≡ signed_in old
  signed_same = ap (λ (l : List ℕ). take 16 l) (drop_less 1 1535 1536 file old (omega arith) after)

  pub text_same : (second : Bool) → text_in second file ≡ text_in second old
  text_same second = (λ i. take (eight_same second i) (drop_less 1 4095 4096 file old (omega arith) after i))

-- the switch may be anything
pub torn_switch : (other : Bool) (old file : List ℕ) → is_second old ≡ not other → IsWhole old → size_in other old + 4096 ≤ length old → Torn 0 1 old file → Turned other old file
torn_switch other old file switch whole room torn = elim (cases_Bool (is_second file)) [
  | inl on ↦ by_cases other true on switch refl
  | inr off ↦ by_cases other false off switch refl
]
  where
    long : length file ≡ length old
    long = torn_long 0 1 old file (omega (arith, whole.journal.head)) torn

    kept : is_second file ≡ is_second old → Turned other old file
    kept same =
        let on : size_in (is_second file) file ≡ size_in (is_second old) old = ap (λ (b : Bool). size_in b file) same ∙ eight_same old file torn.after (is_second old) in
        inl (record {
          says = ap (λ (b : Bool). text_in b file) same ∙ text_same old file torn.after (is_second old);
          whole = whole_with old file (signed_same old file torn.after) on long whole;
        })

    turned : is_second file ≡ other → Turned other old file
    turned same = inr (record {
      says = ap (λ (b : Bool). text_in b file) same ∙ text_same old file torn.after other;
      whole = record {
        journal = record { head = omega (arith, long, whole.journal.head); signed = signed_same old file torn.after ∙ whole.journal.signed };
        room = omega (arith, ap (λ (b : Bool). size_in b file) same, eight_same old file torn.after other, long, room);
      };
    })

    by_cases : (o b : Bool) → is_second file ≡ b → is_second old ≡ not o → o ≡ other → Turned other old file
    by_cases true true now was is = turned (now ∙ is)
    by_cases true false now was is = kept (now ∙ sym was)
    by_cases false true now was is = kept (now ∙ sym was)
    by_cases false false now was is = turned (now ∙ is)

-- a head alone stands for the empty text
pub empty_stands : (front name back file : List ℕ) → front ≡ replicate 1536 0 → name ≡ signature → back ≡ replicate 2544 0 → file ≡ (front ++ name) ++ back → Stands [] file
empty_stands front name back file is_front is_name is_back is = subst (Stands []) (sym (is ∙ (λ i. (is_front i ++ is_name i) ++ is_back i))) (record {
  says = refl;
  whole = record { journal = record { head = omega arith; signed = refl }; room = omega arith };
})
