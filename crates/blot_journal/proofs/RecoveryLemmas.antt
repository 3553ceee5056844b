-- What a recovery finds.
use Rattle.std.proofs.Common.{◌≡◌, ℕ, ◌+◌, ◌≤◌, Bool, true, false, List, length, take, drop, nat_eq, refl, sym, ◌∙◌, ap, subst, arith, take-take, take_all, w64}
use Rattle.std.specs.Cmp.Lexicographic.{pointwise, same_text, other_text}
use Rattle.std.specs.Int.{from_le_bytes}
use Rattle.blot_journal.specs.Device.{Cut, Follows, Only}
use Rattle.blot_journal.specs.File.{is_second, place, signed_in, size_in, text_of, IsWhole, HasHead}
use Rattle.blot_journal.specs.Recovery.{IsCounted, IsCutBehind, IsHeadFault, IsFaultOf, trimmed}
use Rattle.blot_journal.specs.declared.recovery.RecoveryFault.{RecoveryFault}
use Rattle.blot_journal.specs.declared.recovery.RecoveryFault.TheVariants.{NoMemory, Failed, NoJournal, Damaged}
use Rattle.blot_journal.proofs.WriteLemmas.{part_less}
use Rattle.blot_journal.proofs.HeadLemmas.{front_switch, place_low, cut_behind, head_whole}
use Rattle.blot_journal.proofs.JournalLemmas.{text_long}

-- the head of a file says the same as the file
module _ (file head : List ℕ) (front : take 4096 head ≡ take 4096 file) where
  second_same : is_second head ≡ is_second file
  second_same = front_switch 4096 head file (omega arith) front

  signed_same : signed_in head ≡ signed_in file
  signed_same = part_less 1536 16 4096 head file (omega arith) front

  size_same : (second : Bool) → size_in second head ≡ size_in second file
  size_same second = ap (λ (l : List ℕ). from_le_bytes w64 l) (part_less (place second) 8 4096 head file (omega (arith, place_low second)) front)

  pub counted_head : (second : Bool) (size : ℕ) → IsCounted head (length file) second size → HasHead second size file
  counted_head second size counted = record {
    switch = sym (counted.second_is ∙ second_same);
    size_is = sym (counted.size_is ∙ size_same second);
    signed = sym signed_same ∙ counted.signed;
    room = counted.room;
  }

  size_is : size_in (is_second head) head ≡ size_in (is_second file) file
  size_is = size_same (is_second head) ∙ ap (λ (b : Bool). size_in b file) second_same

  pub head_fault : 4096 ≤ length file → (fault : RecoveryFault) → IsHeadFault head (length file) fault → IsFaultOf file fault
  head_fault long NoJournal other = λ is. other (signed_same ∙ is.signed)
  head_fault long (Damaged end) is =
      (record { head = long; signed = sym signed_same ∙ is.0 }, is.1, λ whole. omega (arith, is.2, size_is, whole.room))
  head_fault long NoMemory none = absurd none
  head_fault long Failed none = absurd none

-- what is read of its front
pub front_read : (file head : List ℕ) → head ≡ take 4096 file → take 4096 head ≡ take 4096 file
front_read file head is = ap (λ (l : List ℕ). take 4096 l) is ∙ take-take 4096 4096 file (omega arith)

-- a whole file is one that was cut nowhere
pub uncut : (old : List ℕ) (second : Bool) (size : ℕ) → HasHead second size old → IsCutBehind old old
uncut old second size head = record { front = take_all (length old) old (omega arith); stands = record { says = refl; whole = head_whole second size old head } }

pub trim_crash : (old : List ℕ) (second : Bool) (size : ℕ) → HasHead second size old → (was now : List ℕ → Type 0) → Only old was → Follows (Cut (size + 4096)) was now → (file : List ℕ) → now file
    → IsCutBehind old file
trim_crash old second size head was now only follows file left =
    let from = follows file left in
    let cut : Cut (size + 4096) old file = subst (λ f. Cut (size + 4096) f file) (only from.0 from.1) from.2 in
    let same = cut_behind old second size head file cut in
    record { front = cut.front; stands = record { says = same.says; whole = same.whole (head_whole second size old head) } }

-- what a cut behind the text leaves
pub cut_trims : (old : List ℕ) (second : Bool) (size : ℕ) → HasHead second size old → take (size + 4096) old ≡ trimmed old
cut_trims old second size head =
    ap (λ (n : ℕ). take n old) (omega (arith, text_long old second size head))

-- what a test of two texts says
pub decided : (xs ys zs : List ℕ) (r : Bool) → r ≡ pointwise nat_eq xs ys → ys ≡ zs → (r ≡ true → xs ≡ zs) × (xs ≡ zs → r ≡ true)
decided xs ys zs true is same = (λ _. same_text xs ys is ∙ same, λ _. refl)
decided xs ys zs false is same = (λ e. cc, λ e. absurd (other_text xs ys is (e ∙ sym same)))

-- what holds of a fault
-- ---- a file that is only read

-- by the head that was found, what stands behind the head is the text
module _ (file : List ℕ) (second : Bool) (size : ℕ) (found : IsCounted (take 4096 file) (length file) second size) where
  read_head : HasHead second size file
  read_head = counted_head file (take 4096 file) (front_read file (take 4096 file) refl) second size found

  counts : size_in (is_second file) file ≡ size
  counts = ap (λ (b : Bool). size_in b file) read_head.switch ∙ read_head.size_is

  pub read_text : (n : ℕ) → n ≡ size → take n (drop 4096 file) ≡ text_of file
  read_text n is = ap (λ (n : ℕ). take n (drop 4096 file)) (is ∙ sym counts)

  pub read_whole : 4096 ≤ length file → IsWhole file
  read_whole long = record {
    journal = record { head = long; signed = read_head.signed };
    room = omega (arith, counts, read_head.room);
  }
