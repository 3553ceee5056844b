-- A day that is opened over a file.
use Rattle.std.proofs.Common.{◌≡◌, ◌⊎◌, ◌<◌, inl, inr, ⊎_elim, ◌+◌, true, ap, sym, ℕ, ℤ, Option, List, [], ◌∷◌, length, take, refl, subst, ◌∙◌, arith, append-nil, take-take}
use Rattle.blot_tag.proofs.JoinedLemmas.{has_last}
use Rattle.blot_journal.specs.Device.{LeavesOnly}
use Rattle.blot_journal.specs.File.{StandsBeforeOrAfter, text_of}
use Rattle.blot_journal.specs.Journal.{Open}
use Rattle.blot_journal.specs.Recovery.{IsCutBehind, IsLeft, IsOrWas, trimmed}
use Rattle.blot_journal.specs.declared.journal.JournalFault.{JournalFault}
use Rattle.blot_journal.specs.declared.journal.JournalFault.TheVariants as writing
use Rattle.blot_journal.specs.declared.recovery.RecoveryFault.TheVariants as reading
use Rattle.blot_diary.specs.declared.{kept.Content.TheVariants.Beginning, kept.Kept.Kept}
use Rattle.blot_diary.specs.Diary.{desk_events}
use Rattle.blot_diary.specs.Records.{keeps}
use Rattle.blot_recovery.specs.declared.opening.OpenFault.{OpenFault}
use Rattle.blot_recovery.specs.declared.opening.OpenFault.TheVariants.{File, Text, Write}
use Rattle.blot_recovery.specs.Moments.{IsBegun, IsOpening, IsOrLeaves, IsOrWasRead, SameOrBegun, WasRead, later-on}
use Rattle.blot_recovery.specs.Opening.{IfRefused, IsBeginning, IsOpenFault, IsOpened, IsTextFault, IsWriteFault, OpensWith, is_of_disk}
use Rattle.blot_recovery.proofs.FrameLemmas.{desk_events-last, desk_events-nil, keeps_last, whole-nil}

-- a text of no bytes
-- the beginning brings no event
pub beginning-quiet : (own : List ℕ) (day : ℤ) (text : List ℕ) → IsBeginning own day text → desk_events text ≡ []
beginning-quiet own day text begins =
    let kept : Kept = keeps own own 1 (Beginning day) in
    let last = keeps_last [] text kept (has_last [] text begins.valid whole-nil).frames begins.kept in
    desk_events-last [] text kept last ∙ append-nil (desk_events []) ∙ desk_events-nil

-- a text that was found
pub opens-same : (own : List ℕ) (day : ℤ) (found text : List ℕ) → (found ≡ [] → ⊥) → text ≡ found → OpensWith own day found text
opens-same own day found text some same = record { new = λ none. absurd (some none); same = λ _. same }

-- or none
pub opens-new : (own : List ℕ) (day : ℤ) (found text : List ℕ) → found ≡ [] → IsBeginning own day text → OpensWith own day found text
opens-new own day found text none begins = record { new = λ _. begins; same = λ some. absurd (some none) }

-- what a fault says of the text says it of the file
pub open-fault : (own : List ℕ) (day : ℤ) (peers : List (List ℕ)) (operator : Option (List ℕ)) (file found : List ℕ) (fault : OpenFault) → found ≡ text_of file
    → IsTextFault own day peers operator found fault → IsOpenFault own day peers operator file fault
open-fault own day peers operator file found (File fault) is of = absurd of
open-fault own day peers operator file found (Text fault) is of = subst (λ found. IsTextFault own day peers operator found (Text fault)) is of
open-fault own day peers operator file found (Write fault) is of = subst (λ found. IsTextFault own day peers operator found (Write fault)) is of

-- what a fault of a write says of the text
pub write-fault : (found : List ℕ) (fault : JournalFault) → (fault ≡ writing.Full → found ≡ []) → (fault ≡ writing.Broken → ⊥) → IsWriteFault found fault
write-fault found writing.NoMemory full broken = tt
write-fault found writing.Failed full broken = tt
write-fault found writing.Full full broken = full refl
write-fault found writing.Broken full broken = broken refl

-- ---- a disk that failed

pub write-cause : (fault : JournalFault) (before mid now : ℕ) → before ≡ 0 → (fault ≡ writing.Failed → mid < now) → is_of_disk (Write fault) ≡ true → before < now
write-cause writing.NoMemory before mid now none failed is = cc
write-cause writing.Failed before mid now none failed is = omega (arith, none, failed refl)
write-cause writing.Full before mid now none failed is = cc
write-cause writing.Broken before mid now none failed is = cc

pub text-cause : (own : List ℕ) (day : ℤ) (peers : List (List ℕ)) (operator : Option (List ℕ)) (found : List ℕ) (fault : OpenFault) (before mid now : ℕ) → before ≡ 0
    → IsTextFault own day peers operator found fault → (fault ≡ Write writing.Failed → mid < now) → is_of_disk fault ≡ true → before < now
text-cause own day peers operator found (File fault) before mid now none of failed is = absurd of
text-cause own day peers operator found (Text fault) before mid now none of failed is = cc
text-cause own day peers operator found (Write fault) before mid now none of failed is =
    write-cause fault before mid now none (λ same. failed (ap (λ (fault : JournalFault). Write fault) same)) is

-- ---- the file

-- a text is empty or it isn't
pub empty-or : (text : List ℕ) → (text ≡ []) ⊎ (text ≡ [] → ⊥)
empty-or [] = inl refl
empty-or (byte ∷ text) = inr (λ none. absurd (empty-not byte text none))
  where
    empty-not : (byte : ℕ) (text : List ℕ) → byte ∷ text ≡ [] → ⊥
    empty-not byte text none = omega (arith, ap length none)

-- the file that is opened, once what stood behind its text is cut off
pub opened-file : (old mid new : List ℕ) → ((text_of old ≡ [] → ⊥) → mid ≡ old) → new ≡ trimmed mid → text_of new ≡ text_of mid → IsOpened old new
opened-file old mid new same is text =
    record {
      trimmed_is = ap (λ (n : ℕ). take (4096 + n) new) (ap length text) ∙ ap (λ (file : List ℕ). take (4096 + length (text_of mid)) file) is
          ∙ take-take (4096 + length (text_of mid)) (4096 + length (text_of mid)) mid (omega arith) ∙ sym is;
      same = λ some. is ∙ ap trimmed (same some);
    }

-- ---- moments

module _ {D : Type 0} (moment : D → ℕ) (left_since : D → ℕ → List ℕ → Type 0) where
  weaker : (old new : D) (P Q : List ℕ → Type 0) → LeavesOnly moment left_since old new P → ((file : List ℕ) → P file → Q file) → LeavesOnly moment left_since old new Q
  weaker old new P Q leaves so = record {
    later = leaves.later;
    each = λ file left. so file (leaves.each file left);
    before = λ start file le left. ⊎_elim inl (λ has. inr (so file has)) (leaves.before start file le left);
  }

  is-or-weaker : (old new : D) (P Q : List ℕ → Type 0) → IsOrLeaves moment left_since old new P → ((file : List ℕ) → P file → Q file) → IsOrLeaves moment left_since old new Q
  is-or-weaker old new P Q (inl same) so = inl same
  is-or-weaker old new P Q (inr leaves) so = inr (weaker old new P Q leaves so)

  -- one whose text was begun
  pub begun-moments : (own : List ℕ) (day : ℤ) (seen text : List ℕ) (old new : D) → text_of seen ≡ [] → IsBeginning own day text
      → IsOrLeaves moment left_since old new (StandsBeforeOrAfter (text_of seen) text) → IsOrLeaves moment left_since old new (SameOrBegun own day seen)
  begun-moments own day seen text old new none begins leaves =
      is-or-weaker old new (StandsBeforeOrAfter (text_of seen) text) (SameOrBegun own day seen) leaves
      (λ file stands. inr (record { none = none; text = text; begins = begins; stands = subst (λ (found : List ℕ). StandsBeforeOrAfter found text file) none stands }))

  -- a file that was recovered and read is left as it was
  pub left-read : (seen : D → List ℕ) (may_leave : D → List ℕ → Type 0) (device : D) (old new : Open D) → IsLeft seen may_leave moment left_since device old.device
      → IsOrWasRead (WasRead seen moment left_since) old new → IsLeft seen may_leave moment left_since device new.device
  left-read seen may_leave device old new left (inl same) = subst (λ (journal : Open D). IsLeft seen may_leave moment left_since device journal.device) (sym same) left
  left-read seen may_leave device old new left (inr read) = record {
    seen_is = read.seen_is ∙ left.seen_is;
    any_moment = later-on moment left_since device old.device new.device (IsOrWas (seen device) (may_leave device)) (λ file. file ≡ seen old.device) left.any_moment read.leaves
        (λ file is. inl (is ∙ left.seen_is));
  }

  -- and so where it is refused
  pub refused-left : (seen : D → List ℕ) (may_leave : D → List ℕ → Type 0) (device : D) (old new : Open D) (fault : OpenFault) → IsLeft seen may_leave moment left_since device old.device
      → IfRefused fault (IsOrWasRead (WasRead seen moment left_since) old new) → IfRefused fault (IsLeft seen may_leave moment left_since device new.device)
  refused-left seen may_leave device old new (File fault) left read = left-read seen may_leave device old new left read
  refused-left seen may_leave device old new (Text fault) left read = left-read seen may_leave device old new left read
  refused-left seen may_leave device old new (Write fault) left read = tt

  module _ (own : List ℕ) (day : ℤ) (seen : D → List ℕ) (may_leave : D → List ℕ → Type 0) (device : D) where
    -- a file that was recovered
    pub left-moments : (new : D) → IsLeft seen may_leave moment left_since device new → LeavesOnly moment left_since device new (IsOpening own day (seen device) (may_leave device))
    left-moments new left = weaker device new (IsOrWas (seen device) (may_leave device)) (IsOpening own day (seen device) (may_leave device)) left.any_moment (λ file is. inl is)

    -- and its text taken up
    pub taken-moments : (old new : D) → IsLeft seen may_leave moment left_since device old → IsOrLeaves moment left_since old new (SameOrBegun own day (seen old))
        → LeavesOnly moment left_since device new (IsOpening own day (seen device) (may_leave device))
    taken-moments old new left second = by second
      where
        P : List ℕ → Type 0
        P = IsOpening own day (seen device) (may_leave device)

        each : (file : List ℕ) → SameOrBegun own day (seen old) file → P file
        each file (inl is) = inl (inl (is ∙ left.seen_is))
        each file (inr begun) = inr (inr (subst (λ old. IsBegun own day (text_of old) file) left.seen_is begun))

        by : IsOrLeaves moment left_since old new (SameOrBegun own day (seen old)) → LeavesOnly moment left_since device new P
        by (inl same) = subst (λ new. LeavesOnly moment left_since device new P) (sym same) (left-moments old left)
        by (inr leaves) = later-on moment left_since device old new P (SameOrBegun own day (seen old)) (left-moments old left) leaves each

    -- and what stands behind the text cut off
    pub cut-moments : (mid new : D) → OpensWith own day (text_of (seen device)) (text_of (seen mid)) → ((text_of (seen device) ≡ [] → ⊥) → seen mid ≡ seen device)
        → LeavesOnly moment left_since device mid (IsOpening own day (seen device) (may_leave device)) → LeavesOnly moment left_since mid new (IsCutBehind (seen mid))
        → LeavesOnly moment left_since device new (IsOpening own day (seen device) (may_leave device))
    cut-moments mid new opens same first second =
        later-on moment left_since device mid new (IsOpening own day (seen device) (may_leave device)) (IsCutBehind (seen mid)) first second each
      where
        by : (file : List ℕ) → (text_of (seen device) ≡ []) ⊎ (text_of (seen device) ≡ [] → ⊥) → IsCutBehind (seen mid) file → IsOpening own day (seen device) (may_leave device) file
        by file (inl none) cut = inr (inr (record { none = none; text = text_of (seen mid); begins = opens.new none; stands = inr cut.stands }))
        by file (inr some) cut = inr (inl (subst (λ old. IsCutBehind old file) (same some) cut))

        each : (file : List ℕ) → IsCutBehind (seen mid) file → IsOpening own day (seen device) (may_leave device) file
        each file cut = by file (empty-or (text_of (seen device))) cut
