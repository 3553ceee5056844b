-- What a crash may leave of a file while a day is opened.
use Rattle.std.specs.Prelude.{◌≡◌, ◌⊎◌, ℕ, ℤ, List, []}
use Rattle.std.proofs.Common.{inr, ⊎_elim, ◌∙◌}
use Rattle.std.proofs.Math.Nat.{le_trans}
use Rattle.blot_journal.specs.Device.{LeavesOnly}
use Rattle.blot_journal.specs.File.{StandsBeforeOrAfter, text_of}
use Rattle.blot_journal.specs.Journal.{Open}
use Rattle.blot_journal.specs.Recovery.{IsCutBehind, IsOrWas}
use Rattle.blot_recovery.specs.Opening.{IsBeginning}

-- a source is as it was, or it was read
abbrev pub IsOrWasRead : {S : Type 0} → (S → S → Type 0) → S → S → Type 0
IsOrWasRead reads old new = (new ≡ old) ⊎ reads old new

-- a journal was read: its file is as it was, and a crash meanwhile leaves just that
pub record WasRead {D : Type 0} (seen : D → List ℕ) (moment : D → ℕ) (left_since : D → ℕ → List ℕ → Type 0) (old new : Open D) : Type 0 where
  pub seen_is : seen new.device ≡ seen old.device
  pub leaves : LeavesOnly moment left_since old.device new.device (λ file. file ≡ seen old.device)

-- a device is as it was, or a crash meanwhile leaves what has P
abbrev pub IsOrLeaves : {D : Type 0} → (D → ℕ) → (D → ℕ → List ℕ → Type 0) → D → D → (List ℕ → Type 0) → Type 0
IsOrLeaves moment left_since old new P = (new ≡ old) ⊎ LeavesOnly moment left_since old new P

-- a file without a text is begun: it has no text yet, or its beginning
pub record IsBegun (own : List ℕ) (day : ℤ) (found file : List ℕ) : Type 0 where
  pub none : found ≡ []
  pub text : List ℕ
  pub begins : IsBeginning own day text
  pub stands : StandsBeforeOrAfter [] text file

-- a file is as it was, or is begun
abbrev pub SameOrBegun : List ℕ → ℤ → List ℕ → List ℕ → Type 0
SameOrBegun own day old file = (file ≡ old) ⊎ IsBegun own day (text_of old) file

-- a file is as it was, or as the crash before might have left it, or was cut somewhere behind its text, or is begun
abbrev pub IsOpening : List ℕ → ℤ → List ℕ → (List ℕ → Type 0) → List ℕ → Type 0
IsOpening own day seen may_leave file = IsOrWas seen may_leave file ⊎ (IsCutBehind seen file ⊎ IsBegun own day (text_of seen) file)

-- ---- the law

-- a crash leaves the same after both as after each
pub later-on : {D : Type 0} (moment : D → ℕ) (left_since : D → ℕ → List ℕ → Type 0) (old mid new : D) (P Q : List ℕ → Type 0) → LeavesOnly moment left_since old mid P
    → LeavesOnly moment left_since mid new Q → ((file : List ℕ) → Q file → P file) → LeavesOnly moment left_since old new P
later-on moment left_since old mid new P Q first second so = record {
  later = le_trans first.later second.later;
  each = λ file left. ⊎_elim (first.each file) (so file) (second.before (moment old) file first.later left);
  before = λ start file le left. ⊎_elim (first.before start file le) (λ now. inr (so file now)) (second.before start file (le_trans le first.later) left);
}

-- what was read, and read on, was read
pub was_read_on : {D : Type 0} (seen : D → List ℕ) (moment : D → ℕ) (left_since : D → ℕ → List ℕ → Type 0) (first mid last : Open D)
    → WasRead seen moment left_since first mid → WasRead seen moment left_since mid last → WasRead seen moment left_since first last
was_read_on seen moment left_since first mid last one two = record {
  seen_is = two.seen_is ∙ one.seen_is;
  leaves = later-on moment left_since first.device mid.device last.device (λ file. file ≡ seen first.device) (λ file. file ≡ seen mid.device) one.leaves
      two.leaves (λ file is. is ∙ one.seen_is);
}
