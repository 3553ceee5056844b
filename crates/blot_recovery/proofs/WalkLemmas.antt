-- The frames of a text, taken one by one.
use Rattle.std.proofs.Common.{◌≡◌, inl, inr, ℕ, ◌+◌, ◌<◌, ◌≤◌, List, [], ◌++◌, Option, Some, None, Result, Ok, Err, length, take, drop, refl, sym, ap, subst, ◌∙◌, arith, append_assoc, length-append, IfErr, IfOk, IfSome, OnOk, append-nil, drop-drop, take-append-drop}
use Rattle.std.proofs.Math.Seq.{take-append_seam}
use Rattle.std.proofs.lemmas.List.{nil_from_length}
use Rattle.blot_tag.specs.Frames.{BeginsWithFrame, IsFrame, IsFramePrefix, IsGarbled}
use Rattle.blot_tag.specs.Looking.{look_of}
use Rattle.blot_tag.proofs.FrameLemmas.{look_of-frame, look_of-neither, look_of-not_garbled, look_of-ok, look_of-prefix}
use Rattle.blot_tag.proofs.PlaceLemmas.{passed-within}
use Rattle.blot_tag.specs.Joined.{HasLastFrame, IsWhole}
use Rattle.blot_tag.specs.Reading.{Advances, GarbledBefore, Reading, TakesFirst, counted}
use Rattle.blot_diary.specs.declared.kept.Beginning.{Beginning}
use Rattle.blot_recovery.specs.declared.fault.RecoverFault.{RecoverFault}
use Rattle.blot_recovery.specs.declared.fault.RecoverFault.TheVariants.{NoMemory, Unreadable, Another, Unlisted, Damaged}
use Rattle.blot_recovery.specs.Faults.{HasRefused}
use Rattle.blot_recovery.specs.Moments.{IsOrWasRead}
use Rattle.blot_recovery.specs.Walking.{IsFaultIn, IsTakenBy, IsTakenTo, RefusesBehind}
use Rattle.blot_recovery.proofs.FrameLemmas.{whole-nil}

module _ {T : Type 0} (After : T → List ℕ → T → Type 0) (first : T) where
  -- one frame more
  pub one-more : (text frame behind : List ℕ) (place : ℕ) (old new : T) → ((before : List ℕ) → IsWhole before → HasLastFrame before frame)
      → ((before : List ℕ) → IsWhole before → After first before old → After first (before ++ frame) new)
      → IsTakenTo After first text (frame ++ behind) place old → IsTakenTo After first text behind (place + length frame) new
  one-more text frame behind place old new last more so = record {
    before = so.before ++ frame;
    whole = (last so.before so.whole).whole;
    joined = so.joined ∙ sym (append_assoc so.before frame behind);
    place_is = omega (arith, so.place_is, length-append so.before frame);
    after = more so.before so.whole so.after;
  }

  -- what is left, in other words
  pub left-is : (text left other : List ℕ) (place : ℕ) (now : T) → left ≡ other → IsTakenTo After first text left place now → IsTakenTo After first text other place now
  left-is text left other place now is so = subst (λ left. IsTakenTo After first text left place now) is so

  -- nothing is left
  pub all-taken : (text left : List ℕ) (place : ℕ) (now : T) → length text ≤ place → IsTakenTo After first text left place now → IsWhole text × After first text now
  all-taken text left place now end so =
      let none : left ≡ [] = nil_from_length left (omega (arith, end, so.place_is, ap length so.joined, length-append so.before left)) in
      let all : so.before ≡ text = sym (so.joined ∙ ap (λ left. so.before ++ left) none ∙ append-nil so.before) in
      (subst IsWhole all so.whole, subst (λ text. After first text now) all so.after)

module _ {T : Type 0} (After : T → List ℕ → T → Type 0) (IsOther : T → List ℕ → Beginning → Type 0) (Refuses : T → List ℕ → RecoverFault → Type 0) (first : T) (text : List ℕ) where
  refused : (frame behind : List ℕ) (place : ℕ) (now : T) (fault : RecoverFault) → IsFrame frame → Refuses now frame fault → IsTakenTo After first text (frame ++ behind) place now
      → HasRefused (IsTakenBy After first) (RefusesBehind After Refuses first) text place fault
  refused frame behind place now fault valid refuses so = record {
    before = so.before;
    frame = frame;
    behind = behind;
    joined = so.joined;
    place_is = so.place_is;
    whole = so.whole;
    stands = record { now = now; after = so.after };
    valid = valid;
    refuses = record { now = now; after = so.after; refuses = refuses };
  }

  -- a fault of a frame
  pub fault-here : (frame behind : List ℕ) (place : ℕ) (now : T) (fault : RecoverFault) → IsFrame frame → ((found : Beginning) → fault ≡ Another found → IsOther first text found)
      → ((at : ℕ) → fault ≡ Damaged at → at ≡ place) → Refuses now frame fault → IsTakenTo After first text (frame ++ behind) place now
      → IsFaultIn After IsOther Refuses first text fault
  fault-here frame behind place now NoMemory valid other damaged refuses so = tt
  fault-here frame behind place now Unreadable valid other damaged refuses so = tt
  fault-here frame behind place now (Another found) valid other damaged refuses so = other found refl
  fault-here frame behind place now (Unlisted peer) valid other damaged refuses so = (place, refused frame behind place now (Unlisted peer) valid refuses so)
  fault-here frame behind place now (Damaged at) valid other damaged refuses so =
      inr (subst (λ place. HasRefused (IsTakenBy After first) (RefusesBehind After Refuses first) text place (Damaged at)) (sym (damaged at refl))
      (refused frame behind place now (Damaged at) valid refuses so))

  -- no frame begins there
  pub no-frame-here : (left : List ℕ) (place : ℕ) (now : T) → (BeginsWithFrame left → ⊥) → (left ≡ [] → ⊥) → IsTakenTo After first text left place now
      → IsFaultIn After IsOther Refuses first text (Damaged place)
  no-frame-here left place now none some so = inl (record {
    before = so.before;
    left = left;
    joined = so.joined;
    place_is = so.place_is;
    whole = so.whole;
    stands = record { now = now; after = so.after };
    none = none;
    some = λ is. absurd (some is);
  })

  -- bytes are left behind the last frame
  pub left-over : (left : List ℕ) (place : ℕ) (now : T) → place < length text → (BeginsWithFrame left → ⊥) → IsTakenTo After first text left place now
      → IsFaultIn After IsOther Refuses first text (Damaged place)
  left-over left place now short none so =
      no-frame-here left place now none (λ is. absurd (omega (arith, short, so.place_is, ap length so.joined, length-append so.before left, ap length is))) so

-- ---- no frame

-- no whole frame begins one that isn't whole yet
pub no-frame-prefix : (text : List ℕ) → IsFramePrefix text → BeginsWithFrame text → ⊥
no-frame-prefix text prefix begins =
    let partial = look_of-prefix text prefix in
    let whole : look_of text ≡ Ok (length begins.frame) = ap look_of begins.whole ∙ look_of-frame begins.frame begins.more begins.valid in
    absurd cc

-- nor what no frame begins with, whatever comes behind
pub no-frame-garbled : (text behind : List ℕ) → IsGarbled text → BeginsWithFrame (text ++ behind) → ⊥
no-frame-garbled text behind garbled begins =
    let neither = look_of-neither text behind (look_of-not_garbled text garbled) in
    let whole : look_of (text ++ behind) ≡ Ok (length begins.frame) = ap look_of begins.whole ∙ look_of-frame begins.frame begins.more begins.valid in
    absurd cc

pub no-frame-nil : BeginsWithFrame [] → ⊥
no-frame-nil begins =
    no-frame-prefix [] (record { more = begins.frame; proper = some begins.frame begins.valid; frame = begins.valid }) begins
  where
    some : (frame : List ℕ) → IsFrame frame → 0 < length frame
    some frame valid = (look_of-ok frame (length frame) (ap look_of (sym (append-nil frame)) ∙ look_of-frame frame [] valid)).some

-- bytes are unread, and no frame begins with them
pub record IsGarbage (unread : List ℕ) : Type 0 where
  pub garbled : IsGarbled unread
  pub some : 0 < length unread

garbage : (unread : List ℕ) (passed old new : ℕ) → GarbledBefore passed unread → old ≡ 0 → new ≡ counted old passed → 0 < new → IsGarbage unread
garbage unread passed old new early none is some =
    let passes : 0 < passed = omega (arith, none, is, some) in
    record { garbled = early 0 passes; some = omega (arith, passes, passed-within passed unread early) }

-- bytes were passed over: none of what is unread began a frame
pub passed-garbled : (old new : Reading) (frame : Option (List ℕ)) → Advances old frame new → old.skipped ≡ 0 → 0 < new.skipped → IsGarbage old.unread
passed-garbled old new (Some frame) took none some = garbage old.unread took.passed old.skipped new.skipped took.early none took.skipped some
passed-garbled old new None found none some = garbage old.unread found.passed old.skipped new.skipped found.early none found.skipped some

pub passed-over : {T : Type 0} (After : T → List ℕ → T → Type 0) (IsOther : T → List ℕ → Beginning → Type 0) (Refuses : T → List ℕ → RecoverFault → Type 0) (unread : List ℕ)
    (place : ℕ) (now : T) → IsGarbage unread → (first : T) (text behind : List ℕ) → IsTakenTo After first text (unread ++ behind) place now
    → IsFaultIn After IsOther Refuses first text (Damaged place)
passed-over After IsOther Refuses unread place now garbled first text behind so =
    no-frame-here After IsOther Refuses first text (unread ++ behind) place now (no-frame-garbled unread behind garbled.garbled)
    (λ is. absurd (omega (arith, garbled.some, length-append unread behind, ap length is))) so

-- ---- a reader that passes over nothing

pub clean-frame : (old new : Reading) (frame : List ℕ) → TakesFirst old frame new → old.skipped ≡ 0 → new.skipped ≡ 0 → old.unread ≡ frame ++ new.unread
clean-frame old new frame taken before after =
    let none : taken.passed ≡ 0 = omega (arith, taken.skipped, before, after) in
    ap (λ n. drop n old.unread) (sym none) ∙ taken.bytes

-- ---- the next frame, if there is one

module _ {T : Type 0} (After : T → List ℕ → T → Type 0) (IsOther : T → List ℕ → Beginning → Type 0) (Refuses : T → List ℕ → RecoverFault → Type 0) (unread left : List ℕ) (place : ℕ) (before : T) where
  -- what is said of a result: the frame is taken
  abbrev pub IsNext : Result (Option ℕ) RecoverFault → T → Type 0
  IsNext result after = IfOk result (λ taken. IfSome taken (λ size. (first : T) (text behind : List ℕ)
      → IsTakenTo After first text (unread ++ behind) place before → IsTakenTo After first text (left ++ behind) (place + size) after))

  -- it is as long as what was read
  abbrev pub IsSized : Result (Option ℕ) RecoverFault → Type 0
  IsSized result = IfOk result (λ taken. IfSome taken (λ size. (0 < size) × (size + length left ≡ length unread)))

  -- or a fault stands there
  abbrev pub IsNoNext : Result (Option ℕ) RecoverFault → Type 0
  IsNoNext result = IfErr result (λ fault. (first : T) (text behind : List ℕ)
      → IsTakenTo After first text (unread ++ behind) place before → IsFaultIn After IsOther Refuses first text fault)

  module _ (frame : List ℕ) (is : unread ≡ frame ++ left) where
    with-frame : (first : T) (text behind : List ℕ) → IsTakenTo After first text (unread ++ behind) place before
        → IsTakenTo After first text (frame ++ (left ++ behind)) place before
    with-frame first text behind so =
        left-is After first text (unread ++ behind) (frame ++ (left ++ behind)) place before (ap (λ unread. unread ++ behind) is ∙ append_assoc frame left behind) so

    pub size-some : length left < length unread → (result : Result (Option ℕ) RecoverFault) → IfOk result (λ taken. taken ≡ Some (length frame)) → IsSized result
    size-some shorter (Ok taken) size =
        subst (λ taken. IsSized (Ok taken)) (sym size)
        (omega (arith, shorter, ap length is, length-append frame left), omega (arith, ap length is, length-append frame left))
    size-some shorter (Err fault) size = tt

    pub next-some : (result : Result (Option ℕ) RecoverFault) (after : T) → IfOk result (λ taken. taken ≡ Some (length frame))
        → OnOk result ((first : T) (text behind : List ℕ) → IsTakenTo After first text (frame ++ behind) place before
        → IsTakenTo After first text behind (place + length frame) after) → IsNext result after
    next-some (Ok taken) after size taken_to =
        subst (λ taken. IsNext (Ok taken) after) (sym size) (λ first text behind so. taken_to first text (left ++ behind) (with-frame first text behind so))
    next-some (Err fault) after size taken_to = tt

    pub no-next : IsFrame frame → (result : Result (Option ℕ) RecoverFault) → IfErr result (λ fault. (first : T) (text behind : List ℕ) → IsFrame frame
        → IsTakenTo After first text (frame ++ behind) place before → IsFaultIn After IsOther Refuses first text fault) → IsNoNext result
    no-next valid (Ok taken) holds = tt
    no-next valid (Err fault) holds = λ first text behind so. holds first text (left ++ behind) valid (with-frame first text behind so)

-- a frame that was taken isn't none
pub some-taken : (n : ℕ) (result : Result (Option ℕ) RecoverFault) → IfOk result (λ taken. taken ≡ Some n) → result ≡ Ok None → ⊥
some-taken n (Ok taken) size is = absurd cc
some-taken n (Err fault) size is = absurd cc

-- ---- the pieces of a text

-- what is read at a place, and what is behind it
pub piece-of : (text buffer more : List ℕ) (at size count : ℕ) → buffer ≡ take count (drop at text) → count ≡ size → length buffer ≡ size
    → drop at text ≡ take size (buffer ++ more) ++ drop (at + size) text
piece-of text buffer more at size count is same len =
    let front : take size (buffer ++ more) ≡ take size (drop at text) =
    ap (λ n. take n (buffer ++ more)) (sym len) ∙ take-append_seam buffer more ∙ is ∙ ap (λ n. take n (drop at text)) same in
    sym (ap (λ front. front ++ drop (at + size) text) front ∙ ap (λ back. take size (drop at text) ++ back) (sym (drop-drop size at text)) ∙ take-append-drop size (drop at text))

-- the next piece of a text stands behind what is unread
pub fed-next : (text unread now piece : List ℕ) (at next : ℕ) → now ≡ unread ++ piece → drop at text ≡ piece ++ drop next text
    → unread ++ drop at text ≡ now ++ drop next text
fed-next text unread now piece at next fed read =
    ap (λ back. unread ++ back) read ∙ sym (append_assoc unread piece (drop next text)) ∙ ap (λ front. front ++ drop next text) (sym fed)

-- at first all is left
pub first-left : {T : Type 0} (After : T → List ℕ → T → Type 0) (first : T) (text unread : List ℕ) → unread ≡ [] → After first [] first
    → IsTakenTo After first text (unread ++ text) 0 first
first-left After first text unread none before = record {
  before = [];
  whole = whole-nil;
  joined = ap (λ unread. unread ++ text) (sym none);
  place_is = refl;
  after = before;
}

-- read, and then read on
pub read-on : {S : Type 0} (Reads : S → S → Type 0) → ((first mid last : S) → Reads first mid → Reads mid last → Reads first last) → (first mid last : S)
    → IsOrWasRead Reads first mid → IsOrWasRead Reads mid last → IsOrWasRead Reads first last
read-on Reads on first mid last (inl same) second = subst (λ source. IsOrWasRead Reads source last) same second
read-on Reads on first mid last (inr one) (inl same) = inr (subst (Reads first) (sym same) one)
read-on Reads on first mid last (inr one) (inr two) = inr (on first mid last one two)
