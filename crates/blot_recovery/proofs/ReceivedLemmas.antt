-- What one frame more adds to what was received.
use Rattle.std.proofs.Common.{◌≡◌, inl, inr, ℕ, Bool, true, false, List, [], ◌∷◌, ◌++◌, Some, None, refl, sym, ap, subst, ◌∙◌, flat_map, append-nil}
use Rattle.std.proofs.lemmas.Grind.{flat_map-append}
use Rattle.blot_tag.specs.Fields.{fields_of}
use Rattle.blot_tag.specs.Joined.{HasLastFrame}
use Rattle.blot_tag.specs.Walking.{frames_of}
use Rattle.blot_diary.specs.declared.kept.Kept.{Kept}
use Rattle.blot_diary.specs.Beginnings.{begun_by}
use Rattle.blot_diary.specs.Keeping.{kept_of}
use Rattle.blot_recovery.specs.declared.{fault.RecoverFault.RecoverFault, receiving.Receiving.Receiving}
use Rattle.blot_recovery.specs.declared.fault.RecoverFault.TheVariants.{NoMemory, Unreadable, Another, Unlisted, Damaged}
use Rattle.blot_recovery.specs.Faults.{BeginsOtherwise}
use Rattle.blot_recovery.specs.Received.{HasReceived, IsJournalOf, IsReceiveFault, MayBeReceived, RefusesReceived, RefusesReceiving, begins_none, received_by, received_in, received_of}
use Rattle.blot_recovery.specs.Taking.{begun_on}
use Rattle.blot_recovery.specs.Walking.{IsFaultIn, IsTakenBy, RefusesBehind}
use Rattle.blot_recovery.proofs.FrameLemmas.{whole-nil}
use Rattle.blot_recovery.proofs.RefusalLemmas.{fault-so}
use Rattle.blot_recovery.proofs.TakingLemmas.{begins-still}
use Rattle.blot_recovery.proofs.WalkLemmas.{no-frame-nil}

received-last : (own text frame : List ℕ) → frames_of (text ++ frame) ≡ frames_of text ++ frame ∷ []
    → received_of own (text ++ frame) ≡ received_of own text ++ received_in own frame
received-last own text frame last =
    ap (λ frames. flat_map (received_in own) frames) last ∙ flat_map-append (received_in own) (frames_of text) (frame ∷ [])
    ∙ ap (λ back. received_of own text ++ back) (append-nil (received_in own frame))

pub received-more : (first old new : Receiving) (text frame : List ℕ) (kept : Kept) → HasLastFrame text frame → kept_of (fields_of frame) ≡ Some kept → old.begun ≡ true
    → new.received.items ≡ old.received.items ++ received_by old.own frame (Some kept) → new.own ≡ old.own → new.begun ≡ true → HasReceived first text old
    → HasReceived first (text ++ frame) new
received-more first old new text frame kept last is was received own begun has = record {
  own_is = own ∙ has.own_is;
  received_is = received ∙ ap (λ front. front ++ received_by old.own frame (Some kept)) has.received_is
      ∙ ap (λ own. received_of first.own text ++ received_by own frame (Some kept)) has.own_is
      ∙ ap (λ one. received_of first.own text ++ received_by first.own frame one) (sym is) ∙ sym (received-last first.own text frame last.frames);
  begun = λ _. let of = has.begun was in record { day = of.day; begins = begins-still text frame (begun_on first.own of.day) last.frames of.begins };
  nothing = λ none. absurd cc;
}

-- ---- a text that isn't a journal

module _ (own : List ℕ) (first : Receiving) (own_is : first.own ≡ own) where
  received-stands : (text : List ℕ) (now : Receiving) (begun : Bool) → now.begun ≡ begun → HasReceived first text now → MayBeReceived own text
  received-stands text now true is has some = subst (λ own. IsJournalOf own text) own_is (has.begun is)
  received-stands text now false is has some = absurd (some (has.nothing is))

  received-refuses : (before frame : List ℕ) (now : Receiving) (fault : RecoverFault) → HasReceived first before now → RefusesReceiving now frame fault → RefusesReceived before frame fault
  received-refuses before frame now NoMemory has is = tt
  received-refuses before frame now Unreadable has is = tt
  received-refuses before frame now (Another found) has is = tt
  received-refuses before frame now (Unlisted peer) has is = is
  received-refuses before frame now (Damaged at) has (inl none) = inl none
  received-refuses before frame now (Damaged at) has (inr is) = inr (has.nothing is.0, is.1)

  pub receive-fault : (text : List ℕ) (fault : RecoverFault)
      → IsFaultIn (λ first text now. HasReceived first text now) (λ first text found. BeginsOtherwise first.own None text found) (λ now frame fault. RefusesReceiving now frame fault)
      first text fault → IsReceiveFault own text fault
  receive-fault text fault is =
      fault-so (BeginsOtherwise first.own None text) (BeginsOtherwise own None text) (IsTakenBy (λ first text now. HasReceived first text now) first) (MayBeReceived own)
      (RefusesBehind (λ first text now. HasReceived first text now) (λ now frame fault. RefusesReceiving now frame fault) first) RefusesReceived text
      (λ found. subst (λ own. BeginsOtherwise own None text found) own_is) (λ before by. received-stands before by.now by.now.begun refl by.after)
      (λ before frame fault by. received-refuses before frame by.now fault by.after by.refuses) fault is

pub receive-nothing : (own text : List ℕ) → text ≡ [] → IsReceiveFault own text (Damaged 0)
receive-nothing own text none = inl (record {
  before = [];
  left = [];
  joined = none;
  place_is = refl;
  whole = whole-nil;
  stands = λ some. absurd (some refl);
  none = no-frame-nil;
  some = λ _. none;
})

-- the first frame begins no journal
pub receiving-refused : (now : Receiving) (frame : List ℕ) (kept : Kept) (fault : RecoverFault) → kept_of (fields_of frame) ≡ Some kept → now.begun ≡ false
    → ((at : ℕ) → fault ≡ Damaged at → begun_by kept ≡ None) → ((peer : List ℕ) → fault ≡ Unlisted peer → ⊥) → RefusesReceiving now frame fault
receiving-refused now frame kept NoMemory is first refused listed = tt
receiving-refused now frame kept Unreadable is first refused listed = tt
receiving-refused now frame kept (Another found) is first refused listed = tt
receiving-refused now frame kept (Unlisted peer) is first refused listed = listed peer refl
receiving-refused now frame kept (Damaged at) is first refused listed = inr (first, subst begins_none (sym is) (refused at refl))
