-- What a fault says of a text, by what was taken up before it.
use Rattle.std.proofs.Common.{◌≡◌, ◌⊎◌, inl, inr, ℕ, zero, suc, ◌<◌, Bool, true, false, ◌&&◌, ◌||◌, List, [], ◌∷◌, drop, get_or, length, take, Option, Some, None, refl, sym, ap, subst, ◌∙◌, arith, ℤ, IfSome, IsSome, option_map, if◌then◌else◌, All, slice_get}
use Rattle.std.specs.List.{list_any}
use Rattle.std.proofs.lemmas.Bool.{and_parts, false≢true, or_parts}
use Rattle.std.proofs.lemmas.List.{length-map}
use Rattle.blot_tag.specs.Fields.{fields_of}
use Rattle.blot_types.specs.Keys.{same_text}
use Rattle.blot_types.proofs.KeyLemmas.{same_text-true}
use Rattle.blot_diary.specs.declared.{kept.Beginning.Beginning, kept.Content.Content, kept.Kept.Kept}
use Rattle.blot_diary.specs.declared.kept.Content.TheVariants as contents
use Rattle.blot_diary.specs.Beginnings.{beginning_of}
use Rattle.blot_diary.specs.Diary.{desk_events}
use Rattle.blot_diary.specs.Events.{noted_of}
use Rattle.blot_diary.specs.Keeping.{kept_of}
use Rattle.blot_recovery.specs.declared.{fault.RecoverFault.RecoverFault, parties.KeptPeer.KeptPeer, taking.Taking.Taking}
use Rattle.blot_recovery.specs.declared.fault.RecoverFault.TheVariants.{NoMemory, Unreadable, Another, Unlisted, Damaged}
use Rattle.blot_recovery.specs.Faults.{BeginsOtherwise, HasNoFrame, HasRefused, IsFaultOf, IsWanted}
use Rattle.blot_recovery.specs.Parties.{HasSeat, operator_names}
use Rattle.blot_recovery.specs.Refusals.{AsksWithoutSeat, BeginsIts, HasNoSeat, IsDamage, IsMisplaced, IsOfNoParty, IsOfUnlisted, IsOneTooMany, IsRecoverFault, RefusesFrame, RefusesKept, RefusesNext, StandsSoFar, other_of}
use Rattle.blot_recovery.specs.Taking.{AreInPlace, IsAskedBy, IsInPlace, IsOfParty, TakesUpAll, begun_on, names_of, stands_by, stands_for}
use Rattle.blot_recovery.specs.Walking.{IsFaultIn, IsTakenBy, RefusesBehind}
use Rattle.blot_recovery.proofs.FrameLemmas.{frames_of-nil, whole-nil}
use Rattle.blot_recovery.proofs.TakingLemmas.{beginning_of-nil}
use Rattle.blot_recovery.proofs.TestLemmas.{are_other, not_same}
use Rattle.blot_recovery.proofs.WalkLemmas.{no-frame-nil}
use Rattle.blot_recovery.proofs.OperatorLemmas.{either-none}

-- ---- faults in other words

module _ (IsOther IsOther2 : Beginning → Type 0) (Stands Stands2 : List ℕ → Type 0) (Refuses Refuses2 : List ℕ → List ℕ → RecoverFault → Type 0) (text : List ℕ)
    (other : (found : Beginning) → IsOther found → IsOther2 found) (stands : (before : List ℕ) → Stands before → Stands2 before)
    (refuses : (before frame : List ℕ) (fault : RecoverFault) → Refuses before frame fault → Refuses2 before frame fault) where
  refused-so : (place : ℕ) (fault : RecoverFault) → HasRefused Stands Refuses text place fault → HasRefused Stands2 Refuses2 text place fault
  refused-so place fault is = record {
    before = is.before;
    frame = is.frame;
    behind = is.behind;
    joined = is.joined;
    place_is = is.place_is;
    whole = is.whole;
    stands = stands is.before is.stands;
    valid = is.valid;
    refuses = refuses is.before is.frame fault is.refuses;
  }

  no-frame-so : (place : ℕ) → HasNoFrame Stands text place → HasNoFrame Stands2 text place
  no-frame-so place is = record {
    before = is.before;
    left = is.left;
    joined = is.joined;
    place_is = is.place_is;
    whole = is.whole;
    stands = stands is.before is.stands;
    none = is.none;
    some = is.some;
  }

  pub fault-so : (fault : RecoverFault) → IsFaultOf IsOther Stands Refuses text fault → IsFaultOf IsOther2 Stands2 Refuses2 text fault
  fault-so NoMemory is = tt
  fault-so Unreadable is = tt
  fault-so (Another found) is = other found is
  fault-so (Unlisted peer) is = (is.0, refused-so is.0 (Unlisted peer) is.1)
  fault-so (Damaged place) (inl is) = inl (no-frame-so place is)
  fault-so (Damaged place) (inr is) = inr (refused-so place (Damaged place) is)

-- ---- what was taken up

begun-some : (own text : List ℕ) (begun : Option ℤ) → beginning_of text ≡ option_map (begun_on own) begun → IsSome begun → text ≡ [] → ⊥
begun-some own text None begins some none = false≢true some
begun-some own text (Some day) begins some none =
    let is : beginning_of [] ≡ Some (begun_on own day) = ap beginning_of (sym none) ∙ begins in
    let nil = beginning_of-nil in
    absurd cc

module _ {L : Type 0} (own : List ℕ) (day : Option ℤ) (peers named : List (List ℕ)) (first : Taking L) (own_is : first.own ≡ own) (day_is : first.wanted ≡ day)
    (peers_are : names_of first.peers.items ≡ peers) (named_are : operator_names first.operators.named.items ≡ named) where
  own-now : (now : Taking L) (text : List ℕ) → TakesUpAll first text now → now.own ≡ own
  own-now now text up = up.asks.own_is ∙ own_is

  day-now : (now : Taking L) (text : List ℕ) → TakesUpAll first text now → now.wanted ≡ day
  day-now now text up = up.asks.wanted_is ∙ day_is

  peers-now : (now : Taking L) (text : List ℕ) → TakesUpAll first text now → names_of now.peers.items ≡ peers
  peers-now now text up = up.asks.names_are ∙ peers_are

  begins-so : (now : Taking L) (text : List ℕ) (begun : Option ℤ) → now.begun ≡ begun → TakesUpAll first text now → (text ≡ [] → ⊥)
      → (found : Beginning) × (beginning_of text ≡ Some found) × IsWanted own day found
  begins-so now text None is up some = absurd (some (up.taken.nothing is))
  begins-so now text (Some at) is up some = (
    begun_on now.own at,
    up.taken.begins ∙ ap (option_map (begun_on now.own)) is,
    subst (λ own. IsWanted own day (begun_on now.own at)) (own-now now text up) (subst (λ day. IsWanted now.own day (begun_on now.own at)) (day-now now text up)
        (subst (λ begun. IfSome begun (λ at. IsWanted now.own now.wanted (begun_on now.own at))) is up.taken.wanted)),
  )

  pub stands-so : (text : List ℕ) → IsTakenBy (λ first text now. TakesUpAll first text now) first text → StandsSoFar own day peers text
  stands-so text by = record {
    begins = begins-so by.now text by.now.begun refl by.after;
    in_place = subst (λ own. AreInPlace own peers text) (own-now by.now text by.after)
        (subst (λ peers. AreInPlace by.now.own peers text) (peers-now by.now text by.after) by.after.taken.in_place);
  }

  module _ (now : Taking L) (before frame : List ℕ) (up : TakesUpAll first before now) where
    its : BeginsIts own day frame → BeginsIts now.own now.wanted frame
    its is = subst (λ own. BeginsIts own now.wanted frame) (sym (own-now now before up)) (subst (λ day. BeginsIts own day frame) (sym (day-now now before up)) is)

    in-place : IsInPlace own peers frame → IsInPlace now.own (names_of now.peers.items) frame
    in-place is =
        subst (λ own. IsInPlace own (names_of now.peers.items) frame) (sym (own-now now before up))
        (subst (λ peers. IsInPlace own peers frame) (sym (peers-now now before up)) is)

    same-kept : (kept other : Kept) → kept_of (fields_of frame) ≡ Some kept → kept_of (fields_of frame) ≡ Some other → other ≡ kept
    same-kept kept other is also = cc

    misplaced : (kept : Kept) → kept_of (fields_of frame) ≡ Some kept → IsMisplaced now kept → IsInPlace own peers frame → ⊥
    misplaced kept is not place =
        let there = in-place place in
        not up.taken.apart (subst (IsOfParty now.own (names_of now.peers.items)) (same-kept kept there.kept is there.keeps) there.is_of)

    seatless : (kept : Kept) → AsksWithoutSeat now.operators kept → HasNoSeat named before kept
    seatless kept asks = record {
      name = asks.name;
      others = operator_names now.operators.named.items;
      asked = asks.asked;
      new = asks.lacks.new;
      count = length-map now.operators.named.items (λ operator. operator.name) ∙ omega (arith, up.seated.total, ap length asks.lacks.none);
      apart = up.taken.has.operators.apart;
      seated = subst (λ named. All (HasSeat named before) (operator_names now.operators.named.items)) named_are up.seated.each;
    }

    too-many : (kept : Kept) → IsOneTooMany (length now.opening.history) (noted_of kept) → IsOneTooMany (length (desk_events before)) (noted_of kept)
    too-many kept is = record {
      full = sym (ap length up.taken.has.events) ∙ length-map now.opening.history (λ recorded. recorded.event) ∙ is.full;
      brings = is.brings;
    }

    behind-so : (kept : Kept) (at : ℕ) → kept_of (fields_of frame) ≡ Some kept → (before ≡ [] → ⊥) → RefusesKept now kept (Damaged at) → IsDamage own day peers named before frame
    behind-so kept at is some (inl not) = inr (inl (some, misplaced kept is not))
    behind-so kept at is some (inr (inl asks)) = inr (inr (record { kept = kept; keeps = is; lacks = inl (seatless kept asks) }))
    behind-so kept at is some (inr (inr full)) = inr (inr (record { kept = kept; keeps = is; lacks = inr (too-many kept full) }))

    some-before : IsSome now.begun → before ≡ [] → ⊥
    some-before some = begun-some now.own before now.begun up.taken.begins some

    unlisted-so : (kept : Kept) (peer : List ℕ) → IsOfUnlisted now.own (names_of now.peers.items) kept peer → IsOfUnlisted own peers kept peer
    unlisted-so kept peer is =
        subst (λ own. IsOfUnlisted own peers kept peer) (own-now now before up) (subst (λ peers. IsOfUnlisted now.own peers kept peer) (peers-now now before up) is)

    damage-so : (at : ℕ) → RefusesNext now frame (Damaged at) → IsDamage own day peers named before frame
    damage-so at (inl (none, not)) = inl (up.taken.nothing none, λ begins. not (its begins))
    damage-so at (inr (some, inl none)) = inr (inl (some-before some, λ place. absurd (no-kept place)))
      where
        no-kept : IsInPlace own peers frame → ⊥
        no-kept place = let keeps = place.keeps in absurd cc
    damage-so at (inr (some, inr by)) = behind-so by.kept at by.keeps (some-before some) by.refuses

    next-so : (fault : RecoverFault) → RefusesNext now frame fault → RefusesFrame own day peers named before frame fault
    next-so NoMemory is = tt
    next-so Unreadable is = tt
    next-so (Another found) is = tt
    next-so (Unlisted peer) is = record { behind = some-before is.0; kept = is.1.kept; keeps = is.1.keeps; of = unlisted-so is.1.kept peer is.1.refuses }
    next-so (Damaged at) is = damage-so at is

  other-so : (text : List ℕ) (found : Beginning) → BeginsOtherwise first.own first.wanted text found → BeginsOtherwise own day text found
  other-so text found is = subst (λ own. BeginsOtherwise own day text found) own_is (subst (λ day. BeginsOtherwise first.own day text found) day_is is)

  pub recover-fault : (text : List ℕ) (fault : RecoverFault)
      → IsFaultIn (λ first text now. TakesUpAll first text now) (λ first text found. BeginsOtherwise first.own first.wanted text found) (λ now frame fault. RefusesNext now frame fault)
      first text fault → IsRecoverFault own day peers named text fault
  recover-fault text fault is =
      fault-so (BeginsOtherwise first.own first.wanted text) (BeginsOtherwise own day text) (IsTakenBy (λ first text now. TakesUpAll first text now) first)
      (StandsSoFar own day peers) (RefusesBehind (λ first text now. TakesUpAll first text now) (λ now frame fault. RefusesNext now frame fault) first)
      (RefusesFrame own day peers named) text (other-so text) stands-so (λ before frame fault by. next-so by.now before frame by.after fault by.refuses) fault is

-- an empty text
pub empty-fault : (own : List ℕ) (day : Option ℤ) (peers named : List (List ℕ)) (text : List ℕ) → text ≡ [] → IsRecoverFault own day peers named text (Damaged 0)
empty-fault own day peers named text none = inl (record {
  before = [];
  left = [];
  joined = none;
  place_is = refl;
  whole = whole-nil;
  stands = record {
    begins = λ some. absurd (some refl);
    in_place = subst (λ frames. All (IsInPlace own peers) (drop 1 frames)) (sym frames_of-nil) (λ k d less. absurd (omega (arith, less)));
  };
  none = no-frame-nil;
  some = λ _. none;
})

-- ---- a frame that isn't in its place

stands-one : (content : Content) (received sent : Bool) → stands_by content received sent ≡ true → (received ≡ true) ⊎ (sent ≡ true)
stands-one (contents.Command command) received sent is = inl is
stands-one (contents.Beginning day) received sent is = absurd (false≢true is)
stands-one (contents.Asked operator event) received sent is = absurd (false≢true is)
stands-one (contents.Numbers numbers) received sent is = inr is
stands-one contents.Wrapped received sent is = inr is
stands-one contents.Unclear received sent is = absurd (false≢true is)
stands-one contents.Message true sent is = inl refl
stands-one contents.Message false sent is = inr is

-- a party that a frame may stand for is the other one that it names
other-by : (own peer : List ℕ) (kept : Kept) → (peer ≡ own → ⊥)
    → ((same_text kept.from peer && same_text kept.to own) ≡ true) ⊎ ((same_text kept.from own && same_text kept.to peer) ≡ true) → other_of own kept ≡ peer
other-by own peer kept foreign (inl received) =
    let from : kept.from ≡ peer = same_text-true kept.from peer (and_parts (same_text kept.from peer) (same_text kept.to own) received).0 in
    ap (λ test. if test then kept.to else kept.from) (not_same kept.from own (λ is. foreign (sym from ∙ is))) ∙ from
other-by own peer kept foreign (inr sent) =
    let both = and_parts (same_text kept.from own) (same_text kept.to peer) sent in
    ap (λ test. if test then kept.to else kept.from) both.0 ∙ same_text-true kept.to peer both.1

stands-other : (own peer : List ℕ) (kept : Kept) → (peer ≡ own → ⊥) → stands_for own peer kept ≡ true → other_of own kept ≡ peer
stands-other own peer kept foreign is =
    other-by own peer kept foreign (stands-one kept.content (same_text kept.from peer && same_text kept.to own) (same_text kept.from own && same_text kept.to peer) is)

-- who isn't among some names is none of them
pub listed-not : (names : List (List ℕ)) (at : ℕ) (name other : List ℕ) → slice_get names at ≡ Some name → list_any (same_text other) names ≡ false → name ≡ other → ⊥
listed-not [] zero name other listed none is = absurd cc
listed-not [] (suc at) name other listed none is = absurd cc
listed-not (first ∷ names) zero name other listed none is =
    let same : first ≡ name = cc in
    are_other other first (or_parts (same_text other first) (list_any (same_text other) names) none).0 (sym (same ∙ is))
listed-not (first ∷ names) (suc at) name other listed none is =
    listed-not names at name other listed (or_parts (same_text other first) (list_any (same_text other) names) none).1 is

module _ {L : Type 0} (taking : Taking L) (kept : Kept) where
  -- a frame of the blotter's to itself, or one that doesn't stand for the party that it names
  pub not-theirs : ((name : List ℕ) → IsAskedBy name kept.content → ⊥) → (other_of taking.own kept ≡ taking.own) ⊎ (stands_for taking.own (other_of taking.own kept) kept ≡ false)
      → IsMisplaced taking kept
  not-theirs unasked why apart (inl by) = unasked by.0 by.1.asked
  not-theirs unasked why apart (inr of) =
      let foreign : of.peer ≡ taking.own → ⊥ = listed-not (names_of taking.peers.items) of.place of.peer taking.own of.listed apart.others in
      clash foreign (stands-other taking.own of.peer kept foreign of.stands) why
    where
      clash : (of.peer ≡ taking.own → ⊥) → other_of taking.own kept ≡ of.peer
          → (other_of taking.own kept ≡ taking.own) ⊎ (stands_for taking.own (other_of taking.own kept) kept ≡ false) → ⊥
      clash foreign is (inl own) = foreign (sym is ∙ own)
      clash foreign is (inr not) =
          false≢true (sym not ∙ ap (λ peer. stands_for taking.own peer kept) is ∙ of.stands)

  -- a frame whose other party isn't listed
  pub unlisted-why : (other : List ℕ) (place : ℕ) (fault : RecoverFault) → ((name : List ℕ) → IsAskedBy name kept.content → ⊥) → other ≡ other_of taking.own kept
      → list_any (same_text other) (names_of taking.peers.items) ≡ false → fault ≡ (if same_text other taking.own then Damaged place else Unlisted other)
      → IsOfNoParty taking kept fault
  unlisted-why other place fault unasked is none told = by (same_text other taking.own) refl
    where
      by : (test : Bool) → same_text other taking.own ≡ test → IsOfNoParty taking kept fault
      by true same =
          subst (IsOfNoParty taking kept) (sym (told ∙ ap (λ test. if test then Damaged place else Unlisted other) same))
          (not-theirs unasked (inl (sym is ∙ same_text-true other taking.own same)))
      by false differ =
          subst (IsOfNoParty taking kept) (sym (told ∙ ap (λ test. if test then Damaged place else Unlisted other) differ))
          (record { other_is = sym is; unlisted = none; foreign = are_other other taking.own differ })

-- ---- names of peers that a look passes over

pub none-next : {L : Type 0} (peers : List (KeptPeer L)) (name : List ℕ) (at : ℕ) (found : KeptPeer L) → at < length peers → get_or peers at found ≡ found
    → same_text found.peer name ≡ false → list_any (same_text name) (take at (names_of peers)) ≡ false → list_any (same_text name) (take (suc at) (names_of peers)) ≡ false
none-next [] name at found less is differ none = absurd (omega (arith, less))
none-next (peer ∷ peers) name zero found less is differ none =
    ap (λ test. test || false) (not_same name peer.peer (λ same. are_other found.peer name differ (ap (λ (peer : KeptPeer _). peer.peer) (sym is) ∙ sym same)))
none-next (peer ∷ peers) name (suc at) found less is differ none =
    either-none (same_text name peer.peer) _ _ (none-next peers name at found (omega (arith, less)) is differ) none
