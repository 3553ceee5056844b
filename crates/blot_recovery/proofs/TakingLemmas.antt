-- The frames of a journal, taken up one by one.
use Rattle.std.proofs.Common.{◌≡◌, ◌⊎◌, inl, inr, ℕ, zero, suc, ◌+◌, ◌<◌, true, ◌||◌, List, [], ◌∷◌, ◌++◌, drop, length, get_or, Option, Some, None, refl, sym, ap, subst, ◌∙◌, arith, ℤ, IfSome, IsSome, option_map, Decides, All, slice_get, option_and_then, option_to_list, set, append-nil, get_or-set_other, length-set}
use Rattle.std.specs.List.{list_any}
use Rattle.std.proofs.Math.Seq.{map-set_same}
use Rattle.std.proofs.lemmas.Bool.{cases_order, or_right}
use Rattle.std.proofs.lemmas.Grind.{get_or-set_at}
use Rattle.std.proofs.lemmas.List.{get_or-map, length-map}
use Rattle.std.proofs.lemmas.List.Elements.{All-push}
use Rattle.std.proofs.lemmas.Map.Made.{AllPairs-from_IsDistinct}
use Rattle.std.proofs.lemmas.Option.{get_or_from_slice_get}
use Rattle.blot_tag.specs.Fields.{fields_of}
use Rattle.blot_tag.specs.Joined.{FrameComesFirst, HasLastFrame}
use Rattle.blot_tag.specs.Walking.{Walk, frames_of}
use Rattle.blot_types.specs.Keys.{same_text}
use Rattle.blot_types.proofs.KeyLemmas.{same_text-true, same_text-refl}
use Rattle.blot_desk.specs.Desk.{DeskState, IsRun, empty_desk, events_of}
use Rattle.blot_desk.specs.declared.event.Event.{Event}
use Rattle.blot_diary.specs.declared.{kept.Beginning.Beginning, kept.Content.Content, kept.Kept.Kept}
use Rattle.blot_diary.specs.declared.kept.Content.TheVariants as contents
use Rattle.blot_diary.specs.Beginnings.{beginning_of, begun_by}
use Rattle.blot_diary.specs.Diary.{desk_events}
use Rattle.blot_diary.specs.Events.{noted_by, noted_of}
use Rattle.blot_diary.specs.Keeping.{kept_of}
use Rattle.blot_recovery.specs.declared.{operators.TheConstants.OPERATOR_SEATS, operators.KeptOperators.KeptOperators, parties.KeptPeer.KeptPeer, taking.Taking.Taking}
use Rattle.blot_recovery.specs.Faults.{BeginsOtherwise, IsWanted}
use Rattle.blot_recovery.specs.Parties.{AreKeptOperators, AreSeated, GivesSeat, HasSeat, IsKeptPeer, brought_by, is_operator, operator_names}
use Rattle.blot_recovery.specs.Taking.{AreApart, AreInPlace, AsksSame, HasTaken, IsAskedBy, IsInPlace, IsOfParty, KeepsLast, TakesUp, TakesUpAll, begun_on, names_of, stands_for, with_event}
use Rattle.blot_recovery.proofs.FrameLemmas.{brought-last, brought-theirs, desk_events-last, desk_events-nil, frames_of-nil, keeps_last}
use Rattle.blot_recovery.proofs.OperatorLemmas.{operators-begun, operators-other}
use Rattle.blot_recovery.proofs.PartyLemmas.{asked as asked-theirs, is-beginning, peer-asked, peer-begun, peer-other}
use Rattle.blot_recovery.proofs.TestLemmas.{are_other, none-of}

-- ---- a list of peers

length-names : {L : Type 0} (peers : List (KeptPeer L)) → length (names_of peers) ≡ length peers
length-names peers = length-map peers (λ peer. peer.peer)

decides : (a b : List ℕ) → Decides (same_text a b) (a ≡ b)
decides a b = (same_text-true a b, λ is. ap (same_text a) (sym is) ∙ same_text-refl a)

module _ {L : Type 0} (own text more : List ℕ) (kept : Kept) (last : KeepsLast text kept more) (peers : List (KeptPeer L)) (all : All (IsKeptPeer own text) peers) where
  pub all-asked : (name : List ℕ) → IsAskedBy name kept.content → All (IsKeptPeer own more) peers
  all-asked name is = λ k d less. peer-asked text more kept last own name (get_or peers k d) is (all k d less)

  pub all-begun : (found : Beginning) → begun_by kept ≡ Some found → All (IsKeptPeer own more) peers
  all-begun found is = λ k d less. peer-begun text more kept last own (get_or peers k d) found is (all k d less)

  module _ (apart : AreApart own (names_of peers)) where
    named : (k : ℕ) (d : KeptPeer L) (e : List ℕ) → k < length peers → get_or (names_of peers) k e ≡ (get_or peers k d).peer
    named k d e less = get_or-map (λ (peer : KeptPeer L). peer.peer) peers k d e less

    within-names : (k : ℕ) → k < length peers → k < length (names_of peers)
    within-names k less = subst (λ n. k < n) (sym (length-names peers)) less

    -- none is the blotter
    no-own : (k : ℕ) (d : KeptPeer L) → k < length peers → (get_or peers k d).peer ≡ own → ⊥
    no-own k d less is =
        are_other own (get_or (names_of peers) k own) (none-of (same_text own) (names_of peers) k own apart.others (within-names k less))
        (sym (named k d own less ∙ is))

    -- nor the peer at another place
    no-other : (name : List ℕ) (at k : ℕ) (d : KeptPeer L) → at < length peers → slice_get (names_of peers) at ≡ Some name → (k < at) ⊎ (at < k) → k < length peers
        → (get_or peers k d).peer ≡ name → ⊥
    no-other name at k d within found (inl before) less is =
        AllPairs-from_IsDistinct decides (names_of peers) apart.distinct k at own before (within-names at within)
        (named k d own less ∙ is ∙ sym (get_or_from_slice_get (names_of peers) at name own found))
    no-other name at k d within found (inr behind) less is =
        AllPairs-from_IsDistinct decides (names_of peers) apart.distinct at k own behind (within-names k less)
        (get_or_from_slice_get (names_of peers) at name own found ∙ sym is ∙ sym (named k d own less))

    apart_places : (k at : ℕ) → (k < at) ⊎ (at < k) → k ≡ at → ⊥
    apart_places k at (inl before) is = omega (arith, before, is)
    apart_places k at (inr behind) is = omega (arith, behind, is)

    -- a frame of the peer at one place
    pub all-more : (name : List ℕ) (at : ℕ) (new : KeptPeer L) → at < length peers → slice_get (names_of peers) at ≡ Some name → stands_for own name kept ≡ true
        → IsKeptPeer own more new → All (IsKeptPeer own more) (set peers at new)
    all-more name at new within found stands holds k d less =
        by (cases_order k at)
      where
        short : k < length peers
        short = omega (arith, less, length-set peers at new)

        by : (k ≡ at) ⊎ ((k < at) ⊎ (at < k)) → IsKeptPeer own more (get_or (set peers at new) k d)
        by (inl same) = subst (IsKeptPeer own more) (sym (get_or-set_at peers at k new d same within)) holds
        by (inr differ) =
            subst (IsKeptPeer own more) (sym (get_or-set_other peers at k new d (apart_places k at differ)))
            (peer-other text more kept last own name (get_or peers k d) stands (no-own k d short) (no-other name at k d within found differ short) (all k d short))

-- ---- the beginning of a text

-- a text begins with its first frame
pub begins-first : (frame behind : List ℕ) (kept : Kept) → FrameComesFirst frame → kept_of (fields_of frame) ≡ Some kept
    → beginning_of (frame ++ behind) ≡ begun_by kept
begins-first frame behind kept first is =
    ap (λ (walk : Walk). option_and_then begun_by (option_and_then (λ frame. kept_of (fields_of frame)) (slice_get walk.frames 0))) (first behind)
    ∙ ap (option_and_then begun_by) is

first-stays : (frames : List (List ℕ)) (frame : List ℕ) (found : Beginning)
    → option_and_then begun_by (option_and_then (λ frame. kept_of (fields_of frame)) (slice_get frames 0)) ≡ Some found
    → option_and_then begun_by (option_and_then (λ frame. kept_of (fields_of frame)) (slice_get (frames ++ frame ∷ []) 0)) ≡ Some found
first-stays [] frame found is = absurd cc
first-stays (first ∷ frames) frame found is = is

-- and with the same, whatever frame stands behind it
pub begins-still : (text frame : List ℕ) (found : Beginning) → frames_of (text ++ frame) ≡ frames_of text ++ frame ∷ [] → beginning_of text ≡ Some found
    → beginning_of (text ++ frame) ≡ Some found
begins-still text frame found last is =
    ap (λ frames. option_and_then begun_by (option_and_then (λ frame. kept_of (fields_of frame)) (slice_get frames 0))) last ∙ first-stays (frames_of text) frame found is

-- ---- frames in their places

none-behind : (P : List ℕ → Type 0) → All P []
none-behind P = λ k d less. absurd (omega (arith, less))

-- the first has no frame behind it
place-first : (P : List ℕ → Type 0) (text frame : List ℕ) (frames : List (List ℕ)) → text ≡ [] → frames ≡ frames_of text ++ frame ∷ [] → All P (drop 1 frames)
place-first P text frame frames none is =
    subst (λ frames. All P (drop 1 frames)) (sym (is ∙ ap (λ text. frames_of text ++ frame ∷ []) none ∙ ap (λ before. before ++ frame ∷ []) frames_of-nil)) (none-behind P)

-- one behind it
place-behind : (P : List ℕ → Type 0) (frames : List (List ℕ)) (frame : List ℕ) (found : Beginning)
    → option_and_then begun_by (option_and_then (λ frame. kept_of (fields_of frame)) (slice_get frames 0)) ≡ Some found
    → All P (drop 1 frames) → P frame → All P (drop 1 (frames ++ frame ∷ []))
place-behind P [] frame found begun all holds = absurd cc
place-behind P (first ∷ frames) frame found begun all holds = All-push P frames frame all holds

-- ---- one frame more

events-more : (text more : List ℕ) (kept : Kept) → KeepsLast text kept more → (before after : DeskState) → TakesUp before after (noted_of kept)
    → events_of before.history ≡ desk_events text → events_of after.history ≡ desk_events more
events-more text more kept last before after up events =
    up.events ∙ ap (λ events. with_event events (noted_of kept)) events ∙ sym (desk_events-last text more kept last)

-- who has a seat has it still
brought-more : (text more : List ℕ) (kept : Kept) → KeepsLast text kept more → (name : List ℕ) → brought_by (is_operator name) more ≡ [] → brought_by (is_operator name) text ≡ []
brought-more text more kept last name none =
    append-none (brought_by (is_operator name) text) _ (sym (brought-last text more kept last (is_operator name)) ∙ none)
  where
    append-none : {X : Type 0} (xs ys : List X) → xs ++ ys ≡ [] → xs ≡ []
    append-none [] ys is = refl
    append-none (x ∷ xs) ys is = absurd cc

seat-more : (named : List (List ℕ)) (text more : List ℕ) (kept : Kept) → KeepsLast text kept more → (name : List ℕ) → HasSeat named text name → HasSeat named more name
seat-more named text more kept last name (inl is) = inl is
seat-more named text more kept last name (inr some) = inr (λ none. some (brought-more text more kept last name none))

pub seated-more : {L : Type 0} (named : List (List ℕ)) (text more : List ℕ) (kept : Kept) → KeepsLast text kept more → (operators : KeptOperators L)
    → AreSeated named text operators → AreSeated named more operators
seated-more named text more kept last operators seated = record {
  total = seated.total;
  each = λ k d less. seat-more named text more kept last (get_or (operator_names operators.named.items) k d) (seated.each k d less);
}

-- an operator's event gives a seat
brought-some : (text more : List ℕ) (kept : Kept) → KeepsLast text kept more → (name : List ℕ) → IsAskedBy name kept.content → brought_by (is_operator name) more ≡ [] → ⊥
brought-some text more kept last name asked none =
    by (brought_by (is_operator name) text) kept.content asked
    (sym (brought-theirs text more kept last (is_operator name) (asked-theirs name kept.from kept.content asked)) ∙ none)
  where
    by : (before : List Event) (content : Content) → IsAskedBy name content → with_event before (noted_by kept.from content) ≡ [] → ⊥
    by [] (contents.Asked operator event) asked is = absurd cc
    by (first ∷ before) (contents.Asked operator event) asked is = absurd cc
    by before (contents.Command command) asked is = absurd asked
    by before (contents.Beginning day) asked is = absurd asked
    by before (contents.Numbers numbers) asked is = absurd asked
    by before contents.Wrapped asked is = absurd asked
    by before contents.Unclear asked is = absurd asked
    by before contents.Message asked is = absurd asked

pub seated-asked : {L : Type 0} (named : List (List ℕ)) (text more : List ℕ) (kept : Kept) → KeepsLast text kept more → (name : List ℕ) → IsAskedBy name kept.content
    → (old new : KeptOperators L) → GivesSeat name old new → AreSeated named text old → AreSeated named more new
seated-asked named text more kept last name asked old new gives seated = record {
  total = gives.total ∙ seated.total;
  each = gives.each named more (seated-more named text more kept last old seated).each (inr (brought-some text more kept last name asked));
}

-- the first
pub first-taken : {L : Type 0} (first old : Taking L) (begun : Option ℤ) (text frame : List ℕ) (kept : Kept) → FrameComesFirst frame → HasLastFrame text frame
    → kept_of (fields_of frame) ≡ Some kept → old.begun ≡ None → begun_by kept ≡ option_map (begun_on old.own) begun → IsSome begun
    → IfSome begun (λ day. IsWanted old.own old.wanted (begun_on old.own day)) → TakesUpAll first text old
    → TakesUpAll first (text ++ frame) (record old { begun = begun })
first-taken first old None text frame kept comes_first last is none begins some wanted up = absurd cc
first-taken first old (Some day) text frame kept comes_first last is none begins some wanted up =
    let more = text ++ frame in
    let keeps = keeps_last text frame kept last.frames is in
    let found = begun_on old.own day in
    let has = up.taken.has in
    let empty = up.taken.nothing none in
    record {
      seated = seated-more (operator_names first.operators.named.items) text more kept keeps old.operators up.seated;
      asks = record { own_is = up.asks.own_is; wanted_is = up.asks.wanted_is; names_are = up.asks.names_are; first_is = up.asks.first_is };
      taken = record {
        apart = up.taken.apart;
        begins = ap (λ (text : List ℕ). beginning_of (text ++ frame)) empty ∙ ap beginning_of (sym (append-nil frame)) ∙ begins-first frame [] kept comes_first is ∙ begins;
        nothing = λ is. absurd cc;
        wanted = wanted;
        in_place = place-first (IsInPlace old.own (names_of old.peers.items)) text frame (frames_of more) empty last.frames;
        has = record {
          events = has.events ∙ sym (desk_events-last text more kept keeps
              ∙ ap (λ content. with_event (desk_events text) (noted_by kept.from content)) (is-beginning kept.from kept.content found begins).1
              ∙ append-nil (desk_events text));
          run = has.run;
          peers = all-begun old.own text more kept keeps old.peers.items has.peers found begins;
          operators = operators-begun text more kept keeps old.operators found begins has.operators;
        };
      };
    }

-- one behind it
pub kept-taken : {L : Type 0} (first old new : Taking L) (day : ℤ) (text frame : List ℕ) (kept : Kept) → HasLastFrame text frame
    → kept_of (fields_of frame) ≡ Some kept → old.begun ≡ Some day → AsksSame old new → new.begun ≡ old.begun
    → ((text more : List ℕ) → KeepsLast text kept more → AreApart old.own (names_of old.peers.items) → HasTaken text old → HasTaken more new)
    → IsOfParty old.own (names_of old.peers.items) kept
    → ((named : List (List ℕ)) (text more : List ℕ) → KeepsLast text kept more → AreSeated named text old.operators → AreSeated named more new.operators)
    → TakesUpAll first text old → TakesUpAll first (text ++ frame) new
kept-taken first old new day text frame kept last is begun asks same holds of seats up =
    let keeps = keeps_last text frame kept last.frames is in
    let still : new.begun ≡ Some day = same ∙ begun in
    record {
      seated = seats (operator_names first.operators.named.items) text (text ++ frame) keeps up.seated;
      asks = record {
        own_is = asks.own_is ∙ up.asks.own_is;
        wanted_is = asks.wanted_is ∙ up.asks.wanted_is;
        names_are = asks.names_are ∙ up.asks.names_are;
        first_is = λ name first. asks.first_is name (up.asks.first_is name first);
      };
      taken = record {
        apart = subst (λ own. AreApart own (names_of new.peers.items)) (sym asks.own_is) (subst (AreApart old.own) (sym asks.names_are) up.taken.apart);
        begins = begins-still text frame (begun_on old.own day) last.frames (up.taken.begins ∙ ap (option_map (begun_on old.own)) begun)
            ∙ sym (ap (λ own. option_map (begun_on own) new.begun) asks.own_is ∙ ap (option_map (begun_on old.own)) still);
        nothing = λ none. absurd cc;
        wanted = subst (λ own. IfSome new.begun (λ day. IsWanted own new.wanted (begun_on own day))) (sym asks.own_is)
            (subst (λ wanted. IfSome new.begun (λ day. IsWanted old.own wanted (begun_on old.own day))) (sym asks.wanted_is)
            (subst (λ begun. IfSome begun (λ day. IsWanted old.own old.wanted (begun_on old.own day))) (sym same) up.taken.wanted));
        in_place = subst (λ own. AreInPlace own (names_of new.peers.items) (text ++ frame)) (sym asks.own_is)
            (subst (λ names. AreInPlace old.own names (text ++ frame)) (sym asks.names_are)
            (subst (λ frames. All (IsInPlace old.own (names_of old.peers.items)) (drop 1 frames)) (sym last.frames)
            (place-behind (IsInPlace old.own (names_of old.peers.items)) (frames_of text) frame (begun_on old.own day)
            (up.taken.begins ∙ ap (option_map (begun_on old.own)) begun) up.taken.in_place (record { kept = kept; keeps = is; is_of = of }))));
        has = holds text (text ++ frame) keeps up.taken.apart up.taken.has;
      };
    }

-- the first is another's
pub other-taken : {L : Type 0} (first old : Taking L) (text frame behind : List ℕ) (kept : Kept) (found : Beginning) → FrameComesFirst frame
    → kept_of (fields_of frame) ≡ Some kept → old.begun ≡ None → begun_by kept ≡ Some found → (IsWanted old.own old.wanted found → ⊥) → TakesUpAll first text old
    → BeginsOtherwise first.own first.wanted (text ++ frame ++ behind) found
other-taken first old text frame behind kept found comes_first is none begins unwanted up = record {
  begins = ap (λ (text : List ℕ). beginning_of (text ++ frame ++ behind)) (up.taken.nothing none) ∙ begins-first frame behind kept comes_first is ∙ begins;
  unwanted = λ wanted. unwanted (subst (λ own. IsWanted own old.wanted found) (sym up.asks.own_is)
      (subst (λ day. IsWanted first.own day found) (sym up.asks.wanted_is) wanted));
}

-- before the first
pub beginning_of-nil : beginning_of [] ≡ None
beginning_of-nil = ap (λ frames. option_and_then begun_by (option_and_then (λ frame. kept_of (fields_of frame)) (slice_get frames 0))) frames_of-nil

-- each of some names is one of them
is-one : (names : List (List ℕ)) (k : ℕ) (d : List ℕ) → k < length names → list_any (same_text (get_or names k d)) names ≡ true
is-one [] k d less = absurd (omega (arith, less))
is-one (name ∷ names) zero d less = ap (λ test. test || list_any (same_text name) names) (same_text-refl name)
is-one (name ∷ names) (suc k) d less = or_right (same_text (get_or names k d) name) (list_any (same_text (get_or names k d)) names) (is-one names k d (omega (arith, less)))

all-seated : (names : List (List ℕ)) → All (HasSeat names []) names
all-seated names = λ k d less. inl (is-one names k d less)

empty-run : IsRun empty_desk
empty-run = refl

pub none-taken : {L : Type 0} (made : Taking L) → made.begun ≡ None → made.opening ≡ empty_desk → AreApart made.own (names_of made.peers.items)
    → All (IsKeptPeer made.own []) made.peers.items → AreKeptOperators [] made.operators → length made.operators.named.items + length made.operators.spare.items ≡ OPERATOR_SEATS
    → TakesUpAll made [] made
none-taken made none empty apart peers operators total = record {
  seated = record { total = total; each = all-seated (operator_names made.operators.named.items) };
  asks = record { own_is = refl; wanted_is = refl; names_are = refl; first_is = λ _ first. first };
  taken = record {
    apart = apart;
    begins = beginning_of-nil ∙ sym (ap (option_map (begun_on made.own)) none);
    nothing = λ _. refl;
    wanted = subst (λ begun. IfSome begun (λ day. IsWanted made.own made.wanted (begun_on made.own day))) (sym none) tt;
    in_place = subst (λ frames. All (IsInPlace made.own (names_of made.peers.items)) (drop 1 frames)) (sym frames_of-nil)
        (none-behind (IsInPlace made.own (names_of made.peers.items)));
    has = record {
      events = ap (λ (opening : DeskState). events_of opening.history) empty ∙ sym desk_events-nil;
      run = subst IsRun (sym empty) empty-run;
      peers = peers;
      operators = operators;
    };
  };
}

-- the names stay
pub same-names : {L : Type 0} (peers : List (KeptPeer L)) (at : ℕ) (old new : KeptPeer L) → old ≡ get_or peers at old → new.peer ≡ old.peer
    → names_of (set peers at new) ≡ names_of peers
same-names peers at old new is name = map-set_same (λ peer. peer.peer) peers at new old (name ∙ ap (λ peer. peer.peer) is)

-- an operator's event
pub asked-taken : {L : Type 0} (old : Taking L) (opening : DeskState) (operators : KeptOperators L) (name text more : List ℕ) (kept : Kept) → KeepsLast text kept more
    → IsAskedBy name kept.content → TakesUp old.opening opening (noted_of kept)
    → AreKeptOperators more operators → HasTaken text old → HasTaken more (record old { opening = opening; operators = operators })
asked-taken old opening operators name text more kept last is up holds has = record {
  events = events-more text more kept last old.opening opening up has.events;
  run = up.run has.run;
  peers = all-asked old.own text more kept last old.peers.items has.peers name is;
  operators = holds;
}

-- a peer's frame
pub peer-taken : {L : Type 0} (old new : Taking L) (at : ℕ) (name : List ℕ) (peer : KeptPeer L) (text more : List ℕ) (kept : Kept) → KeepsLast text kept more
    → at < length old.peers.items → slice_get (names_of old.peers.items) at ≡ Some name → stands_for old.own name kept ≡ true → TakesUp old.opening new.opening (noted_of kept)
    → new.own ≡ old.own → new.operators ≡ old.operators → new.peers.items ≡ set old.peers.items at peer
    → IsKeptPeer old.own more peer → AreApart old.own (names_of old.peers.items) → HasTaken text old → HasTaken more new
peer-taken old new at name peer text more kept last within found stands up own operators peers holds apart has = record {
  events = events-more text more kept last old.opening new.opening up has.events;
  run = up.run has.run;
  peers = subst (λ own. All (IsKeptPeer own more) new.peers.items) (sym own) (subst (All (IsKeptPeer old.own more)) (sym peers)
      (all-more old.own text more kept last old.peers.items has.peers apart name at peer within found stands holds));
  operators = subst (AreKeptOperators more) (sym operators) (operators-other text more kept last old.own name old.operators stands has.operators);
}

-- ---- seats that are taken from a list one by one

pub is-first : {X : Type 0} (old new : List X) (given : Option X) (x : X) → given ≡ Some x → old ≡ option_to_list given ++ new → old ≡ x ∷ new
is-first old new given x is items = items ∙ ap (λ it. option_to_list it ++ new) is

pub first-holds : {X : Type 0} (P : X → Type 0) (old new : List X) (given : Option X) (x : X) → given ≡ Some x → old ≡ option_to_list given ++ new → All P old → P x
first-holds P old new given x is items all = subst (λ it. All P it) (is-first old new given x is items) all 0 x (omega arith)

pub rest-hold : {X : Type 0} (P : X → Type 0) (old new : List X) (given : Option X) (x : X) → given ≡ Some x → old ≡ option_to_list given ++ new → All P old → All P new
rest-hold P old new given x is items all =
    let of_all = subst (λ it. All P it) (is-first old new given x is items) all in
    λ k d less. of_all (suc k) d (omega (arith, less))
