-- Whole frames one behind the other, their events, and what a diary keeps after each of its calls.
use Rattle.std.proofs.Common.{◌≡◌, inl, inr, ⊎_elim, ℕ, ◌<◌, ◌≤◌, Bool, true, false, List, [], ◌∷◌, ◌++◌, length, map, take, Option, Some, None, refl, sym, ap, subst, ◌∙◌, arith, append_assoc, length-append, filter_map, if◌then◌else◌, option_map, option_and_then, append-nil}
use Rattle.std.specs.List.{cons_option}
use Rattle.std.proofs.lemmas.List.{map-append}
use Rattle.std.proofs.lemmas.List.Elements.{filter_map-append}
use Rattle.std.proofs.Math.Seq.{take-append_seam}
use Rattle.blot_tag.specs.Fields.{fields_of}
use Rattle.blot_tag.specs.Frames.{IsFrame}
use Rattle.blot_tag.specs.Joined.{IsWhole}
use Rattle.blot_tag.specs.Walking.{Walk, frames_of}
use Rattle.blot_tag.proofs.JoinedLemmas.{has_last}
use Rattle.blot_tag.proofs.WalkLemmas.{walk_of-append}
use Rattle.blot_tag.proofs.FrameLemmas.{length-frame}
use Rattle.blot_desk.specs.declared.event.Event.{Event}
use Rattle.blot_desk.specs.Keeping.{IsBeginning}
use Rattle.blot_journal.specs.Device.{LeavesOnly}
use Rattle.blot_journal.specs.File.{Stands, StandsBeforeOrAfter}
use Rattle.blot_journal.specs.Journal.{Open, text_in_journal}
use Rattle.blot_diary.specs.declared.{kept.Kept.Kept, kept.Noted.Noted}
use Rattle.blot_diary.specs.Diary.{Begins, Diarized, IsDiary, Keeps, Leaves, desk_events, diary_of, event_in}
use Rattle.blot_diary.specs.Events.{events_in, noted_of}
use Rattle.blot_diary.specs.Keeping.{kept_in, kept_of}

-- ---- events

abbrev event_of : Noted → Event
event_of noted = noted.event

events_in-append : (frames more : List (List ℕ)) → map event_of (events_in (frames ++ more)) ≡ map event_of (events_in frames) ++ map event_of (events_in more)
events_in-append frames more =
    ap (λ kept. map event_of (filter_map noted_of kept)) (filter_map-append (λ frame. kept_of (fields_of frame)) frames more)
    ∙ ap (map event_of) (filter_map-append noted_of (kept_in frames) (kept_in more))
    ∙ map-append event_of (events_in frames) (events_in more)

desk_events-append : (text more : List ℕ) → IsWhole text → desk_events (text ++ more) ≡ desk_events text ++ desk_events more
desk_events-append text more whole =
    ap (λ (walk : Walk). map event_of (events_in walk.frames)) (walk_of-append text more)
    ∙ ap (λ rest. map event_of (events_in (frames_of text ++ frames_of (rest ++ more)))) whole.rest
    ∙ events_in-append (frames_of text) (frames_of more)

one_event : (kept : Option Kept)
    → map event_of (filter_map noted_of (cons_option kept [])) ≡ cons_option (option_map event_of (option_and_then noted_of kept)) []
one_event None = refl
one_event (Some kept) = one (noted_of kept)
  where
    one : (noted : Option Noted) → map event_of (cons_option noted []) ≡ cons_option (option_map event_of noted) []
    one None = refl
    one (Some noted) = refl

pub desk_events-last : (text frame : List ℕ) → IsWhole text → IsFrame frame → desk_events (text ++ frame) ≡ desk_events text ++ cons_option (event_in frame) []
desk_events-last text frame whole valid =
    ap (λ frames. map event_of (events_in frames)) (has_last text frame valid whole).frames
    ∙ events_in-append (frames_of text) (frame ∷ [])
    ∙ ap (λ last. desk_events text ++ last) (one_event (kept_of (fields_of frame)))

-- ---- beginnings of a text

begins_itself : (text : List ℕ) → IsWhole text → Begins text text
begins_itself text whole = record { whole = whole; behind = []; is = sym (append-nil text) }

begins_more : (text more last : List ℕ) → Begins text more → Begins text (more ++ last)
begins_more text more last begins = record {
  whole = begins.whole;
  behind = begins.behind ++ last;
  is = ap (λ (front : List ℕ). front ++ last) begins.is ∙ append_assoc text begins.behind last;
}

begins_through : (text part more : List ℕ) → Begins text part → Begins part more → Begins text more
begins_through text part more first second = subst (Begins text) (sym second.is) (begins_more text part second.behind first)

pub fewer_events : (text more : List ℕ) → Begins text more → length (desk_events text) ≤ length (desk_events more)
fewer_events text more begins =
    let both = ap desk_events begins.is ∙ desk_events-append text begins.behind begins.whole in
    omega (arith, ap length both, length-append (desk_events text) (desk_events begins.behind))

-- a crash leaves a beginning of the events
pub leaves_beginning : (least text : List ℕ) (outcomes : List ℕ → Type 0) (left : List Event) → ((file : List ℕ) → outcomes file → Keeps least text file)
    → Leaves outcomes left
    → IsBeginning (length (desk_events least)) (desk_events text) left
leaves_beginning least text outcomes left each leaves =
    let keeps = each leaves.file leaves.outcome in
    let spelled : left ≡ desk_events keeps.part = leaves.spelled ∙ ap desk_events keeps.stands.says in
    let both = ap desk_events keeps.within.is ∙ desk_events-append keeps.part keeps.within.behind keeps.within.whole in
    subst (IsBeginning (length (desk_events least)) (desk_events text)) (sym spelled) (record {
      count = length (desk_events keeps.part);
      enough = fewer_events least keeps.part keeps.enough;
      most = fewer_events keeps.part text keeps.within;
      left_is = sym (ap (take (length (desk_events keeps.part))) both ∙ take-append_seam (desk_events keeps.part) (desk_events keeps.within.behind));
    })

-- ---- what is kept

keeps_more : (least text last file : List ℕ) → Keeps least text file → Keeps least (text ++ last) file
keeps_more least text last file keeps = record {
  part = keeps.part;
  enough = keeps.enough;
  within = begins_more keeps.part text last keeps.within;
  stands = keeps.stands;
}

keeps_less : (less least text file : List ℕ) → Begins less least → Keeps least text file → Keeps less text file
keeps_less less least text file begins keeps = record {
  part = keeps.part;
  enough = begins_through less least keeps.part begins keeps.enough;
  within = keeps.within;
  stands = keeps.stands;
}

keeps_either : (durable waiting file : List ℕ) → IsWhole durable → IsWhole (durable ++ waiting) → StandsBeforeOrAfter durable waiting file
    → Keeps durable (durable ++ waiting) file
keeps_either durable waiting file whole all (inl before) = record {
  part = durable;
  enough = begins_itself durable whole;
  within = record { whole = whole; behind = waiting; is = refl };
  stands = before;
}
keeps_either durable waiting file whole all (inr after) = record {
  part = durable ++ waiting;
  enough = record { whole = whole; behind = waiting; is = refl };
  within = begins_itself (durable ++ waiting) all;
  stands = after;
}

-- ---- the calls

module _ {D : Type 0} (seen : D → List ℕ) (may_leave : D → List ℕ → Type 0) (left_since : D → ℕ → List ℕ → Type 0) (moment : D → ℕ) where
  abbrev pub HoldsDiary : Diarized D → Type 0
  HoldsDiary diary = IsDiary may_leave left_since moment diary

  -- no room matters
  pub with_room : (diary : Diarized D) (room : ℕ) → HoldsDiary diary → HoldsDiary (record diary { room = room })
  with_room diary room holds = record {
    whole = holds.whole;
    durable = holds.durable;
    found = holds.found;
    began = holds.began;
    now = holds.now;
    ever = holds.ever;
  }

  -- one frame more
  pub appended : (diary : Diarized D) (frame : List ℕ) (room : ℕ) → IsFrame frame → HoldsDiary diary
      → HoldsDiary (record diary { text = diary.text ++ frame; room = room })
  appended diary frame room valid holds = record {
    whole = (has_last diary.text frame valid holds.whole).whole;
    durable = begins_more diary.durable diary.text frame holds.durable;
    found = holds.found;
    began = holds.began;
    now = λ file left. keeps_more diary.durable diary.text frame file (holds.now file left);
    ever = λ file left. keeps_more diary.found diary.text frame file (holds.ever file left);
  }

  abbrev diary : Open D → Open D → Open D → Diarized D
  diary journal opened last = diary_of seen moment journal opened last

  module _ (opened last : Open D) where
    abbrev diary_in : Open D → Diarized D
    diary_in journal = diary journal opened last

    -- one that could be written
    abbrev plain : D → List ℕ → ℕ → Diarized D
    plain device waiting room = diary_in (record { device = device; waiting = waiting; is_broken = false; room = room })

    pub unbroken : (journal : Open D) → journal.is_broken ≡ false → diary_in journal ≡ plain journal.device journal.waiting journal.room
    unbroken journal is = ap (λ (b : Bool). diary_in (record journal { is_broken = b })) is

    pub with_next_room : (journal next : Open D) → next ≡ record journal { room = next.room } → HoldsDiary (diary_in journal) → HoldsDiary (diary_in next)
    with_next_room journal next same holds = subst (λ j. HoldsDiary (diary_in j)) (sym same) (with_room (diary_in journal) _ holds)

    has_room : (broken : Bool) (room bytes : ℕ) → 0 < bytes → bytes ≤ (if broken then 0 else room) → broken ≡ false
    has_room true room bytes some fits = absurd (omega (arith, some, fits))
    has_room false room bytes some fits = refl

    -- what a frame that is put behind the others makes of it
    pub grown : (journal next : Open D) (frame : List ℕ) → IsFrame frame → length frame ≤ (diary_in journal).room → next.waiting ≡ journal.waiting ++ frame
        → next.device ≡ journal.device
        → next.is_broken ≡ journal.is_broken → diary_in next ≡ record (diary_in journal) { text = (diary_in journal).text ++ frame; room = next.room }
    grown journal next frame valid room waiting device broken =
        let on = has_room journal.is_broken journal.room (length frame) (length-frame frame valid) room in
        unbroken next (broken ∙ on)
        ∙ (λ i. plain (device i) (waiting i) next.room)
        ∙ ap (λ text. record (plain journal.device journal.waiting next.room) { text = text })
        (sym (append_assoc (text_in_journal seen journal) journal.waiting frame))
        ∙ ap (λ (of : Diarized D). record of { text = of.text ++ frame; room = next.room }) (sym (unbroken journal on))

  -- one that is opened
  pub begun : (journal opened last : Open D) → journal.is_broken ≡ false → journal.waiting ≡ [] → IsWhole (text_in_journal seen journal) → opened ≡ journal
      → ((file : List ℕ) → may_leave journal.device file → Stands (text_in_journal seen journal) file)
      → ((file : List ℕ) → left_since journal.device (moment journal.device) file → may_leave journal.device file) → HoldsDiary (diary journal opened last)
  begun journal opened last on none whole is crash only =
      let text = text_in_journal seen journal in
      let all : Begins text (text ++ []) = record { whole = whole; behind = []; is = refl } in
      let now : (file : List ℕ) → may_leave journal.device file → Keeps text (text ++ []) file =
      λ file left. record { part = text; enough = begins_itself text whole; within = all; stands = crash file left } in
      let same : diary journal opened last ≡ plain journal last journal.device [] journal.room =
      (λ i. diary journal (is i) last) ∙ unbroken journal last journal on ∙ (λ i. plain journal last journal.device (none i) journal.room) in
      subst HoldsDiary (sym same) (record {
        whole = subst IsWhole (sym (append-nil text)) whole;
        durable = all;
        found = begins_itself text whole;
        began = omega arith;
        now = now;
        ever = λ file left. now file (only file left);
      })

  -- after a sync
  module _ (journal next opened : Open D) (last : Open D) (holds : HoldsDiary (diary journal opened last)) (on : journal.is_broken ≡ false)
      (leaves : LeavesOnly moment left_since journal.device next.device (StandsBeforeOrAfter (text_in_journal seen journal) journal.waiting)) where
    abbrev text : List ℕ
    text = text_in_journal seen journal

    was : HoldsDiary (plain opened last journal.device journal.waiting journal.room)
    was = subst HoldsDiary (unbroken opened last journal on) holds

    either : (file : List ℕ) → StandsBeforeOrAfter text journal.waiting file → Keeps text (text ++ journal.waiting) file
    either file stands = keeps_either text journal.waiting file was.durable.whole was.whole stands

    later : (file : List ℕ) → left_since next.device (moment opened.device) file → Keeps (text_in_journal seen opened) (text ++ journal.waiting) file
    later file left =
        ⊎_elim (was.ever file) (λ stands. keeps_less (text_in_journal seen opened) text (text ++ journal.waiting) file was.found (either file stands))
        (leaves.before (moment opened.device) file was.began left)

    -- all is durable
    module _ (before : Open D) (text_is : text_in_journal seen next ≡ text ++ journal.waiting) (none : next.waiting ≡ [])
        (open_still : next.is_broken ≡ false) where
      abbrev whole_text : List ℕ
      whole_text = text ++ journal.waiting

      abbrev after : Diarized D
      after = record {
        device = next.device;
        text = whole_text;
        durable = whole_text;
        found = text_in_journal seen opened;
        since = moment opened.device;
        is_broken = false;
        room = next.room;
      }

      same : diary next opened before ≡ after
      same =
          unbroken opened before next open_still
          ∙ (λ i. plain opened before next.device (none i) next.room)
          ∙ ap (λ all. record after { text = all; durable = text_in_journal seen next }) (append-nil (text_in_journal seen next) ∙ text_is)
          ∙ ap (λ durable. record after { durable = durable }) text_is

      pub synced : ((file : List ℕ) → may_leave next.device file → Stands whole_text file) → HoldsDiary (diary next opened before)
      synced crash = subst HoldsDiary (sym same) (record {
        whole = was.whole;
        durable = begins_itself whole_text was.whole;
        found = begins_through (text_in_journal seen opened) text whole_text was.found was.durable;
        began = omega (arith, was.began, leaves.later);
        now = λ file left. record {
          part = whole_text;
          enough = begins_itself whole_text was.whole;
          within = begins_itself whole_text was.whole;
          stands = crash file left;
        };
        ever = later;
      })

      pub text_stays : (diary next opened before).text ≡ (diary journal opened last).text
      text_stays = ap (λ (d : Diarized D). d.text) same ∙ sym (ap (λ (d : Diarized D). d.text) (unbroken opened last journal on))

      pub more_durable : length (desk_events (diary journal opened last).durable) ≤ length (desk_events (diary next opened before).durable)
      more_durable =
          omega (
            arith,
            fewer_events text whole_text was.durable,
            ap (λ (d : Diarized D). length (desk_events d.durable)) same,
            ap (λ (d : Diarized D). length (desk_events d.durable)) (unbroken opened last journal on),
          )

    -- nobody knows what is
    module _ (before : Open D) (before_is : before ≡ journal) (broken : next.is_broken ≡ true) where
      abbrev stopped : Diarized D
      stopped = record (plain opened last journal.device journal.waiting 0) { device = next.device; is_broken = true }

      same_broken : diary next opened before ≡ stopped
      same_broken = (λ i. diary next opened (before_is i)) ∙ ap (λ b. diary (record next { is_broken = b }) opened journal) broken

      pub stops : ((file : List ℕ) → moment journal.device ≤ moment next.device → may_leave next.device file
          → left_since next.device (moment journal.device) file) → HoldsDiary (diary next opened before)
      stops counts = subst HoldsDiary (sym same_broken) (record {
        whole = was.whole;
        durable = was.durable;
        found = was.found;
        began = omega (arith, was.began, leaves.later);
        now = λ file left. either file (leaves.each file (counts file leaves.later left));
        ever = later;
      })

      pub text_known : (diary next opened before).text ≡ (diary journal opened last).text
      text_known = ap (λ (d : Diarized D). d.text) same_broken ∙ sym (ap (λ (d : Diarized D). d.text) (unbroken opened last journal on))

      pub as_durable : length (desk_events (diary journal opened last).durable) ≤ length (desk_events (diary next opened before).durable)
      as_durable =
          omega (
            arith,
            ap (λ (d : Diarized D). length (desk_events d.durable)) same_broken,
            ap (λ (d : Diarized D). length (desk_events d.durable)) (unbroken opened last journal on),
          )
