-- What one frame more adds to what the frames of a text say.
use Rattle.std.proofs.Common.{◌≡◌, ℕ, Bool, List, [], ◌∷◌, ◌++◌, map, Option, Some, None, refl, ap, ◌∙◌, filter, filter_map, fold, append-nil}
use Rattle.std.specs.List.{cons_option}
use Rattle.std.proofs.lemmas.List.{map-append}
use Rattle.std.proofs.lemmas.List.Elements.{filter-append, filter_map-append}
use Rattle.std.proofs.lemmas.List.Sums.{fold-append}
use Rattle.blot_tag.specs.Fields.{fields_of}
use Rattle.blot_tag.specs.Joined.{IsWhole}
use Rattle.blot_tag.specs.Walking.{frames_of, walk_behind}
use Rattle.blot_desk.specs.declared.event.Event.{Event}
use Rattle.blot_diary.specs.declared.{kept.Kept.Kept, kept.Noted.Noted, kept.Party.Party}
use Rattle.blot_diary.specs.Diary.{desk_events}
use Rattle.blot_diary.specs.Events.{events_in, events_of, noted_of}
use Rattle.blot_diary.specs.Keeping.{kept_in, kept_of}
use Rattle.blot_diary.specs.Numbering.{first_numbers, numbers_after, numbers_of}
use Rattle.blot_recovery.specs.Parties.{brought_by, operator_record_after, operator_records_of, peer_record_after, peer_records_of}
use Rattle.blot_recovery.specs.Taking.{KeepsLast, event_noted, with_event}

-- ---- no frame

pub frames_of-nil : frames_of [] ≡ []
unfolding walk_behind
frames_of-nil = refl

pub whole-nil : IsWhole []
unfolding walk_behind
whole-nil = record { skipped = refl; rest = refl }

abbrev pub event_of : Noted → Event
event_of noted = noted.event

pub brought-nil : (is_one : Party → Bool) → brought_by is_one [] ≡ []
brought-nil is_one = ap (λ frames. map event_of (filter (λ noted. is_one noted.party) (events_in frames))) frames_of-nil

pub desk_events-nil : desk_events [] ≡ []
desk_events-nil = ap (λ frames. map event_of (events_in frames)) frames_of-nil

-- ---- one frame more

pub keeps_last : (text frame : List ℕ) (kept : Kept) → frames_of (text ++ frame) ≡ frames_of text ++ frame ∷ [] → kept_of (fields_of frame) ≡ Some kept
    → KeepsLast text kept (text ++ frame)
keeps_last text frame kept last is =
    ap kept_in last
    ∙ filter_map-append (λ frame. kept_of (fields_of frame)) (frames_of text) (frame ∷ [])
    ∙ ap (λ one. kept_in (frames_of text) ++ cons_option one []) is

one-event : (noted : Option Noted) → map event_of (cons_option noted []) ≡ cons_option (event_noted noted) []
one-event None = refl
one-event (Some noted) = refl

module _ (text more : List ℕ) (kept : Kept) (last : KeepsLast text kept more) where
  pub events-last : events_of more ≡ events_of text ++ cons_option (noted_of kept) []
  events-last = ap (filter_map noted_of) last ∙ filter_map-append noted_of (kept_in (frames_of text)) (kept ∷ [])

  pub desk_events-last : desk_events more ≡ with_event (desk_events text) (noted_of kept)
  desk_events-last =
      ap (map event_of) events-last
      ∙ map-append event_of (events_of text) (cons_option (noted_of kept) [])
      ∙ ap (λ one. desk_events text ++ one) (one-event (noted_of kept))

  -- of those that some parties brought
  module _ (is_one : Party → Bool) where
    abbrev pub is_theirs : Noted → Bool
    is_theirs noted = is_one noted.party

    pub brought-last : brought_by is_one more ≡ brought_by is_one text ++ map event_of (filter is_theirs (cons_option (noted_of kept) []))
    brought-last =
        ap (λ all. map event_of (filter is_theirs all)) events-last
        ∙ ap (map event_of) (filter-append is_theirs (events_of text) (cons_option (noted_of kept) []))
        ∙ map-append event_of (filter is_theirs (events_of text)) (filter is_theirs (cons_option (noted_of kept) []))

    pub brought-theirs : filter is_theirs (cons_option (noted_of kept) []) ≡ cons_option (noted_of kept) []
        → brought_by is_one more ≡ with_event (brought_by is_one text) (noted_of kept)
    brought-theirs is =
        brought-last ∙ ap (λ one. brought_by is_one text ++ map event_of one) is ∙ ap (λ one. brought_by is_one text ++ one) (one-event (noted_of kept))

    pub brought-others : filter is_theirs (cons_option (noted_of kept) []) ≡ [] → brought_by is_one more ≡ brought_by is_one text
    brought-others is = brought-last ∙ ap (λ one. brought_by is_one text ++ map event_of one) is ∙ append-nil (brought_by is_one text)

  pub numbers_of-last : (own peer : List ℕ) → numbers_of own peer more ≡ numbers_after own peer (numbers_of own peer text) kept
  numbers_of-last own peer =
      ap (fold (numbers_after own peer) first_numbers) last ∙ fold-append (numbers_after own peer) first_numbers (kept_in (frames_of text)) (kept ∷ [])

  pub peer_records_of-last : (peer : List ℕ) → peer_records_of peer more ≡ peer_record_after peer (peer_records_of peer text) kept
  peer_records_of-last peer = ap (fold (peer_record_after peer) 0) last ∙ fold-append (peer_record_after peer) 0 (kept_in (frames_of text)) (kept ∷ [])

  pub operator_records_of-last : (name : List ℕ) → operator_records_of name more ≡ operator_record_after name (operator_records_of name text) kept
  operator_records_of-last name =
      ap (fold (operator_record_after name) 0) last ∙ fold-append (operator_record_after name) 0 (kept_in (frames_of text)) (kept ∷ [])
