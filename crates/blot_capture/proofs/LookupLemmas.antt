-- The session of a peer, among those that are out and in the table.
use Rattle.std.proofs.Common.{◌≡◌, ℕ, ◌+◌, ◌<◌, true, false, List, [], ◌∷◌, ◌++◌, length, take, Option, Some, None, Result, Ok, Err, refl, sym, ap, subst, ◌∙◌, inl, inr, arith, zero, suc, slice_index_or, slice_set, is_some, if◌then◌else◌, IfOk, IsTrue, MatchOption, option_and_then, length-append, take_at}
use Rattle.std.specs.Cmp.Lexicographic.{bytes_decides}
use Rattle.std.specs.List.{list_any}
use Rattle.std.specs.Option.{option_map_or, option_or}
use Rattle.std.proofs.lemmas.Bool.{cases_Bool}
use Rattle.std.proofs.lemmas.List.Folds.{find-append}
use Rattle.blot_tag.specs.Fields.{fields_of}
use Rattle.blot_types.specs.Keys.{same_text}
use Rattle.blot_types.specs.Text.{is_text}
use Rattle.blot_types.proofs.GeneralLemmas.{or-none}
use Rattle.blot_types.proofs.KeyLemmas.{same_text-true, same_text-refl}
use Rattle.blot_fields.specs.First.{first_value, text_in}
use Rattle.blot_fields.specs.Sender.{sender_of}
use Rattle.blot_session.specs.declared.state.State.{State}
use Rattle.blot_session.specs.Runs.{behind_calls}
use Rattle.blot_slots.specs.Slots.{Slots, slot_of, with_slot, all_in}
use Rattle.blot_slots.proofs.SlotLemmas.{slot_of-with_slot, slot_of-all_in}
use Rattle.blot_capture.specs.Capture.{Sessions, first_sessions, sessions_behind, commands_in, is_from, calls_of, taken_by}
use Rattle.blot_capture.specs.Sessions.{session_among, session_of_slot, session_in, IsAt, IsPlaceFor, IsSenderAt}
use Rattle.blot_capture.specs.Trace.{session_for}

-- ---- the first place of a peer

-- no session of the peer stands before a place, and none at it
among-suc : (peer : List ℕ) (sessions : List State) (place : ℕ) (session : State) → place < length sessions → session ≡ slice_index_or sessions place session
    → session_among peer (take place sessions) ≡ None → same_text session.peer peer ≡ false → session_among peer (take (suc place) sessions) ≡ None
among-suc peer [] place session within is none other = absurd (omega (arith, within))
among-suc peer (first ∷ sessions) zero session within is none other = rw (ap (λ (s : State). same_text s.peer peer) (sym is) ∙ other) refl
among-suc peer (first ∷ sessions) (suc place) session within is none other =
    elim (cases_Bool (same_text first.peer peer)) [
      | inl y ↦ absurd (some-none (rw y at none))
      | inr n ↦ rw n (among-suc peer sessions place session (omega (arith, within)) is (rw n at none) other)
    ]
  where
    some-none : {A : Type 0} {x : A} → Some x ≡ None → ⊥
    some-none is = cc

pub among-more : (peer : List ℕ) (sessions : List State) (place : ℕ) (session : State) → place < length sessions → session ≡ slice_index_or sessions place session
    → session_among peer (take place sessions) ≡ None → same_text session.peer peer ≡ false → session_among peer (take (place + 1) sessions) ≡ None
among-more peer sessions place session within is none other =
    let next : suc place ≡ place + 1 = omega arith in
    subst (λ count. session_among peer (take count sessions) ≡ None) next (among-suc peer sessions place session within is none other)

index-any : (sessions : List State) (place : ℕ) (a b : State) → place < length sessions → slice_index_or sessions place a ≡ slice_index_or sessions place b
index-any [] place a b within = absurd (omega (arith, within))
index-any (first ∷ sessions) zero a b within = refl
index-any (first ∷ sessions) (suc place) a b within = index-any sessions place a b (omega (arith, within))

pub is_at : (peer : List ℕ) (sessions : List State) (place : ℕ) (session : State) → place < length sessions → session ≡ slice_index_or sessions place session
    → session_among peer (take place sessions) ≡ None → same_text session.peer peer ≡ true → IsAt peer sessions place
is_at peer sessions place session within is none same =
    record {
      within = within;
      first = none;
      of_peer = λ other. ap (λ (s : State). s.peer) (index-any sessions place other session within ∙ sym is) ∙ (bytes_decides session.peer peer).0 same;
    }

among-skip : (peer : List ℕ) (first : State) (sessions : List State) → session_among peer (first ∷ sessions) ≡ None
    → (same_text first.peer peer ≡ false) × (session_among peer sessions ≡ None)
among-skip peer first sessions none = elim (cases_Bool (same_text first.peer peer)) [
  | inl y ↦ absurd (some-none (rw y at none))
  | inr n ↦ (n, rw n at none)
]
  where
    some-none : {A : Type 0} {x : A} → Some x ≡ None → ⊥
    some-none is = cc

-- the session at the first place of a peer is the one that is found
pub among-at : (peer : List ℕ) (sessions : List State) (place : ℕ) (other : State) → place < length sessions → session_among peer (take place sessions) ≡ None
    → ((other : State) → (slice_index_or sessions place other).peer ≡ peer) → session_among peer sessions ≡ Some (slice_index_or sessions place other)
among-at peer [] place other within none here = absurd (omega (arith, within))
among-at peer (first ∷ sessions) zero other within none here =
    rw (ap (λ text. same_text text peer) (here other) ∙ same_text-refl peer) refl
among-at peer (first ∷ sessions) (suc place) other within none here =
    let skipped = among-skip peer first (take place sessions) none in
    rw skipped.0 (among-at peer sessions place other (omega (arith, within)) skipped.1 here)

-- where another session of the peer is put there, the others are found as before
pub among-set : (peer other : List ℕ) (sessions : List State) (place : ℕ) (changed : State) → place < length sessions
    → session_among peer (take place sessions) ≡ None → ((other : State) → (slice_index_or sessions place other).peer ≡ peer) → changed.peer ≡ peer
    → session_among other (slice_set sessions place changed) ≡ (if same_text peer other then Some changed else session_among other sessions)
among-set peer other [] place changed within none here same = absurd (omega (arith, within))
among-set peer other (first ∷ sessions) zero changed within none here same =
    let was : same_text first.peer other ≡ same_text peer other = ap (λ text. same_text text other) (here first) in
    let now : same_text changed.peer other ≡ same_text peer other = ap (λ text. same_text text other) same in
    elim (cases_Bool (same_text peer other)) [
      | inl y ↦ rw (now ∙ y, y) refl
      | inr n ↦ rw (now ∙ n, n, was ∙ n) refl
    ]
among-set peer other (first ∷ sessions) (suc place) changed within none here same =
    let skipped = among-skip peer first (take place sessions) none in
    let rest = among-set peer other sessions place changed (omega (arith, within)) skipped.1 here same in
    elim (cases_Bool (same_text peer other)) [
      | inl y ↦
          let apart : same_text first.peer other ≡ false = ap (λ text. same_text first.peer text) (sym (same_text-true peer other y)) ∙ skipped.0 in
          rw apart rest
      | inr n ↦ rw n (ap (λ found. if same_text first.peer other then Some first else found) (rw n at rest))
    ]

-- ---- the session of each peer

-- functions that agree everywhere are one
everywhere : (f g : Sessions) → ((peer : List ℕ) → f peer ≡ g peer) → f ≡ g
everywhere f g same = λ i peer. same peer i

-- at the start
pub sessions-first : (own : List ℕ) (peers : List (List ℕ)) → session_in [] (all_in own peers) ≡ first_sessions own peers
sessions-first own peers = everywhere (session_in [] (all_in own peers)) (first_sessions own peers) (λ peer.
    ap session_of_slot (slot_of-all_in own peer peers)
    ∙ elim (cases_Bool (list_any (λ listed. same_text listed peer) peers)) [ inl y ↦ rw y refl | inr n ↦ rw n refl ])

-- a session that is checked out is the one that its peer had
pub sessions-out : (out : List State) (slots next : Slots) (peer : List ℕ) (session : State) → session_among peer out ≡ None
    → slot_of slots peer ≡ Some (Some session) → next ≡ with_slot peer None slots → session.peer ≡ peer
    → session_in (out ++ session ∷ []) next ≡ session_in out slots
sessions-out out slots next peer session none is left of_peer = everywhere (session_in (out ++ session ∷ []) next) (session_in out slots) (λ other.
    let found : session_among other (out ++ session ∷ []) ≡ option_or (session_among other out) (session_among other (session ∷ [])) =
    find-append (λ (s : State). same_text s.peer other) out (session ∷ []) in
    let slot : slot_of next other ≡ (if same_text peer other then Some None else slot_of slots other) =
    ap (λ table. slot_of table other) left ∙ slot_of-with_slot slots peer other None (ap is_some is) in
    let here : same_text session.peer other ≡ same_text peer other = ap (λ text. same_text text other) of_peer in
    elim (cases_Bool (same_text peer other)) [
      | inl y ↦
          let same = same_text-true peer other y in
          let gone : session_among other out ≡ None = ap (λ text. session_among text out) (sym same) ∙ none in
          let was : slot_of slots other ≡ Some (Some session) = ap (slot_of slots) (sym same) ∙ is in
          rw (found, gone, here ∙ y, was) refl
      | inr n ↦ rw (found, here ∙ n, slot, n) (ap (λ some. option_or some (session_of_slot (slot_of slots other))) (or-none (session_among other out)))
    ])

pub at-end : (peer : List ℕ) (out : List State) (session : State) → session_among peer out ≡ None → session.peer ≡ peer → IsAt peer (out ++ session ∷ []) (length out)
at-end peer out session none of_peer =
    record {
      within = omega (arith, length-append out (session ∷ []));
      first = ap (session_among peer) (take_at out (session ∷ []) (length out) refl) ∙ none;
      of_peer = λ other. ap (λ (s : State). s.peer) (index-end out session other) ∙ of_peer;
    }
  where
    index-end : (out : List State) (session other : State) → slice_index_or (out ++ session ∷ []) (length out) other ≡ session
    index-end [] session other = refl
    index-end (first ∷ out) session other = index-end out session other

pub none-in : (peer : List ℕ) (out : List State) (slots : Slots) → session_among peer out ≡ None → session_of_slot (slot_of slots peer) ≡ None → session_in out slots peer ≡ None
none-in peer out slots none empty = rw (none, empty) refl

-- ---- a frame at the session of its sender

-- the session of the peer, which is out
pub session-at : (peer : List ℕ) (out : List State) (slots : Slots) (place : ℕ) (other : State) → IsAt peer out place → session_in out slots peer ≡ Some (slice_index_or out place other)
session-at peer out slots place other at = rw (among-at peer out place other at.within at.first at.of_peer) refl

pub sessions-changed : (peer : List ℕ) (out : List State) (slots : Slots) (place : ℕ) (session changed : State) (text : List ℕ)
    → IsAt peer out place → session ≡ slice_index_or out place session → changed.peer ≡ session.peer
    → changed ≡ behind_calls session (calls_of session text) → sender_of (fields_of text) ≡ Some peer
    → session_in (slice_set out place changed) slots ≡ sessions_behind (session_in out slots) text
sessions-changed peer out slots place session changed text at is same led sent =
    everywhere (session_in (slice_set out place changed) slots) (sessions_behind (session_in out slots) text) (λ other.
    let of_peer : changed.peer ≡ peer = same ∙ ap (λ (s : State). s.peer) is ∙ at.of_peer session in
    let found = among-set peer other out place changed at.within at.first at.of_peer of_peer in
    let from : is_from other text ≡ same_text peer other = ap (λ sent. option_map_or (λ sender. same_text sender other) sent false) sent in
    elim (cases_Bool (same_text peer other)) [
      | inl y ↦
          let was : session_in out slots other ≡ Some session = ap (session_in out slots) (sym (same_text-true peer other y)) ∙ session-at peer out slots place session at ∙ ap Some (sym is) in
          rw (found, y, from ∙ y, was) (ap Some led)
      | inr n ↦ rw (found, n, from ∙ n) refl
    ])

pub commands-at : (peer : List ℕ) (out : List State) (slots : Slots) (place : ℕ) (session : State) (text : List ℕ)
    → IsAt peer out place → session ≡ slice_index_or out place session → sender_of (fields_of text) ≡ Some peer
    → commands_in (session_in out slots) text ≡ taken_by session text
commands-at peer out slots place session text at is sent =
    let was : session_in out slots peer ≡ Some session = session-at peer out slots place session at ∙ ap Some (sym is) in
    ap (λ sent. option_map_or (λ state. taken_by state text) (option_and_then (session_in out slots) sent) []) sent
    ∙ ap (λ found. option_map_or (λ state. taken_by state text) found []) was

-- ---- the place of the session of a frame's sender

-- bytes that are a text
pub text-in : (bytes : List ℕ) → IsTrue (is_text bytes) → text_in bytes ≡ Some bytes
text-in bytes is = rw is refl

-- the place of the bytes that are first in a frame is that of the frame
pub frame-place : {E : Type 0} (sender text : List ℕ) (out : List State) (sessions : Sessions) (result : Result (Option ℕ) E) → first_value 49 (fields_of text) ≡ Some sender
    → IfOk result (λ place. MatchOption place (option_and_then sessions (text_in sender) ≡ None) (IsSenderAt sender out))
    → IfOk result (λ place. MatchOption place (session_for sessions text ≡ None) (IsPlaceFor text out))
frame-place sender text out sessions (Ok (Some place)) is at = record { peer = sender; sent = ap (option_and_then text_in) is ∙ at.text; at = at.at }
frame-place sender text out sessions (Ok None) is none = ap (λ found. option_and_then sessions (option_and_then text_in found)) is ∙ none
frame-place sender text out sessions (Err fault) is at = tt

-- ---- a frame that is passed over

pub sessions-unsent : (sessions : Sessions) (text : List ℕ) → sender_of (fields_of text) ≡ None → sessions_behind sessions text ≡ sessions
sessions-unsent sessions text none = everywhere (sessions_behind sessions text) sessions (λ other.
    let from : is_from other text ≡ false = ap (λ sent. option_map_or (λ sender. same_text sender other) sent false) none in
    rw from refl)

pub sessions-strange : (sessions : Sessions) (text peer : List ℕ) → sender_of (fields_of text) ≡ Some peer → sessions peer ≡ None → sessions_behind sessions text ≡ sessions
sessions-strange sessions text peer sent none = everywhere (sessions_behind sessions text) sessions (λ other.
    let from : is_from other text ≡ same_text peer other = ap (λ sent. option_map_or (λ sender. same_text sender other) sent false) sent in
    elim (cases_Bool (same_text peer other)) [
      | inl y ↦
          let was : sessions other ≡ None = ap sessions (sym (same_text-true peer other y)) ∙ none in
          rw (from ∙ y, was) refl
      | inr n ↦ rw (from ∙ n) refl
    ])

-- ---- the session of a frame's sender

pub session-for : (peer : List ℕ) (out : List State) (slots : Slots) (place : ℕ) (session : State) (text : List ℕ)
    → IsAt peer out place → session ≡ slice_index_or out place session → sender_of (fields_of text) ≡ Some peer → session_for (session_in out slots) text ≡ Some session
session-for peer out slots place session text at is sent =
    ap (option_and_then (session_in out slots)) sent ∙ session-at peer out slots place session at ∙ ap Some (sym is)

pub sessions-none : (sessions : Sessions) (text : List ℕ) → session_for sessions text ≡ None → sessions_behind sessions text ≡ sessions
sessions-none sessions text none = by-sender (sender_of (fields_of text)) refl none
  where
    by-sender : (sender : Option (List ℕ)) → sender_of (fields_of text) ≡ sender → option_and_then sessions sender ≡ None → sessions_behind sessions text ≡ sessions
    by-sender None is none = sessions-unsent sessions text is
    by-sender (Some peer) is none = sessions-strange sessions text peer is none
