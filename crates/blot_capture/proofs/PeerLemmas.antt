-- The commands that the frames of one peer bring are those that its session takes of them.
use Rattle.std.proofs.Common.{◌≡◌, ℕ, true, false, List, [], ◌∷◌, ◌++◌, map, filter, Option, Some, None, refl, sym, ap, ◌∙◌, inl, inr, option_and_then, append_assoc}
use Rattle.std.specs.Cmp.Lexicographic.{bytes_decides}
use Rattle.std.specs.Option.{option_map_or}
use Rattle.std.proofs.lemmas.Bool.{cases_Bool, false≢true}
use Rattle.std.proofs.lemmas.List.{map-append}
use Rattle.blot_tag.specs.Fields.{fields_of}
use Rattle.blot_types.specs.declared.command.Command.{Command}
use Rattle.blot_types.specs.Keys.{same_text}
use Rattle.blot_fields.specs.Sender.{sender_of}
use Rattle.blot_session.specs.declared.state.State.{State}
use Rattle.blot_session.specs.Runs.{Call, Numbered, outcome, behind_calls, delivered_by, taken_by, taken_behind, taken_of}
use Rattle.blot_session.specs.States.{fresh}
use Rattle.blot_capture.specs.Capture.{Sessions, TakesEachPeer, first_sessions, sessions_behind, commands_in, commands_from, calls_of, calls_over, is_from, taken_by as frame_takes}

-- ---- calls one after the other

-- what the last of some calls delivered
last_of : List Numbered → State → List Call → List Numbered
last_of last state [] = last
last_of last state (call ∷ calls) = last_of (delivered_by state.expected (outcome state call).actions) (outcome state call).state calls

taken-append : (last : List Numbered) (state : State) (calls more : List Call)
    → taken_behind last state (calls ++ more) ≡ taken_behind last state calls ++ taken_behind (last_of last state calls) (behind_calls state calls) more
unfolding last_of
taken-append last state [] more = refl
taken-append last state (call ∷ calls) more =
    ap (λ rest. taken_by last call ++ rest) (taken-append (delivered_by state.expected (outcome state call).actions) (outcome state call).state calls more)
    ∙ sym (append_assoc (taken_by last call) _ _)

-- calls that begin with a frame take nothing of what was delivered before
taken-anew : (last : List Numbered) (state : State) (texts : List (List ℕ)) → taken_behind last state (calls_over state texts) ≡ taken_of state (calls_over state texts)
taken-anew last state [] = refl
taken-anew last state (text ∷ texts) = refl

taken-frame : (state : State) (text : List ℕ) (texts : List (List ℕ))
    → taken_of state (calls_over state (text ∷ texts)) ≡ taken_of state (calls_of state text) ++ taken_of (behind_calls state (calls_of state text)) (calls_over (behind_calls state (calls_of state text)) texts)
taken-frame state text texts =
    let behind = behind_calls state (calls_of state text) in
    taken-append [] state (calls_of state text) (calls_over behind texts)
    ∙ ap (λ rest. taken_of state (calls_of state text) ++ rest) (taken-anew (last_of [] state (calls_of state text)) behind texts)

-- ---- a peer's frames

same-sender : (peer text : List ℕ) (sender : Option (List ℕ)) → option_map_or (λ sender. same_text sender peer) sender false ≡ true → sender ≡ Some peer
same-sender peer text (Some sender) is = ap Some ((bytes_decides sender peer).0 is)
same-sender peer text None is = absurd (false≢true is)

commands : List Numbered → List Command
commands taken = map (λ taken. taken.command) taken

one-peer : (peer : List ℕ) (sessions : Sessions) (state : State) (texts : List (List ℕ)) → sessions peer ≡ Some state
    → commands_from peer sessions texts ≡ commands (taken_of state (calls_over state (filter (is_from peer) texts)))
unfolding commands
one-peer peer sessions state [] is = refl
one-peer peer sessions state (text ∷ texts) is =
    elim (cases_Bool (is_from peer text)) [
      | inl y ↦
          let behind = behind_calls state (calls_of state text) in
          let sent : sender_of (fields_of text) ≡ Some peer = same-sender peer text (sender_of (fields_of text)) y in
          let brought : commands_in sessions text ≡ frame_takes state text =
          ap (λ sender. option_map_or (λ state. frame_takes state text) (option_and_then sessions sender) []) sent
          ∙ ap (λ found. option_map_or (λ state. frame_takes state text) found []) is in
          let next : sessions_behind sessions text peer ≡ Some behind = rw (y, is) refl in
          let rest = one-peer peer (sessions_behind sessions text) behind texts next in
          rw y (ap (λ front. front ++ commands_from peer (sessions_behind sessions text) texts) brought
          ∙ ap (λ back. frame_takes state text ++ back) rest
          ∙ sym (map-append (λ taken. taken.command) (taken_of state (calls_of state text)) (taken_of behind (calls_over behind (filter (is_from peer) texts))))
          ∙ ap (map (λ taken. taken.command)) (sym (taken-frame state text (filter (is_from peer) texts))))
      | inr n ↦
          let next : sessions_behind sessions text peer ≡ Some state = rw n is in
          rw n (one-peer peer (sessions_behind sessions text) state texts next)
    ]

pub each_peer : (own : List ℕ) (peers : List (List ℕ)) → TakesEachPeer own peers
unfolding commands
each_peer own peers peer texts listed = one-peer peer (first_sessions own peers) (fresh own peer) texts (rw listed refl)
