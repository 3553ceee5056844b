-- What bears on a session's two numbers, on worked cases that compute.
use Rattle.std.proofs.Common.{◌≡◌, true, false, List, [], ◌∷◌, map, take, Ok, Err, refl, inl, inr, codes, pos}
use Rattle.blot_session.specs.declared.met.Met.TheVariants as met
use Rattle.blot_session.specs.declared.replies.SeenReply.TheVariants as seen
use Rattle.blot_session.specs.declared.state.State.{State}
use Rattle.blot_session.specs.Rows.{beat_row, heartbeat_row, quiet_row, stop_row, tick_row}
use Rattle.blot_session.specs.Runs.Call.{Stop, Tick}
use Rattle.blot_session.specs.States.{opened, resumed}
use Rattle.blot_gateway.specs.declared.wire.Heard.{Heard}
use Rattle.blot_gateway.specs.KeptNumbers.{KeptNumber, kept_numbers_of, expected_by, kept_by, next_by, sent_numbers}
use Rattle.blot_gateway.specs.KeptNumbers.KeptNumber.{Taken, Numbers, Sent}

-- BRKA's Trade 2 is taken, and a TestRequest 3 is answered under 5
abbrev kept : List KeptNumber
kept = Taken 2 ∷ Numbers 4 6 ∷ Sent 5 ∷ []

expected : map (λ count. expected_by 2 (take count kept)) (0 ∷ 1 ∷ 2 ∷ 3 ∷ []) ≡ 2 ∷ 3 ∷ 4 ∷ 4 ∷ []
expected = refl

next : map (λ count. next_by 5 (take count kept)) (0 ∷ 1 ∷ 2 ∷ 3 ∷ []) ≡ 5 ∷ 5 ∷ 6 ∷ 6 ∷ []
next = refl

used : sent_numbers kept ≡ 5 ∷ []
used = refl

-- a session that is on since moment 0, with a HeartBtInt of 30 seconds, and these numbers
abbrev session : State
session = opened 30 (pos 0) (resumed (codes "MO") (codes "BRKA") 3 5)

abbrev word : Heard
word = record { met = met.Taken; is_renumbered = true; expected = 4; next = 6 }

told : map (kept_by session) (inl (Ok seen.Accepted) ∷ inl (Err (record {})) ∷ inr (codes "a TestRequest", word) ∷ inr (codes "a Heartbeat", record word { is_renumbered = false }) ∷ [])
    ≡ (Taken 3 ∷ []) ∷ [] ∷ (Numbers 4 6 ∷ []) ∷ [] ∷ []
told = refl

-- a Heartbeat and the Logout at the end of the day
sent : kept_numbers_of session (Tick (pos 1_000) true ∷ Tick (pos 30_000) true ∷ Stop (pos 30_000) true ∷ []) ≡ Sent 5 ∷ Sent 6 ∷ []
unfolding tick_row beat_row quiet_row heartbeat_row stop_row
sent = refl
