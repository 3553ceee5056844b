-- One call of a session.
use Rattle.std.proofs.Common.{◌≡◌, Bool, true, List, map, Option, None, Result, Ok, Err, refl, sym, ap, subst, ℕ, ℤ, IfErr, IsErrAnd, IsOk, OnOk, flat_map}
use Rattle.std.proofs.lemmas.Bool.{false≢true}
use Rattle.blot_types.specs.declared.command.Command.{Command}
use Rattle.blot_session.specs.declared.{action.Action.Action, state.State.State}
use Rattle.blot_session.specs.Calls.{Outcome, Awaits}
use Rattle.blot_session.specs.Runs.{Call, DeliversJust, outcome, bytes_of}
use Rattle.blot_session.specs.Runs.Call.{Frame}
use Rattle.blot_session.specs.States.{IsIdle}
use Rattle.blot_session.proofs.ActionLemmas.{delivered-idle}
use Rattle.blot_gateway.specs.declared.{ended.Ended.Ended, ended.Stop.Stop, parties.Parties.Parties}
use Rattle.blot_gateway.specs.declared.ended.Stop.TheVariants as stops
use Rattle.blot_gateway.specs.Endings.{ended_by}
use Rattle.blot_gateway.specs.Hearing.{word_in}
use Rattle.blot_gateway.specs.Wires.{Did, Notice, StepByStep}
use Rattle.blot_gateway.specs.Serving.{close_in}
use Rattle.blot_gateway.specs.Sending.{Writes, Halts, Called, Comes, ComesLast, StopsAt, Halted}

-- ---- results

-- a result that says how another ended
pub ok-through : {T U E F P Q : Type 0} (result : Result T E) (served : Result U F) → OnOk result (IsOk served) → OnOk served P → (P → Q) → OnOk result Q
ok-through (Err e) served ok p more = tt
ok-through (Ok x) (Ok y) ok p more = more p
ok-through (Ok x) (Err f) ok p more = absurd (false≢true ok)

pub err-through : {T : Type 0} (P : Stop → Type 0) (Q : Ended → Type 0) (result : Result T Ended) (served : Result T Stop)
    → IfErr result (λ end. IsErrAnd served (λ stop. end ≡ ended_by stop)) → IfErr served P → ((stop : Stop) → P stop → Q (ended_by stop)) → IfErr result Q
err-through P Q (Ok x) served err p more = tt
err-through P Q (Err end) (Ok y) err p more = absurd err
err-through P Q (Err end) (Err stop) err p more = subst Q (sym err) (more stop p)

-- ---- a call

-- nothing is delivered where nothing is awaited
pub idle-delivers : (state : State) (actions : List Action) → Awaits state actions → IsIdle state → DeliversJust None actions
idle-delivers state actions awaits idle = λ number. ap (map (λ numbered. numbered.command)) (delivered-idle number state actions awaits idle)

pub called : {W C : Type 0} (does : W → Did → W → Type 0) (ticks : C → ℤ → C → Type 0) (command : Option Command) (call : ℤ → Bool → Call)
    (wire wire_after : W) (clock clock_after : C) (state after : State) (now : ℤ) (actions : List Action)
    → record { state = after; actions = actions } ≡ outcome state (call now true) → ticks clock now clock_after
    → Writes does wire (flat_map bytes_of actions) wire_after → close_in actions ≡ None → DeliversJust command actions
    → Called does ticks command call wire clock state wire_after clock_after after
called does ticks command call wire wire_after clock clock_after state after now actions is ticked writes stays delivers =
    record {
      now = now;
      ticked = ticked;
      session = ap (λ (gives : Outcome). gives.state) is;
      writes = subst (λ (gives : Outcome). Writes does wire (flat_map bytes_of gives.actions) wire_after) is writes;
      delivers = subst (λ (gives : Outcome). DeliversJust command gives.actions) is delivers;
      stays = subst (λ (gives : Outcome). close_in gives.actions ≡ None) is stays;
    }

stops-at : {W : Type 0} (does : W → Did → W → Type 0) (stop : Stop) (before : W) (actions : List Action) (after : W) → Halts does stop before actions after
    → StopsAt does stop before actions true after
stops-at does (stops.Closed reason) before actions after halts = (refl, halts)
stops-at does stops.WriteFault before actions after halts = (refl, halts)
stops-at does stops.NoMemory before actions after halts = absurd halts

pub halted : {W C : Type 0} (does : W → Did → W → Type 0) (ticks : C → ℤ → C → Type 0) (stop : Stop) (call : ℤ → Bool → Call)
    (wire wire_after : W) (clock clock_after : C) (state after : State) (now : ℤ) (slice actions : List Action) → slice ≡ actions
    → record { state = after; actions = actions } ≡ outcome state (call now true) → ticks clock now clock_after
    → Halts does stop wire slice wire_after → DeliversJust None actions
    → Halted does ticks call wire clock state wire_after clock_after after stop
halted does ticks stop call wire wire_after clock clock_after state after now slice actions same is ticked halts delivers =
    record {
      now = now;
      memory = true;
      ticked = ticked;
      session = ap (λ (gives : Outcome). gives.state) is;
      halts = subst (λ (gives : Outcome). StopsAt does stop wire gives.actions true wire_after) is (stops-at does stop wire actions wire_after
          (subst (λ list. Halts does stop wire list wire_after) same halts));
      delivers = subst (λ (gives : Outcome). DeliversJust None gives.actions) is delivers;
    }

-- a frame, of which the sink heard where it brought no command
pub comes : {W C S : Type 0} (does : W → Did → W → Type 0) (ticks : C → ℤ → C → Type 0) (takes : S → Notice → S → Type 0) (command : Option Command) (text : List ℕ)
    (before after : Parties W C S) (now : ℤ) (actions : List Action)
    → record { state = after.session; actions = actions } ≡ outcome before.session (Frame text now true) → ticks before.clock now after.clock
    → Writes does before.wire (flat_map bytes_of actions) after.wire → close_in actions ≡ None → DeliversJust command actions
    → StepByStep takes before.sink (word_in before.session (Frame text now true)) after.sink
    → Comes does ticks takes command text before after
unfolding called
comes does ticks takes command text before after now actions is ticked writes stays delivers heard =
    record {
      called = called does ticks command (Frame text) before.wire after.wire before.clock after.clock before.session after.session now actions is ticked writes stays delivers;
      heard = heard;
    }

-- a frame that stops the session, of which the sink heard
pub comes-last : {W C S : Type 0} (does : W → Did → W → Type 0) (ticks : C → ℤ → C → Type 0) (takes : S → Notice → S → Type 0) (stop : Stop) (text : List ℕ)
    (before after : Parties W C S) (now : ℤ) (slice actions : List Action) → slice ≡ actions
    → record { state = after.session; actions = actions } ≡ outcome before.session (Frame text now true) → ticks before.clock now after.clock
    → Halts does stop before.wire slice after.wire → DeliversJust None actions
    → StepByStep takes before.sink (word_in before.session (Frame text now true)) after.sink
    → ComesLast does ticks takes text before after stop
unfolding halted
comes-last does ticks takes stop text before after now slice actions same is ticked halts delivers heard =
    record {
      halted = halted does ticks stop (Frame text) before.wire after.wire before.clock after.clock before.session after.session now slice actions same is ticked halts delivers;
      heard = heard;
    }
