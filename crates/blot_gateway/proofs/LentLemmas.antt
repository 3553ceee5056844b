-- What is lent does as what is behind it.
use Rattle.std.proofs.Common.{◌≡◌, List, [], ◌∷◌, MutBor, ap, subst, ◌∙◌, ℕ, ℤ}
use Rattle.blot_session.specs.declared.state.State.{State}
use Rattle.blot_gateway.specs.declared.{ended.Ended.Ended, parties.Parties.Parties}
use Rattle.blot_gateway.specs.Serving.{Served, parties}
use Rattle.blot_gateway.specs.Wires.{Did, Notice, StepByStep}

-- one step of what is behind a reference, which stays the same one
abbrev pub Lent : {S E : Type 0} → (S → E → S → Type 0) → MutBor S → E → MutBor S → Type 0
Lent does before event after = does before.now event after.now × (after.ghost_name ≡ before.ghost_name)

pub steps-behind : {S E : Type 0} (does : S → E → S → Type 0) (before after : MutBor S) (events : List E) → StepByStep (Lent does) before events after → StepByStep does before.now events after.now
steps-behind does before after [] same = ap (λ it. it.now) same
steps-behind does before after (event ∷ events) steps = (steps.0.now, steps.1.0, steps-behind does steps.0 after events steps.2)

pub same-behind : {S E : Type 0} (does : S → E → S → Type 0) (before after : MutBor S) (events : List E) → StepByStep (Lent does) before events after → after.ghost_name ≡ before.ghost_name
same-behind does before after [] same = ap (λ it. it.ghost_name) same
same-behind does before after (event ∷ events) steps = same-behind does steps.0 after events steps.2 ∙ steps.1.1

-- so what is served over lent ones is served over those behind them
pub served-behind : {W C S : Type 0} (does : W → Did → W → Type 0) (ticks : C → ℤ → C → Type 0) (takes : S → Notice → S → Type 0) (most : ℕ) (end : Ended)
    (before after : Parties (MutBor W) (MutBor C) (MutBor S)) (unread : List ℕ) → Served (Lent does) (Lent ticks) (Lent takes) most end before unread after
    → Served does ticks takes most end (parties before.wire.now before.clock.now before.sink.now before.session) unread (parties after.wire.now after.clock.now after.sink.now after.session)
served-behind does ticks takes most end before after unread served =
    let within = served.within in
    let ends = within.ends in
    let happens = ends.happens in
    record {
      last = served.last;
      within = record {
        reads = within.reads;
        few = within.few;
        long = within.long;
        ends = record {
          calls = ends.calls;
          dids = ends.dids;
          notices = ends.notices;
          left = ends.left;
          happens = record {
            session = happens.session;
            served = happens.served;
            met = happens.met;
            clock = steps-behind ticks before.clock after.clock _ happens.clock;
            sink = steps-behind takes before.sink after.sink _ happens.sink;
            told = happens.told;
            wire = steps-behind does before.wire after.wire _ happens.wire;
          };
          in_turn = ends.in_turn;
          handed = ends.handed;
          stops = ends.stops;
          cause = ends.cause;
        };
      };
      closed = served.closed;
    }

-- and over what a session and the references are known to be
pub served-lent : {W C S : Type 0} (does : W → Did → W → Type 0) (ticks : C → ℤ → C → Type 0) (takes : S → Notice → S → Type 0) (most : ℕ) (end : Ended)
    (before after : Parties (MutBor W) (MutBor C) (MutBor S)) (unread : List ℕ) (session : State) (wire : W) (clock : C) (sink : S)
    → before.session ≡ session → after.wire.now ≡ wire → after.clock.now ≡ clock → after.sink.now ≡ sink → Served (Lent does) (Lent ticks) (Lent takes) most end before unread after
    → Served does ticks takes most end (parties before.wire.now before.clock.now before.sink.now session) unread (parties wire clock sink after.session)
served-lent does ticks takes most end before after unread session wire clock sink is_session is_wire is_clock is_sink served =
    subst (λ it. Served does ticks takes most end (parties before.wire.now before.clock.now before.sink.now it) unread (parties wire clock sink after.session)) is_session
    (subst (λ it. Served does ticks takes most end (parties before.wire.now before.clock.now before.sink.now before.session) unread (parties wire clock it after.session)) is_sink
    (subst (λ it. Served does ticks takes most end (parties before.wire.now before.clock.now before.sink.now before.session) unread (parties wire it after.sink.now after.session)) is_clock
    (subst (λ it. Served does ticks takes most end (parties before.wire.now before.clock.now before.sink.now before.session) unread (parties it after.clock.now after.sink.now after.session)) is_wire
    (served-behind does ticks takes most end before after unread served))))
