-- Calls, one after the other.
use Rattle.std.proofs.Common.{◌≡◌, ℕ, List, [], ◌∷◌, ◌++◌, map, None, refl, sym, ap, subst, ◌∙◌, inl, inr, append_assoc, ℤ, flat_map}
use Rattle.std.specs.List.{list_all}
use Rattle.std.proofs.lemmas.Bool.{and_from}
use Rattle.std.proofs.lemmas.List.{map-append}
use Rattle.std.proofs.lemmas.List.Concat.{flat_map-append}
use Rattle.std.proofs.lemmas.List.Folds.{list_all-append}
use Rattle.blot_session.specs.declared.{action.Action.Action, state.State.State}
use Rattle.blot_session.specs.declared.action.Action.TheVariants.{Send, Deliver, Close}
use Rattle.blot_session.specs.Runs.{Call, AreMet, outcome, actions_of, behind_calls, delivered_by, delivered_of, sent_of}
use Rattle.blot_gateway.specs.declared.{ended.Ended.Ended, parties.Parties.Parties}
use Rattle.blot_gateway.specs.declared.ended.Ended.TheVariants as ended
use Rattle.blot_gateway.specs.Wires.{Read, Did, Notice, StepByStep, command_in, commands_of, read_in}
use Rattle.blot_gateway.specs.Serving.{Due, Turn, Happens, InTurn, Runs, Ends, GoesOn, HasLast, Stops, EndsWith, Cause, Wrote, call_in, did_in, due_in, reads_behind, written_in, texts_of, close_in, closed_by, moment_by, moments_of, is_served, has_memory, noticed_by, noticed_in, noticed_of}
use Rattle.blot_gateway.proofs.SendingLemmas.{steps-on}

pub appended : {A : Type 0} {a b c d : List A} → a ≡ b → c ≡ d → a ++ c ≡ b ++ d
appended one two = cc

-- ---- what the session does

pub behind-on : (first second : List Call) (state : State) → behind_calls state (first ++ second) ≡ behind_calls (behind_calls state first) second
behind-on [] second state = refl
behind-on (call ∷ first) second state = behind-on first second (outcome state call).state

pub actions-on : (first second : List Call) (state : State) → actions_of state (first ++ second) ≡ actions_of state first ++ actions_of (behind_calls state first) second
actions-on [] second state = refl
actions-on (call ∷ first) second state =
    let here = (outcome state call).actions in
    ap (λ rest. here ++ rest) (actions-on first second (outcome state call).state) ∙ sym (append_assoc here _ _)

pub texts-on : (first second : List Call) (state : State) → texts_of state (first ++ second) ≡ texts_of state first ++ texts_of (behind_calls state first) second
texts-on [] second state = refl
texts-on (call ∷ first) second state = ap (λ rest. sent_of state (call ∷ []) ∷ rest) (texts-on first second (outcome state call).state)

pub delivered-on : (first second : List Call) (state : State) → delivered_of state (first ++ second) ≡ delivered_of state first ++ delivered_of (behind_calls state first) second
delivered-on [] second state = refl
delivered-on (call ∷ first) second state =
    let here = delivered_by state.expected (outcome state call).actions in
    ap (λ rest. here ++ rest) (delivered-on first second (outcome state call).state) ∙ sym (append_assoc here _ _)

told-on : (first second : List Call) (state : State) → noticed_of state (first ++ second) ≡ noticed_of state first ++ noticed_of (behind_calls state first) second
told-on [] second state = refl
told-on (call ∷ first) second state =
    let here = noticed_in state call in
    ap (λ rest. here ++ rest) (told-on first second (outcome state call).state) ∙ sym (append_assoc here _ _)

pub met-on : (first second : List Call) (state : State) → AreMet state first → AreMet (behind_calls state first) second → AreMet state (first ++ second)
met-on [] second state one two = two
met-on (call ∷ first) second state one two = (one.0, met-on first second (outcome state call).state one.1 two)

-- ---- calls that go on

pub close-on : (first second : List Action) → close_in first ≡ None → close_in (first ++ second) ≡ close_in second
close-on [] second none = refl
close-on (Send bytes ∷ first) second none = close-on first second none
close-on (Deliver command ∷ first) second none = close-on first second none
close-on (Close reason ∷ first) second none = absurd cc

pub goes-on : (first second : List Call) (state : State) → GoesOn state first → GoesOn (behind_calls state first) second → GoesOn state (first ++ second)
goes-on first second state one two =
    record {
      stays = ap close_in (actions-on first second state) ∙ close-on (actions_of state first) (actions_of (behind_calls state first) second) one.stays ∙ two.stays;
      memory = list_all-append has_memory first second ∙ and_from (list_all has_memory first) (list_all has_memory second) one.memory two.memory;
    }

pub goes-nowhere : (state : State) → GoesOn state []
goes-nowhere state = record { stays = refl; memory = refl }

-- ---- calls that end

abbrev last-behind : (first second : List Call) (state : State) → GoesOn state first → HasLast (behind_calls state first) second → HasLast state (first ++ second)
last-behind first second state one two =
    record {
      earlier = first ++ two.earlier;
      last = two.last;
      joined = ap (λ rest. first ++ rest) two.joined ∙ sym (append_assoc first two.earlier (two.last ∷ []));
      goes_on = goes-on first two.earlier state one two.goes_on;
    }

pub stops-behind : (end : Ended) (first second : List Call) (state : State) → GoesOn state first → Stops end (behind_calls state first) second → Stops end state (first ++ second)
stops-behind (ended.Closed reason) first second state one two =
    record {
      until = last-behind first second state one two.until;
      memory = two.memory;
      closes = ap (λ (before : State). closed_by before (two.until.last ∷ [])) (behind-on first two.until.earlier state) ∙ two.closes;
    }
stops-behind ended.WriteFault first second state one two = record { until = last-behind first second state one two.until; memory = two.memory }
stops-behind ended.NoMemory first second state one (inl two) = inl (goes-on first second state one two)
stops-behind ended.NoMemory first second state one (inr two) = inr (record { until = last-behind first second state one two.until; memory = two.memory })
stops-behind ended.End first second state one two = goes-on first second state one two
stops-behind ended.ReadFault first second state one two = goes-on first second state one two
stops-behind ended.TooLong first second state one two = goes-on first second state one two
stops-behind ended.NoGreeting first second state one two = goes-on first second state one two

pub wrote-behind : (end : Ended) (first sent_first second sent_second : List (List ℕ)) → first ≡ sent_first → Wrote end second sent_second → Wrote end (first ++ second) (sent_first ++ sent_second)
wrote-behind ended.WriteFault first sent_first second sent_second one two =
    record {
      earlier = sent_first ++ two.earlier;
      front = two.front;
      last = two.last;
      written_is = appended one two.written_is ∙ sym (append_assoc sent_first two.earlier (two.front ∷ []));
      sent_is = ap (λ rest. sent_first ++ rest) two.sent_is ∙ sym (append_assoc sent_first two.earlier (two.last ∷ []));
      is_front = two.is_front;
    }
wrote-behind (ended.Closed reason) first sent_first second sent_second one two = appended one two
wrote-behind ended.NoMemory first sent_first second sent_second one two = appended one two
wrote-behind ended.End first sent_first second sent_second one two = appended one two
wrote-behind ended.ReadFault first sent_first second sent_second one two = appended one two
wrote-behind ended.TooLong first sent_first second sent_second one two = appended one two
wrote-behind ended.NoGreeting first sent_first second sent_second one two = appended one two

with-behind : (read : Read) (first second : List Read) → EndsWith read second → EndsWith read (first ++ second)
with-behind read first second two =
    record { earlier = first ++ two.earlier; joined = ap (λ rest. first ++ rest) two.joined ∙ sym (append_assoc first two.earlier (read ∷ [])) }

pub cause-behind : (end : Ended) (first second : List Read) (left : List Due) → Cause end second left → Cause end (first ++ second) left
cause-behind ended.End first second left two = (with-behind _ first second two.0, two.1)
cause-behind ended.ReadFault first second left two = (with-behind _ first second two.0, two.1)
cause-behind ended.TooLong first second left two = two
cause-behind (ended.Closed reason) first second left two = tt
cause-behind ended.WriteFault first second left two = tt
cause-behind ended.NoMemory first second left two = tt
cause-behind ended.NoGreeting first second left two = tt

-- ---- what happens

pub happens-on : {W C S : Type 0} (does : W → Did → W → Type 0) (ticks : C → ℤ → C → Type 0) (takes : S → Notice → S → Type 0)
    (a b c : Parties W C S) (calls calls_b : List Call) (dids dids_b : List Did) (notices notices_b : List Notice)
    → Happens does ticks takes a calls dids notices b → Happens does ticks takes b calls_b dids_b notices_b c
    → Happens does ticks takes a (calls ++ calls_b) (dids ++ dids_b) (notices ++ notices_b) c
happens-on does ticks takes a b c calls calls_b dids dids_b notices notices_b one two =
    record {
      session = two.session ∙ ap (λ (state : State). behind_calls state calls_b) one.session ∙ sym (behind-on calls calls_b a.session);
      served = list_all-append is_served calls calls_b ∙ and_from (list_all is_served calls) (list_all is_served calls_b) one.served two.served;
      met = met-on calls calls_b a.session one.met (subst (λ state. AreMet state calls_b) one.session two.met);
      clock = subst (λ moments. StepByStep ticks a.clock moments c.clock) (sym (flat_map-append moment_by calls calls_b))
          (steps-on ticks (moments_of calls) (moments_of calls_b) a.clock b.clock c.clock one.clock two.clock);
      sink = steps-on takes notices notices_b a.sink b.sink c.sink one.sink two.sink;
      told = map-append noticed_by notices notices_b ∙ appended one.told (two.told ∙ ap (λ (state : State). noticed_of state calls_b) one.session) ∙ sym (told-on calls calls_b a.session);
      wire = steps-on does dids dids_b a.wire b.wire c.wire one.wire two.wire;
    }

pub handed-on : (notices notices_b : List Notice) (calls calls_b : List Call) (state next : State) → next ≡ behind_calls state calls
    → commands_of notices ≡ map (λ numbered. numbered.command) (delivered_of state calls)
    → commands_of notices_b ≡ map (λ numbered. numbered.command) (delivered_of next calls_b)
    → commands_of (notices ++ notices_b) ≡ map (λ numbered. numbered.command) (delivered_of state (calls ++ calls_b))
handed-on notices notices_b calls calls_b state next led one two =
    flat_map-append command_in notices notices_b
    ∙ appended one (two ∙ ap (λ (before : State). map (λ numbered. numbered.command) (delivered_of before calls_b)) led)
    ∙ sym (map-append (λ numbered. numbered.command) (delivered_of state calls) (delivered_of (behind_calls state calls) calls_b))
    ∙ ap (map (λ numbered. numbered.command)) (sym (delivered-on calls calls_b state))

-- ---- turns

done-on : (turns turns_b : List Turn) (due left rest : List Due) → flat_map due_in turns ++ left ≡ due → flat_map due_in turns_b ++ rest ≡ left → flat_map due_in (turns ++ turns_b) ++ rest ≡ due
done-on turns turns_b due left rest one two =
    ap (λ front. front ++ rest) (flat_map-append due_in turns turns_b) ∙ append_assoc (flat_map due_in turns) (flat_map due_in turns_b) rest
    ∙ ap (λ back. flat_map due_in turns ++ back) two ∙ one

pub in-turn-on : (wrote : List (List ℕ) → List (List ℕ) → Type 0) (state next : State) (calls calls_b : List Call) (dids dids_b : List Did)
    (due left rest : List Due) (reads reads_b : List Read)
    → ((first sent_first second sent_second : List (List ℕ)) → first ≡ sent_first → wrote second sent_second → wrote (first ++ second) (sent_first ++ sent_second))
    → next ≡ behind_calls state calls → InTurn (λ written sent. written ≡ sent) state calls dids due reads left → InTurn wrote next calls_b dids_b left reads_b rest
    → InTurn wrote state (calls ++ calls_b) (dids ++ dids_b) due (reads ++ reads_b) rest
in-turn-on wrote state next calls calls_b dids dids_b due left rest reads reads_b behind led one two =
    let first = flat_map written_in one.turns in
    let second = flat_map written_in two.turns in
    record {
      turns = one.turns ++ two.turns;
      called = flat_map-append call_in one.turns two.turns ∙ appended one.called two.called;
      did = flat_map-append did_in one.turns two.turns ∙ appended one.did two.did;
      done = done-on one.turns two.turns due left rest one.done two.done;
      read = flat_map-append read_in dids dids_b ∙ appended one.read two.read;
      apart = flat_map-append reads_behind one.turns two.turns ∙ appended one.apart two.apart;
      written = subst (λ found. wrote found (texts_of state (calls ++ calls_b))) (sym (flat_map-append written_in one.turns two.turns))
          (subst (λ sent. wrote (first ++ second) sent) (sym (texts-on calls calls_b state))
          (behind first (texts_of state calls) second (texts_of (behind_calls state calls) calls_b) one.written
          (subst (λ (before : State). wrote second (texts_of before calls_b)) led two.written)));
    }

-- ---- calls in turn

pub runs-on : {W C S : Type 0} (does : W → Did → W → Type 0) (ticks : C → ℤ → C → Type 0) (takes : S → Notice → S → Type 0)
    (a b c : Parties W C S) (due left rest : List Due) (reads reads_b : List Read)
    → Runs does ticks takes a due reads left b → Runs does ticks takes b left reads_b rest c → Runs does ticks takes a due (reads ++ reads_b) rest c
runs-on does ticks takes a b c due left rest reads reads_b one two =
    record {
      calls = one.calls ++ two.calls;
      dids = one.dids ++ two.dids;
      notices = one.notices ++ two.notices;
      happens = happens-on does ticks takes a b c one.calls two.calls one.dids two.dids one.notices two.notices one.happens two.happens;
      in_turn = in-turn-on (λ written sent. written ≡ sent) a.session b.session one.calls two.calls one.dids two.dids due left rest reads reads_b
          (λ _ _ _ _ first second. appended first second) one.happens.session one.in_turn two.in_turn;
      handed = handed-on one.notices two.notices one.calls two.calls a.session b.session one.happens.session one.handed two.handed;
      goes_on = goes-on one.calls two.calls a.session one.goes_on (subst (λ state. GoesOn state two.calls) one.happens.session two.goes_on);
    }

pub ends-behind : {W C S : Type 0} (does : W → Did → W → Type 0) (ticks : C → ℤ → C → Type 0) (takes : S → Notice → S → Type 0)
    (end : Ended) (a b c : Parties W C S) (due left : List Due) (reads reads_b : List Read)
    → Runs does ticks takes a due reads left b → Ends does ticks takes end b left reads_b c → Ends does ticks takes end a due (reads ++ reads_b) c
ends-behind does ticks takes end a b c due left reads reads_b one two =
    record {
      calls = one.calls ++ two.calls;
      dids = one.dids ++ two.dids;
      notices = one.notices ++ two.notices;
      left = two.left;
      happens = happens-on does ticks takes a b c one.calls two.calls one.dids two.dids one.notices two.notices one.happens two.happens;
      in_turn = in-turn-on (Wrote end) a.session b.session one.calls two.calls one.dids two.dids due left two.left reads reads_b (wrote-behind end)
          one.happens.session one.in_turn two.in_turn;
      handed = handed-on one.notices two.notices one.calls two.calls a.session b.session one.happens.session one.handed two.handed;
      stops = stops-behind end one.calls two.calls a.session one.goes_on (subst (λ state. Stops end state two.calls) one.happens.session two.stops);
      cause = cause-behind end reads reads_b two.left two.cause;
    }
