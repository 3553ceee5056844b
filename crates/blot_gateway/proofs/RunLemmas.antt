-- A call, and what it comes to.
use Rattle.std.proofs.Common.{◌≡◌, ℕ, Bool, true, false, List, [], ◌∷◌, ◌++◌, map, Option, Some, None, refl, sym, ap, subst, ◌∙◌, inl, inr, ℤ, option_to_list, flat_map, append-nil}
use Rattle.std.proofs.lemmas.List.{map-append}
use Rattle.std.proofs.lemmas.List.Concat.{flat_map-append}
use Rattle.blot_types.specs.declared.command.Command.{Command}
use Rattle.blot_session.specs.declared.state.State.{State}
use Rattle.blot_session.specs.Runs.{Call, DeliversJust, Meets, outcome, bytes_of, delivered_by, delivered_of, sent_of}
use Rattle.blot_session.specs.Runs.Call.{Frame, Reply, Tick}
use Rattle.blot_session.specs.States.{IsIdle, IsAwaiting}
use Rattle.blot_gateway.specs.declared.{ended.Ended.Ended, ended.Stop.Stop, wire.Heard.Heard, parties.Parties.Parties}
use Rattle.blot_gateway.specs.declared.ended.Ended.TheVariants as ended
use Rattle.blot_gateway.specs.declared.ended.Stop.TheVariants as stops
use Rattle.blot_gateway.specs.Endings.{ended_by}
use Rattle.blot_gateway.specs.Hearing.{word_in, word_of}
use Rattle.blot_gateway.specs.Wires.{Read, Did, Answered, Notice, StepByStep, command_in, commands_of, reads_of, written_of}
use Rattle.blot_gateway.specs.Wires.Notice.{Handed}
use Rattle.blot_gateway.specs.Wires.Did.{Gave}
use Rattle.blot_gateway.specs.Wires.Read.{AtEnd, Failed}
use Rattle.blot_gateway.specs.Serving.{Due, EndsWith, parties, Happens, InTurn, Runs, Ends, GoesOn, HasLast, Stops, Cause, IsFront, Wrote, close_in, due_by, moment_by, is_served, has_memory, seen_reply, noticed_by, noticed_in, texts_of, written_in}
use Rattle.blot_gateway.specs.Serving.Due.{Fed, Came, Passed}
use Rattle.blot_gateway.specs.Serving.Turn.{Reads, Calls}
use Rattle.blot_gateway.specs.Sending.{Called, StopsAt, Halted, Comes, Submitted, SubmittedLast}
use Rattle.blot_gateway.proofs.SendingLemmas.{steps-one}
use Rattle.blot_gateway.proofs.CallLemmas.{goes-on, goes-nowhere, happens-on, in-turn-on, appended, stops-behind, wrote-behind}

-- ---- a single call

-- a call that is served: what is due by it, and what the sink gets in it
pub record IsCall (call : ℤ → Bool → Call) (state : State) (due : List Due) (handed : List Command) (notices : ℤ → Bool → List Notice) : Type 0 where
  pub moment : (now : ℤ) (memory : Bool) → moment_by (call now memory) ≡ now ∷ []
  pub due_is : (now : ℤ) (memory : Bool) → due_by (call now memory) ≡ due
  pub told : (now : ℤ) (memory : Bool) → map noticed_by (notices now memory) ≡ noticed_in state (call now memory)
  pub handed_is : (now : ℤ) (memory : Bool) → commands_of (notices now memory) ≡ handed
  pub served : (now : ℤ) (memory : Bool) → is_served (call now memory) ≡ true
  pub memory_is : (now : ℤ) (memory : Bool) → has_memory (call now memory) ≡ memory
  pub meets : (now : ℤ) (memory : Bool) → Meets state (call now memory)
  pub nothing : (now : ℤ) → (outcome state (call now false)).actions ≡ []

no-command : (text : List ℕ) (heard : Option Heard) → commands_of (word_of text heard) ≡ []
no-command text None = refl
no-command text (Some heard) = refl

no-command-in : (text : List ℕ) (state : State) (now : ℤ) (memory : Bool) → commands_of (word_in state (Frame text now memory)) ≡ []
no-command-in text state now true = no-command text _
no-command-in text state now false = refl

pub frame-call : (text : List ℕ) (state : State) → IsIdle state → IsCall (Frame text) state (Came text ∷ []) [] (λ now memory. word_in state (Frame text now memory))
frame-call text state idle =
    record { moment = λ _ _. refl; due_is = λ _ _. refl; told = λ _ _. refl; handed_is = no-command-in text state; served = λ _ _. refl; memory_is = λ _ _. refl; meets = λ _ _. idle; nothing = λ _. refl }

pub tick-call : (state : State) → IsIdle state → IsCall Tick state (Passed ∷ []) [] (λ _ _. [])
tick-call state idle =
    record { moment = λ _ _. refl; due_is = λ _ _. refl; told = λ _ _. refl; handed_is = λ _ _. refl; served = λ _ _. refl; memory_is = λ _ _. refl; meets = λ _ _. idle; nothing = λ _. refl }

pub reply-call : (answered : Answered) (state : State) → IsAwaiting state
    → IsCall (Reply (seen_reply answered.answer)) state [] (answered.command ∷ []) (λ _ _. Handed answered ∷ [])
reply-call answered state awaiting =
    record { moment = λ _ _. refl; due_is = λ _ _. refl; told = λ _ _. refl; handed_is = λ _ _. refl; served = λ _ _. refl; memory_is = λ _ _. refl; meets = λ _ _. awaiting; nothing = λ _. refl }

happens-one : {W C S : Type 0} (does : W → Did → W → Type 0) (ticks : C → ℤ → C → Type 0) (takes : S → Notice → S → Type 0)
    (call : ℤ → Bool → Call) (now : ℤ) (memory : Bool) (a b : Parties W C S) (due : List Due) (handed : List Command) (notices : ℤ → Bool → List Notice) (dids : List Did)
    → IsCall call a.session due handed notices → b.session ≡ (outcome a.session (call now memory)).state → ticks a.clock now b.clock
    → StepByStep takes a.sink (notices now memory) b.sink → StepByStep does a.wire dids b.wire
    → Happens does ticks takes a (call now memory ∷ []) dids (notices now memory) b
happens-one does ticks takes call now memory a b due handed notices dids is led ticked taken steps =
    record {
      session = led;
      served = rw (is.served now memory) refl;
      met = (is.meets now memory, tt);
      clock = subst (λ moments. StepByStep ticks a.clock moments b.clock) (sym (append-nil (moment_by (call now memory)) ∙ is.moment now memory)) (steps-one ticks now a.clock b.clock ticked);
      sink = taken;
      told = is.told now memory ∙ sym (append-nil (noticed_in a.session (call now memory)));
      wire = steps;
    }

sent-one : (state : State) (call : Call) → sent_of state (call ∷ []) ≡ flat_map bytes_of (outcome state call).actions
sent-one state call = ap (flat_map bytes_of) (append-nil (outcome state call).actions)

-- a turn with this call, after which the wire did this
in-turn-one : (wrote : List (List ℕ) → List (List ℕ) → Type 0) (state : State) (call : Call) (dids : List Did) (due more : List Due) → due_by call ≡ due → reads_of dids ≡ []
    → wrote (written_of dids ∷ []) (sent_of state (call ∷ []) ∷ []) → InTurn wrote state (call ∷ []) dids (due ++ more) [] more
in-turn-one wrote state call dids due more is apart written =
    record {
      turns = Calls call dids ∷ [];
      called = refl;
      did = append-nil dids;
      done = ap (λ front. front ++ more) (append-nil (due_by call) ∙ is);
      read = apart;
      apart = append-nil (reads_of dids) ∙ apart;
      written = written;
    }

-- all that it sends is written
all-one : (state : State) (call : Call) (dids : List Did) → written_of dids ≡ flat_map bytes_of (outcome state call).actions → written_of dids ∷ [] ≡ sent_of state (call ∷ []) ∷ []
all-one state call dids is = ap (λ text. text ∷ []) (is ∙ sym (sent-one state call))

goes-one : (state : State) (call : Call) → close_in (outcome state call).actions ≡ None → has_memory call ≡ true → GoesOn state (call ∷ [])
goes-one state call stays memory = record { stays = ap close_in (append-nil (outcome state call).actions) ∙ stays; memory = rw memory refl }

commands-one : (state : State) (call : Call) (command : Option Command) → DeliversJust command (outcome state call).actions
    → map (λ numbered. numbered.command) (delivered_of state (call ∷ [])) ≡ option_to_list command
commands-one state call command delivers =
    ap (map (λ numbered. numbered.command)) (append-nil (delivered_by state.expected (outcome state call).actions)) ∙ delivers state.expected

pub runs-one : {W C S : Type 0} (does : W → Did → W → Type 0) (ticks : C → ℤ → C → Type 0) (takes : S → Notice → S → Type 0)
    (call : ℤ → Bool → Call) (a b : Parties W C S) (due more : List Due) (notices : ℤ → Bool → List Notice)
    → IsCall call a.session due [] notices → (called : Called does ticks None call a.wire a.clock a.session b.wire b.clock b.session)
    → StepByStep takes a.sink (notices called.now true) b.sink → Runs does ticks takes a (due ++ more) [] more b
runs-one does ticks takes call a b due more notices is called taken =
    let made = call called.now true in
    record {
      calls = made ∷ [];
      dids = called.writes.dids;
      notices = notices called.now true;
      happens = happens-one does ticks takes call called.now true a b due [] notices called.writes.dids is called.session called.ticked taken called.writes.steps;
      in_turn = in-turn-one (λ written sent. written ≡ sent) a.session made called.writes.dids due more (is.due_is called.now true) called.writes.read
          (all-one a.session made called.writes.dids called.writes.written);
      handed = is.handed_is called.now true ∙ sym (commands-one a.session made None called.delivers);
      goes_on = goes-one a.session made called.stays (is.memory_is called.now true);
    }

-- ---- the last call

-- what the wire did when a call stopped the session
pub record Broke {W : Type 0} (does : W → Did → W → Type 0) (stop : Stop) (before : W) (state : State) (call : Call) (after : W) : Type 0 where
  pub dids : List Did
  pub steps : StepByStep does before dids after
  pub read : reads_of dids ≡ []
  pub written : Wrote (ended_by stop) (written_of dids ∷ []) (sent_of state (call ∷ []) ∷ [])
  pub stops : Stops (ended_by stop) state (call ∷ [])

until-one : (state : State) (call : Call) → HasLast state (call ∷ [])
until-one state call = record { earlier = []; last = call; joined = refl; goes_on = goes-nowhere state }

broke : {W : Type 0} (does : W → Did → W → Type 0) (stop : Stop) (before : W) (state : State) (call : Call) (memory : Bool) (after : W) → has_memory call ≡ memory
    → (memory ≡ false → (outcome state call).actions ≡ []) → StopsAt does stop before (outcome state call).actions memory after → Broke does stop before state call after
unfolding until-one
broke does (stops.Closed reason) before state call memory after has nothing halts =
    let writes = halts.1.0 in
    record {
      dids = writes.dids;
      steps = writes.steps;
      read = writes.read;
      written = all-one state call writes.dids writes.written;
      stops = record { until = until-one state call; memory = has ∙ halts.0; closes = ap close_in (append-nil (outcome state call).actions) ∙ halts.1.1 };
    }
broke does stops.WriteFault before state call memory after has nothing halts =
    let front = halts.1 in
    record {
      dids = front.writes.dids;
      steps = front.writes.steps;
      read = front.writes.read;
      written = record {
        earlier = [];
        front = written_of front.writes.dids;
        last = sent_of state (call ∷ []);
        written_is = refl;
        sent_is = refl;
        is_front = subst (λ text. IsFront text (sent_of state (call ∷ []))) (sym front.writes.written)
            (subst (λ sent. IsFront front.front sent) (sym (sent-one state call)) front.is_front);
      };
      stops = record { until = until-one state call; memory = has ∙ halts.0 };
    }
broke does stops.NoMemory before state call memory after has nothing halts =
    record {
      dids = [];
      steps = halts.1;
      read = refl;
      written = all-one state call [] (sym (ap (flat_map bytes_of) (nothing halts.0)));
      stops = inr (record { until = until-one state call; memory = has ∙ halts.0 });
    }

pub no-cause : (stop : Stop) (reads : List Read) (left : List Due) → Cause (ended_by stop) reads left
no-cause (stops.Closed reason) reads left = tt
no-cause stops.WriteFault reads left = tt
no-cause stops.NoMemory reads left = tt

nothing-then : (call : ℤ → Bool → Call) (state : State) (due : List Due) (handed : List Command) (notices : ℤ → Bool → List Notice) (now : ℤ) (memory : Bool) → IsCall call state due handed notices
    → memory ≡ false → (outcome state (call now memory)).actions ≡ []
nothing-then call state due handed notices now memory is none = ap (λ given. (outcome state (call now given)).actions) none ∙ is.nothing now

halted-broke : {W C : Type 0} (does : W → Did → W → Type 0) (ticks : C → ℤ → C → Type 0) (stop : Stop) (call : ℤ → Bool → Call) (before : W) (clock : C) (state : State) (after : W) (clock_after : C) (next : State)
    (due : List Due) (handed : List Command) (notices : ℤ → Bool → List Notice) → IsCall call state due handed notices
    → (halted : Halted does ticks call before clock state after clock_after next stop) → Broke does stop before state (call halted.now halted.memory) after
halted-broke does ticks stop call before clock state after clock_after next due handed notices is halted =
    broke does stop before state (call halted.now halted.memory) halted.memory after (is.memory_is halted.now halted.memory)
    (nothing-then call state due handed notices halted.now halted.memory is) halted.halts

pub ends-one : {W C S : Type 0} (does : W → Did → W → Type 0) (ticks : C → ℤ → C → Type 0) (takes : S → Notice → S → Type 0)
    (stop : Stop) (call : ℤ → Bool → Call) (a b : Parties W C S) (due more : List Due) (notices : ℤ → Bool → List Notice)
    → IsCall call a.session due [] notices → (halted : Halted does ticks call a.wire a.clock a.session b.wire b.clock b.session stop)
    → StepByStep takes a.sink (notices halted.now halted.memory) b.sink → Ends does ticks takes (ended_by stop) a (due ++ more) [] b
ends-one does ticks takes stop call a b due more notices is halted taken =
    let made = call halted.now halted.memory in
    let broken = halted-broke does ticks stop call a.wire a.clock a.session b.wire b.clock b.session due [] notices is halted in
    record {
      calls = made ∷ [];
      dids = broken.dids;
      notices = notices halted.now halted.memory;
      left = more;
      happens = happens-one does ticks takes call halted.now halted.memory a b due [] notices broken.dids is halted.session halted.ticked taken broken.steps;
      in_turn = in-turn-one (Wrote (ended_by stop)) a.session made broken.dids due more (is.due_is halted.now halted.memory) broken.read broken.written;
      handed = is.handed_is halted.now halted.memory ∙ sym (commands-one a.session made None halted.delivers);
      stops = broken.stops;
      cause = no-cause stop [] more;
    }

-- ---- a frame that delivers a command, and the reply

handed-pair : (text : List ℕ) (answered : Answered) (now : ℤ) (state next : State) (reply : Call) → next ≡ (outcome state (Frame text now true)).state
    → DeliversJust (Some answered.command) (outcome state (Frame text now true)).actions → DeliversJust None (outcome next reply).actions
    → commands_of (word_in state (Frame text now true) ++ Handed answered ∷ []) ≡ map (λ numbered. numbered.command) (delivered_of state (Frame text now true ∷ reply ∷ []))
handed-pair text answered now state next reply led one two =
    let call = Frame text now true in
    flat_map-append command_in (word_in state call) (Handed answered ∷ []) ∙ ap (λ front. front ++ answered.command ∷ []) (no-command-in text state now true)
    ∙ sym (map-append (λ numbered. numbered.command) (delivered_by state.expected (outcome state call).actions) (delivered_of (outcome state call).state (reply ∷ []))
    ∙ appended (one state.expected)
    (ap (λ (before : State). map (λ numbered. numbered.command) (delivered_of before (reply ∷ []))) (sym led) ∙ commands-one next reply None two))

pub runs-pair : {W C S : Type 0} (does : W → Did → W → Type 0) (ticks : C → ℤ → C → Type 0) (takes : S → Notice → S → Type 0)
    (command : Command) (text : List ℕ) (a b c : Parties W C S) (more : List Due) → IsIdle a.session → IsAwaiting b.session
    → Comes does ticks takes (Some command) text a b → Submitted does ticks takes command b c → Runs does ticks takes a (Came text ∷ more) [] more c
runs-pair does ticks takes command text a b c more idle awaiting comes submitted =
    let called = comes.called in
    let reply = submitted.called in
    let answered : Answered = record { command = command; answer = submitted.answer } in
    let is = frame-call text a.session idle in
    let told = reply-call answered b.session awaiting in
    let one = Frame text called.now true in
    let two = Reply (seen_reply submitted.answer) reply.now true in
    record {
      calls = one ∷ two ∷ [];
      dids = called.writes.dids ++ reply.writes.dids;
      notices = word_in a.session one ++ Handed answered ∷ [];
      happens = happens-on does ticks takes a b c (one ∷ []) (two ∷ []) called.writes.dids reply.writes.dids (word_in a.session one) (Handed answered ∷ [])
          (happens-one does ticks takes (Frame text) called.now true a b (Came text ∷ []) [] _ called.writes.dids is called.session called.ticked comes.heard called.writes.steps)
          (happens-one does ticks takes (Reply (seen_reply submitted.answer)) reply.now true b c [] (command ∷ []) _ reply.writes.dids told reply.session reply.ticked
          (steps-one takes (Handed answered) b.sink c.sink submitted.taken) reply.writes.steps);
      in_turn = in-turn-on (λ written sent. written ≡ sent) a.session b.session (one ∷ []) (two ∷ []) called.writes.dids reply.writes.dids (Came text ∷ more) more more [] []
          (λ _ _ _ _ first second. appended first second) called.session
          (in-turn-one (λ written sent. written ≡ sent) a.session one called.writes.dids (Came text ∷ []) more refl called.writes.read
          (all-one a.session one called.writes.dids called.writes.written))
          (in-turn-one (λ written sent. written ≡ sent) b.session two reply.writes.dids [] more refl reply.writes.read (all-one b.session two reply.writes.dids reply.writes.written));
      handed = handed-pair text answered called.now a.session b.session two called.session called.delivers reply.delivers;
      goes_on = goes-on (one ∷ []) (two ∷ []) a.session (goes-one a.session one called.stays refl)
          (subst (λ (before : State). GoesOn before (two ∷ [])) called.session (goes-one b.session two reply.stays refl));
    }

pub ends-pair : {W C S : Type 0} (does : W → Did → W → Type 0) (ticks : C → ℤ → C → Type 0) (takes : S → Notice → S → Type 0)
    (stop : Stop) (command : Command) (text : List ℕ) (a b c : Parties W C S) (more : List Due) → IsIdle a.session → IsAwaiting b.session
    → Comes does ticks takes (Some command) text a b → SubmittedLast does ticks takes command b c stop → Ends does ticks takes (ended_by stop) a (Came text ∷ more) [] c
ends-pair does ticks takes stop command text a b c more idle awaiting comes submitted =
    let called = comes.called in
    let reply = submitted.halted in
    let answered : Answered = record { command = command; answer = submitted.answer } in
    let is = frame-call text a.session idle in
    let told = reply-call answered b.session awaiting in
    let one = Frame text called.now true in
    let two = Reply (seen_reply submitted.answer) reply.now reply.memory in
    let broken = halted-broke does ticks stop (Reply (seen_reply submitted.answer)) b.wire b.clock b.session c.wire c.clock c.session [] (command ∷ []) _ told reply in
    let goes = goes-one a.session one called.stays refl in
    record {
      calls = one ∷ two ∷ [];
      dids = called.writes.dids ++ broken.dids;
      notices = word_in a.session one ++ Handed answered ∷ [];
      left = more;
      happens = happens-on does ticks takes a b c (one ∷ []) (two ∷ []) called.writes.dids broken.dids (word_in a.session one) (Handed answered ∷ [])
          (happens-one does ticks takes (Frame text) called.now true a b (Came text ∷ []) [] _ called.writes.dids is called.session called.ticked comes.heard called.writes.steps)
          (happens-one does ticks takes (Reply (seen_reply submitted.answer)) reply.now reply.memory b c [] (command ∷ []) _ broken.dids told reply.session reply.ticked
          (steps-one takes (Handed answered) b.sink c.sink submitted.taken) broken.steps);
      in_turn = in-turn-on (Wrote (ended_by stop)) a.session b.session (one ∷ []) (two ∷ []) called.writes.dids broken.dids (Came text ∷ more) more more [] []
          (wrote-behind (ended_by stop)) called.session
          (in-turn-one (λ written sent. written ≡ sent) a.session one called.writes.dids (Came text ∷ []) more refl called.writes.read
          (all-one a.session one called.writes.dids called.writes.written))
          (in-turn-one (Wrote (ended_by stop)) b.session two broken.dids [] more refl broken.read broken.written);
      handed = handed-pair text answered called.now a.session b.session two called.session called.delivers reply.delivers;
      stops = stops-behind (ended_by stop) (one ∷ []) (two ∷ []) a.session goes (subst (λ (before : State). Stops (ended_by stop) before (two ∷ [])) called.session broken.stops);
      cause = no-cause stop [] more;
    }

-- ---- no call

-- a read is made
pub runs-read : {W C S : Type 0} (does : W → Did → W → Type 0) (ticks : C → ℤ → C → Type 0) (takes : S → Notice → S → Type 0)
    (read : Read) (a : Parties W C S) (due : List Due) (wire : W) → does a.wire (Gave read) wire → Runs does ticks takes a (Fed read ∷ due) (read ∷ []) due (parties wire a.clock a.sink a.session)
runs-read does ticks takes read a due wire step =
    record {
      calls = [];
      dids = Gave read ∷ [];
      notices = [];
      happens = record { session = refl; served = refl; met = tt; clock = refl; sink = refl; told = refl; wire = steps-one does (Gave read) a.wire wire step };
      in_turn = record { turns = Reads read ∷ []; called = refl; did = refl; done = refl; read = refl; apart = refl; written = refl };
      handed = refl;
      goes_on = goes-nowhere a.session;
    }

pub runs-nowhere : {W C S : Type 0} (does : W → Did → W → Type 0) (ticks : C → ℤ → C → Type 0) (takes : S → Notice → S → Type 0)
    (a : Parties W C S) (due : List Due) → Runs does ticks takes a due [] due a
runs-nowhere does ticks takes a due =
    record {
      calls = [];
      dids = [];
      notices = [];
      happens = record { session = refl; served = refl; met = tt; clock = refl; sink = refl; told = refl; wire = refl };
      in_turn = record { turns = []; called = refl; did = refl; done = refl; read = refl; apart = refl; written = refl };
      handed = refl;
      goes_on = goes-nowhere a.session;
    }

-- where no write failed, all is written
in-turn-all : (wrote : List (List ℕ) → List (List ℕ) → Type 0) (state : State) (calls : List Call) (dids : List Did) (due : List Due) (reads : List Read) (left : List Due)
    → ((written sent : List (List ℕ)) → written ≡ sent → wrote written sent) → InTurn (λ written sent. written ≡ sent) state calls dids due reads left → InTurn wrote state calls dids due reads left
in-turn-all wrote state calls dids due reads left all in_turn =
    record {
      turns = in_turn.turns;
      called = in_turn.called;
      did = in_turn.did;
      done = in_turn.done;
      read = in_turn.read;
      apart = in_turn.apart;
      written = all (flat_map written_in in_turn.turns) (texts_of state calls) in_turn.written;
    }

-- memory runs out between two calls
pub ends-there : {W C S : Type 0} (does : W → Did → W → Type 0) (ticks : C → ℤ → C → Type 0) (takes : S → Notice → S → Type 0)
    (a b : Parties W C S) (due left : List Due) (reads : List Read) → Runs does ticks takes a due reads left b → Ends does ticks takes ended.NoMemory a due reads b
ends-there does ticks takes a b due left reads run =
    record {
      calls = run.calls;
      dids = run.dids;
      notices = run.notices;
      left = left;
      happens = run.happens;
      in_turn = in-turn-all (Wrote ended.NoMemory) a.session run.calls run.dids due reads left (λ _ _ is. is) run.in_turn;
      handed = run.handed;
      stops = inl run.goes_on;
      cause = tt;
    }

-- the wire ended, or failed, or was read too often, and nothing is left to do
pub data ByWire : Ended → List Read → Type 0 where
  at_end : (reads : List Read) → EndsWith AtEnd reads → ByWire ended.End reads
  failed : (reads : List Read) → EndsWith Failed reads → ByWire ended.ReadFault reads
  too_long : (reads : List Read) → ByWire ended.TooLong reads

pub ends-by-wire : {W C S : Type 0} (does : W → Did → W → Type 0) (ticks : C → ℤ → C → Type 0) (takes : S → Notice → S → Type 0)
    (end : Ended) (a b : Parties W C S) (due : List Due) (reads : List Read) → ByWire end reads → Runs does ticks takes a due reads [] b → Ends does ticks takes end a due reads b
ends-by-wire does ticks takes end a b due reads (at_end given with_end) run =
    record {
      calls = run.calls;
      dids = run.dids;
      notices = run.notices;
      left = [];
      happens = run.happens;
      in_turn = in-turn-all (Wrote ended.End) a.session run.calls run.dids due reads [] (λ _ _ is. is) run.in_turn;
      handed = run.handed;
      stops = run.goes_on;
      cause = (with_end, refl);
    }
ends-by-wire does ticks takes end a b due reads (failed given with_end) run =
    record {
      calls = run.calls;
      dids = run.dids;
      notices = run.notices;
      left = [];
      happens = run.happens;
      in_turn = in-turn-all (Wrote ended.ReadFault) a.session run.calls run.dids due reads [] (λ _ _ is. is) run.in_turn;
      handed = run.handed;
      stops = run.goes_on;
      cause = (with_end, refl);
    }
ends-by-wire does ticks takes end a b due reads (too_long given) run =
    record {
      calls = run.calls;
      dids = run.dids;
      notices = run.notices;
      left = [];
      happens = run.happens;
      in_turn = in-turn-all (Wrote ended.TooLong) a.session run.calls run.dids due reads [] (λ _ _ is. is) run.in_turn;
      handed = run.handed;
      stops = run.goes_on;
      cause = refl;
    }
