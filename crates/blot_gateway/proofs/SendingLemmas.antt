-- What is written, piece by piece.
use Rattle.std.proofs.Common.{◌≡◌, ℕ, ◌+◌, get_or, ◌<◌, List, [], ◌∷◌, ◌++◌, length, take, drop, refl, sym, ap, subst, ◌∙◌, arith, length-append, append_assoc, flat_map, take-add, append-nil, take-append-drop, length-drop}
use Rattle.std.proofs.lemmas.List.{take_more, at_drop_more}
use Rattle.std.proofs.lemmas.List.Concat.{flat_map-append}
use Rattle.blot_session.specs.declared.action.Action.{Action}
use Rattle.blot_session.specs.Runs.{bytes_of}
use Rattle.blot_gateway.specs.Wires.{Did, StepByStep, read_in, taken_in, reads_of, written_of}
use Rattle.blot_gateway.specs.Wires.Did.{Took, Refused}
use Rattle.blot_gateway.specs.Sending.{Writes, WritesFront}

-- ---- steps

-- one after the other
pub steps-on : {S E : Type 0} (does : S → E → S → Type 0) (first second : List E) (a b c : S) → StepByStep does a first b → StepByStep does b second c → StepByStep does a (first ++ second) c
steps-on does [] second a b c one two = subst (λ start. StepByStep does start second c) one two
steps-on does (event ∷ first) second a b c one two = (one.0, one.1, steps-on does first second one.0 b c one.2 two)

-- a single one
pub steps-one : {S E : Type 0} (does : S → E → S → Type 0) (event : E) (a b : S) → does a event b → StepByStep does a (event ∷ []) b
steps-one does event a b step = (b, step, refl)

-- ---- what is written

pub writes-took : {W : Type 0} (does : W → Did → W → Type 0) (text : List ℕ) (a b : W) → does a (Took text) b → Writes does a text b
writes-took does text a b step = record { dids = Took text ∷ []; steps = steps-one does (Took text) a b step; read = refl; written = append-nil text }

pub writes-refused : {W : Type 0} (does : W → Did → W → Type 0) (a b : W) → does a Refused b → Writes does a [] b
writes-refused does a b step = record { dids = Refused ∷ []; steps = steps-one does Refused a b step; read = refl; written = refl }

pub writes-on : {W : Type 0} (does : W → Did → W → Type 0) (first second : List ℕ) (a b c : W) → Writes does a first b → Writes does b second c → Writes does a (first ++ second) c
writes-on does first second a b c one two =
    record {
      dids = one.dids ++ two.dids;
      steps = steps-on does one.dids two.dids a b c one.steps two.steps;
      read = flat_map-append read_in one.dids two.dids ∙ ap (λ front. front ++ reads_of two.dids) one.read ∙ two.read;
      written = flat_map-append taken_in one.dids two.dids ∙ ap (λ front. front ++ written_of two.dids) one.written ∙ ap (λ back. first ++ back) two.written;
    }

pub front-on : {W : Type 0} (does : W → Did → W → Type 0) (first second : List ℕ) (a b c : W) → Writes does a first b → WritesFront does b second c → WritesFront does a (first ++ second) c
front-on does first second a b c one two =
    record {
      front = first ++ two.front;
      writes = writes-on does first two.front a b c one two.writes;
      is_front = record {
        back = two.is_front.back;
        joined = append_assoc first two.front two.is_front.back ∙ ap (λ rest. first ++ rest) two.is_front.joined;
        short = two.is_front.short;
      };
    }

pub front-before : {W : Type 0} (does : W → Did → W → Type 0) (first more : List ℕ) (a b : W) → WritesFront does a first b → WritesFront does a (first ++ more) b
front-before does first more a b front =
    record {
      front = front.front;
      writes = front.writes;
      is_front = record {
        back = front.is_front.back ++ more;
        joined = sym (append_assoc front.front front.is_front.back more) ∙ ap (λ text. text ++ more) front.is_front.joined;
        short = omega (arith, length-append front.is_front.back more, front.is_front.short);
      };
    }

-- ---- a text, piece by piece

pub writes-piece : {W : Type 0} (does : W → Did → W → Type 0) (text rest : List ℕ) (written count : ℕ) (a b c : W) → rest ≡ drop written text
    → Writes does a (take written text) b → Writes does b (take count rest) c → Writes does a (take (written + count) text) c
writes-piece does text rest written count a b c left one two =
    subst (λ whole. Writes does a whole c) (sym (take-add written count text))
    (writes-on does (take written text) (take count (drop written text)) a b c one (subst (λ left. Writes does b (take count left) c) left two))

pub front-piece : {W : Type 0} (does : W → Did → W → Type 0) (text : List ℕ) (written : ℕ) (a b c : W) → written < length text
    → Writes does a (take written text) b → Writes does b [] c → WritesFront does a text c
front-piece does text written a b c short one two =
    record {
      front = take written text;
      writes = subst (λ front. Writes does a front c) (append-nil (take written text)) (writes-on does (take written text) [] a b c one two);
      is_front = record { back = drop written text; joined = take-append-drop written text; short = omega (arith, length-drop written text) };
    }

-- ---- the actions, one by one

pub writes-action : {W : Type 0} (does : W → Did → W → Type 0) (actions : List Action) (index : ℕ) (action : Action) (a b c : W) → index < length actions → action ≡ get_or actions index action
    → Writes does a (flat_map bytes_of (take index actions)) b → Writes does b (bytes_of action) c → Writes does a (flat_map bytes_of (take (index + 1) actions)) c
writes-action does actions index action a b c within is one two =
    let more : take (index + 1) actions ≡ take index actions ++ action ∷ [] =
    take_more actions index action within ∙ ap (λ (last : Action). take index actions ++ last ∷ []) (sym is) in
    let all : flat_map bytes_of (take (index + 1) actions) ≡ flat_map bytes_of (take index actions) ++ bytes_of action =
    ap (flat_map bytes_of) more ∙ flat_map-append bytes_of (take index actions) (action ∷ []) ∙ ap (λ back. flat_map bytes_of (take index actions) ++ back) (append-nil (bytes_of action)) in
    subst (λ text. Writes does a text c) (sym all) (writes-on does (flat_map bytes_of (take index actions)) (bytes_of action) a b c one two)

pub front-action : {W : Type 0} (does : W → Did → W → Type 0) (actions : List Action) (index : ℕ) (action : Action) (a b c : W) → index < length actions → action ≡ get_or actions index action
    → Writes does a (flat_map bytes_of (take index actions)) b → WritesFront does b (bytes_of action) c → WritesFront does a (flat_map bytes_of actions) c
front-action does actions index action a b c within is one two =
    let rest = flat_map bytes_of (drop (index + 1) actions) in
    let here : drop index actions ≡ action ∷ drop (index + 1) actions =
    at_drop_more (λ left. left) actions index action within ∙ ap (λ (first : Action). first ∷ drop (index + 1) actions) (sym is) in
    let all : flat_map bytes_of (take index actions) ++ (bytes_of action ++ rest) ≡ flat_map bytes_of actions =
    ap (λ left. flat_map bytes_of (take index actions) ++ flat_map bytes_of left) (sym here)
    ∙ sym (flat_map-append bytes_of (take index actions) (drop index actions)) ∙ ap (flat_map bytes_of) (take-append-drop index actions) in
    subst (λ text. WritesFront does a text c) all
    (front-on does (flat_map bytes_of (take index actions)) (bytes_of action ++ rest) a b c one (front-before does (bytes_of action) rest b c two))
