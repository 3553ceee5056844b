-- The reads up to the first message.
use Rattle.std.proofs.Common.{◌≡◌, ℕ, ◌+◌, ◌≤◌, List, [], ◌∷◌, ◌++◌, length, map, Option, Some, None, Err, refl, sym, ap, subst, ◌∙◌, inl, inr, length-append, slice_get, append-nil}
use Rattle.std.proofs.lemmas.List.{map-append}
use Rattle.blot_tag.specs.Walking.{frames_of, rest_of}
use Rattle.blot_tag.proofs.WalkLemmas.{walk_of-append}
use Rattle.blot_gateway.specs.declared.ended.Ended.{Ended}
use Rattle.blot_gateway.specs.declared.ended.Ended.TheVariants as ended
use Rattle.blot_gateway.specs.Wires.{Read, Did, StepByStep}
use Rattle.blot_gateway.specs.Wires.Did.{Gave}
use Rattle.blot_gateway.specs.Wires.Read.{AtEnd, Failed}
use Rattle.blot_gateway.specs.Serving.{EndsWith}
use Rattle.blot_gateway.specs.Greeting.{AwaitsFrame, Feeds, FeedsLast, Greeted, HoldsReads, bytes_in, fed, bytes_held}
use Rattle.blot_gateway.proofs.SendingLemmas.{steps-on, steps-one}

held-on : (unread : List ℕ) (reads : List Read) (read : Read) → bytes_held unread (reads ++ read ∷ []) ≡ rest_of (bytes_held unread reads) ++ bytes_in read
held-on unread [] read = refl
held-on unread (first ∷ reads) read = held-on (rest_of unread ++ bytes_in first) reads read

awaits-on : (unread : List ℕ) (reads : List Read) (read : Read) → AwaitsFrame unread reads → frames_of (fed unread reads) ≡ [] → AwaitsFrame unread (reads ++ read ∷ [])
awaits-on unread [] read awaits none = (none, tt)
awaits-on unread (first ∷ reads) read awaits none = (awaits.0, awaits-on (unread ++ bytes_in first) reads read awaits.1 none)

-- ---- what was passed over makes no frame

frames-behind : (text piece : List ℕ) → frames_of text ≡ [] → frames_of (text ++ piece) ≡ frames_of (rest_of text ++ piece)
frames-behind text piece none = ap (λ walk. walk.frames) (walk_of-append text piece) ∙ ap (λ front. front ++ frames_of (rest_of text ++ piece)) none

rest-behind : (text piece : List ℕ) → rest_of (text ++ piece) ≡ rest_of (rest_of text ++ piece)
rest-behind text piece = ap (λ walk. walk.rest) (walk_of-append text piece)

held-frames : (some all : List ℕ) (reads : List Read) → frames_of some ≡ frames_of all → rest_of some ≡ rest_of all → AwaitsFrame all reads
    → frames_of (bytes_held some reads) ≡ frames_of (fed all reads)
held-frames some all [] frames rest awaits = frames
held-frames some all (read ∷ reads) frames rest awaits =
    let bytes = bytes_in read in
    held-frames (rest_of some ++ bytes) (all ++ bytes) reads
    (ap (λ text. frames_of (text ++ bytes)) rest ∙ sym (frames-behind all bytes awaits.0))
    (ap (λ text. rest_of (text ++ bytes)) rest ∙ sym (rest-behind all bytes))
    awaits.1

holds-by : (unread left : List ℕ) (reads : List Read) → AwaitsFrame unread reads → left ≡ bytes_held unread reads → HoldsReads unread reads left
holds-by unread left reads awaits is = record { bytes = is; frames = ap frames_of is ∙ held-frames unread unread reads refl refl awaits }

-- so many reads, before each of which no frame stood there
pub record Reads {W : Type 0} (does : W → Did → W → Type 0) (before : W) (unread : List ℕ) (count : ℕ) (after : W) (left : List ℕ) : Type 0 where
  pub reads : List Read
  pub many : length reads ≡ count
  pub steps : StepByStep does before (map Gave reads) after
  pub awaits : AwaitsFrame unread reads
  pub holds : HoldsReads unread reads left

steps-more : {W : Type 0} (does : W → Did → W → Type 0) (a b c : W) (reads : List Read) (read : Read) → StepByStep does a (map Gave reads) b → does b (Gave read) c
    → StepByStep does a (map Gave (reads ++ read ∷ [])) c
steps-more does a b c reads read steps gave =
    subst (λ dids. StepByStep does a dids c) (sym (map-append Gave reads (read ∷ []))) (steps-on does (map Gave reads) (Gave read ∷ []) a b c steps (steps-one does (Gave read) b c gave))

-- and no frame stands there now
awaits-more : {W : Type 0} (does : W → Did → W → Type 0) (a b : W) (unread left : List ℕ) (count : ℕ) (read : Read) (one : Reads does a unread count b left)
    → frames_of left ≡ [] → AwaitsFrame unread (one.reads ++ read ∷ [])
awaits-more does a b unread left count read one none = awaits-on unread one.reads read one.awaits (sym one.holds.frames ∙ none)

pub reads-more : {W : Type 0} (does : W → Did → W → Type 0) (a b c : W) (unread left middle next : List ℕ) (count : ℕ) → middle ≡ rest_of left
    → Reads does a unread count b left → frames_of left ≡ [] → Feeds does b middle c next → Reads does a unread (count + 1) c next
reads-more does a b c unread left middle next count same one none feeds =
    let reads = one.reads ++ feeds.read ∷ [] in
    let awaits = awaits-more does a b unread left count feeds.read one none in
    record {
      reads = reads;
      many = length-append one.reads (feeds.read ∷ []) ∙ ap (λ k. k + 1) one.many;
      steps = steps-more does a b c one.reads feeds.read one.steps feeds.gave;
      awaits = awaits;
      holds = holds-by unread next reads awaits
          (feeds.holds ∙ ap (λ text. text ++ bytes_in feeds.read) (same ∙ ap rest_of one.holds.bytes) ∙ sym (held-on unread one.reads feeds.read));
    }

-- ---- the answers

with-last : (last read : Read) (reads : List Read) → read ≡ last → EndsWith last (reads ++ read ∷ [])
with-last last read reads is = record { earlier = reads; joined = ap (λ (found : Read). reads ++ found ∷ []) is }

nothing-more : (unread : List ℕ) (reads : List Read) (read last : Read) → read ≡ last → bytes_in last ≡ [] → bytes_held unread (reads ++ read ∷ []) ≡ rest_of (bytes_held unread reads)
nothing-more unread reads read last is none =
    held-on unread reads read ∙ ap (λ bytes. rest_of (bytes_held unread reads) ++ bytes) (ap bytes_in is ∙ none) ∙ append-nil (rest_of (bytes_held unread reads))

few-more : {W : Type 0} (does : W → Did → W → Type 0) (a b : W) (unread left : List ℕ) (count : ℕ) (read : Read) (most : ℕ) (one : Reads does a unread count b left)
    → count + 1 ≤ most → length (one.reads ++ read ∷ []) ≤ most
few-more does a b unread left count read most one within =
    subst (λ n. n ≤ most) (sym (length-append one.reads (read ∷ []) ∙ ap (λ k. k + 1) one.many)) within

pub greets-last : {W : Type 0} (does : W → Did → W → Type 0) (own : List ℕ) (most : ℕ) (end : Ended) (a b c : W) (unread left middle next : List ℕ) (count : ℕ) → middle ≡ rest_of left
    → Reads does a unread count b left → frames_of left ≡ [] → FeedsLast does b middle c next end → count + 1 ≤ most → Greeted does own most (Err end) a unread c next
greets-last does own most ended.End a b c unread left middle next count same one none feeds within =
    let reads = one.reads ++ feeds.read ∷ [] in
    let awaits = awaits-more does a b unread left count feeds.read one none in
    record {
      reads = reads;
      few = few-more does a b unread left count feeds.read most one within;
      steps = steps-more does a b c one.reads feeds.read one.steps feeds.gave;
      awaits = awaits;
      holds = inl (holds-by unread next reads awaits
          (feeds.holds ∙ same ∙ ap rest_of one.holds.bytes ∙ sym (nothing-more unread one.reads feeds.read AtEnd feeds.ends refl)));
      greets = with-last AtEnd feeds.read one.reads feeds.ends;
    }
greets-last does own most ended.ReadFault a b c unread left middle next count same one none feeds within =
    let reads = one.reads ++ feeds.read ∷ [] in
    let awaits = awaits-more does a b unread left count feeds.read one none in
    record {
      reads = reads;
      few = few-more does a b unread left count feeds.read most one within;
      steps = steps-more does a b c one.reads feeds.read one.steps feeds.gave;
      awaits = awaits;
      holds = inl (holds-by unread next reads awaits
          (feeds.holds ∙ same ∙ ap rest_of one.holds.bytes ∙ sym (nothing-more unread one.reads feeds.read Failed feeds.ends refl)));
      greets = with-last Failed feeds.read one.reads feeds.ends;
    }
greets-last does own most ended.NoMemory a b c unread left middle next count same one none feeds within =
    record {
      reads = one.reads ++ feeds.read ∷ [];
      few = few-more does a b unread left count feeds.read most one within;
      steps = steps-more does a b c one.reads feeds.read one.steps feeds.gave;
      awaits = awaits-more does a b unread left count feeds.read one none;
      holds = inr refl;
      greets = tt;
    }
greets-last does own most (ended.Closed reason) a b c unread left middle next count same one none feeds within = absurd feeds.ends
greets-last does own most ended.WriteFault a b c unread left middle next count same one none feeds within = absurd feeds.ends
greets-last does own most ended.NoGreeting a b c unread left middle next count same one none feeds within = absurd feeds.ends
greets-last does own most ended.TooLong a b c unread left middle next count same one none feeds within = absurd feeds.ends

-- ---- no first frame

pub nothing-first : (texts : List (List ℕ)) (first : Option (List ℕ)) → first ≡ slice_get texts 0 → first ≡ None → texts ≡ []
nothing-first [] first is none = refl
nothing-first (text ∷ texts) first is none = absurd (some-none (sym is ∙ none))
  where
    some-none : Some text ≡ None → ⊥
    some-none found = cc
