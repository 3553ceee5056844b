-- What is due by the reads of a wire, done read by read.
use Rattle.std.proofs.Common.{◌≡◌, ℕ, ◌+◌, ◌-◌, ◌^◌, ◌<◌, ◌≤◌, ◌⊎◌, inl, inr, List, [], ◌∷◌, ◌++◌, length, map, None, refl, sym, ap, subst, ◌∙◌, append_assoc, length-append, arith, ℤ, ◌≢◌, append-nil}
use Rattle.blot_tag.specs.Reading.{Reading, TakesFirst, FindsNone}
use Rattle.blot_tag.specs.Walking.{frames_of, rest_of}
use Rattle.blot_session.specs.declared.state.State.{State}
use Rattle.blot_session.specs.Runs.Call.{Tick}
use Rattle.blot_session.specs.States.{IsIdle}
use Rattle.blot_gateway.specs.declared.{ended.Ended.Ended, ended.Stop.Stop, parties.Parties.Parties}
use Rattle.blot_gateway.specs.declared.ended.Ended.TheVariants as ended
use Rattle.blot_gateway.specs.declared.ended.Stop.TheVariants as stops
use Rattle.blot_gateway.specs.Endings.{ended_by}
use Rattle.blot_gateway.specs.Wires.{Read, Did, Notice, Counts}
use Rattle.blot_gateway.specs.Wires.Read.{AtEnd, Failed}
use Rattle.blot_gateway.specs.Wires.Did.{Gave}
use Rattle.blot_gateway.specs.Progress.{Handles}
use Rattle.blot_gateway.specs.Serving.{Due, parties, Runs, Ends, EndsWithin, IsCounted, due_behind, due_fed, due_of}
use Rattle.blot_gateway.specs.Serving.Due.{Fed, Came, Passed}
use Rattle.blot_gateway.specs.Sending.{Called, Halted}
use Rattle.blot_gateway.proofs.CallLemmas.{runs-on, ends-behind}
use Rattle.blot_gateway.proofs.RunLemmas.{tick-call, runs-one, ends-one, runs-read, runs-nowhere, ends-there, ends-by-wire}
use Rattle.blot_gateway.proofs.RunLemmas.ByWire.{at_end, failed, too_long}

-- ---- frames

frames-first : (old new : Reading) (text : List ℕ) → TakesFirst old text new → frames_of old.unread ≡ text ∷ frames_of new.unread
frames-first old new text takes = ap (λ walk. walk.frames) takes.walk

pub rest-first : (old new : Reading) (text : List ℕ) → TakesFirst old text new → rest_of old.unread ≡ rest_of new.unread
rest-first old new text takes = ap (λ walk. walk.rest) takes.walk

pub frames-none : (old new : Reading) → FindsNone old new → frames_of old.unread ≡ []
frames-none old new none = ap (λ walk. walk.frames) none.walk

-- what is left after a frame
abbrev pub left_in : Reading → List Due → List Due
left_in reading more = map Came (frames_of reading.unread) ++ more

left-first : (old new : Reading) (text : List ℕ) (more : List Due) → TakesFirst old text new → left_in old more ≡ Came text ∷ left_in new more
left-first old new text more takes = ap (λ texts. map Came texts ++ more) (frames-first old new text takes)

pub runs-frame : {W C S : Type 0} (does : W → Did → W → Type 0) (ticks : C → ℤ → C → Type 0) (takes : S → Notice → S → Type 0)
    (a b c : Parties W C S) (due more : List Due) (old new : Reading) (text : List ℕ) → TakesFirst old text new
    → Runs does ticks takes a due [] (left_in old more) b → Runs does ticks takes b (Came text ∷ left_in new more) [] (left_in new more) c
    → Runs does ticks takes a due [] (left_in new more) c
runs-frame does ticks takes a b c due more old new text first one two =
    runs-on does ticks takes a b c due (Came text ∷ left_in new more) (left_in new more) [] []
    (subst (λ left. Runs does ticks takes a due [] left b) (left-first old new text more first) one) two

pub ends-frame : {W C S : Type 0} (does : W → Did → W → Type 0) (ticks : C → ℤ → C → Type 0) (takes : S → Notice → S → Type 0)
    (end : Ended) (a b c : Parties W C S) (due more : List Due) (old new : Reading) (text : List ℕ) → TakesFirst old text new
    → Runs does ticks takes a due [] (left_in old more) b → Ends does ticks takes end b (Came text ∷ left_in new more) [] c
    → Ends does ticks takes end a due [] c
ends-frame does ticks takes end a b c due more old new text first one two =
    ends-behind does ticks takes end a b c due (Came text ∷ left_in new more) [] []
    (subst (λ left. Runs does ticks takes a due [] left b) (left-first old new text more first) one) two

-- ---- a moment after the frames

pub runs-fed : {W C S : Type 0} (does : W → Did → W → Type 0) (ticks : C → ℤ → C → Type 0) (takes : S → Notice → S → Type 0)
    (a b : Parties W C S) (unread rest : List ℕ) (more : List Read) (wire : W) (clock : C) (state : State) → rest ≡ rest_of unread → IsIdle b.session
    → Runs does ticks takes a (due_fed unread more) [] (Passed ∷ due_behind (rest_of unread) more) b → Called does ticks None Tick b.wire b.clock b.session wire clock state
    → Runs does ticks takes a (due_fed unread more) [] (due_behind rest more) (parties wire clock b.sink state)
runs-fed does ticks takes a b unread rest more wire clock state left idle one called =
    subst (λ text. Runs does ticks takes a (due_fed unread more) [] (due_behind text more) (parties wire clock b.sink state)) (sym left)
    (runs-on does ticks takes a b (parties wire clock b.sink state) (due_fed unread more) (Passed ∷ due_behind (rest_of unread) more) (due_behind (rest_of unread) more) [] [] one
    (runs-one does ticks takes Tick b (parties wire clock b.sink state) (Passed ∷ []) (due_behind (rest_of unread) more) (λ _ _. []) (tick-call b.session idle) called refl))

pub ends-fed : {W C S : Type 0} (does : W → Did → W → Type 0) (ticks : C → ℤ → C → Type 0) (takes : S → Notice → S → Type 0)
    (stop : Stop) (a b : Parties W C S) (unread : List ℕ) (more : List Read) (wire : W) (clock : C) (state : State) → IsIdle b.session
    → Runs does ticks takes a (due_fed unread more) [] (Passed ∷ due_behind (rest_of unread) more) b → Halted does ticks Tick b.wire b.clock b.session wire clock state stop
    → Ends does ticks takes (ended_by stop) a (due_fed unread more) [] (parties wire clock b.sink state)
ends-fed does ticks takes stop a b unread more wire clock state idle one halted =
    ends-behind does ticks takes (ended_by stop) a b (parties wire clock b.sink state) (due_fed unread more) (Passed ∷ due_behind (rest_of unread) more) [] [] one
    (ends-one does ticks takes stop Tick b (parties wire clock b.sink state) (Passed ∷ []) (due_behind (rest_of unread) more) (λ _ _. []) (tick-call b.session idle) halted refl)

-- ---- one read

pub ended-short : (stop : Stop) → ended_by stop ≢ ended.TooLong
ended-short (stops.Closed reason) is = absurd cc
ended-short stops.WriteFault is = absurd cc
ended-short stops.NoMemory is = absurd cc

pub counts-behind : (before mid after : ℕ) → before ≤ mid → Counts mid after → Counts before after
counts-behind before mid after one two = record {
  kept = (let kept = two.kept in omega (arith, one, kept));
  more = more two.more;
}
  where
    more : (mid < after) ⊎ (2 ^ 64 - 1 ≤ after) → (before < after) ⊎ (2 ^ 64 - 1 ≤ after)
    more (inl rises) = inl (omega (arith, one, rises))
    more (inr full) = inr full

pub counted-behind : (end : Ended) (before mid after : ℕ) → before ≤ mid → IsCounted mid after end → IsCounted before after end
counted-behind (ended.Closed reason) before mid after one two = omega (arith, one, two)
counted-behind ended.End before mid after one two = omega (arith, one, two)
counted-behind ended.ReadFault before mid after one two = counts-behind before mid after one two
counted-behind ended.WriteFault before mid after one two = counts-behind before mid after one two
counted-behind ended.TooLong before mid after one two = omega (arith, one, two)
counted-behind ended.NoMemory before mid after one two = omega (arith, one, two)
counted-behind ended.NoGreeting before mid after one two = omega (arith, one, two)

-- a read, and then what is due by it
pub runs-behind-read : {W C S : Type 0} (does : W → Did → W → Type 0) (ticks : C → ℤ → C → Type 0) (takes : S → Notice → S → Type 0)
    (read : Read) (a b : Parties W C S) (due left : List Due) (wire : W) → does a.wire (Gave read) wire
    → Runs does ticks takes (parties wire a.clock a.sink a.session) due [] left b → Runs does ticks takes a (Fed read ∷ due) (read ∷ []) left b
runs-behind-read does ticks takes read a b due left wire step run =
    runs-on does ticks takes a (parties wire a.clock a.sink a.session) b (Fed read ∷ due) due left (read ∷ []) [] (runs-read does ticks takes read a due wire step) run

pub ends-behind-read : {W C S : Type 0} (does : W → Did → W → Type 0) (ticks : C → ℤ → C → Type 0) (takes : S → Notice → S → Type 0)
    (stop : Stop) (read : Read) (a b : Parties W C S) (due : List Due) (wire : W) → does a.wire (Gave read) wire
    → Ends does ticks takes (ended_by stop) (parties wire a.clock a.sink a.session) due [] b → Ends does ticks takes (ended_by stop) a (Fed read ∷ due) (read ∷ []) b
ends-behind-read does ticks takes stop read a b due wire step ends =
    ends-behind does ticks takes (ended_by stop) a (parties wire a.clock a.sink a.session) b (Fed read ∷ due) due (read ∷ []) []
    (runs-read does ticks takes read a due wire step) ends

-- the wire's end, and its failure
pub ends-at-end : {W C S : Type 0} (does : W → Did → W → Type 0) (ticks : C → ℤ → C → Type 0) (takes : S → Notice → S → Type 0)
    (a : Parties W C S) (wire : W) → does a.wire (Gave AtEnd) wire → Ends does ticks takes ended.End a (Fed AtEnd ∷ []) (AtEnd ∷ []) (parties wire a.clock a.sink a.session)
ends-at-end does ticks takes a wire step =
    ends-by-wire does ticks takes ended.End a (parties wire a.clock a.sink a.session) (Fed AtEnd ∷ []) (AtEnd ∷ []) (at_end (AtEnd ∷ []) (record { earlier = []; joined = refl }))
    (runs-read does ticks takes AtEnd a [] wire step)

pub ends-failed : {W C S : Type 0} (does : W → Did → W → Type 0) (ticks : C → ℤ → C → Type 0) (takes : S → Notice → S → Type 0)
    (a : Parties W C S) (wire : W) → does a.wire (Gave Failed) wire → Ends does ticks takes ended.ReadFault a (Fed Failed ∷ []) (Failed ∷ []) (parties wire a.clock a.sink a.session)
ends-failed does ticks takes a wire step =
    ends-by-wire does ticks takes ended.ReadFault a (parties wire a.clock a.sink a.session) (Fed Failed ∷ []) (Failed ∷ []) (failed (Failed ∷ []) (record { earlier = []; joined = refl }))
    (runs-read does ticks takes Failed a [] wire step)

-- ---- all reads

-- so many reads, and what is due by them is done
pub record Serves {W C S : Type 0} (does : W → Did → W → Type 0) (ticks : C → ℤ → C → Type 0) (takes : S → Notice → S → Type 0)
    (a : Parties W C S) (unread : List ℕ) (count : ℕ) (b : Parties W C S) (rest : List ℕ) : Type 0 where
  pub reads : List Read
  pub many : length reads ≡ count
  pub runs : (more : List Read) → Runs does ticks takes a (due_behind unread (reads ++ more)) reads (due_behind rest more) b

pub serves-none : {W C S : Type 0} (does : W → Did → W → Type 0) (ticks : C → ℤ → C → Type 0) (takes : S → Notice → S → Type 0)
    (a : Parties W C S) (unread : List ℕ) → Serves does ticks takes a unread 0 a unread
serves-none does ticks takes a unread = record { reads = []; many = refl; runs = λ more. runs-nowhere does ticks takes a (due_behind unread more) }

pub serves-more : {W C S : Type 0} (does : W → Did → W → Type 0) (ticks : C → ℤ → C → Type 0) (takes : S → Notice → S → Type 0)
    (a b c : Parties W C S) (unread rest left : List ℕ) (count : ℕ) (read : Read) → Serves does ticks takes a unread count b rest
    → ((more : List Read) → Runs does ticks takes b (due_behind rest (read ∷ more)) (read ∷ []) (due_behind left more) c) → Serves does ticks takes a unread (count + 1) c left
serves-more does ticks takes a b c unread rest left count read one two =
    record {
      reads = one.reads ++ read ∷ [];
      many = length-append one.reads (read ∷ []) ∙ ap (λ k. k + 1) one.many;
      runs = λ more.
          subst (λ reads. Runs does ticks takes a (due_behind unread reads) (one.reads ++ read ∷ []) (due_behind left more) c) (sym (append_assoc one.reads (read ∷ []) more))
          (runs-on does ticks takes a b c (due_behind unread (one.reads ++ (read ∷ more))) (due_behind rest (read ∷ more)) (due_behind left more) one.reads (read ∷ [])
          (one.runs (read ∷ more)) (two more));
    }

-- the end of the reads
pub serves-end : {W C S : Type 0} (does : W → Did → W → Type 0) (ticks : C → ℤ → C → Type 0) (takes : S → Notice → S → Type 0)
    (most : ℕ) (end : Ended) (a b c : Parties W C S) (unread rest : List ℕ) (count : ℕ) (read : Read) → count < most → end ≢ ended.TooLong → Serves does ticks takes a unread count b rest
    → ((more : List Read) → Ends does ticks takes end b (due_behind rest (read ∷ more)) (read ∷ []) c) → EndsWithin does ticks takes most end a (due_behind unread) c
serves-end does ticks takes most end a b c unread rest count read within short one two =
    record {
      reads = one.reads ++ read ∷ [];
      few = omega (arith, within, one.many, length-append one.reads (read ∷ []));
      long = λ is. absurd (short is);
      ends = ends-behind does ticks takes end a b c (due_behind unread (one.reads ++ read ∷ [])) (due_behind rest (read ∷ [])) one.reads (read ∷ [])
          (one.runs (read ∷ [])) (two []);
    }

pub serves-long : {W C S : Type 0} (does : W → Did → W → Type 0) (ticks : C → ℤ → C → Type 0) (takes : S → Notice → S → Type 0)
    (most : ℕ) (a b : Parties W C S) (unread rest : List ℕ) → Serves does ticks takes a unread most b rest
    → EndsWithin does ticks takes most ended.TooLong a (due_behind unread) b
serves-long does ticks takes most a b unread rest one =
    record {
      reads = one.reads;
      few = omega (arith, one.many);
      long = λ is. one.many;
      ends = ends-by-wire does ticks takes ended.TooLong a b (due_behind unread one.reads) one.reads (too_long one.reads)
          (subst (λ reads. Runs does ticks takes a (due_behind unread reads) one.reads [] b) (append-nil one.reads) (one.runs []));
    }

pub ends-no-memory : {W C S : Type 0} (does : W → Did → W → Type 0) (ticks : C → ℤ → C → Type 0) (takes : S → Notice → S → Type 0)
    (most : ℕ) (a : Parties W C S) (unread : List ℕ) → EndsWithin does ticks takes most ended.NoMemory a (due_behind unread) a
ends-no-memory does ticks takes most a unread =
    record { reads = []; few = omega arith; long = λ is. absurd cc; ends = ends-there does ticks takes a a [] [] [] (runs-nowhere does ticks takes a []) }

-- ---- the whole session

pub served-reads : {W C S : Type 0} (does : W → Did → W → Type 0) (ticks : C → ℤ → C → Type 0) (takes : S → Notice → S → Type 0)
    (most : ℕ) (end : Ended) (a b c : Parties W C S) (unread rest : List ℕ) → rest ≡ rest_of unread
    → Handles does ticks takes a (map Came (frames_of unread)) b → EndsWithin does ticks takes most end b (due_behind rest) c
    → EndsWithin does ticks takes most end a (due_of unread) c
served-reads does ticks takes most end a b c unread rest left one two =
    let due = due_behind (rest_of unread) two.reads in
    record {
      reads = two.reads;
      few = two.few;
      long = two.long;
      ends = ends-behind does ticks takes end a b c (due_of unread two.reads) due [] two.reads (one due)
          (subst (λ text. Ends does ticks takes end b (due_behind text two.reads) two.reads c) left two.ends);
    }

-- what ends before the first read
pub ends-unread : {W C S : Type 0} (does : W → Did → W → Type 0) (ticks : C → ℤ → C → Type 0) (takes : S → Notice → S → Type 0)
    (most : ℕ) (stop : Stop) (end : Ended) (a b : Parties W C S) (unread : List ℕ) → end ≡ ended_by stop
    → Ends does ticks takes (ended_by stop) a (due_of unread []) [] b → EndsWithin does ticks takes most end a (due_of unread) b
ends-unread does ticks takes most stop end a b unread is ends =
    record {
      reads = [];
      few = omega arith;
      long = λ long. absurd (ended-short stop (sym is ∙ long));
      ends = subst (λ ended. Ends does ticks takes ended a (due_of unread []) [] b) (sym is) ends;
    }
