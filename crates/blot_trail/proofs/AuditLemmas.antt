-- The trail of a stream, told as its frames are taken one by one, and its pieces one after the other.
use Rattle.std.proofs.Common.{◌≡◌, ℕ, ◌+◌, ◌-◌, ◌^◌, ◌<◌, ◌≤◌, List, [], ◌∷◌, ◌++◌, length, fold, min, Option, Some, None, refl, sym, ap, subst, ◌∙◌, arith, Bool, true, false, is_some, Result, Ok, Err, IfOk, IfSome, codes, append-nil, append_assoc, length-append, length-drop}
use Rattle.std.proofs.lemmas.Bool.{false≢true}
use Rattle.std.specs.Prelude.{⊤}
use Rattle.std.specs.Io.KnownBytes.{Consumes}
use Rattle.std.proofs.lemmas.List.Sums.{sum_by-cons}
use Rattle.blot_tag.specs.Places.{Placed, placed_of, after_bytes, passed_by, passed_last}
use Rattle.blot_tag.specs.Reading.{Reading, FindsNone, TakesFirst}
use Rattle.blot_tag.specs.Walking.{Walk, frames_of, rest_of, skipped_of, stops_at, walk_of}
use Rattle.blot_tag.proofs.FrameLemmas.{look_of-prefix}
use Rattle.blot_tag.proofs.WalkLemmas.{look_of-nil, walk_of-prefix}
use Rattle.blot_tag.proofs.PlaceLemmas.{are_placed, passed-within, passed_by-after, placed-none, placed-taken, walk-none, walk-taken}
use Rattle.blot_stream.specs.declared.outcome.ReplayFault.TheVariants.{NoMemory}
use Rattle.blot_stream.proofs.ResultLemmas.{if-some}
use Rattle.blot_capture.specs.Replay.{Came, CameOn, StoppedOn, Taking}
use Rattle.blot_capture.specs.Trace.{Turn, taking_after, trace_over, turn_of}
use Rattle.blot_capture.proofs.StreamLemmas.{came-first, stopped-here, taken-frame, taken-none}
use Rattle.blot_trail.specs.declared.word.Word.{Word}
use Rattle.blot_trail.specs.Audit.{end_of, lines_of, tail_of, trail_over, words_of}
use Rattle.blot_trail.specs.Making.{FindsNoFrame, IsInStep, TrailLine, Making, Notes, TakesNoted, Telling, TellsNext, SameTrail, SameTrailOn, behind_bytes, behind_line, behind_turn, finished, line_of, none_yet, offset_of, size_of, behind_both, trail_from, untold}
use Rattle.blot_trail.specs.TrailText.{bytes_text, last_text, message_text, word_of}

-- ---- bytes that are passed over

bytes-add : (first second : ℕ) (trail : Making) → behind_bytes second (behind_bytes first trail) ≡ behind_bytes (first + second) trail
bytes-add first second trail =
    let passed : trail.passed + first + second ≡ trail.passed + (first + second) = omega arith in
    ap (λ p. record trail { passed = p }) passed

-- how many a call passed over, by the count of all
pub counted-bytes : (unread skipped after passed offset : ℕ) → after ≡ min (skipped + passed) (2 ^ 64 - 1) → passed ≤ unread → skipped ≤ offset → offset + unread < 2 ^ 63
    → after ≡ skipped + passed
counted-bytes unread skipped after passed offset is few low within = is ∙ min-left (skipped + passed) (2 ^ 64 - 1) (omega (arith, few, low, within))
  where
    min-left : (n m : ℕ) → n ≤ m → min n m ≡ n
    min-left n m below = grind arith

-- ---- the whole trail

-- its text, by its messages and how many bytes are passed over after them
text-by : Making → Taking → List Placed → ℕ → ℕ → List ℕ
text-by trail taking placed skipped rest = finished (behind_bytes (skipped - passed_by placed) (fold behind_turn trail (trace_over taking placed))) rest

-- one more message is told
text-taken : (trail : Making) (taking : Taking) (passed : ℕ) (frame : List ℕ) (placed : List Placed) (skipped rest : ℕ)
    → text-by trail taking (record { passed = passed; text = frame } ∷ placed) (passed + skipped) rest
    ≡ text-by (behind_turn trail (turn_of taking (record { passed = passed; text = frame }))) (taking_after taking frame) placed skipped rest
unfolding text-by
text-taken trail taking passed frame placed skipped rest =
    let first : Placed = record { passed = passed; text = frame } in
    let last : passed + skipped - passed_by (first ∷ placed) ≡ skipped - passed_by placed = omega (arith, sum_by-cons (λ (placed : Placed). placed.passed) first placed) in
    ap (λ count. finished (behind_bytes count (fold behind_turn (behind_turn trail (turn_of taking first)) (trace_over (taking_after taking frame) placed))) rest) last

-- more bytes are passed over
text-passed : (trail : Making) (taking : Taking) (passed : ℕ) (placed : List Placed) (skipped rest : ℕ)
    → text-by trail taking (after_bytes passed placed) (passed + skipped) rest ≡ text-by (behind_bytes passed trail) taking placed skipped rest
unfolding text-by
text-passed trail taking passed [] skipped rest =
    let last : passed + skipped - 0 ≡ passed + (skipped - 0) = omega arith in
    ap (λ count. finished (behind_bytes count trail) rest) last ∙ ap (λ trail. finished trail rest) (sym (bytes-add passed (skipped - 0) trail))
text-passed trail taking passed (frame ∷ placed) skipped rest =
    let last : passed + skipped - passed_by (after_bytes passed (frame ∷ placed)) ≡ skipped - passed_by (frame ∷ placed) =
    omega (arith, passed_by-after passed frame placed) in
    let line = line_of (turn_of taking frame) in
    let more = trace_over (taking_after taking frame.text) placed in
    ap (λ count. finished (behind_bytes count (fold behind_turn (behind_line line (behind_bytes (passed + frame.passed) trail)) more)) rest) last
    ∙ ap (λ before. finished (behind_bytes (skipped - passed_by (frame ∷ placed)) (fold behind_turn (behind_line line before) more)) rest)
    (sym (bytes-add passed frame.passed trail))

-- ---- all that is told from the first byte on

-- so far these lines are told, the last of which ends here, and so many bytes are passed over before it
abbrev made : List ℕ → List Word → ℕ → ℕ → Making
made text words end skipped = record { text = text; words = words; end = end; passed = 0; skipped = skipped }

-- one message more is told
made-line : (text : List ℕ) (words : List Word) (end skipped : ℕ) (turn : Turn)
    → behind_turn (made text words end skipped) turn
    ≡ made (text ++ (bytes_text (codes "skipped") end turn.placed.passed ++ message_text (length words + 1) (end + turn.placed.passed) (tail_of turn)))
    (words ++ word_of turn.became ∷ []) (end + turn.placed.passed + length turn.placed.text) (skipped + turn.placed.passed)
made-line text words end skipped turn =
    let none : 0 + turn.placed.passed ≡ turn.placed.passed = omega arith in
    ap (λ passed. made (text ++ (bytes_text (codes "skipped") end passed ++ message_text (length words + 1) (end + passed) (tail_of turn)))
    (words ++ word_of turn.became ∷ []) (end + passed + length turn.placed.text) (skipped + passed)) none

-- message by message the lines of all are told
made-lines : (text : List ℕ) (words : List Word) (end skipped : ℕ) (taking : Taking) (placed : List Placed)
    → fold behind_turn (made text words end skipped) (trace_over taking placed)
    ≡ made (text ++ lines_of (length words + 1) end (trace_over taking placed)) (words ++ words_of (trace_over taking placed))
    (end + end_of (trace_over taking placed)) (skipped + passed_by placed)
made-lines text words end skipped taking [] =
    ap (λ text. made text words end skipped) (sym (append-nil text))
    ∙ ap (λ words. made (text ++ []) words end skipped) (sym (append-nil words))
    ∙ ap (λ e. made (text ++ []) (words ++ []) e skipped) (omega arith)
    ∙ ap (λ k. made (text ++ []) (words ++ []) (end + 0) k) (omega arith)
made-lines text words end skipped taking (first ∷ more) =
    let turn = turn_of taking first in
    let turns = trace_over (taking_after taking first.text) more in
    let word = word_of turn.became in
    let place = length words + 1 in
    let front = bytes_text (codes "skipped") end first.passed in
    let own = message_text place (end + first.passed) (tail_of turn) in
    let next = end + first.passed + length first.text in
    let all = words ++ word ∷ [] in
    let counted : length all + 1 ≡ place + 1 = omega (arith, length-append words (word ∷ [])) in
    let ends : next + end_of turns ≡ end + end_of (turn ∷ turns) =
    omega (arith, sum_by-cons (λ (turn : Turn). turn.placed.passed + length turn.placed.text) turn turns) in
    let passes : skipped + first.passed + passed_by more ≡ skipped + passed_by (first ∷ more) = omega (arith, sum_by-cons (λ (placed : Placed). placed.passed) first more) in
    ap (λ trail. fold behind_turn trail turns) (made-line text words end skipped turn)
    ∙ made-lines (text ++ (front ++ own)) all next (skipped + first.passed) (taking_after taking first.text) more
    ∙ ap (λ k. made ((text ++ (front ++ own)) ++ lines_of k next turns) (all ++ words_of turns) (next + end_of turns) (skipped + first.passed + passed_by more)) counted
    ∙ ap (λ text. made text (all ++ words_of turns) (next + end_of turns) (skipped + first.passed + passed_by more))
    (append_assoc text (front ++ own) (lines_of (place + 1) next turns))
    ∙ ap (λ words. made (text ++ (front ++ own ++ lines_of (place + 1) next turns)) words (next + end_of turns) (skipped + first.passed + passed_by more))
    (append_assoc words (word ∷ []) (words_of turns))
    ∙ ap (λ e. made (text ++ (front ++ own ++ lines_of (place + 1) next turns)) (words ++ word ∷ words_of turns) e (skipped + first.passed + passed_by more)) ends
    ∙ ap (λ k. made (text ++ (front ++ own ++ lines_of (place + 1) next turns)) (words ++ word ∷ words_of turns) (end + end_of (turn ∷ turns)) k) passes

-- so what is told of a stream is its trail
trail-whole : (taking : Taking) (bytes : List ℕ) → trail_from none_yet taking bytes ≡ trail_over taking bytes
trail-whole taking bytes =
    let turns = trace_over taking (placed_of bytes) in
    let rest = length (rest_of bytes) in
    let last = passed_last bytes in
    let skipped = 0 + passed_by (placed_of bytes) in
    let ends : 0 + end_of turns ≡ end_of turns = omega arith in
    let passes : 0 + last ≡ last = omega arith in
    let all : skipped + (0 + last) ≡ skipped_of bytes = omega (arith, (are_placed bytes).passed) in
    ap (λ trail. finished (behind_bytes last trail) rest) (made-lines [] [] 0 0 taking (placed_of bytes))
    ∙ ap (λ all. lines_of 1 0 turns ++ last_text (words_of turns) (0 + end_of turns) (0 + last) all rest) all
    ∙ ap (λ last. lines_of 1 0 turns ++ last_text (words_of turns) (0 + end_of turns) last (skipped_of bytes) rest) passes
    ∙ ap (λ end. lines_of 1 0 turns ++ last_text (words_of turns) end last (skipped_of bytes) rest) ends

pub told-whole : {T E : Type 0} (items : T → List ℕ) (known : Option (List ℕ)) (taking : Taking) (result : Result T E)
    → IfOk result (λ x. IfSome known (λ bytes. items x ≡ trail_from none_yet taking bytes))
    → IfOk result (λ x. IfSome known (λ bytes. items x ≡ trail_over taking bytes))
told-whole items known taking (Ok x) is =
    if-some (λ bytes. items x ≡ trail_from none_yet taking bytes) (λ bytes. items x ≡ trail_over taking bytes) known is (λ bytes same. same ∙ trail-whole taking bytes)
told-whole items known taking (Err e) is = tt

-- ---- a call of the reader

-- it passed over so many bytes, and took so many after them
pub record Counts (old new : Reading) (passed size : ℕ) : Type 0 where
  pub skipped : new.skipped ≡ old.skipped + passed
  pub unread : length old.unread ≡ passed + size + length new.unread

pub counts-taken : (old new : Reading) (frame : List ℕ) (offset : ℕ) (taken : TakesFirst old frame new) → old.skipped ≤ offset → offset + length old.unread < 2 ^ 63
    → Counts old new taken.passed (length frame)
counts-taken old new frame offset taken low within =
    let few = passed-within taken.passed old.unread taken.early in
    record {
      skipped = counted-bytes (length old.unread) old.skipped new.skipped taken.passed offset taken.skipped few low within;
      unread = omega (arith, few, length-drop taken.passed old.unread, ap length taken.bytes, length-append frame new.unread);
    }

pub counts-none : (old new : Reading) (offset : ℕ) (none : FindsNone old new) → old.skipped ≤ offset → offset + length old.unread < 2 ^ 63
    → Counts old new none.passed 0
counts-none old new offset none low within =
    let few = passed-within none.passed old.unread none.early in
    record {
      skipped = counted-bytes (length old.unread) old.skipped new.skipped none.passed offset none.skipped few low within;
      unread = omega (arith, few, length-drop none.passed old.unread, ap length none.bytes);
    }

-- the whole trail, where a frame is taken
pub told-taken : (old new : Reading) (from now : Taking) (line : TrailLine) (trail : Making) (more : List ℕ) (takes : TakesNoted old from line new now)
    → trail_from trail from (old.unread ++ more) ≡ trail_from (behind_line line (behind_bytes takes.taken.passed trail)) now (new.unread ++ more)
unfolding text-by
told-taken old new from now line trail more takes =
    let left = new.unread ++ more in
    let walk = walk-taken old new takes.frame more takes.taken in
    let passed = takes.taken.passed in
    ap (λ placed. text-by trail from placed (skipped_of (old.unread ++ more)) (length (rest_of (old.unread ++ more)))) (placed-taken old new takes.frame more takes.taken)
    ∙ ap (λ (walk : Walk). text-by trail from (record { passed = passed; text = takes.frame } ∷ placed_of left) walk.skipped (length walk.rest)) walk
    ∙ text-taken trail from passed takes.frame (placed_of left) (skipped_of left) (length (rest_of left))
    ∙ ap (λ line. text-by (behind_line line (behind_bytes passed trail)) (taking_after from takes.frame) (placed_of left) (skipped_of left) (length (rest_of left))) (sym takes.told)
    ∙ ap (λ taking. text-by (behind_line line (behind_bytes passed trail)) taking (placed_of left) (skipped_of left) (length (rest_of left))) (sym takes.behind)

-- and where there is none
pub told-none : (old new : Reading) (from now : Taking) (trail : Making) (more : List ℕ) (finds : FindsNoFrame old from new now)
    → trail_from trail from (old.unread ++ more) ≡ trail_from (behind_bytes finds.none.passed trail) now (new.unread ++ more)
unfolding text-by
told-none old new from now trail more finds =
    let left = new.unread ++ more in
    let passed = finds.none.passed in
    ap (λ placed. text-by trail from placed (skipped_of (old.unread ++ more)) (length (rest_of (old.unread ++ more)))) (placed-none old new more finds.none)
    ∙ ap (λ (walk : Walk). text-by trail from (after_bytes passed (placed_of left)) walk.skipped (length walk.rest)) (walk-none old new more finds.none)
    ∙ text-passed trail from passed (placed_of left) (skipped_of left) (length (rest_of left))
    ∙ ap (λ taking. text-by (behind_bytes passed trail) taking (placed_of left) (skipped_of left) (length (rest_of left))) (sym finds.same)

-- at first nothing is
pub stops-nil : (unread : List ℕ) → unread ≡ [] → walk_of unread ≡ stops_at unread
stops-nil unread none = subst (λ unread. walk_of unread ≡ stops_at unread) (sym none) (walk_of-prefix [] look_of-nil)

-- ---- one call of the reader, told

-- how many bytes it passed over and took
noted-counts : (old new : Reading) (from now : Taking) (found : Option TrailLine) (trail : Making) → IsInStep old trail → offset_of trail + length old.unread < 2 ^ 63
    → Notes found old from new now → Counts old new (new.skipped - old.skipped) (size_of found)
noted-counts old new from now None trail step within notes =
    let counts = counts-none old new (offset_of trail) notes.none step.low within in
    let passed : new.skipped - old.skipped ≡ notes.none.passed = omega (arith, counts.skipped) in
    subst (λ passed. Counts old new passed 0) (sym passed) counts
noted-counts old new from now (Some line) trail step within notes =
    let counts = counts-taken old new notes.frame (offset_of trail) notes.taken step.low within in
    let passed : new.skipped - old.skipped ≡ notes.taken.passed = omega (arith, counts.skipped) in
    let size : length notes.frame ≡ line.length_of = sym (ap (λ (line : TrailLine). line.length_of) notes.told) in
    subst (λ passed. Counts old new passed line.length_of) (sym passed) (subst (λ size. Counts old new notes.taken.passed size) size counts)

pub room-within : (old new : Reading) (from now : Taking) (found : Option TrailLine) (trail : Making) → IsInStep old trail → offset_of trail + length old.unread < 2 ^ 63
    → Notes found old from new now → offset_of trail + untold new.skipped trail + size_of found < 2 ^ 63
room-within old new from now found trail step within notes =
    let counts = noted-counts old new from now found trail step within notes in
    omega (arith, counts.unread, step.skipped, within)

-- the whole trail stays the same
noted-same : (old new : Reading) (from now : Taking) (found : Option TrailLine) (trail : Making) → IsInStep old trail → offset_of trail + length old.unread < 2 ^ 63
    → Notes found old from new now → (more : List ℕ)
    → trail_from trail from (old.unread ++ more) ≡ trail_from (behind_both (untold new.skipped trail) found trail) now (new.unread ++ more)
noted-same old new from now None trail step within notes more =
    let counts = counts-none old new (offset_of trail) notes.none step.low within in
    let passed : notes.none.passed ≡ untold new.skipped trail = omega (arith, counts.skipped, step.skipped) in
    told-none old new from now trail more notes ∙ ap (λ passed. trail_from (behind_bytes passed trail) now (new.unread ++ more)) passed
noted-same old new from now (Some line) trail step within notes more =
    let counts = counts-taken old new notes.frame (offset_of trail) notes.taken step.low within in
    let passed : notes.taken.passed ≡ untold new.skipped trail = omega (arith, counts.skipped, step.skipped) in
    told-taken old new from now line trail more notes ∙ ap (λ passed. trail_from (behind_line line (behind_bytes passed trail)) now (new.unread ++ more)) passed

noted-came : (old new : Reading) (from now : Taking) (found : Option TrailLine) → Notes found old from new now → CameOn from old.unread now new.unread
noted-came old new from now None notes more =
    subst (λ now. Came from (frames_of (old.unread ++ more)) now (frames_of (new.unread ++ more))) (sym notes.same)
    (taken-none from from old.unread old new more notes.none (came-first from (frames_of (old.unread ++ more))))
noted-came old new from now (Some line) notes more =
    subst (λ now. Came from (frames_of (old.unread ++ more)) now (frames_of (new.unread ++ more))) (sym notes.behind)
    (taken-frame from from old.unread old new notes.frame more (taking_after from notes.frame).sessions (taking_after from notes.frame).desk notes.taken
    (came-first from (frames_of (old.unread ++ more))) refl refl)

pub noted-stopped : (old new : Reading) (from now : Taking) (found : Option TrailLine) → Notes found old from new now
    → StoppedOn from old.unread now.desk NoMemory
noted-stopped old new from now found notes more =
    stopped-here NoMemory from now (frames_of (old.unread ++ more)) (frames_of (new.unread ++ more)) (λ is. cc) (noted-came old new from now found notes more)

noted-fewer : (old new : Reading) (from now : Taking) (found : Option TrailLine) → Notes found old from new now → is_some found ≡ true → length new.unread < length old.unread
noted-fewer old new from now None notes some = absurd (false≢true some)
noted-fewer old new from now (Some line) notes some = notes.taken.shorter

noted-drained : (old new : Reading) (from now : Taking) (found : Option TrailLine) → Notes found old from new now → is_some found ≡ false → walk_of new.unread ≡ stops_at new.unread
noted-drained old new from now None notes none = walk_of-prefix new.unread (look_of-prefix new.unread notes.none.prefix)
noted-drained old new from now (Some line) notes none = absurd (false≢true (sym none))

-- after what was noted a trail is in step again
noted-step : (old new : Reading) (found : Option TrailLine) (trail : Making) (passed : ℕ) → Counts old new passed (size_of found) → IsInStep old trail → IsInStep new (behind_both passed found trail)
noted-step old new None trail passed counts step = record { skipped = omega (arith, counts.skipped, step.skipped); low = omega (arith, counts.skipped, step.low) }
noted-step old new (Some line) trail passed counts step = record { skipped = omega (arith, counts.skipped, step.skipped); low = omega (arith, counts.skipped, step.low) }

noted-read : (old new : Reading) (found : Option TrailLine) (trail : Making) (passed : ℕ) → Counts old new passed (size_of found)
    → offset_of (behind_both passed found trail) + length new.unread ≡ offset_of trail + length old.unread
noted-read old new None trail passed counts = omega (arith, counts.unread)
noted-read old new (Some line) trail passed counts = omega (arith, counts.unread)

pub tells-next : (told : Bool) (old new : Reading) (from now : Taking) (found : Option TrailLine) (trail after : Making) (skipped : ℕ) → IsInStep old trail → offset_of trail + length old.unread < 2 ^ 63
    → Notes found old from new now → skipped ≡ new.skipped → told ≡ is_some found → after ≡ behind_both (untold skipped trail) found trail
    → TellsNext told old (record { trail = trail; taking = from }) new (record { trail = after; taking = now })
tells-next told old new from now found trail after skipped step within notes all is gives =
    let counts = noted-counts old new from now found trail step within notes in
    let here : new.skipped - old.skipped ≡ untold new.skipped trail = omega (arith, step.skipped) in
    let known = subst (λ passed. Counts old new passed (size_of found)) here counts in
    let trail_is : behind_both (untold new.skipped trail) found trail ≡ after =
    ap (λ skipped. behind_both (untold skipped trail) found trail) (sym all) ∙ sym gives in
    subst (λ after. TellsNext told old (record { trail = trail; taking = from }) new (record { trail = after; taking = now })) trail_is (record {
      step = noted-step old new found trail (untold new.skipped trail) known step;
      read = noted-read old new found trail (untold new.skipped trail) known;
      fewer = λ yes. noted-fewer old new from now found notes (sym is ∙ yes);
      drained = λ no. noted-drained old new from now found notes (sym is ∙ no);
      same = noted-same old new from now found trail step within notes;
      came = noted-came old new from now found notes;
    })

-- ---- an input whose bytes may be known

-- the whole trail is the same for an input's bytes, where they are known: some were read, and some of those are unread
abbrev pub SameTrailOf : Option (List ℕ) → Telling → Option (List ℕ) → List ℕ → Telling → Type 0
SameTrailOf None from rest unread now = ⊤
SameTrailOf (Some bytes) from None unread now = ⊥
SameTrailOf (Some bytes) from (Some rest) unread now = SameTrail from bytes now (unread ++ rest)

-- nothing is read yet
pub SameTrailOf-first : (known : Option (List ℕ)) (from now : Telling) (unread : List ℕ) → unread ≡ [] → from ≡ now → SameTrailOf known from known unread now
SameTrailOf-first None from now unread none same = tt
SameTrailOf-first (Some bytes) from now unread none same =
    ap (λ (telling : Telling). trail_from telling.trail telling.taking bytes) same ∙ ap (λ front. trail_from now.trail now.taking (front ++ bytes)) (sym none)

-- a piece is read and told
pub SameTrailOf-piece : (known before after : Option (List ℕ)) (from mid now : Telling) (unread left piece : List ℕ)
    → SameTrailOf known from before unread mid → Consumes before after piece
    → SameTrailOn mid (unread ++ piece) now left → SameTrailOf known from after left now
SameTrailOf-piece None before after from mid now unread left piece so consumes told = tt
SameTrailOf-piece (Some bytes) None after from mid now unread left piece so consumes told = absurd so
SameTrailOf-piece (Some bytes) (Some rest) None from mid now unread left piece so consumes told = absurd consumes
SameTrailOf-piece (Some bytes) (Some rest) (Some later) from mid now unread left piece so consumes told =
    let all : unread ++ rest ≡ (unread ++ piece) ++ later = ap (λ back. unread ++ back) consumes ∙ sym (append_assoc unread piece later) in
    so ∙ ap (trail_from mid.trail mid.taking) all ∙ told later
