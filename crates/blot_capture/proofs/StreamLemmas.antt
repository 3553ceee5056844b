-- The frames of a stream, taken one by one, and its pieces, one after the other.
use Rattle.std.proofs.Common.{◌≡◌, ℕ, List, [], ◌∷◌, ◌++◌, Option, Some, None, refl, sym, ap, ◌∙◌, subst, append_assoc}
use Rattle.std.specs.Prelude.{⊤}
use Rattle.std.specs.Io.KnownBytes.{Consumes}
use Rattle.blot_tag.specs.Reading.{Reading, TakesFirst, FindsNone}
use Rattle.blot_tag.specs.Walking.{frames_of, joined_with}
use Rattle.blot_tag.proofs.WalkLemmas.{walk_of-append, walk_of-prefix, look_of-nil}
use Rattle.blot_tag.proofs.FrameLemmas.{look_of-prefix}
use Rattle.blot_desk.specs.Desk.{DeskState}
use Rattle.blot_stream.specs.declared.{outcome.ReplayFault.ReplayFault, outcome.ReplayFault.TheVariants.Full}
use Rattle.blot_capture.specs.Capture.{Sessions, sessions_behind, commands_in, commands_over}
use Rattle.blot_capture.specs.Replay.{Taking, Came, CameOn, Stopped, StoppedOf, StoppedOn, submitted}
use Rattle.blot_capture.proofs.DeskLemmas.{submitted-append, stopped-behind, stopped-before}

-- ---- frames

-- a frame that is taken stands before those of what is left, whatever comes after
frames-taken : (old new : Reading) (frame more : List ℕ) → TakesFirst old frame new → frames_of (old.unread ++ more) ≡ frame ∷ frames_of (new.unread ++ more)
frames-taken old new frame more taken =
    ap (λ walk. walk.frames) (walk_of-append old.unread more)
    ∙ ap (λ walk. (joined_with walk more).frames) taken.walk
    ∙ ap (λ walk. frame ∷ walk.frames) (sym (walk_of-append new.unread more))

-- where no frame is found, those to come are those of what is left
frames-none : (old new : Reading) (more : List ℕ) → FindsNone old new → frames_of (old.unread ++ more) ≡ frames_of (new.unread ++ more)
frames-none old new more none =
    ap (λ walk. walk.frames) (walk_of-append old.unread more) ∙ ap (λ walk. (joined_with walk more).frames) none.walk

-- and there is none in what is left
pub frames-rest : (old new : Reading) → FindsNone old new → frames_of new.unread ≡ []
frames-rest old new none = ap (λ walk. walk.frames) (walk_of-prefix new.unread (look_of-prefix new.unread none.prefix))

-- an empty text has no frame
pub frames_of-nil : frames_of [] ≡ []
frames_of-nil = ap (λ walk. walk.frames) (walk_of-prefix [] look_of-nil)

-- ---- the commands of the frames

-- nothing is taken yet
pub came-first : (from : Taking) (texts : List (List ℕ)) → Came from texts from texts
came-first from texts = record { front = []; joined = refl; taken = refl }

-- a frame is taken
came-frame : (from before : Taking) (texts : List (List ℕ)) (text : List ℕ) (left : List (List ℕ)) (sessions : Sessions) (desk : DeskState)
    → Came from texts before (text ∷ left) → sessions ≡ sessions_behind before.sessions text → desk ≡ submitted before.desk (commands_in before.sessions text)
    → Came from texts (record { sessions = sessions; desk = desk }) left
came-frame from before texts text left sessions desk came behind taken =
    let commands = commands_in before.sessions text in
    record {
      front = came.front ++ commands;
      joined = append_assoc came.front commands (commands_over sessions left)
          ∙ ap (λ (next : Sessions). came.front ++ (commands ++ commands_over next left)) behind ∙ came.joined;
      taken = taken ∙ ap (λ (held : DeskState). submitted held commands) came.taken ∙ sym (submitted-append from.desk came.front commands);
    }

-- so many frames, and then more
pub came-on : (from : Taking) (texts : List (List ℕ)) (mid : Taking) (between : List (List ℕ)) (now : Taking) (left : List (List ℕ))
    → Came from texts mid between → Came mid between now left → Came from texts now left
came-on from texts mid between now left first second =
    record {
      front = first.front ++ second.front;
      joined = append_assoc first.front second.front (commands_over now.sessions left) ∙ ap (λ back. first.front ++ back) second.joined ∙ first.joined;
      taken = second.taken ∙ ap (λ (held : DeskState). submitted held second.front) first.taken ∙ sym (submitted-append from.desk first.front second.front);
    }

-- ---- one call of the reader

pub taken-frame : (from before : Taking) (start : List ℕ) (old new : Reading) (frame more : List ℕ) (sessions : Sessions) (desk : DeskState)
    → TakesFirst old frame new → Came from (frames_of (start ++ more)) before (frames_of (old.unread ++ more))
    → sessions ≡ sessions_behind before.sessions frame → desk ≡ submitted before.desk (commands_in before.sessions frame)
    → Came from (frames_of (start ++ more)) (record { sessions = sessions; desk = desk }) (frames_of (new.unread ++ more))
taken-frame from before start old new frame more sessions desk takes came behind taken =
    came-frame from before (frames_of (start ++ more)) frame (frames_of (new.unread ++ more)) sessions desk
    (subst (λ left. Came from (frames_of (start ++ more)) before left) (frames-taken old new frame more takes) came) behind taken

pub taken-none : (from now : Taking) (start : List ℕ) (old new : Reading) (more : List ℕ) → FindsNone old new
    → Came from (frames_of (start ++ more)) now (frames_of (old.unread ++ more)) → Came from (frames_of (start ++ more)) now (frames_of (new.unread ++ more))
taken-none from now start old new more none came = subst (λ left. Came from (frames_of (start ++ more)) now left) (frames-none old new more none) came

-- a fault came with a frame
pub stopped-frame : (fault : ReplayFault) (from before : Taking) (start : List ℕ) (old new : Reading) (frame more : List ℕ) (after : DeskState)
    → TakesFirst old frame new → Came from (frames_of (start ++ more)) before (frames_of (old.unread ++ more))
    → Stopped before.desk after (commands_in before.sessions frame) fault → Stopped from.desk after (commands_over from.sessions (frames_of (start ++ more))) fault
stopped-frame fault from before start old new frame more after takes came stopped =
    stopped-behind fault from (frames_of (start ++ more)) before (frame ∷ frames_of (new.unread ++ more)) after
    (subst (λ left. Came from (frames_of (start ++ more)) before left) (frames-taken old new frame more takes) came)
    (stopped-before fault before.desk after (commands_in before.sessions frame) (commands_over (sessions_behind before.sessions frame) (frames_of (new.unread ++ more))) stopped)

-- or between two frames
pub stopped-here : (fault : ReplayFault) (from now : Taking) (texts left : List (List ℕ)) → (fault ≡ Full → ⊥) → Came from texts now left
    → Stopped from.desk now.desk (commands_over from.sessions texts) fault
stopped-here fault from now texts left other came =
    record { front = came.front; back = commands_over now.sessions left; joined = came.joined; taken = came.taken; full = λ is. absurd (other is) }

-- ---- an input whose bytes may be known

-- from here to there, as Came says, for an input's bytes, where they are known: some were read, and some of those are unread
abbrev pub CameOf : Option (List ℕ) → Taking → Option (List ℕ) → List ℕ → Taking → Type 0
CameOf None from rest unread now = ⊤
CameOf (Some bytes) from None unread now = ⊥
CameOf (Some bytes) from (Some rest) unread now = Came from (frames_of bytes) now (frames_of (unread ++ rest))

-- nothing is read yet
pub CameOf-first : (known : Option (List ℕ)) (from now : Taking) (unread : List ℕ) → unread ≡ [] → from ≡ now → CameOf known from known unread now
CameOf-first None from now unread none same = tt
CameOf-first (Some bytes) from now unread none same =
    subst (λ now. Came from (frames_of bytes) now (frames_of (unread ++ bytes))) same
    (subst (λ front. Came from (frames_of bytes) from (frames_of (front ++ bytes))) (sym none) (came-first from (frames_of bytes)))

-- a piece is read and taken
pub CameOf-piece : (known before after : Option (List ℕ)) (from mid now : Taking) (unread left piece : List ℕ)
    → CameOf known from before unread mid → Consumes before after piece
    → CameOn mid (unread ++ piece) now left → CameOf known from after left now
CameOf-piece None before after from mid now unread left piece so consumes came = tt
CameOf-piece (Some bytes) None after from mid now unread left piece so consumes came = absurd so
CameOf-piece (Some bytes) (Some rest) None from mid now unread left piece so consumes came = absurd consumes
CameOf-piece (Some bytes) (Some rest) (Some later) from mid now unread left piece so consumes came =
    let all : (unread ++ piece) ++ later ≡ unread ++ rest = append_assoc unread piece later ∙ ap (λ back. unread ++ back) (sym consumes) in
    came-on from (frames_of bytes) mid (frames_of (unread ++ rest)) now (frames_of (left ++ later)) so
    (subst (λ text. Came mid (frames_of text) now (frames_of (left ++ later))) all (came later))

-- a piece is read, and a fault came
pub CameOf-stopped : (fault : ReplayFault) (known before after : Option (List ℕ)) (from mid : Taking) (stop : DeskState) (unread piece : List ℕ)
    → CameOf known from before unread mid → Consumes before after piece → StoppedOn mid (unread ++ piece) stop fault → StoppedOf known from stop fault
CameOf-stopped fault None before after from mid stop unread piece so consumes stopped = tt
CameOf-stopped fault (Some bytes) None after from mid stop unread piece so consumes stopped = absurd so
CameOf-stopped fault (Some bytes) (Some rest) None from mid stop unread piece so consumes stopped = absurd consumes
CameOf-stopped fault (Some bytes) (Some rest) (Some later) from mid stop unread piece so consumes stopped =
    let all : (unread ++ piece) ++ later ≡ unread ++ rest = append_assoc unread piece later ∙ ap (λ back. unread ++ back) (sym consumes) in
    stopped-behind fault from (frames_of bytes) mid (frames_of (unread ++ rest)) stop so
    (subst (λ text. Stopped mid.desk stop (commands_over mid.sessions (frames_of text)) fault) all (stopped later))
