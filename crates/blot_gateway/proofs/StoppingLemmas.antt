-- A session that is served until its watch ends the day.
use Rattle.std.proofs.Common.{◌≡◌, ℕ, List, [], ◌++◌, map, subst, ℤ}
use Rattle.blot_tag.specs.Walking.{frames_of, rest_of}
use Rattle.blot_gateway.specs.declared.parties.Parties.{Parties}
use Rattle.blot_gateway.specs.Progress.{Handles}
use Rattle.blot_gateway.specs.Serving.{Runs, due_behind, due_of}
use Rattle.blot_gateway.specs.Serving.Due.{Came}
use Rattle.blot_gateway.specs.Stopping.{GoesOnFor}
use Rattle.blot_gateway.specs.Wires.{Did, Notice}
use Rattle.blot_gateway.proofs.CallLemmas.{runs-on}

-- the frames of what the reader held come before the reads
pub goes-on-behind : {W C S : Type 0} (does : W → Did → W → Type 0) (ticks : C → ℤ → C → Type 0) (takes : S → Notice → S → Type 0)
    (most : ℕ) (a b c : Parties W C S) (unread rest left : List ℕ) → rest ≡ rest_of unread
    → Handles does ticks takes a (map Came (frames_of unread)) b → GoesOnFor does ticks takes most b (due_behind rest) c left
    → GoesOnFor does ticks takes most a (due_of unread) c left
goes-on-behind does ticks takes most a b c unread rest left is one two =
    record {
      reads = two.reads;
      few = two.few;
      runs = λ more.
          let due = due_behind (rest_of unread) (two.reads ++ more) in
          runs-on does ticks takes a b c (due_of unread (two.reads ++ more)) due (due_behind left more) [] two.reads (one due)
          (subst (λ text. Runs does ticks takes b (due_behind text (two.reads ++ more)) two.reads (due_behind left more) c) is (two.runs more));
    }
