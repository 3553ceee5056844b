-- What is due to a session, done part by part, whatever is due after each part.
use Rattle.std.specs.Prelude.{◌≡◌, ℕ, ℤ, List, [], ◌∷◌, ◌++◌}
use Rattle.blot_gateway.specs.declared.{ended.Ended.Ended, ended.Stop.Stop, parties.Parties.Parties}
use Rattle.blot_gateway.specs.declared.ended.Stop.TheVariants as stops
use Rattle.blot_gateway.specs.Endings.{ended_by}
use Rattle.blot_gateway.specs.Serving.{Due, Ends, Runs, due_behind, due_fed}
use Rattle.blot_gateway.specs.Wires.{Counts, Did, Notice, Read}

-- all of this that is due is done
abbrev pub Handles : {W C S : Type 0} → (W → Did → W → Type 0) → (C → ℤ → C → Type 0) → (S → Notice → S → Type 0)
    → Parties W C S → List Due → Parties W C S → Type 0
Handles does ticks takes before due after = (more : List Due) → Runs does ticks takes before (due ++ more) [] more after

-- or the session is stopped in it, for this reason
abbrev pub HandlesLast : {W C S : Type 0} → (W → Did → W → Type 0) → (C → ℤ → C → Type 0) → (S → Notice → S → Type 0)
    → Parties W C S → List Due → Parties W C S → Stop → Type 0
HandlesLast does ticks takes before due after stop =
    (more : List Due) → Ends does ticks takes (ended_by stop) before (due ++ more) [] after

-- the frames that stand in a reader came, and then a moment passed; this is left in the reader
abbrev pub TakesFed : {W C S : Type 0} → (W → Did → W → Type 0) → (C → ℤ → C → Type 0) → (S → Notice → S → Type 0)
    → Parties W C S → List ℕ → Parties W C S → List ℕ → Type 0
TakesFed does ticks takes before unread after left =
    (more : List Read) → Runs does ticks takes before (due_fed unread more) [] (due_behind left more) after

-- or the session is stopped in that, for this reason
abbrev pub TakesFedLast : {W C S : Type 0} → (W → Did → W → Type 0) → (C → ℤ → C → Type 0) → (S → Notice → S → Type 0)
    → Parties W C S → List ℕ → Parties W C S → Stop → Type 0
TakesFedLast does ticks takes before unread after stop =
    (more : List Read) → Ends does ticks takes (ended_by stop) before (due_fed unread more) [] after

-- the wire was read once, and what is due by that is done; this is left in the reader
abbrev pub ServesRead : {W C S : Type 0} → (W → Did → W → Type 0) → (C → ℤ → C → Type 0) → (S → Notice → S → Type 0)
    → Parties W C S → List ℕ → Parties W C S → List ℕ → Type 0
ServesRead does ticks takes before unread after left =
    (read : Read)
    × ((more : List Read) → Runs does ticks takes before (due_behind unread (read ∷ more)) (read ∷ []) (due_behind left more) after)

-- or the session ends so
abbrev pub ServesReadLast : {W C S : Type 0} → (W → Did → W → Type 0) → (C → ℤ → C → Type 0) → (S → Notice → S → Type 0)
    → Parties W C S → List ℕ → Parties W C S → Ended → Type 0
ServesReadLast does ticks takes before unread after end =
    (read : Read)
    × ((more : List Read) → Ends does ticks takes end before (due_behind unread (read ∷ more)) (read ∷ []) after)

-- where a write stopped the session, its failure is counted
abbrev pub CountsStop : ℕ → ℕ → Stop → Type 0
CountsStop before after stop = stop ≡ stops.WriteFault → Counts before after
