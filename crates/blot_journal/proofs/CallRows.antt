-- What a file is after some calls, and the text that it stands for, computed.
use Rattle.std.proofs.Common.{◌≡◌, ℕ, ◌-◌, true, false, List, [], ◌∷◌, ◌++◌, length, map, replicate, codes, refl}
use Rattle.blot_journal.specs.Calls.{seen_after}
use Rattle.blot_journal.specs.Calls.Call.{Began, Wrote, CutTo, Synced}
use Rattle.blot_journal.specs.File.{text_of}
use Rattle.blot_journal.specs.Journal.{text_in_journal}

-- the newest call stands first: a file is cut, written and synced, and another write fails
seen : seen_after (Wrote 0 (9 ∷ []) false ∷ Synced true ∷ Wrote 1 (7 ∷ 8 ∷ []) true ∷ CutTo 2 true ∷ Began (4 ∷ 5 ∷ 6 ∷ []) ∷ []) ≡ 4 ∷ 7 ∷ 8 ∷ []
seen = refl

-- so many bytes: these, and zeros behind them
abbrev filled_up : ℕ → List ℕ → List ℕ
filled_up size bytes = bytes ++ replicate (size - length bytes) 0

-- the switch, the lengths 2 and 3, and the text
abbrev file : ℕ → List ℕ
file switch = filled_up 512 (switch ∷ []) ++ filled_up 512 (2 ∷ []) ++ filled_up 3072 (3 ∷ []) ++ codes "abcd"

text_by_switch : map (λ switch. text_of (file switch)) (0 ∷ 1 ∷ []) ≡ codes "ab" ∷ codes "abc" ∷ []
text_by_switch = refl

durable_text : text_in_journal (λ device. device) (record { device = file 1; waiting = codes "d"; is_broken = false; room = 0 }) ≡ codes "abc"
durable_text = refl
