-- What a device was asked to do, the newest call first, and what its file then is.
use Rattle.std.specs.Prelude.{◌≡◌, ◌⊎◌, ℕ, ◌+◌, ◌<◌, ◌≤◌, ◌==◌, Bool, true, false, if◌then◌else◌, List, [], ◌∷◌, ◌++◌, length, take, drop, slice_index, refl}
use Rattle.std.specs.Coded.{Coded, code_by, coded_ℕ, coded_bool, coded_list, coded×, coded⊎}
use Rattle.std.proofs.Common.{arith, inl, inr}
use Rattle.blot_journal.specs.Device.{Cut, Torn}

-- it began with a content; then bytes were written at a place, or it was cut, synced or read, and that was done or failed
pub data Call : Type 0 where
  Began : List ℕ → Call
  Wrote : ℕ → List ℕ → Bool → Call
  CutTo : ℕ → Bool → Call
  Synced : Bool → Call
  ReadIt : Bool → Call

abbrev Coding : Type 0
Coding = List ℕ ⊎ ((ℕ × (List ℕ × Bool)) ⊎ ((ℕ × Bool) ⊎ (Bool ⊎ Bool)))

abbrev coded_as : Call → Coding
coded_as (Began bytes) = inl bytes
coded_as (Wrote at bytes done) = inr (inl (at, (bytes, done)))
coded_as (CutTo size done) = inr (inr (inl (size, done)))
coded_as (Synced done) = inr (inr (inr (inl done)))
coded_as (ReadIt done) = inr (inr (inr (inr done)))

abbrev uncoded : Coding → Call
uncoded (inl bytes) = Began bytes
uncoded (inr (inl (at, (bytes, done)))) = Wrote at bytes done
uncoded (inr (inr (inl (size, done)))) = CutTo size done
uncoded (inr (inr (inr (inl done)))) = Synced done
uncoded (inr (inr (inr (inr done)))) = ReadIt done

pub coded_back : (call : Call) → uncoded (coded_as call) ≡ call
coded_back (Began bytes) = refl
coded_back (Wrote at bytes done) = refl
coded_back (CutTo size done) = refl
coded_back (Synced done) = refl
coded_back (ReadIt done) = refl

abbrev pub coded_call : Coded Call
coded_call = code_by Coding (coded⊎ (coded_list coded_ℕ) (coded⊎ (coded× coded_ℕ (coded× (coded_list coded_ℕ) coded_bool)) (coded⊎ (coded× coded_ℕ coded_bool) (coded⊎ coded_bool coded_bool)))) coded_as uncoded coded_back

abbrev pub coded_calls : Coded (List Call)
coded_calls = coded_list coded_call

-- a call by its kind, a place or a length, whether it was done, and bytes
abbrev pub call_of : List ℕ → List ℕ → Call
call_of numbers bytes =
    let kind = slice_index numbers 0 in
    let at = slice_index numbers 1 in
    let done = slice_index numbers 2 == 1 in
    if kind == 0 then Began bytes else if kind == 1 then Wrote at bytes done else if kind == 2 then CutTo at done else if kind == 3 then Synced done else ReadIt done

-- what a read returns. What failed is taken as not done
abbrev pub seen_after : List Call → List ℕ
seen_after [] = []
seen_after (Began bytes ∷ calls) = bytes
seen_after (Wrote at bytes true ∷ calls) = take at (seen_after calls) ++ bytes ++ drop (at + length bytes) (seen_after calls)
seen_after (CutTo size true ∷ calls) = take size (seen_after calls)
seen_after (call ∷ calls) = seen_after calls

-- what a crash may leave: whatever a call was, done or failed, it may have torn what it wrote
abbrev pub leaves_after : List Call → List ℕ → Type 0
leaves_after [] file = ⊥
leaves_after (Began bytes ∷ calls) file = file ≡ bytes
leaves_after (Wrote at bytes done ∷ calls) file = (earlier : List ℕ) × leaves_after calls earlier × Torn at (length bytes) earlier file
leaves_after (CutTo size done ∷ calls) file = (earlier : List ℕ) × leaves_after calls earlier × Cut size earlier file
leaves_after (Synced true ∷ calls) file = file ≡ seen_after calls
leaves_after (Synced false ∷ calls) file = leaves_after calls file
leaves_after (ReadIt done ∷ calls) file = leaves_after calls file

-- what the last sync that was done left on the disk, or what it began with
abbrev pub durable_after : List Call → List ℕ
durable_after [] = []
durable_after (Began bytes ∷ calls) = bytes
durable_after (Synced true ∷ calls) = seen_after calls
durable_after (call ∷ calls) = durable_after calls

-- it can be read until the first write
abbrev pub is_readable_after : List Call → Bool
is_readable_after [] = true
is_readable_after (Wrote at bytes done ∷ calls) = false
is_readable_after (call ∷ calls) = is_readable_after calls

-- what a crash might have left after one of the calls from a moment on
abbrev pub left_after : List Call → ℕ → List ℕ → Type 0
left_after [] since file = ⊥
left_after (call ∷ calls) since file = ((since ≤ length (call ∷ calls)) × leaves_after (call ∷ calls) file) ⊎ left_after calls since file

abbrev pub failed : Call → ℕ
failed (Wrote at bytes false) = 1
failed (CutTo size false) = 1
failed (Synced false) = 1
failed (ReadIt false) = 1
failed call = 0

-- how many of the calls failed
abbrev pub failures_in : List Call → ℕ
failures_in [] = 0
failures_in (call ∷ calls) = failed call + failures_in calls

none_later : (calls : List Call) (since : ℕ) (file : List ℕ) → length calls < since → left_after calls since file → ⊥
none_later [] since file later left = left
none_later (call ∷ calls) since file later (inl now) = omega (arith, later, now.0)
none_later (call ∷ calls) since file later (inr before) = none_later calls since file (omega (arith, later)) before

-- this moment is one of those since an earlier one
pub counts_now : (calls : List Call) (since : ℕ) (file : List ℕ) → since ≤ length calls → leaves_after calls file → left_after calls since file
counts_now [] since file early left = left
counts_now (call ∷ calls) since file early left = inl (early, left)

-- and since this moment there is no other
pub only_now : (calls : List Call) (file : List ℕ) → left_after calls (length calls) file → leaves_after calls file
only_now [] file left = left
only_now (call ∷ calls) file (inl now) = now.1
only_now (call ∷ calls) file (inr before) = absurd (none_later calls (length (call ∷ calls)) file (omega arith) before)
