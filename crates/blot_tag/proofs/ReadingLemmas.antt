-- What a step over the unread bytes finds.
use Rattle.std.proofs.Common.{◌≡◌, ℕ, ◌+◌, ◌≤◌, List, length, take, drop, unwrap_or, Option, Some, None, Ok, Err, refl, sym, ap, subst, ◌∙◌, arith, drop-drop, take-append-drop, length-drop, ok_or, option_map}
use Rattle.blot_tag.specs.Looking.{look_of}
use Rattle.blot_tag.specs.Buffers.{reading_of, bytes_at, span_of, behind_found}
use Rattle.blot_tag.specs.Finding.{NeitherBefore, IsFound}
use Rattle.blot_tag.specs.Walking.{passes_by}
use Rattle.blot_tag.specs.Reading.{Reading, counted, TakesFirst, FindsNone, Advances}
use Rattle.blot_tag.specs.declared.{buffer.Buffer.Buffer, find.Found.Found, look.Miss.TheVariants.Partial}
use Rattle.blot_tag.proofs.FrameLemmas.{look_of-ok, look_of-partial, look_of-garbled}
use Rattle.blot_tag.proofs.WalkLemmas.{walk_of-frame, walk_of-prefix, walk_of-garbled}

-- a frame of n bytes at the first place that isn't garbled is taken
pub takes_frame : (unread : List ℕ) (place n skipped : ℕ) → place ≤ length unread → NeitherBefore place unread → look_of (drop place unread) ≡ Ok n → TakesFirst (record { unread = unread; skipped = skipped }) (take n (drop place unread)) (record { unread = drop n (drop place unread); skipped = counted skipped place })
takes_frame unread place n skipped inside before here =
    let text = drop place unread in
    let has = look_of-ok text n here in
    record {
      passed = place;
      early = λ k below. look_of-garbled (drop k unread) (before k below);
      valid = has.valid;
      bytes = sym (take-append-drop n text);
      shorter = omega (arith, has.some, has.inside, length-drop n text, length-drop place unread);
      walk = walk_of-garbled place unread inside before ∙ ap (passes_by place) (walk_of-frame text n here);
      skipped = refl;
    }

-- a part of a frame is waited at
pub finds_part : (unread : List ℕ) (place skipped : ℕ) → place ≤ length unread → NeitherBefore place unread → look_of (drop place unread) ≡ Err Partial → FindsNone (record { unread = unread; skipped = skipped }) (record { unread = drop place unread; skipped = counted skipped place })
finds_part unread place skipped inside before here =
    record {
      passed = place;
      early = λ k below. look_of-garbled (drop k unread) (before k below);
      prefix = look_of-partial (drop place unread) here;
      bytes = refl;
      walk = walk_of-garbled place unread inside before ∙ ap (passes_by place) (walk_of-prefix (drop place unread) here);
      skipped = refl;
    }

-- the same, by the length that was found
stepped : (unread : List ℕ) (place skipped : ℕ) (found : Option ℕ) → place + unwrap_or found 0 ≤ length unread → NeitherBefore place unread → look_of (drop place unread) ≡ ok_or found Partial → Advances (record { unread = unread; skipped = skipped }) (option_map (λ n. take n (drop place unread)) found) (record { unread = drop (place + unwrap_or found 0) unread; skipped = counted skipped place })
stepped unread place skipped (Some n) inside before here =
    let old : Reading = record { unread = unread; skipped = skipped } in
    subst (λ text. TakesFirst old (take n (drop place unread)) (record { unread = text; skipped = counted skipped place })) (drop-drop n place unread)
    (takes_frame unread place n skipped (omega arith) before here)
stepped unread place skipped None inside before here =
    let old : Reading = record { unread = unread; skipped = skipped } in
    subst (λ k. FindsNone old (record { unread = drop k unread; skipped = counted skipped place })) (omega arith)
    (finds_part unread place skipped (omega arith) before here)

-- the frame that was found, among the bytes of the buffer
found_bytes : (buffer : Buffer) (place : ℕ) (found : Option ℕ) → option_map (λ n. take n (drop place (reading_of buffer).unread)) found ≡ option_map (bytes_at buffer) (option_map (λ n. record { start = buffer.start + place; length = n }) found)
found_bytes buffer place (Some n) = ap (λ text. Some (take n text)) (drop-drop place buffer.start buffer.bytes.items)
found_bytes buffer place None = refl

-- in the words of the code, which keeps an offset into its bytes
pub steps_by : (buffer : Buffer) (seen : List ℕ) (found : Found) → seen ≡ (reading_of buffer).unread → IsFound seen found → Advances (reading_of buffer) (option_map (bytes_at buffer) (span_of buffer found)) (behind_found (reading_of buffer) found)
steps_by buffer seen found seen_is is =
    let reading = reading_of buffer in
    let place = found.place in
    subst (λ frame. Advances reading frame (behind_found reading found)) (found_bytes buffer place found.length)
    (stepped reading.unread place reading.skipped found.length
    (omega (arith, is.inside, ap length seen_is))
    (subst (NeitherBefore place) seen_is is.before)
    (ap (λ text. look_of (drop place text)) (sym seen_is) ∙ is.here))
