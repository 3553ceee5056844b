-- What a look at the beginning of a text finds is what the sentence on valid frames says.
use Rattle.std.proofs.Common.{◌≡◌, ℕ, ◌+◌, ◌<◌, ◌≤◌, codes, List, [], ◌∷◌, ◌++◌, length, take, Result, Ok, Err, refl, sym, ap, subst, ◌∙◌, arith, length-append, append_assoc, append-nil, zero-add, lit≤}
use Rattle.std.proofs.Math.Logic.{∥∥₁_elim}
use Rattle.std.proofs.Math.Nat.{ℕ_set}
use Rattle.std.proofs.Math.Seq.{take-length, take-append_seam, take-append-add, drop-append-add}
use Rattle.blot_tag.specs.Bytes.{soh}
use Rattle.blot_tag.specs.Results.{◌>>=◌}
use Rattle.blot_tag.specs.Frames.{head, trailer_of, first_fields, front_of, IsBodyLength, IsBody, IsFrame, IsFramePrefix, IsGarbled}
use Rattle.blot_tag.specs.Looking.{behind, size_of, body_look, length_look, look_of}
use Rattle.blot_tag.specs.declared.look.Miss.{Miss}
use Rattle.blot_tag.specs.declared.look.Miss.TheVariants.{Partial, Neither}
use Rattle.blot_tag.proofs.MatchLemmas.{Begins, begins_whole, begins_short, begins_other, begins, behind-append, behind-part}
use Rattle.blot_tag.proofs.SizeLemmas.{Writes, SizeView, size_known, size_open, size_wrong, size_view, size_of-append, Writes-body_length, IsBodyLength-writes}
use Rattle.blot_tag.proofs.OutcomeLemmas.{Outcome, out_whole, out_part, out_never, IsBodyAndTrailer, body_outcome, body_look-append, trailer_look-append, filled_body}

-- ---- BodyLength and what follows

-- the remainders after the head
abbrev pub IsLengthAndBody : List ℕ → Type 0
IsLengthAndBody end =
    (digits : List ℕ) × (body : List ℕ) × IsBodyLength digits (length body) × IsBody body
    × (end ≡ digits ++ soh ∷ (body ++ trailer_of (front_of digits body)))

length_look-err : (rest : List ℕ) (miss : Miss) → size_of 0 0 rest ≡ Err miss → length_look rest ≡ Err miss
unfolding length_look
length_look-err rest miss is = rw is refl

pub length_look-append : (digits more : List ℕ) (size : ℕ) → Writes 0 0 digits size → length_look (digits ++ soh ∷ more) ≡ body_look (first_fields digits) size more
unfolding length_look
length_look-append digits more size w =
    rw (size_of-append digits 0 0 size more w, zero-add (length digits), take-append-add digits (soh ∷ more) 1, drop-append-add digits (soh ∷ more) 1) refl

with_size : (digits body : List ℕ) (size : ℕ) → Writes 0 0 digits size → length body ≡ size → IsBodyLength digits (length body)
with_size digits body size w is = subst (IsBodyLength digits) (sym is) (IsBodyLength-writes digits size w)

lift_body : (digits more : List ℕ) (size : ℕ) → Writes 0 0 digits size → Outcome (body_look (first_fields digits) size) (IsBodyAndTrailer (first_fields digits) size) (length (first_fields digits)) more → Outcome length_look IsLengthAndBody 12 (digits ++ soh ∷ more)
lift_body digits more size w (out_whole end later is whole found) =
    out_whole (digits ++ soh ∷ end) later
    (digits, is.0, with_size digits is.0 size w is.1, is.2, ap (λ x. digits ++ soh ∷ x) is.3)
    (ap (λ x. digits ++ soh ∷ x) whole ∙ sym (append_assoc digits (soh ∷ end) later))
    (length_look-append digits more size w ∙ found ∙ ap Ok (omega (arith, length-append digits (soh ∷ []), length-append digits (soh ∷ end))))
lift_body digits more size w (out_part later some is found) =
    out_part later some
    (digits, is.0, with_size digits is.0 size w is.1, is.2, append_assoc digits (soh ∷ more) later ∙ ap (λ x. digits ++ soh ∷ x) is.3)
    (length_look-append digits more size w ∙ found)
lift_body digits more size w (out_never fails) =
    out_never (λ later. ap length_look (append_assoc digits (soh ∷ more) later) ∙ length_look-append digits (more ++ later) size w ∙ fails later)

length_viewed : (rest : List ℕ) → SizeView 0 0 rest → Outcome length_look IsLengthAndBody 12 rest
length_viewed rest (size_known digits more size w is) =
    subst (Outcome length_look IsLengthAndBody 12) (sym is) (lift_body digits more size w (body_outcome (first_fields digits) more size w.low))
length_viewed rest (size_open more size w found) =
    let digits = rest ++ more in
    let filled = filled_body [] (codes "35=") size refl w.low in
    let body = codes "35=" ++ filled.0 in
    let end = body ++ trailer_of (front_of digits body) in
    out_part (more ++ soh ∷ end) (omega (arith, length-append more (soh ∷ end)))
    (digits, body, with_size digits body size w filled.1, filled.2, sym (append_assoc rest more (soh ∷ end)))
    (length_look-err rest Partial found)
length_viewed rest (size_wrong fails) = out_never (λ more. length_look-err (rest ++ more) Neither (fails more))

pub length_outcome : (rest : List ℕ) → Outcome length_look IsLengthAndBody 12 rest
length_outcome rest = length_viewed rest (size_view rest 0 0 (omega arith) (omega arith))

-- ---- the head

look_of-err : (text : List ℕ) (miss : Miss) → behind head text ≡ Err miss → look_of text ≡ Err miss
unfolding look_of
look_of-err text miss is = ap (λ r. r >>= length_look) is

look_of-append : (rest : List ℕ) → look_of (head ++ rest) ≡ length_look rest
unfolding look_of
look_of-append rest = ap (λ r. r >>= length_look) (behind-append head rest)

whole_frame : (end : List ℕ) → IsLengthAndBody end → IsFrame (head ++ end)
whole_frame end is = record {
  digits = is.0;
  body = is.1;
  body_length = is.2;
  body_form = is.3;
  whole = ap (λ x. head ++ x) is.4 ∙ simp append_assoc;
}

-- the shortest frame, after its head
shortest : (end : List ℕ) × IsLengthAndBody end
shortest =
    let filled = filled_body [] (codes "35=") 5 refl (lit≤ tt) in
    let body = codes "35=" ++ filled.0 in
    let length_is : IsBodyLength (53 ∷ []) 5 = record { number = refl; short = lit≤ tt; value = refl; low = lit≤ tt; high = lit≤ tt } in
    (_, (53 ∷ [], body, subst (IsBodyLength (53 ∷ [])) (sym filled.1) length_is, filled.2, refl))

lift_length : (rest : List ℕ) → Outcome length_look IsLengthAndBody 12 rest → Outcome look_of IsFrame 0 (head ++ rest)
lift_length rest (out_whole end more is whole found) =
    out_whole (head ++ end) more (whole_frame end is) (ap (λ x. head ++ x) whole) (look_of-append rest ∙ found ∙ ap Ok (omega arith))
lift_length rest (out_part more some is found) = out_part more some (whole_frame (rest ++ more) is) (look_of-append rest ∙ found)
lift_length rest (out_never fails) = out_never (λ more. look_of-append (rest ++ more) ∙ fails more)

head_first : (text : List ℕ) → Begins head text → Outcome look_of IsFrame 0 text
head_first text (begins_whole rest is) = subst (Outcome look_of IsFrame 0) (sym is) (lift_length rest (length_outcome rest))
head_first text (begins_short more some is) =
    out_part (more ++ shortest.0) (omega (arith, length-append more shortest.0))
    (subst IsFrame (ap (λ x. x ++ shortest.0) is ∙ append_assoc text more shortest.0) (whole_frame shortest.0 shortest.1))
    (look_of-err text Partial (ap (λ x. behind x text) is ∙ behind-part text more some))
head_first text (begins_other fails) = out_never (λ more. look_of-err (text ++ more) Neither (fails more))

-- ---- the sentence and the look

pub look_outcome : (text : List ℕ) → Outcome look_of IsFrame 0 text
look_outcome text = head_first text (begins head text)

rearranged : (digits body trailer more : List ℕ) → ((first_fields digits ++ body) ++ trailer) ++ more ≡ head ++ (digits ++ soh ∷ (body ++ (trailer ++ more)))
rearranged digits body trailer more =
    append_assoc (first_fields digits ++ body) trailer more ∙ append_assoc (first_fields digits) body (trailer ++ more)
    ∙ ap (λ x. head ++ x) (append_assoc digits (soh ∷ []) (body ++ (trailer ++ more)))

ok_same : (n m : ℕ) → ◌≡◌ {A = Result ℕ Miss} (Ok n) (Ok m) → n ≡ m
ok_same n m is = cc

not_both : (miss : Miss) (n : ℕ) → Err miss ≡ Ok n → ⊥
not_both miss n is = cc

neither_partial : ◌≡◌ {A = Result ℕ Miss} (Err Neither) (Err Partial) → ⊥
neither_partial is = cc

pub look_of-frame : (frame more : List ℕ) → IsFrame frame → look_of (frame ++ more) ≡ Ok (length frame)
look_of-frame frame more is =
    let digits = is.digits in
    let body = is.body in
    let front = front_of digits body in
    let text : frame ++ more ≡ head ++ (digits ++ soh ∷ (body ++ (trailer_of front ++ more))) = ap (λ x. x ++ more) is.whole ∙ rearranged digits body (trailer_of front) more in
    let size : length frame ≡ length front + 7 = omega (arith, ap length is.whole, length-append front (trailer_of front)) in
    ap look_of text ∙ look_of-append _
    ∙ length_look-append digits (body ++ (trailer_of front ++ more)) (length body) (Writes-body_length digits (length body) is.body_length)
    ∙ body_look-append (first_fields digits) body (trailer_of front ++ more) is.body_form
    ∙ trailer_look-append front more ∙ ap Ok (sym size)

pub length-frame : (frame : List ℕ) → IsFrame frame → 0 < length frame
length-frame frame is = omega (arith, ap length is.whole, length-append (front_of is.digits is.body) (trailer_of (front_of is.digits is.body)))

-- a frame of n bytes begins the text
pub record HasFrame (text : List ℕ) (n : ℕ) : Type 0 where
  pub valid : IsFrame (take n text)
  pub some : 0 < n
  pub inside : n ≤ length text
  pub stays : (more : List ℕ) → look_of (text ++ more) ≡ Ok n

has_frame : (text end more : List ℕ) → IsFrame end → text ≡ end ++ more → HasFrame text (length end)
has_frame text end more is whole = record {
  valid = subst IsFrame (sym (take-append_seam end more) ∙ ap (take (length end)) (sym whole)) is;
  some = length-frame end is;
  inside = omega (arith, ap length whole, length-append end more);
  stays = λ later. ap (λ x. look_of (x ++ later)) whole ∙ ap look_of (append_assoc end more later) ∙ look_of-frame end (more ++ later) is;
}

pub look_of-ok : (text : List ℕ) (n : ℕ) → look_of text ≡ Ok n → HasFrame text n
look_of-ok text n found = by_outcome (look_outcome text)
  where
    by_outcome : Outcome look_of IsFrame 0 text → HasFrame text n
    by_outcome (out_whole end more is whole e) =
        let same : 0 + length end ≡ n = cc in
        subst (HasFrame text) (sym (zero-add (length end)) ∙ same) (has_frame text end more is whole)
    by_outcome (out_part more some is e) = cc
    by_outcome (out_never fails) = cc (ap look_of (sym (append-nil text)) ∙ fails [])

pub look_of-partial : (text : List ℕ) → look_of text ≡ Err Partial → IsFramePrefix text
look_of-partial text found = by_outcome (look_outcome text)
  where
    by_outcome : Outcome look_of IsFrame 0 text → IsFramePrefix text
    by_outcome (out_whole end more is whole e) = cc
    by_outcome (out_part more some is e) = record { more = more; proper = some; frame = is }
    by_outcome (out_never fails) = cc (ap look_of (sym (append-nil text)) ∙ fails [])

pub look_of-neither : (text more : List ℕ) → look_of text ≡ Err Neither → look_of (text ++ more) ≡ Err Neither
look_of-neither text more found = by_outcome (look_outcome text)
  where
    by_outcome : Outcome look_of IsFrame 0 text → look_of (text ++ more) ≡ Err Neither
    by_outcome (out_whole end later is whole e) = cc
    by_outcome (out_part later some is e) = cc
    by_outcome (out_never fails) = fails more

whole_look : (text : List ℕ) → IsFrame text → look_of text ≡ Ok (length text)
whole_look text is = ap look_of (sym (append-nil text)) ∙ look_of-frame text [] is

pub look_of-prefix : (text : List ℕ) → IsFramePrefix text → look_of text ≡ Err Partial
look_of-prefix text is = by_outcome (look_outcome text)
  where
    by_outcome : Outcome look_of IsFrame 0 text → look_of text ≡ Err Partial
    by_outcome (out_whole end more valid whole e) =
        let early = (has_frame text end more valid whole).stays is.more in
        let same = ok_same _ _ (sym early ∙ whole_look (text ++ is.more) is.frame) in
        absurd (omega (arith, is.proper, ap length whole, length-append end more, length-append text is.more))
    by_outcome (out_part more some valid e) = e
    by_outcome (out_never fails) = absurd (not_both _ _ (sym (fails is.more) ∙ whole_look (text ++ is.more) is.frame))

-- where neither is found, nothing can be taken or waited for
pub look_of-garbled : (text : List ℕ) → look_of text ≡ Err Neither → IsGarbled text
look_of-garbled text found = record {
  no_frame = λ is. not_both _ _ (sym found ∙ ap look_of is.whole ∙ look_of-frame is.frame is.more is.valid);
  no_prefix = λ is. neither_partial (sym found ∙ look_of-prefix text is);
}

pub look_of-not_garbled : (text : List ℕ) → IsGarbled text → look_of text ≡ Err Neither
look_of-not_garbled text is = by_outcome (look_outcome text)
  where
    by_outcome : Outcome look_of IsFrame 0 text → look_of text ≡ Err Neither
    by_outcome (out_whole end more valid whole e) = absurd (is.no_frame (record { frame = end; more = more; valid = valid; whole = whole }))
    by_outcome (out_part more some valid e) = absurd (is.no_prefix (record { more = more; proper = some; frame = valid }))
    by_outcome (out_never fails) = ap look_of (sym (append-nil text)) ∙ fails []

pub length-frame-le : (frame : List ℕ) → IsFrame frame → length frame ≤ 65562
length-frame-le frame is =
    omega (
      arith,
      ap length is.whole,
      length-append (front_of is.digits is.body) (trailer_of (front_of is.digits is.body)),
      length-append (first_fields is.digits) is.body,
      length-append is.digits (soh ∷ []),
      is.body_length.short,
      is.body_length.high,
    )

-- what is kept of a frame says all that a frame is
pub frame_kept : (text : List ℕ) → ∥ IsFrame text ∥₁ → IsFrame text
frame_kept text kept = by_look (look_of text) refl
  where
    by_look : (look : Result ℕ Miss) → look_of text ≡ look → IsFrame text
    by_look (Ok n) found =
        let whole : n ≡ length text = ∥∥₁_elim kept (ℕ_set n (length text)) (λ is. ok_same _ _ (sym found ∙ whole_look text is)) in
        subst IsFrame (ap (λ k. take k text) whole ∙ take-length text) (look_of-ok text n found).valid
    by_look (Err miss) found = absurd (∥∥₁_elim kept (λ a b. absurd a) (λ is. not_both _ _ (sym found ∙ whole_look text is)))
