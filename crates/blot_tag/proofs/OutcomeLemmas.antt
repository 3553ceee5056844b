-- What each step of a look finds: a whole remainder of a frame, a part of one, or that none can come.
use Rattle.std.proofs.Common.{◌≡◌, ℕ, ◌+◌, ◌-◌, ◌<◌, ◌≤◌, nat_lt, if◌then◌else◌, codes, List, [], ◌∷◌, ◌++◌, length, take, drop, get_or, replicate, Result, Ok, Err, refl, sym, ap, subst, ◌∙◌, inl, inr, arith, length-append, append_assoc, eq-eqb, ne_eqb, lt-ltb, le-ltb, take-append-drop, length-take-le}
use Rattle.std.proofs.lemmas.Bool.{cases_lt, cases_eq}
use Rattle.std.proofs.Math.Seq.{get_or-append_seam, take-append_seam, drop-append_seam, take-append-add}
use Rattle.std.proofs.lemmas.List.{take_more, get_or_append_left, length-replicate}
use Rattle.blot_tag.specs.Bytes.{soh}
use Rattle.blot_tag.specs.Results.{◌>>=◌}
use Rattle.blot_tag.specs.Frames.{check_sum, trailer_of, IsBody}
use Rattle.blot_tag.specs.Looking.{behind, trailer_look, whole_body_look, body_look}
use Rattle.blot_tag.specs.declared.look.Miss.{Miss}
use Rattle.blot_tag.specs.declared.look.Miss.TheVariants.{Partial, Neither}
use Rattle.blot_tag.proofs.MatchLemmas.{Begins, begins_whole, begins_short, begins_other, begins, behind-append, behind-part}

-- a step that looks at the rest of a frame after `before` bytes, where Ends says which remainders a frame may have
pub data Outcome (look : List ℕ → Result ℕ Miss) (Ends : List ℕ → Type 0) (before : ℕ) (rest : List ℕ) : Type 0 where
  out_whole : (end more : List ℕ) → Ends end → rest ≡ end ++ more → look rest ≡ Ok (before + length end) → Outcome look Ends before rest
  out_part : (more : List ℕ) → 0 < length more → Ends (rest ++ more) → look rest ≡ Err Partial → Outcome look Ends before rest
  out_never : ((more : List ℕ) → look (rest ++ more) ≡ Err Neither) → Outcome look Ends before rest

-- ---- CheckSum

abbrev pub IsTrailer : List ℕ → List ℕ → Type 0
IsTrailer front end = end ≡ trailer_of front

pub trailer_look-append : (front more : List ℕ) → trailer_look front (trailer_of front ++ more) ≡ Ok (length front + 7)
unfolding trailer_look
trailer_look-append front more = rw (append_assoc (codes "10=") (check_sum front) more, behind-append (codes "10=") (check_sum front ++ more), behind-append (check_sum front) more) refl

-- the look after `10=`
abbrev pub digits_look : List ℕ → List ℕ → Result ℕ Miss
digits_look front digits = behind (check_sum front) digits >>= (λ more. Ok (length front + 7))

trailer_look-digits : (front digits : List ℕ) → trailer_look front (codes "10=" ++ digits) ≡ digits_look front digits
unfolding trailer_look
trailer_look-digits front digits = ap (λ r. r >>= digits_look front) (behind-append (codes "10=") digits)

trailer_look-err : (front rest : List ℕ) (miss : Miss) → behind (codes "10=") rest ≡ Err miss → trailer_look front rest ≡ Err miss
unfolding trailer_look
trailer_look-err front rest miss is = ap (λ r. r >>= digits_look front) is

trailer_digits : (front digits : List ℕ) → Begins (check_sum front) digits → Outcome (trailer_look front) (IsTrailer front) (length front) (codes "10=" ++ digits)
trailer_digits front digits (begins_whole more is) =
    out_whole (trailer_of front) more refl (ap (λ d. codes "10=" ++ d) is)
    (ap (λ d. trailer_look front (codes "10=" ++ d)) is ∙ trailer_look-append front more)
trailer_digits front digits (begins_short more some is) =
    out_part more some (ap (λ d. codes "10=" ++ d) (sym is))
    (trailer_look-digits front digits ∙ ap (λ r. r >>= (λ x. Ok (length front + 7))) (ap (λ c. behind c digits) is ∙ behind-part digits more some))
trailer_digits front digits (begins_other fails) =
    out_never (λ more. trailer_look-digits front (digits ++ more) ∙ ap (λ r. r >>= (λ x. Ok (length front + 7))) (fails more))

trailer_first : (front rest : List ℕ) → Begins (codes "10=") rest → Outcome (trailer_look front) (IsTrailer front) (length front) rest
trailer_first front rest (begins_whole more is) =
    subst (Outcome (trailer_look front) (IsTrailer front) (length front)) (sym is) (trailer_digits front more (begins (check_sum front) more))
trailer_first front rest (begins_short more some is) =
    out_part (more ++ check_sum front) (omega (arith, length-append more (check_sum front)))
    (sym (append_assoc rest more (check_sum front)) ∙ ap (λ ten. ten ++ check_sum front) (sym is))
    (trailer_look-err front rest Partial (ap (λ ten. behind ten rest) is ∙ behind-part rest more some))
trailer_first front rest (begins_other fails) = out_never (λ more. trailer_look-err front (rest ++ more) Neither (fails more))

pub trailer_outcome : (front rest : List ℕ) → Outcome (trailer_look front) (IsTrailer front) (length front) rest
trailer_outcome front rest = trailer_first front rest (begins (codes "10=") rest)

-- ---- the body

-- the remainders after the first two fields, for a body of this size
abbrev pub IsBodyAndTrailer : List ℕ → ℕ → List ℕ → Type 0
IsBodyAndTrailer before size end =
    (body : List ℕ) × (length body ≡ size) × IsBody body × (end ≡ body ++ trailer_of (before ++ body))

length-body : (body inner : List ℕ) → body ≡ codes "35=" ++ inner ++ soh ∷ [] → length body ≡ length inner + 4
length-body body inner is = omega (arith, ap length is, length-append inner (soh ∷ []))

body_look-35 : (before more : List ℕ) (size : ℕ) → body_look before size (codes "35=" ++ more) ≡ (if nat_lt (length (codes "35=" ++ more)) size then Err Partial else whole_body_look before size (codes "35=" ++ more))
unfolding body_look
body_look-35 before more size = rw (behind-append (codes "35=") more) refl

body_look-err : (before rest : List ℕ) (size : ℕ) (miss : Miss) → behind (codes "35=") rest ≡ Err miss → body_look before size rest ≡ Err miss
unfolding body_look
body_look-err before rest size miss is = rw is refl

whole_body_look-append : (before front after : List ℕ) → whole_body_look before (length (front ++ soh ∷ [])) ((front ++ soh ∷ []) ++ after) ≡ trailer_look (before ++ (front ++ soh ∷ [])) after
whole_body_look-append before front after =
    let body = front ++ soh ∷ [] in
    let last : length body - 1 ≡ length front = omega (arith, length-append front (soh ∷ [])) in
    let at : get_or (body ++ after) (length body - 1) 0 ≡ soh =
    rw last (get_or_append_left body after 0 (length front) (omega (arith, length-append front (soh ∷ []))) ∙ get_or-append_seam front soh [] 0) in
    rw (eq-eqb _ soh at, take-append_seam body after, drop-append_seam body after) refl

whole_size : (before body after more : List ℕ) → body ++ after ≡ codes "35=" ++ more → body_look before (length body) (body ++ after) ≡ whole_body_look before (length body) (body ++ after)
whole_size before body after more is =
    let enough : length body ≤ length (codes "35=" ++ more) = omega (arith, ap length is, length-append body after) in
    ap (body_look before (length body)) is ∙ body_look-35 before more (length body)
    ∙ rw (le-ltb (length (codes "35=" ++ more)) (length body) enough) (ap (whole_body_look before (length body)) (sym is))

-- a whole body leaves CheckSum to look at
pub body_look-append : (before body after : List ℕ) → IsBody body → body_look before (length body) (body ++ after) ≡ trailer_look (before ++ body) after
body_look-append before body after form =
    whole_size before body after (form.inner ++ soh ∷ [] ++ after) (ap (λ x. x ++ after) form.text)
    ∙ rw form.text (whole_body_look-append before (codes "35=" ++ form.inner) after)

lift_trailer : (before body after : List ℕ) → IsBody body → Outcome (trailer_look (before ++ body)) (IsTrailer (before ++ body)) (length (before ++ body)) after → Outcome (body_look before (length body)) (IsBodyAndTrailer before (length body)) (length before) (body ++ after)
lift_trailer before body after form (out_whole end more is whole found) =
    out_whole (body ++ end) more (body, refl, form, ap (λ x. body ++ x) is) (ap (λ x. body ++ x) whole ∙ sym (append_assoc body end more))
    (body_look-append before body after form ∙ found ∙ ap Ok (omega (arith, length-append before body, length-append body end)))
lift_trailer before body after form (out_part more some is found) =
    out_part more some (body, refl, form, append_assoc body after more ∙ ap (λ x. body ++ x) is) (body_look-append before body after form ∙ found)
lift_trailer before body after form (out_never fails) =
    out_never (λ more. ap (body_look before (length body)) (append_assoc body after more) ∙ body_look-append before body (after ++ more) form ∙ fails more)

-- a body that begins with these bytes
pub filled_body : (start more : List ℕ) (size : ℕ) → codes "35=" ≡ start ++ more → 5 ≤ size → (rest : List ℕ) × (length (start ++ (more ++ rest)) ≡ size) × IsBody (start ++ (more ++ rest))
filled_body start more size is low =
    let inner = replicate (size - 4) 48 in
    let text : start ++ (more ++ (inner ++ soh ∷ [])) ≡ codes "35=" ++ inner ++ soh ∷ [] = sym (append_assoc start more _) ∙ ap (λ x. x ++ (inner ++ soh ∷ [])) (sym is) in
    (inner ++ soh ∷ [], ap length text ∙ length-body _ inner refl ∙ omega (arith, length-replicate {A = ℕ} (size - 4) 48), record { inner = inner; text = text })

-- a body that is all there and ends with SOH
taken_body : (more : List ℕ) (size : ℕ) → 5 ≤ size → size ≤ length (codes "35=" ++ more) → get_or (codes "35=" ++ more) (size - 1) 0 ≡ soh → IsBody (take size (codes "35=" ++ more))
taken_body more size low enough ends =
    let rest = codes "35=" ++ more in
    let place : size ≡ size - 1 + 1 = omega arith in
    let front : size - 1 ≡ 3 + (size - 4) = omega arith in
    record {
      inner = take (size - 4) more;
      text =
          ap (λ n. take n rest) place ∙ take_more rest (size - 1) 0 (omega arith)
          ∙ ap (λ byte. take (size - 1) rest ++ byte ∷ []) ends
          ∙ ap (λ n. take n rest ++ soh ∷ []) front
          ∙ ap (λ x. x ++ soh ∷ []) (take-append-add (codes "35=") more (size - 4));
    }

length-take-all : (xs : List ℕ) (n : ℕ) → n ≤ length xs → length (take n xs) ≡ n
length-take-all xs n enough = length-take-le n xs enough

body_long : (before more : List ℕ) (size : ℕ) → 5 ≤ size → size ≤ length (codes "35=" ++ more) → Outcome (body_look before size) (IsBodyAndTrailer before size) (length before) (codes "35=" ++ more)
body_long before more size low enough =
    let rest = codes "35=" ++ more in
    elim (cases_eq (get_or rest (size - 1) 0) soh) [
      | inl ends ↦
          let body = take size rest in
          let lifted = lift_trailer before body (drop size rest) (taken_body more size low enough ends) (trailer_outcome (before ++ body) (drop size rest)) in
          subst (λ n. Outcome (body_look before n) (IsBodyAndTrailer before n) (length before) rest) (length-take-all rest size enough)
          (subst (Outcome (body_look before (length body)) (IsBodyAndTrailer before (length body)) (length before)) (take-append-drop size rest) lifted)
      | inr other ↦ out_never (λ later.
          let long : size ≤ length (codes "35=" ++ (more ++ later)) = omega (arith, length-append more later) in
          body_look-35 before (more ++ later) size
          ∙ rw (le-ltb (length (codes "35=" ++ (more ++ later))) size long, get_or_append_left rest later 0 (size - 1) (omega arith), ne_eqb _ soh other) refl)
    ]

body_open : (before more : List ℕ) (size : ℕ) → length (codes "35=" ++ more) < size → Outcome (body_look before size) (IsBodyAndTrailer before size) (length before) (codes "35=" ++ more)
body_open before more size short =
    let rest = codes "35=" ++ more in
    let pad = replicate (size - length rest - 1) 48 in
    let body = rest ++ (pad ++ soh ∷ []) in
    let text : body ≡ codes "35=" ++ (more ++ pad) ++ soh ∷ [] = simp append_assoc in
    let size_is : length body ≡ size = omega (arith, length-append rest (pad ++ soh ∷ []), length-append pad (soh ∷ []), length-replicate {A = ℕ} (size - length rest - 1) 48) in
    out_part ((pad ++ soh ∷ []) ++ trailer_of (before ++ body)) (omega (arith, length-append (pad ++ soh ∷ []) (trailer_of (before ++ body))))
    (body, size_is, record { inner = more ++ pad; text = text }, sym (append_assoc rest (pad ++ soh ∷ []) _))
    (body_look-35 before more size ∙ rw (lt-ltb (length rest) size short) refl)

-- the body's first bytes are there
body_started : (before more : List ℕ) (size : ℕ) → 5 ≤ size → Outcome (body_look before size) (IsBodyAndTrailer before size) (length before) (codes "35=" ++ more)
body_started before more size low =
    elim (cases_lt (length (codes "35=" ++ more)) size) [
      | inl short ↦ body_open before more size short
      | inr enough ↦ body_long before more size low enough
    ]

body_first : (before rest : List ℕ) (size : ℕ) → 5 ≤ size → Begins (codes "35=") rest → Outcome (body_look before size) (IsBodyAndTrailer before size) (length before) rest
body_first before rest size low (begins_whole more is) =
    subst (Outcome (body_look before size) (IsBodyAndTrailer before size) (length before)) (sym is) (body_started before more size low)
body_first before rest size low (begins_short more some is) =
    let filled = filled_body rest more size is low in
    let body = rest ++ (more ++ filled.0) in
    out_part ((more ++ filled.0) ++ trailer_of (before ++ body)) (omega (arith, length-append (more ++ filled.0) (trailer_of (before ++ body)), length-append more filled.0))
    (body, filled.1, filled.2, sym (append_assoc rest (more ++ filled.0) _))
    (body_look-err before rest size Partial (ap (λ x. behind x rest) is ∙ behind-part rest more some))
body_first before rest size low (begins_other fails) = out_never (λ more. body_look-err before (rest ++ more) size Neither (fails more))

pub body_outcome : (before rest : List ℕ) (size : ℕ) → 5 ≤ size → Outcome (body_look before size) (IsBodyAndTrailer before size) (length before) rest
body_outcome before rest size low = body_first before rest size low (begins (codes "35=") rest)
