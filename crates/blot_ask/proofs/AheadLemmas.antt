-- Lines that are taken of what was read ahead, and of the stream behind it.
use Rattle.std.proofs.Common.{◌≡◌, ◌≢◌, ℕ, ◌+◌, ◌<◌, ◌≤◌, Bool, true, false, List, [], ◌∷◌, ◌++◌, length, Option, Some, None, inl, inr, refl, sym, ap, subst, ◌∙◌, arith, ◌==◌, not, nat_lt, eqb-true, ltb-false, ltb-true, append_assoc, append-nil, take_all}
use Rattle.std.specs.List.{after_first, before_first, list_any, position_or_len, onto_first}
use Rattle.std.specs.Io.KnownBytes.{Consumes, IsAtEnd}
use Rattle.std.proofs.KnownBytes.{Consumes-trans}
use Rattle.std.proofs.lemmas.Bool.{both_ways, cases_Bool, or_parts}
use Rattle.std.proofs.lemmas.List.{drop_all}
use Rattle.std.proofs.lemmas.List.Folds.{list_any_at, list_any_none, list_any-append}
use Rattle.std.proofs.lemmas.List.Sums.{fails_before_first, passes_at_first, split_at_first}
use Rattle.std.proofs.lemmas.Grind.{common_steps}
use Rattle.blot_stream.specs.Texts.{lines_of}
use Rattle.blot_ask.specs.Lines.{Refills, TakesInput, TakesLine, is_end, unread, with_end}

pub passed : (text : List ℕ) → position_or_len is_end text < length text → true ≡ list_any is_end text
passed text within = sym (list_any_at is_end text (position_or_len is_end text) 0 within (passes_at_first is_end text 0 within))

front_none : (text : List ℕ) → list_any is_end (before_first is_end text) ≡ false
front_none text =
    list_any_none is_end (before_first is_end text)
    (λ k e m. let fails = fails_before_first is_end text k e (grind (arith, common_steps)) in grind (arith, common_steps))

pub none_passed : (text : List ℕ) → length text ≤ position_or_len is_end text → false ≡ list_any is_end text
none_passed text beyond = sym (ap (list_any is_end) (sym (take_all (position_or_len is_end text) text beyond)) ∙ front_none text)

-- a text with an LF in it, taken apart at the first
parts : (text : List ℕ) → list_any is_end text ≡ true → text ≡ with_end (before_first is_end text) ++ after_first is_end text
parts text some =
    elim (cases_Bool (nat_lt (position_or_len is_end text) (length text))) [
      | inl within ↦
          split_at_first is_end text 0 (omega (arith, ltb-true _ _ within))
          ∙ ap (λ byte. before_first is_end text ++ (byte ∷ after_first is_end text)) (eqb-true _ 10 (passes_at_first is_end text 0 (omega (arith, ltb-true _ _ within))))
          ∙ sym (append_assoc (before_first is_end text) (10 ∷ []) (after_first is_end text))
      | inr beyond ↦ absurd (both_ways _ (sym (none_passed text (omega (arith, ltb-false _ _ beyond)))) some)
    ]

whole_front : (text : List ℕ) → list_any is_end text ≡ false → before_first is_end text ≡ text
whole_front text none =
    elim (cases_Bool (nat_lt (position_or_len is_end text) (length text))) [
      | inl within ↦ absurd (both_ways _ none (sym (passed text (omega (arith, ltb-true _ _ within)))))
      | inr beyond ↦ take_all (position_or_len is_end text) text (omega (arith, ltb-false _ _ beyond))
    ]

none_left : (text : List ℕ) → list_any is_end text ≡ false → after_first is_end text ≡ []
none_left text none =
    elim (cases_Bool (nat_lt (position_or_len is_end text) (length text))) [
      | inl within ↦ absurd (both_ways _ none (sym (passed text (ltb-true _ _ within))))
      | inr beyond ↦ let past = ltb-false _ _ beyond in drop_all (position_or_len is_end text + 1) text (omega (arith, past))
    ]

-- an LF stands among what is here, or none does
pub some_here : (text held : List ℕ) (count : ℕ) → text ≡ held → count ≡ position_or_len is_end held → count ≢ length held → count ≤ length held → true ≡ list_any is_end text
some_here text held count is place other within =
    passed held (subst (λ place. place < length held) place (omega (arith, other, within))) ∙ ap (list_any is_end) (sym is)

pub none_here : (text held : List ℕ) (count : ℕ) → text ≡ held → count ≡ position_or_len is_end held → count ≡ length held → false ≡ list_any is_end text
none_here text held count is place all =
    none_passed held (omega (arith, place, all)) ∙ ap (list_any is_end) (sym is)

-- what stands at the front of what is here is taken
takes_front : (here front left : List ℕ) (known : Option (List ℕ)) → here ≡ front ++ left → Consumes (unread here known) (unread left known) front
takes_front here front left None is = tt
takes_front here front left (Some more) is = ap (λ here. here ++ more) is ∙ append_assoc front left more

refilled : (here : List ℕ) (known left : Option (List ℕ)) → Consumes known left here → Consumes (unread [] known) (unread here left) []
refilled here None left consumes = tt
refilled here (Some bytes) None consumes = absurd consumes
refilled here (Some bytes) (Some left) consumes = consumes

-- a piece more is here, or the end of the stream is
pub refills :
    (more : Bool) (left here : List ℕ) (known after : Option (List ℕ)) → left ≡ [] → Refills more here known after
    → Consumes (unread left known) (unread here after) []
refills true left here known after none gives = subst (λ left. Consumes (unread left known) (unread here after) []) (sym none) (refilled here known after gives)
refills false left here known after none gives =
    subst (λ left. Consumes (unread left known) (unread here after) []) (sym none)
    (refilled here known after (subst (Consumes known after) (sym gives.0) gives.1))

at_end : (known : Option (List ℕ)) → IsAtEnd known → IsAtEnd (unread [] known)
at_end None end = tt
at_end (Some bytes) end = end

pub is_over : (more : Bool) (here : List ℕ) (known after : Option (List ℕ)) → more ≡ false → Refills more here known after → IsAtEnd (unread here after)
is_over true here known after is gives = absurd cc
is_over false here known after is gives = subst (λ here. IsAtEnd (unread here after)) (sym gives.0) (at_end after gives.2)

-- a line that has begun goes on to an LF
pub ends_here :
    (first known : Option (List ℕ)) (here left begun line : List ℕ) → Consumes first (unread here known) begun → list_any is_end begun ≡ false
    → true ≡ list_any is_end here → line ≡ begun ++ before_first is_end here → left ≡ after_first is_end here
    → TakesLine true first (unread left known) line
ends_here first known here left begun line before none some is_line is_left =
    let taken : here ≡ with_end (before_first is_end here) ++ left = parts here (sym some) ∙ ap (λ left. with_end (before_first is_end here) ++ left) (sym is_left) in
    let all : with_end line ≡ begun ++ with_end (before_first is_end here) = ap with_end is_line ∙ append_assoc begun (before_first is_end here) (10 ∷ []) in (
      subst (Consumes first (unread left known)) (sym all)
          (Consumes-trans first (unread here known) (unread left known) begun _ before (takes_front here _ left known taken)),
      ap (list_any is_end) is_line ∙ none_in_both begun (before_first is_end here) none (front_none here),
    )
  where
    none_in_both : (a b : List ℕ) → list_any is_end a ≡ false → list_any is_end b ≡ false → list_any is_end (a ++ b) ≡ false
    none_in_both a b none_a none_b = list_any-append is_end a b ∙ rw (none_a, none_b) refl

-- or all that is here is of it
pub goes_on :
    (first known : Option (List ℕ)) (here left begun line : List ℕ) → Consumes first (unread here known) begun → list_any is_end begun ≡ false
    → false ≡ list_any is_end here → line ≡ begun ++ before_first is_end here → left ≡ after_first is_end here
    → Consumes first (unread left known) line × (list_any is_end line ≡ false)
goes_on first known here left begun line before none none_here is_line is_after =
    let is_left : left ≡ [] = is_after ∙ none_left here (sym none_here) in
    let all : line ≡ begun ++ here = is_line ∙ ap (λ more. begun ++ more) (whole_front here (sym none_here)) in
    let taken : here ≡ here ++ left = sym (ap (λ left. here ++ left) is_left ∙ append-nil here) in (
      subst (Consumes first (unread left known)) (sym all) (Consumes-trans first (unread here known) (unread left known) begun here before (takes_front here here left known taken)),
      ap (list_any is_end) all ∙ list_any-append is_end begun here ∙ rw (none, sym none_here) refl,
    )

-- behind a line that has begun nothing is taken
pub nothing_more : (first known after : Option (List ℕ)) (line : List ℕ) → Consumes first known line → Consumes known after [] → Consumes first after line
nothing_more first known after line taken nothing = subst (Consumes first after) (append-nil line) (Consumes-trans first known after line [] taken nothing)

pub no_more : (here left : List ℕ) → false ≡ list_any is_end here → left ≡ after_first is_end here → left ≡ []
no_more here left none is = is ∙ none_left here (sym none)

-- the first line of a text, up to its LF, and a last one without
lines_of-end : (line rest : List ℕ) → list_any is_end line ≡ false → lines_of (with_end line ++ rest) ≡ line ∷ lines_of rest
lines_of-end [] rest none = refl
lines_of-end (byte ∷ line) rest none =
    let none = or_parts (is_end byte) _ none in
    rw none.0 (ap (onto_first byte) (lines_of-end line rest none.1))

lines_of-last : (byte : ℕ) (line : List ℕ) → list_any is_end (byte ∷ line) ≡ false → lines_of (byte ∷ line) ≡ (byte ∷ line) ∷ []
lines_of-last byte [] none = let none = or_parts (is_end byte) false none in rw none.0 refl
lines_of-last byte (next ∷ line) none =
    let none = or_parts (is_end byte) _ none in
    rw none.0 (ap (onto_first byte) (lines_of-last next line none.1))

pub takes_ended : (ended : Bool) (before after : Option (List ℕ)) (line : List ℕ) → ended ≡ true → TakesLine ended before after line → TakesInput ended before after line
takes_ended true None after line is taken = tt
takes_ended true (Some bytes) None line is taken = absurd taken.0
takes_ended true (Some bytes) (Some rest) line is taken = (rest, refl, ap lines_of taken.0 ∙ lines_of-end line rest taken.1)
takes_ended false before after line is taken = absurd cc

last_taken : (bytes rest : List ℕ) (byte : ℕ) (line : List ℕ) → bytes ≡ (byte ∷ line) ++ rest → list_any is_end (byte ∷ line) ≡ false → rest ≡ []
    → lines_of bytes ≡ (byte ∷ line) ∷ lines_of rest
last_taken bytes rest byte line is none over =
    ap lines_of (is ∙ ap (λ rest. (byte ∷ line) ++ rest) over ∙ append-nil (byte ∷ line)) ∙ lines_of-last byte line none
    ∙ ap (λ rest. (byte ∷ line) ∷ lines_of rest) (sym over)

over_before : (before after : Option (List ℕ)) → Consumes before after [] → IsAtEnd after → IsAtEnd before
over_before None after taken over = tt
over_before (Some bytes) None taken over = absurd taken
over_before (Some bytes) (Some rest) taken over = taken ∙ over

takes_more : (before after : Option (List ℕ)) (byte : ℕ) (line : List ℕ) → TakesLine false before after (byte ∷ line) → TakesInput true before after (byte ∷ line)
takes_more None after byte line taken = tt
takes_more (Some bytes) None byte line taken = absurd taken.0
takes_more (Some bytes) (Some rest) byte line taken = (rest, refl, last_taken bytes rest byte line taken.0 taken.1 taken.2)

pub takes_last : (ended some : Bool) (before after : Option (List ℕ)) (line : List ℕ) → ended ≡ false → some ≡ not (length line == 0) → TakesLine ended before after line
    → TakesInput some before after line
takes_last true some before after line is has_some taken = absurd cc
takes_last false false before after [] is has_some taken = (over_before before after taken.0 taken.2, taken.2)
takes_last false true before after [] is has_some taken = absurd cc
takes_last false false before after (byte ∷ line) is has_some taken =
    elim (cases_Bool (length (byte ∷ line) == 0)) [
      | inl none ↦ let none = eqb-true (length (byte ∷ line)) 0 none in absurd (omega (arith, none))
      | inr some ↦ absurd (cc (has_some, ap not some))
    ]
takes_last false true before after (byte ∷ line) is has_some taken = takes_more before after byte line taken

-- an input that was taken to its end
pub rest_over : (here : List ℕ) (known : Option (List ℕ)) → IsAtEnd (unread here known) → IsAtEnd known
rest_over here None over = tt
rest_over [] (Some bytes) over = over
rest_over (byte ∷ here) (Some bytes) over = absurd cc

-- what was read ahead is read of the stream
pub ahead_read : (before after : Option (List ℕ)) (here bytes : List ℕ) → Consumes before (unread here after) bytes → Consumes before after (bytes ++ here)
ahead_read None after here bytes taken = tt
ahead_read (Some all) None here bytes taken = absurd taken
ahead_read (Some all) (Some rest) here bytes taken = taken ∙ sym (append_assoc bytes here rest)
