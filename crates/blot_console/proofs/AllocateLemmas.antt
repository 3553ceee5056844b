-- How the lists of an allocation are made.
use Rattle.std.proofs.Common.{◌≡◌, ℕ, ℤ, ◌+◌, ◌*◌, ◌^◌, ◌<◌, ◌≤◌, List, [], ◌∷◌, length, Result, Ok, Err, refl, sym, ap, subst, ◌∙◌, suc, arith, IfOk, IsOkAnd}
use Rattle.blot_time.specs.Results.{◌>>=◌}
use Rattle.blot_types.specs.declared.{TheConstants.ITEMS_MAX, allocation.Line.Line, keys.ExecKey.ExecKey}
use Rattle.blot_types.specs.ItemsBuilder.{Made, Grows, HoldsItems, Makes, IsShort}
use Rattle.blot_types.proofs.BuilderLemmas.{with_first, IsFront, front_grows, front_faults, front_ends, made_short, makes_short}
use Rattle.blot_console.specs.declared.{allocate.Block.Block, fault.Wrong.Wrong}
use Rattle.blot_console.specs.Allocate.{execs_of, line_of, lines_of, block_of}
use Rattle.blot_console.specs.Block.{kept_sum, MakesBlock}
use Rattle.blot_console.specs.Forms.{text_form}
use Rattle.blot_console.specs.Rows.{at}

-- ---- executions

-- the executions so far are a front of these
abbrev pub ExecsFront : Made ExecKey → List ℕ → ℕ → List (List ℕ) → Result (List ExecKey) Wrong → Type 0
ExecsFront made peer place words meant = IsFront made (execs_of peer place words) meant

abbrev exec : List ℕ → List ℕ → ExecKey
exec peer id = record { peer = peer; id = id }

execs_of-next : (peer : List ℕ) (place : ℕ) (word id : List ℕ) (words : List (List ℕ)) → at place (text_form word) ≡ Ok id
    → execs_of peer place (word ∷ words) ≡ with_first (exec peer id) (execs_of peer (place + 1) words)
unfolding execs_of
execs_of-next peer place word id words read = rw read (by_others (execs_of peer (place + 1) words))
  where
    by_others : (others : Result (List ExecKey) Wrong) → (others >>= λ execs. Ok (exec peer id ∷ execs)) ≡ with_first (exec peer id) others
    by_others (Ok execs) = refl
    by_others (Err wrong) = refl

execs_of-fault : (peer : List ℕ) (place : ℕ) (word : List ℕ) (wrong : Wrong) (words : List (List ℕ)) → at place (text_form word) ≡ Err wrong
    → execs_of peer place (word ∷ words) ≡ Err wrong
unfolding execs_of
execs_of-fault peer place word wrong words read = rw read refl

pub execs_grow : (old new : Made ExecKey) (peer : List ℕ) (place : ℕ) (all later : List (List ℕ)) (word id : List ℕ) (meant : Result (List ExecKey) Wrong)
    → all ≡ word ∷ later → at place (text_form word) ≡ Ok id → Grows (exec peer id) old new → ExecsFront old peer place all meant → ExecsFront new peer (place + 1) later meant
execs_grow old new peer place all later word id meant is read grows front =
    let P : Result (List ExecKey) Wrong → Type 0 = λ rest. IsFront old rest meant in
    front_grows (exec peer id) old new (execs_of peer (place + 1) later) meant grows (subst P (ap (execs_of peer place) is ∙ execs_of-next peer place word id later read) front)

pub execs_fail : (made : Made ExecKey) (peer : List ℕ) (place : ℕ) (all later : List (List ℕ)) (word : List ℕ) (wrong : Wrong) (meant : Result (List ExecKey) Wrong)
    → all ≡ word ∷ later → at place (text_form word) ≡ Err wrong → ExecsFront made peer place all meant → meant ≡ Err wrong
execs_fail made peer place all later word wrong meant is read front =
    let P : Result (List ExecKey) Wrong → Type 0 = λ rest. IsFront made rest meant in
    front_faults made wrong meant (subst P (ap (execs_of peer place) is ∙ execs_of-fault peer place word wrong later read) front)

pub execs_end : (made : Made ExecKey) (peer : List ℕ) (place : ℕ) (all : List (List ℕ)) (meant : Result (List ExecKey) Wrong)
    → all ≡ [] → ExecsFront made peer place all meant → Makes (Ok made) meant
unfolding execs_of
execs_end made peer place all meant is front =
    let P : Result (List ExecKey) Wrong → Type 0 = λ rest. IsFront made rest meant in
    front_ends made meant (subst P (ap (execs_of peer place) is) front)

-- ---- lines

lines_of-next : (price : ℤ) (place : ℕ) (first second : List ℕ) (line : Line) (words : List (List ℕ)) → line_of price place first second ≡ Ok line
    → lines_of price place (first ∷ second ∷ words) ≡ with_first line (lines_of price (place + 2) words)
unfolding lines_of
lines_of-next price place first second line words read = rw read (by_others (lines_of price (place + 2) words))
  where
    by_others : (others : Result (List Line) Wrong) → (others >>= λ lines. Ok (line ∷ lines)) ≡ with_first line others
    by_others (Ok lines) = refl
    by_others (Err wrong) = refl

lines_of-fault : (price : ℤ) (place : ℕ) (first second : List ℕ) (wrong : Wrong) (words : List (List ℕ)) → line_of price place first second ≡ Err wrong
    → lines_of price place (first ∷ second ∷ words) ≡ Err wrong
unfolding lines_of
lines_of-fault price place first second wrong words read = rw read refl

lines_of-nil : (price : ℤ) (place : ℕ) → lines_of price place [] ≡ Ok []
unfolding lines_of
lines_of-nil price place = refl

lines_of-odd : (price : ℤ) (place : ℕ) (first : List ℕ) → lines_of price place (first ∷ []) ≡ Ok []
unfolding lines_of
lines_of-odd price place first = refl

lines_of-few : (price : ℤ) (place : ℕ) (all : List (List ℕ)) → length all < 2 → lines_of price place all ≡ Ok []
lines_of-few price place [] few = lines_of-nil price place
lines_of-few price place (first ∷ []) few = lines_of-odd price place first
lines_of-few price place (first ∷ second ∷ words) few = absurd (omega (arith, few))

-- the sum of what was counted and of the lines to come, as a machine keeps it
abbrev pub summed : ℕ → Result (List Line) Wrong → Result ℕ Wrong
summed before (Ok lines) = Ok (kept_sum (before + block_of lines))
summed before (Err wrong) = Err wrong

-- the lines so far are a front of these, and so is their sum
pub record LinesFront (made : Made Line) (sum : ℕ) (rest meant : Result (List Line) Wrong) : Type 0 where
  pub lines : IsFront made rest meant
  pub sums : summed sum rest ≡ summed 0 meant

kept-more : (before qty later : ℕ) → kept_sum (before + (qty + later)) ≡ kept_sum (kept_sum (before + qty) + later)
kept-more before qty later = omega arith

summed-next : (sum : ℕ) (line : Line) (rest : Result (List Line) Wrong) → summed sum (with_first line rest) ≡ summed (kept_sum (sum + line.qty)) rest
summed-next sum line (Ok lines) = ap (λ total. Ok total) (kept-more sum line.qty (block_of lines))
summed-next sum line (Err wrong) = refl

grown : (old new : Made Line) (sum : ℕ) (line : Line) (rest meant : Result (List Line) Wrong)
    → Grows line old new → LinesFront old sum (with_first line rest) meant → LinesFront new (kept_sum (sum + line.qty)) rest meant
grown old new sum line rest meant grows front = record {
  lines = front_grows line old new rest meant grows front.lines;
  sums = sym (summed-next sum line rest) ∙ front.sums;
}

pub lines_grow : (old new : Made Line) (sum kept : ℕ) (price : ℤ) (place : ℕ) (all later : List (List ℕ)) (first second : List ℕ) (line : Line) (meant : Result (List Line) Wrong)
    → all ≡ first ∷ second ∷ later → line_of price place first second ≡ Ok line → Grows line old new → kept ≡ kept_sum (sum + line.qty)
    → LinesFront old sum (lines_of price place all) meant → LinesFront new kept (lines_of price (place + 2) later) meant
lines_grow old new sum kept price place all later first second line meant is read grows keeps front =
    let P : Result (List Line) Wrong → Type 0 = λ rest. LinesFront old sum rest meant in
    let Q : ℕ → Type 0 = λ total. LinesFront new total (lines_of price (place + 2) later) meant in
    let step = ap (lines_of price place) is ∙ lines_of-next price place first second line later read in
    subst Q (sym keeps) (grown old new sum line (lines_of price (place + 2) later) meant grows (subst P step front))

pub lines_fail : (made : Made Line) (sum : ℕ) (price : ℤ) (place : ℕ) (all later : List (List ℕ)) (first second : List ℕ) (wrong : Wrong) (meant : Result (List Line) Wrong)
    → all ≡ first ∷ second ∷ later → line_of price place first second ≡ Err wrong
    → LinesFront made sum (lines_of price place all) meant → meant ≡ Err wrong
lines_fail made sum price place all later first second wrong meant is read front =
    let P : Result (List Line) Wrong → Type 0 = λ rest. IsFront made rest meant in
    let step = ap (lines_of price place) is ∙ lines_of-fault price place first second wrong later read in
    front_faults made wrong meant (subst P step front.lines)

-- where no line is to come, the block is made
ended : (made : Made Line) (sum : ℕ) (meant : Result (List Line) Wrong) → sum < 2 ^ 64 → Makes (Ok made) meant → Ok (kept_sum (sum + 0)) ≡ summed 0 meant
    → MakesBlock (Ok (record { lines = made; sum = sum })) meant
ended made sum (Ok lines) small makes sums =
    let same : kept_sum (sum + 0) ≡ kept_sum (0 + block_of lines) = cc in
    (makes, omega (arith, same))
ended made sum (Err wrong) small makes sums = absurd makes

pub lines_end : (made : Made Line) (sum : ℕ) (rest meant : Result (List Line) Wrong)
    → sum < 2 ^ 64 → rest ≡ Ok [] → LinesFront made sum rest meant → MakesBlock (Ok (record { lines = made; sum = sum })) meant
lines_end made sum rest meant small none front =
    let P : Result (List Line) Wrong → Type 0 = λ rest. LinesFront made sum rest meant in
    let last = subst P none front in
    ended made sum meant small (front_ends made meant last.lines) last.sums

pub lines_end_few : (made : Made Line) (sum : ℕ) (price : ℤ) (place : ℕ) (all : List (List ℕ)) (meant : Result (List Line) Wrong)
    → sum < 2 ^ 64 → length all < 2 → LinesFront made sum (lines_of price place all) meant → MakesBlock (Ok (record { lines = made; sum = sum })) meant
lines_end_few made sum price place all meant small few front =
    lines_end made sum (lines_of price place all) meant small (lines_of-few price place all few) front

-- ---- how long they are

bound : {A B : Type 0} (read : Result A Wrong) (next : A → Result B Wrong) (result : B) → (read >>= next) ≡ Ok result → (value : A) × (read ≡ Ok value) × (next value ≡ Ok result)
bound (Ok value) next result is = (value, refl, is)
bound (Err wrong) next result is = absurd cc

abbrev given : {A : Type 0} → A → Result A Wrong
given value = Ok value

given_same : {A : Type 0} (a b : A) → given a ≡ Ok b → a ≡ b
given_same a b is = cc

execs_of-length : (peer : List ℕ) (place : ℕ) (words : List (List ℕ)) (execs : List ExecKey) → execs_of peer place words ≡ Ok execs → length execs ≡ length words
unfolding execs_of
execs_of-length peer place [] execs is = ap length (sym (given_same [] execs is))
execs_of-length peer place (word ∷ words) execs is =
    let first = bound (at place (text_form word)) (λ id. execs_of peer (place + 1) words >>= λ execs. Ok (exec peer id ∷ execs)) execs is in
    let others = bound (execs_of peer (place + 1) words) (λ execs. Ok (exec peer first.0 ∷ execs)) execs first.2 in
    ap length (sym (given_same (exec peer first.0 ∷ others.0) execs others.2)) ∙ ap (λ n. suc n) (execs_of-length peer (place + 1) words others.0 others.1)

lines_of-length : (price : ℤ) (place : ℕ) (words : List (List ℕ)) (lines : List Line) → lines_of price place words ≡ Ok lines → 2 * length lines ≤ length words
unfolding lines_of
lines_of-length price place [] lines is = let none = ap length (sym (given_same [] lines is)) in omega (arith, none)
lines_of-length price place (first ∷ []) lines is = let none = ap length (sym (given_same [] lines is)) in omega (arith, none)
lines_of-length price place (first ∷ second ∷ words) lines is =
    let line = bound (line_of price place first second) (λ line. lines_of price (place + 2) words >>= λ lines. Ok (line ∷ lines)) lines is in
    let others = bound (lines_of price (place + 2) words) (λ lines. Ok (line.0 ∷ lines)) lines line.2 in
    let same = ap length (sym (given_same (line.0 ∷ others.0) lines others.2)) in
    omega (arith, same, lines_of-length price (place + 2) words others.0 others.1)

pub execs_short : (result : Result (Made ExecKey) Wrong) (peer : List ℕ) (place : ℕ) (words : List (List ℕ)) → length words ≤ ITEMS_MAX
    → Makes result (execs_of peer place words) → IfOk result IsShort
execs_short result peer place words few makes =
    makes_short result (execs_of peer place words) (λ execs is. let same = execs_of-length peer place words execs is in omega (arith, same)) makes

held : (block : Block) (meant : Result (List Line) Wrong) → MakesBlock (Ok block) meant → IsOkAnd meant (HoldsItems block.lines)
held block (Ok lines) makes = makes.0
held block (Err wrong) makes = absurd makes

pub lines_short : (result : Result Block Wrong) (price : ℤ) (place : ℕ) (words : List (List ℕ)) → length words ≤ 2 * ITEMS_MAX
    → MakesBlock result (lines_of price place words) → IfOk result (λ block. IsShort block.lines)
lines_short (Ok block) price place words few makes =
    made_short block.lines (lines_of price place words) (λ lines is. let same = lines_of-length price place words lines is in omega (arith, same)) (held block (lines_of price place words) makes)
lines_short (Err wrong) price place words few makes = tt
