-- The cells after lists of changes.
use Rattle.std.proofs.Common.{◌≡◌, ℕ, ◌+◌, ◌≤◌, pos, ◌+ℤ◌, ◌≤ℤ◌, arith, Bool, true, false, List, [], ◌∷◌, ◌++◌, length, map, sym, subst, add-zero, unsigned_abs, All, if◌then◌else◌}
use Rattle.std.proofs.lemmas.Int.{ints}
use Rattle.std.proofs.lemmas.List.Elements.{All-head, All-tail, All-weaker}
use Rattle.blot_types.specs.declared.part.Part.{Part}
use Rattle.blot_types.specs.Order.{total}
use Rattle.blot_types.specs.Position.{is_at, IsSmall}
use Rattle.blot_types.proofs.SumLemmas.{total-cons}
use Rattle.blot_position.specs.Positions.{Cells, has_cell}
use Rattle.blot_position.proofs.PositionLemmas.{has_cell-stays_with_part, has_cell-stays_without_part}
use Rattle.blot_position.specs.Carried.{Carries}
use Rattle.blot_position.proofs.CarryLemmas.{Whole, more, SameWhole, one_at, IsCount, Carries-same, Carries-put, Carries-take, Light, Light-put, Light-take, Light-same, IsLightEnough, has-room, has-part}
use Rattle.blot_command.specs.Booking.{Change, put_in, taken_out, changed_by, changed, changed_all, CanChange, CanChangeAll}
use Rattle.blot_command.proofs.ChangeListLemmas.{changed_all-append, can-joined}

-- ---- lists of changes

stays_by : (is_put : Bool) (part : Part) (cells : Cells) (a s : List ℕ) → has_cell cells a s ≡ true → has_cell (changed_by is_put part cells) a s ≡ true
stays_by true part cells a s made = has_cell-stays_with_part part.account part.symbol a s part.qty part.value cells made
stays_by false part cells a s made = has_cell-stays_without_part part.account part.symbol a s part.qty part.value cells made

-- a cell that was made stays
pub stays : (changes : List Change) (cells : Cells) (a s : List ℕ) → has_cell cells a s ≡ true → has_cell (changed_all changes cells) a s ≡ true
stays [] cells a s made = made
stays (change ∷ later) cells a s made = stays later (changed change cells) a s (stays_by change.is_put change.part cells a s made)

-- ---- changes that lead from what cells carry to what they carry then

pub record Reaches (changes : List Change) (cells : Cells) (count qty : ℕ) (whole : Whole) : Type 0 where
  pub can : CanChangeAll changes cells
  pub carried : Carries whole (changed_all changes cells)
  pub light : Light count qty whole

pub reach-append :
    (a b : List Change) (cells : Cells) (count qty count' qty' : ℕ) (middle whole : Whole) → Reaches a cells count qty middle
    → Reaches b (changed_all a cells) count' qty' whole → Reaches (a ++ b) cells count' qty' whole
reach-append a b cells count qty count' qty' middle whole first second = record {
  can = can-joined a b cells first.can second.can;
  carried = subst (Carries whole) (sym (changed_all-append a b cells)) second.carried;
  light = second.light;
}

pub reach-same : (changes : List Change) (cells : Cells) (count qty : ℕ) (a b : Whole) → SameWhole a b → Reaches changes cells count qty a → Reaches changes cells count qty b
reach-same changes cells count qty a b same reached = record {
  can = reached.can;
  carried = Carries-same a b (changed_all changes cells) same reached.carried;
  light = Light-same a b count qty same reached.light;
}

pub reach-nothing : (cells : Cells) (count qty : ℕ) (whole : Whole) → Carries whole cells → Light count qty whole → Reaches [] cells count qty whole
reach-nothing cells count qty whole carried light = record { can = tt; carried = carried; light = light }

-- the quantities of parts
abbrev pub sizes : List Part → ℕ
sizes [] = 0
sizes (part ∷ parts) = unsigned_abs part.qty + sizes parts

pub less_enough : (c c' q q' : ℕ) → c' ≤ c → q' ≤ q → IsLightEnough c q → IsLightEnough c' q'
less_enough c c' q q' fewer smaller enough = record { count_fits = omega (arith, enough.count_fits, fewer); qty_fits = omega (arith, enough.qty_fits, smaller) }

-- parts are put
abbrev pub AreMade : List Part → Cells → Type 0
AreMade parts cells = All (λ part. has_cell cells part.account part.symbol ≡ true) parts

put-sums : (part : Part) (parts : List Part) (whole : Whole) → SameWhole (λ f. total f parts +ℤ more part whole f) (λ f. total f (part ∷ parts) +ℤ whole f)
put-sums part parts whole f = let is = total-cons f part parts in omega (arith, ints, is)

pub reach-put :
    (parts : List Part) (cells : Cells) (count qty : ℕ) (whole : Whole) → Carries whole cells → Light count qty whole → All IsSmall parts → AreMade parts cells
    → IsLightEnough (count + length parts) (qty + sizes parts)
    → Reaches (map put_in parts) cells (count + length parts) (qty + sizes parts) (λ f. total f parts +ℤ whole f)
reach-put [] cells count qty whole carried light small made enough =
    let same : SameWhole whole (λ f. total f [] +ℤ whole f) = λ f. omega (arith, ints) in
    let is : Reaches [] cells (count + 0) (qty + 0) whole = rw (add-zero, add-zero) (reach-nothing cells count qty whole carried light) in
    reach-same [] cells (count + 0) (qty + 0) whole (λ f. total f [] +ℤ whole f) same is
reach-put (part ∷ parts) cells count qty whole carried light small made enough =
    let one : IsSmall part = All-head IsSmall part parts small in
    let after = changed (put_in part) cells in
    let light_one : Light (count + 1) (qty + unsigned_abs part.qty) (more part whole) = Light-put part whole count qty one light in
    let carried_one : Carries (more part whole) after = Carries-put part whole cells carried in
    let enough_one : IsLightEnough (count + 1) (qty + unsigned_abs part.qty) =
    less_enough (count + length (part ∷ parts)) (count + 1) (qty + sizes (part ∷ parts)) (qty + unsigned_abs part.qty) (omega arith) (omega arith) enough in
    let can : CanChange (put_in part) cells = (All-head (λ p. has_cell cells p.account p.symbol ≡ true) part parts made, has-room part whole cells count (qty + unsigned_abs part.qty) carried light_one enough_one) in
    let made_rest : AreMade parts after =
    All-weaker (λ p. has_cell cells p.account p.symbol ≡ true) (λ p. has_cell after p.account p.symbol ≡ true)
    (λ p here. has_cell-stays_with_part part.account part.symbol p.account p.symbol part.qty part.value cells here) parts
    (All-tail (λ p. has_cell cells p.account p.symbol ≡ true) part parts made) in
    let enough_rest : IsLightEnough ((count + 1) + length parts) ((qty + unsigned_abs part.qty) + sizes parts) =
    less_enough (count + length (part ∷ parts)) ((count + 1) + length parts) (qty + sizes (part ∷ parts)) ((qty + unsigned_abs part.qty) + sizes parts) (omega arith) (omega arith) enough in
    let rest = reach-put parts after (count + 1) (qty + unsigned_abs part.qty) (more part whole) carried_one light_one (All-tail IsSmall part parts small) made_rest enough_rest in
    let same_count : (count + 1) + length parts ≡ count + length (part ∷ parts) = omega arith in
    let same_qty : (qty + unsigned_abs part.qty) + sizes parts ≡ qty + sizes (part ∷ parts) = omega arith in
    record {
      can = (can, rest.can);
      carried = Carries-same (λ f. total f parts +ℤ more part whole f) (λ f. total f (part ∷ parts) +ℤ whole f) (changed_all (map put_in parts) after) (put-sums part parts whole) rest.carried;
      light = subst (λ c. Light c (qty + sizes (part ∷ parts)) (λ f. total f (part ∷ parts) +ℤ whole f)) same_count
          (subst (λ q. Light ((count + 1) + length parts) q (λ f. total f (part ∷ parts) +ℤ whole f)) same_qty
          (Light-same (λ f. total f parts +ℤ more part whole f) (λ f. total f (part ∷ parts) +ℤ whole f) ((count + 1) + length parts) ((qty + unsigned_abs part.qty) + sizes parts) (put-sums part parts whole) rest.light));
    }

-- parts are taken
one_low_by : (test : Bool) → pos 0 ≤ℤ (if test then pos 1 else pos 0)
one_low_by true = omega (arith, ints)
one_low_by false = omega (arith, ints)

pub one_low : (a s : List ℕ) (part : Part) → pos 0 ≤ℤ one_at a s part
one_low a s part = one_low_by (is_at a s part)

pub count-total : (parts : List Part) → IsCount (λ f. total f parts)
count-total [] a s = omega (arith, ints)
count-total (part ∷ parts) a s =
    let is = total-cons (one_at a s) part parts in
    let rest = count-total parts a s in
    let one = one_low a s part in
    omega (arith, ints, is, rest, one)

pub reach-take :
    (parts : List Part) (cells : Cells) (count qty : ℕ) (rest : Whole) → Carries (λ f. total f parts +ℤ rest f) cells → Light count qty (λ f. total f parts +ℤ rest f) → IsCount rest
    → All IsSmall parts → IsLightEnough (count + length parts) (qty + sizes parts) → Reaches (map taken_out parts) cells (count + length parts) (qty + sizes parts) rest
reach-take [] cells count qty rest carried light some small enough =
    let same : SameWhole (λ f. total f [] +ℤ rest f) rest = λ f. omega (arith, ints) in
    let is : Reaches [] cells (count + 0) (qty + 0) (λ f. total f [] +ℤ rest f) = rw (add-zero, add-zero) (reach-nothing cells count qty (λ f. total f [] +ℤ rest f) carried light) in
    reach-same [] cells (count + 0) (qty + 0) (λ f. total f [] +ℤ rest f) rest same is
reach-take (part ∷ parts) cells count qty rest carried light some small enough =
    let one : IsSmall part = All-head IsSmall part parts small in
    let left : Whole = λ f. total f parts +ℤ rest f in
    let after = changed (taken_out part) cells in
    let same : SameWhole (λ f. total f (part ∷ parts) +ℤ rest f) (more part left) = λ f. (let is = total-cons f part parts in omega (arith, ints, is)) in
    let carried_one : Carries (more part left) cells = Carries-same (λ f. total f (part ∷ parts) +ℤ rest f) (more part left) cells same carried in
    let light_one : Light count qty (more part left) = Light-same (λ f. total f (part ∷ parts) +ℤ rest f) (more part left) count qty same light in
    let some_left : IsCount left = λ a s. (let low = count-total parts a s in let other = some a s in omega (arith, ints, low, other)) in
    let light_left : Light (count + 1) (qty + unsigned_abs part.qty) left = Light-take part left count qty one some_left light_one in
    let enough_one : IsLightEnough (count + 1) (qty + unsigned_abs part.qty) =
    less_enough (count + length (part ∷ parts)) (count + 1) (qty + sizes (part ∷ parts)) (qty + unsigned_abs part.qty) (omega arith) (omega arith) enough in
    let can = has-part part left cells (count + 1) (qty + unsigned_abs part.qty) carried_one light_left enough_one in
    let enough_rest : IsLightEnough ((count + 1) + length parts) ((qty + unsigned_abs part.qty) + sizes parts) =
    less_enough (count + length (part ∷ parts)) ((count + 1) + length parts) (qty + sizes (part ∷ parts)) ((qty + unsigned_abs part.qty) + sizes parts) (omega arith) (omega arith) enough in
    let later = reach-take parts after (count + 1) (qty + unsigned_abs part.qty) rest (Carries-take part left cells some_left carried_one) light_left some (All-tail IsSmall part parts small) enough_rest in
    let same_count : (count + 1) + length parts ≡ count + length (part ∷ parts) = omega arith in
    let same_qty : (qty + unsigned_abs part.qty) + sizes parts ≡ qty + sizes (part ∷ parts) = omega arith in
    record {
      can = (can, later.can);
      carried = later.carried;
      light = subst (λ c. Light c (qty + sizes (part ∷ parts)) rest) same_count (subst (λ q. Light ((count + 1) + length parts) q rest) same_qty later.light);
    }
