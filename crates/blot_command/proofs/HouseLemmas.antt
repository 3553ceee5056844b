-- The parts of chains that are named go to the house account, and come back from it.
use Rattle.std.proofs.Common.{◌≡◌, ℕ, ◌+◌, ◌*◌, ◌^◌, ◌≤◌, pos, ◌+ℤ◌, ◌≤ℤ◌, arith, Bool, true, false, List, [], ◌∷◌, Option, Some, None, refl, sym, ap, subst, ◌∙◌, inl, inr, ℤ, unsigned_abs, ◌||◌, not, filter, find, ◌==◌, All, IsTrue, if◌then◌else◌, flat_map, option_and_then, option_map}
use Rattle.std.specs.List.{cons_option}
use Rattle.std.proofs.lemmas.Bool.{cases_Bool, and_parts, not-true}
use Rattle.std.proofs.lemmas.Int.{ints}
use Rattle.std.proofs.lemmas.List.Elements.{All-weaker}
use Rattle.blot_types.specs.declared.{command.Entry.Entry, fill.Fill.Fill, keys.ExecKey.ExecKey, part.Part.Part, lines.Version.Version}
use Rattle.blot_types.specs.Chains.{standing_version_in}
use Rattle.blot_types.specs.Instructions.{are_apart}
use Rattle.blot_types.specs.Keys.{is_among, same_exec}
use Rattle.blot_types.specs.Laws.{survivors_of_chain, is_of_chain}
use Rattle.blot_types.specs.Legal.{is_book}
use Rattle.blot_types.specs.Order.{total}
use Rattle.blot_types.specs.Position.{house, account_of, part_of_fill, IsSmall, FillFits}
use Rattle.blot_types.specs.StandingVersion.{standing}
use Rattle.blot_types.specs.Survivors.{links_of, versions_of, survivors}
use Rattle.blot_types.proofs.ChainLemmas.{differing}
use Rattle.blot_types.proofs.KeyLemmas.{same_exec-refl, same_exec-sym, same_exec-true}
use Rattle.blot_types.proofs.PartLemmas.{part_under, parts_under, total-named, NamesMore, moves-chain, chain-standing, MovesChain}
use Rattle.blot_types.proofs.SumLemmas.{total-cons}
use Rattle.blot_types.proofs.GeneralLemmas.{found-All}
use Rattle.blot_position.specs.Positions.{Cells, has_cell}
use Rattle.blot_position.specs.Carried.{Carries}
use Rattle.blot_position.proofs.CarryLemmas.{Whole, more, SameWhole, one_at, IsCount, Carries-same, Carries-put, Carries-take, Light, Light-put, Light-take, Light-same, IsLightEnough, has-room, has-part}
use Rattle.blot_command.specs.Booking.{Change, put_in, taken_out, changed, changed_all, moved_by, chains_moved}
use Rattle.blot_command.specs.Shown.{standing_fill}
use Rattle.blot_command.specs.Carried.{HasFillCells}
use Rattle.blot_command.proofs.ReachLemmas.{Reaches, reach-append, reach-same, reach-nothing, less_enough, stays, one_low}

-- ---- what is found among the versions

by_current : (list : List Entry) (P : Version → Type 0) (number : Option ℕ) (version : Version) → All P (versions_of list)
    → option_and_then (λ n. find (λ v. v.number == n) (versions_of list)) number ≡ Some version → P version
by_current list P None version all is = cc
by_current list P (Some n) version all is = found-All P (λ v. v.number == n) (versions_of list) version all is

-- what holds of all versions of a list holds of the one that stands of a chain
pub standing-All : (list : List Entry) (P : Version → Type 0) (root : ExecKey) (version : Version) → All P (versions_of list) → standing list root ≡ Some version → P version
standing-All list P root version all is = by_current list P (standing_version_in (links_of list) root) version all is

-- ---- one chain

pub count-under : (f : Version → ℤ) (xs : List Version) → ((v : Version) → pos 0 ≤ℤ f v) → pos 0 ≤ℤ total f xs
count-under f [] each = omega (arith, ints)
count-under f (v ∷ vs) each = let is = total-cons f v vs in let rest = count-under f vs each in let one = each v in omega (arith, ints, is, rest, one)

-- one part goes and another comes
pub reach-swap :
    (gone come : Part) (cells : Cells) (count qty : ℕ) (rest : Whole) → Carries (more gone rest) cells → Light count qty (more gone rest) → IsCount rest → IsSmall gone → IsSmall come
    → has_cell cells come.account come.symbol ≡ true → IsLightEnough (count + 2) ((qty + unsigned_abs gone.qty) + unsigned_abs come.qty)
    → Reaches (taken_out gone ∷ put_in come ∷ []) cells (count + 2) ((qty + unsigned_abs gone.qty) + unsigned_abs come.qty) (more come rest)
reach-swap gone come cells count qty rest carried light some small_gone small_come made enough =
    let light_rest : Light (count + 1) (qty + unsigned_abs gone.qty) rest = Light-take gone rest count qty small_gone some light in
    let enough_rest = less_enough (count + 2) (count + 1) ((qty + unsigned_abs gone.qty) + unsigned_abs come.qty) (qty + unsigned_abs gone.qty) (omega arith) (omega arith) enough in
    let after = changed (taken_out gone) cells in
    let carried_rest : Carries rest after = Carries-take gone rest cells some carried in
    let light_come : Light ((count + 1) + 1) ((qty + unsigned_abs gone.qty) + unsigned_abs come.qty) (more come rest) = Light-put come rest (count + 1) (qty + unsigned_abs gone.qty) small_come light_rest in
    let enough_come = less_enough (count + 2) ((count + 1) + 1) ((qty + unsigned_abs gone.qty) + unsigned_abs come.qty) ((qty + unsigned_abs gone.qty) + unsigned_abs come.qty) (omega arith) (omega arith) enough in
    let same_count : (count + 1) + 1 ≡ count + 2 = omega arith in
    record {
      can = (
        has-part gone rest cells (count + 1) (qty + unsigned_abs gone.qty) carried light_rest enough_rest,
        (
          (
            stays (taken_out gone ∷ []) cells come.account come.symbol made,
            has-room come rest after (count + 1) ((qty + unsigned_abs gone.qty) + unsigned_abs come.qty) carried_rest light_come enough_come,
          ),
          tt,
        ),
      );
      carried = Carries-put come rest after carried_rest;
      light = subst (λ c. Light c ((qty + unsigned_abs gone.qty) + unsigned_abs come.qty) (more come rest)) same_count light_come;
    }

pub Light-weaker : (whole : Whole) (count count' qty qty' : ℕ) → count ≤ count' → qty ≤ qty' → Light count qty whole → Light count' qty' whole
Light-weaker whole count count' qty qty' fewer smaller light = record {
  some = light.some;
  few = λ a s. (let few = light.few a s in omega (arith, ints, few, fewer));
  qtys = λ a s. (let small = light.qtys a s in omega (arith, small, smaller));
  values = λ a s. (let small = light.values a s in omega (arith, small, smaller));
}

-- what a list carries beside the parts of its survivors
abbrev pub beside : List Entry → (ExecKey → Bool) → Whole → Whole
beside list named others f = total f (parts_under named (links_of list) (survivors list)) +ℤ others f

-- where one more chain is named, what its survivors are known by
pub record IsBooked (list : List Entry) (cells : Cells) : Type 0 where
  pub book : IsTrue (is_book list)
  pub made : All (λ version. HasFillCells cells version.fill) (versions_of list)
  pub fits : All (λ version. FillFits version.fill) (versions_of list)

pub booked-stays : (list : List Entry) (changes : List Change) (cells : Cells) → IsBooked list cells → IsBooked list (changed_all changes cells)
booked-stays list changes cells booked = record {
  book = booked.book;
  made = All-weaker (λ version. HasFillCells cells version.fill) (λ version. HasFillCells (changed_all changes cells) version.fill)
      (λ version made. record {
        own = stays changes cells (account_of false version.fill) version.fill.symbol made.own;
        housed = stays changes cells house version.fill.symbol made.housed;
      }) (versions_of list) booked.made;
  fits = booked.fits;
}

-- however the chains are named, so much is carried
abbrev pub AlwaysLight : List Entry → Whole → ℕ → ℕ → Type 0
AlwaysLight list others count qty = (named : ExecKey → Bool) → Light count qty (beside list named others)

pub relight : (changes : List Change) (cells : Cells) (count qty count' qty' : ℕ) (whole : Whole) → Reaches changes cells count qty whole → Light count' qty' whole → Reaches changes cells count' qty' whole
relight changes cells count qty count' qty' whole reached light = record { can = reached.can; carried = reached.carried; light = light }

-- ---- a chain becomes named, or isn't any more

-- one chain becomes named where `now` is true, else it isn't named any more: the parts of its survivors move, and the rest stays
record Moves (now : Bool) (list : List Entry) (chain : List Version) (before after : ExecKey → Bool) : Type 0 where
  rest : Whole
  low : IsCount rest
  was : (f : Part → ℤ) → total f (parts_under before (links_of list) (survivors list)) ≡ (total (λ v. f (part_of_fill (not now) v.fill)) chain +ℤ rest f)
  is : (f : Part → ℤ) → total f (parts_under after (links_of list) (survivors list)) ≡ (total (λ v. f (part_of_fill now v.fill)) chain +ℤ rest f)

rest_low :
    (list : List Entry) (root : ExecKey) (before after : ExecKey → Bool) (names : NamesMore root before after)
    → IsCount (λ f. (moves-chain f list root before after names).rest)
rest_low list root before after names a s =
    let at : Version → ℤ = λ v. one_at a s (part_under before (links_of list) v) in
    let low = count-under at (filter (λ v. not (is_of_chain list root v)) (survivors list)) (λ v. one_low a s (part_under before (links_of list) v)) in
    let is = (moves-chain (one_at a s) list root before after names).rest_is in
    omega (arith, ints, low, is)

moves :
    (now : Bool) (list : List Entry) (root : ExecKey) (before after : ExecKey → Bool) → before root ≡ not now → after root ≡ now
    → ((other : ExecKey) → same_exec other root ≡ false → before other ≡ after other)
    → Moves now list (survivors_of_chain list root) before after
moves true list root before after was is others =
    let names : NamesMore root before after = record { was = was; is = is; others = others } in
    let chain : (f : Part → ℤ) → MovesChain f list root before after = λ f. moves-chain f list root before after names in
    record { rest = λ f. (chain f).rest; low = rest_low list root before after names; was = λ f. (chain f).was; is = λ f. (chain f).is }
moves false list root before after was is others =
    let names : NamesMore root after before = record { was = is; is = was; others = λ other apart. sym (others other apart) } in
    let chain : (f : Part → ℤ) → MovesChain f list root after before = λ f. moves-chain f list root after before names in
    record { rest = λ f. (chain f).rest; low = rest_low list root after before names; was = λ f. (chain f).is; is = λ f. (chain f).was }

has-come : (now : Bool) (cells : Cells) (fill : Fill) → HasFillCells cells fill → has_cell cells (account_of now fill) fill.symbol ≡ true
has-come true cells fill made = made.housed
has-come false cells fill made = made.own

-- the version that stands of one chain
move_one :
    (now : Bool) (list : List Entry) (cells : Cells) (count qty : ℕ) (root : ExecKey) (found : Option Version) (before after : ExecKey → Bool) (others : Whole)
    → standing list root ≡ found → IsBooked list cells → Moves now list (cons_option found []) before after
    → Carries (beside list before others) cells → AlwaysLight list others count qty → IsCount others → IsLightEnough (count + 2) (qty + 2 * 10 ^ 16)
    → Reaches (flat_map (moved_by now) (cons_option (option_map (λ version. version.fill) found) [])) cells count qty (beside list after others)
move_one now list cells count qty root None before after others stands booked move carried light some enough =
    let same : SameWhole (beside list before others) (beside list after others) = λ f. omega (arith, ints, move.was f, move.is f) in
    reach-same [] cells count qty (beside list before others) (beside list after others) same
    (reach-nothing cells count qty (beside list before others) carried (light before))
move_one now list cells count qty root (Some version) before after others stands booked move carried light some enough =
    let fits : FillFits version.fill = standing-All list (λ v. FillFits v.fill) root version booked.fits stands in
    let there : HasFillCells cells version.fill = standing-All list (λ v. HasFillCells cells v.fill) root version booked.made stands in
    let gone = part_of_fill (not now) version.fill in
    let come = part_of_fill now version.fill in
    let whole : Whole = λ f. move.rest f +ℤ others f in
    let low : IsCount whole = λ a s. omega (arith, ints, move.low a s, some a s) in
    let old : SameWhole (beside list before others) (more gone whole) = λ f. omega (arith, ints, move.was f) in
    let new : SameWhole (more come whole) (beside list after others) = λ f. omega (arith, ints, move.is f) in
    let small_gone = fits (not now) in
    let small_come = fits now in
    let changes = taken_out gone ∷ put_in come ∷ [] in
    let sizes = (qty + unsigned_abs gone.qty) + unsigned_abs come.qty in
    let small : sizes ≤ qty + 2 * 10 ^ 16 = omega (arith, small_gone.qty, small_come.qty) in
    let swapped =
    reach-swap gone come cells count qty whole (Carries-same (beside list before others) (more gone whole) cells old carried)
    (Light-same (beside list before others) (more gone whole) count qty old (light before)) low small_gone small_come (has-come now cells version.fill there)
    (less_enough (count + 2) (count + 2) (qty + 2 * 10 ^ 16) sizes (omega arith) small enough) in
    relight changes cells (count + 2) sizes count qty (beside list after others)
    (reach-same changes cells (count + 2) sizes (more come whole) (beside list after others) new swapped) (light after)

-- ---- the chains of some roots

-- where the same chains are named, as much is carried
pub same-beside :
    (list : List Entry) (a b : ExecKey → Bool) (others : Whole) → ((root : ExecKey) → a root ≡ b root) → SameWhole (beside list a others) (beside list b others)
same-beside list a b others same f = ap (λ sum. sum +ℤ others f) (total-named f a b (links_of list) (survivors list) same)

-- the first root's chain, and then the later ones'
one-by-one : (first later now other : Bool) → (if (first || later) then now else other) ≡ (if later then now else (if first then now else other))
one-by-one true true now other = refl
one-by-one true false now other = refl
one-by-one false later now other = refl

-- they become named where `now` is true, else they aren't named any more
pub reach-moved :
    (now : Bool) (list : List Entry) (roots : List ExecKey) (cells : Cells) (count qty : ℕ) (before after : ExecKey → Bool) (others : Whole) → IsBooked list cells
    → ((root : ExecKey) → is_among roots root ≡ true → before root ≡ not now)
    → ((root : ExecKey) → after root ≡ (if is_among roots root then now else before root)) → are_apart roots ≡ true
    → Carries (beside list before others) cells → AlwaysLight list others count qty → IsCount others → IsLightEnough (count + 2) (qty + 2 * 10 ^ 16)
    → Reaches (chains_moved now list roots) cells count qty (beside list after others)
reach-moved now list [] cells count qty before after others booked was is apart carried light some enough =
    reach-same [] cells count qty (beside list before others) (beside list after others) (same-beside list before after others (λ y. sym (is y)))
    (reach-nothing cells count qty (beside list before others) carried (light before))
reach-moved now list (root ∷ roots) cells count qty before after others booked was is apart carried light some enough =
    let parts : (not (is_among roots root) ≡ true) × (are_apart roots ≡ true) = and_parts _ _ apart in
    let between : ExecKey → Bool = λ y. if same_exec root y then now else before y in
    let move : Moves now list (survivors_of_chain list root) before between =
    moves now list root before between (was root (rw (same_exec-refl root) refl)) (rw (same_exec-refl root) refl)
    (λ other different. sym (ap (λ same. if same then now else before other) (same_exec-sym root other ∙ different))) in
    let first =
    move_one now list cells count qty root (standing list root) before between others refl booked
    (subst (λ chain. Moves now list chain before between) (chain-standing list root booked.book) move) carried light some enough in
    let moved = flat_map (moved_by now) (cons_option (standing_fill list root) []) in
    let still : (y : ExecKey) → is_among roots y ≡ true → between y ≡ not now =
    λ y among.
    elim (cases_Bool (same_exec root y)) [
      | inl same ↦ absurd (differing (ap (is_among roots) (same_exec-true root y same) ∙ among) (not-true _ parts.0))
      | inr other ↦ rw other (was y (rw other among))
    ] in
    let rest =
    reach-moved now list roots (changed_all moved cells) count qty between after others (booked-stays list moved cells booked) still
    (λ y. is y ∙ one-by-one (same_exec root y) (is_among roots y) now (before y)) parts.1 first.carried light some enough in
    reach-append moved (chains_moved now list roots) cells count qty count qty (beside list between others) (beside list after others) first rest
