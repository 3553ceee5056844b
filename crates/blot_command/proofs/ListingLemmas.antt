-- The first allocation that needs a Correct, found from one that names its chain to the next.
use Rattle.std.proofs.Common.{◌≡◌, ℕ, ◌<◌, Bool, true, false, ◌&&◌, ◌||◌, List, [], ◌∷◌, Some, None, sym, ap, subst, ◌∙◌, All, nat_lt, ltb-true}
use Rattle.std.proofs.lemmas.Bool.{and_from, and_parts}
use Rattle.std.proofs.lemmas.List.Elements.{All-cons, All-nil}
use Rattle.blot_types.specs.declared.{allocation.Instruction.Instruction, command.Entry.Entry, keys.ExecKey.ExecKey}
use Rattle.blot_types.specs.Instructions.{first_naming, names}
use Rattle.blot_types.proofs.GeneralLemmas.{and-false}
use Rattle.blot_places.specs.Slots.{numbers_fall}
use Rattle.blot_places.proofs.FirstLemmas.{first-next, first-passes, first-stronger, nothing-stronger}
use Rattle.blot_alloc.specs.Allocs.{number_of}
use Rattle.blot_command.specs.Blocking.{first_listing, lists_at, needs_correct}

module _ (entries : List Entry) (key root : ExecKey) (until : ℕ) (instructions : List Instruction) where
  -- whether that of a number counts, where it names the chain
  abbrev pub counts : ℕ → Bool
  counts n = nat_lt n until || lists_at entries key n

  weaker : (i : Instruction) → needs_correct entries key root until i ≡ true → names root i ≡ true
  weaker i needs = (and_parts (names root i) (counts i.number) needs).0

  weaker-above : (above : ℕ) (i : Instruction) → (nat_lt above i.number && needs_correct entries key root until i) ≡ true → (nat_lt above i.number && names root i) ≡ true
  weaker-above above i needs =
      let parts : (nat_lt above i.number ≡ true) × (needs_correct entries key root until i ≡ true) = and_parts _ _ needs in
      and_from _ _ parts.0 (weaker i parts.1)

  -- the next that names the chain needs it, where that counts
  pub listing-here : (above n : ℕ) → first_naming instructions above root ≡ Some n → counts n ≡ true → first_listing entries key root until above instructions ≡ Some n
  listing-here above n is counts_it =
      first-stronger number_of (λ i. nat_lt above i.number && names root i) (λ i. nat_lt above i.number && needs_correct entries key root until i) instructions n (weaker-above above) is
      (λ i named its.
      let parts : (nat_lt above i.number ≡ true) × (names root i ≡ true) = and_parts _ _ named in
      and_from _ _ parts.0 (and_from _ _ parts.1 (ap counts its ∙ counts_it)))

  uncounted : (n : ℕ) → counts n ≡ false → (others : List Instruction) → All (λ i. number_of i ≡ n → needs_correct entries key root until i ≡ false) others
  uncounted n other [] = All-nil (λ i. number_of i ≡ n → needs_correct entries key root until i ≡ false)
  uncounted n other (i ∷ others) =
      All-cons (λ i. number_of i ≡ n → needs_correct entries key root until i ≡ false) i others
      (λ its. ap (λ b. names root i && b) (ap counts its ∙ other) ∙ and-false (names root i)) (uncounted n other others)

  -- else what needs it comes after that
  pub listing-next :
      (above n : ℕ) → numbers_fall number_of instructions ≡ true → first_naming instructions above root ≡ Some n → counts n ≡ false
      → first_listing entries key root until n instructions ≡ first_listing entries key root until above instructions
  listing-next above n fall is other =
      sym (first-next number_of above n (names root) (needs_correct entries key root until) instructions fall weaker is (uncounted n other instructions))

  pub listing-none : (above : ℕ) → first_naming instructions above root ≡ None → first_listing entries key root until above instructions ≡ None
  listing-none above none =
      nothing-stronger number_of (λ i. nat_lt above i.number && names root i) (λ i. nat_lt above i.number && needs_correct entries key root until i) instructions (weaker-above above) none

-- what is found stands above
pub naming-above : (instructions : List Instruction) (root : ExecKey) (above n : ℕ) → first_naming instructions above root ≡ Some n → above < n
naming-above instructions root above n is =
    let one = first-passes number_of (λ i. nat_lt above i.number && names root i) instructions n is in
    let parts : (nat_lt above one.0.number ≡ true) × (names root one.0 ≡ true) = and_parts _ _ one.1.0 in
    subst (λ m. above < m) one.1.1 (ltb-true above one.0.number parts.0)
