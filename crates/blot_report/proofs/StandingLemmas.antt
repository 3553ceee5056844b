-- What the standings of a book tell of its entries on a day is what its definitions say.
use Rattle.std.proofs.Common.{◌≡◌, ℕ, zero, suc, ◌<◌, arith, ℤ, true, List, [], ◌∷◌, length, get_or, map, Option, Some, None, refl, sym, ap, ◌∙◌, inl, inr, filter, is_none, if◌then◌else◌, filter_map}
use Rattle.std.specs.List.{cons_option}
use Rattle.std.proofs.lemmas.Bool.{cases_Bool}
use Rattle.std.proofs.lemmas.List.{length-map}
use Rattle.blot_types.specs.declared.{allocation.Instruction.Instruction, allocation.Terms.Terms, command.Command.Command, command.Entry.Entry, lines.Version.Version, link.Link.Link, part.Part.Part}
use Rattle.blot_types.specs.declared.command.Command.TheVariants.{Trade, Correct, Bust, AllocNew, AllocReplace, AllocCancel, Withdraw}
use Rattle.blot_types.specs.Allocations.{Allocation, allocation_of, instructions_of}
use Rattle.blot_types.specs.Instructions.{ended_in}
use Rattle.blot_types.specs.Legal.{is_book}
use Rattle.blot_types.specs.Position.{part_of_fill}
use Rattle.blot_types.specs.Survivors.{links_of, stands_in, version_by, version_of}
use Rattle.blot_command.specs.declared.standing.Standing.{Standing}
use Rattle.blot_command.specs.declared.standing.Standing.TheVariants.{Stands, Live, Neither}
use Rattle.blot_command.specs.Standings.{Told, allocation_standing, is_named_in, standing_by, standing_in, standing_of, standings_of, told_in, told_of}
use Rattle.blot_report.specs.Day.{is_on, is_allocated_on, survivor_parts_on, allocations_on, fills_on}
use Rattle.blot_report.specs.Standings.{AreTold, day_terms, entries_in, fill_by, fill_on, part_by, parts_among, terms_among, terms_by}

-- ---- the survivors of a day

no-fill : (day : Option ℤ) (standing : Standing) → fill_by day standing None ≡ None
no-fill day (Stands named) = refl
no-fill day Live = refl
no-fill day Neither = refl

no-part : (day : Option ℤ) (standing : Standing) → part_by day standing None ≡ None
no-part day (Stands named) = refl
no-part day Live = refl
no-part day Neither = refl

abbrev kept_on : List Link → Option ℤ → List Version → List Version
kept_on links day versions = filter (is_on day) (filter (stands_in links) versions)

fill-kept :
    (links : List Link) (instructions : List Instruction) (day : Option ℤ) (found : Option Version) (other : Option Allocation) (rest : List Version)
    → cons_option (fill_by day (standing_by links instructions found other) found) (map (λ (v : Version). v.fill) (kept_on links day rest))
    ≡ map (λ (v : Version). v.fill) (kept_on links day (cons_option found rest))
fill-kept links instructions day None other rest =
    ap (λ o. cons_option o (map (λ (v : Version). v.fill) (kept_on links day rest))) (no-fill day (standing_by links instructions None other))
fill-kept links instructions day (Some version) other rest =
    elim (cases_Bool (stands_in links version)) [
      | inl stands ↦
          elim (cases_Bool (is_on day version)) [
            | inl on ↦ rw (stands, on) refl
            | inr off ↦ rw (stands, off) refl
          ]
      | inr fell ↦ rw fell refl
    ]

-- what a version adds, whether it stands or not
abbrev part_at : List Link → List Instruction → Version → Part
part_at links instructions version = part_of_fill (is_named_in links instructions version.key) version.fill

part-kept :
    (links : List Link) (instructions : List Instruction) (day : Option ℤ) (found : Option Version) (other : Option Allocation) (rest : List Version)
    → cons_option (part_by day (standing_by links instructions found other) found) (map (part_at links instructions) (kept_on links day rest))
    ≡ map (part_at links instructions) (kept_on links day (cons_option found rest))
part-kept links instructions day None other rest =
    ap (λ o. cons_option o (map (part_at links instructions) (kept_on links day rest))) (no-part day (standing_by links instructions None other))
part-kept links instructions day (Some version) other rest =
    elim (cases_Bool (stands_in links version)) [
      | inl stands ↦
          elim (cases_Bool (is_on day version)) [
            | inl on ↦ rw (stands, on) refl
            | inr off ↦ rw (stands, off) refl
          ]
      | inr fell ↦ rw fell refl
    ]

fills-found :
    (links : List Link) (instructions : List Instruction) (day : Option ℤ) (list : List Entry)
    → filter_map (λ e. fill_by day (standing_in links instructions e) (version_of e)) list ≡ map (λ (v : Version). v.fill) (kept_on links day (filter_map version_of list))
fills-found links instructions day [] = refl
fills-found links instructions day (entry ∷ list) =
    ap (cons_option (fill_by day (standing_in links instructions entry) (version_of entry))) (fills-found links instructions day list)
    ∙ fill-kept links instructions day (version_of entry) (allocation_of entry.command) (filter_map version_of list)

parts-found :
    (links : List Link) (instructions : List Instruction) (day : Option ℤ) (list : List Entry)
    → filter_map (λ e. part_by day (standing_in links instructions e) (version_of e)) list ≡ map (part_at links instructions) (kept_on links day (filter_map version_of list))
parts-found links instructions day [] = refl
parts-found links instructions day (entry ∷ list) =
    ap (cons_option (part_by day (standing_in links instructions entry) (version_of entry))) (parts-found links instructions day list)
    ∙ part-kept links instructions day (version_of entry) (allocation_of entry.command) (filter_map version_of list)

-- the fills of a day, and what they add
pub fills-told : (list : List Entry) (day : Option ℤ) → filter_map (λ entry. fill_on day (standing_of list entry) entry) list ≡ fills_on list day
fills-told list day = fills-found (links_of list) (instructions_of list) day list

pub parts-told : (list : List Entry) (day : Option ℤ) → parts_among list day list ≡ survivor_parts_on list day
parts-told list day = parts-found (links_of list) (instructions_of list) day list

-- ---- the live allocations of a day

abbrev live_on : List Instruction → Option ℤ → List Allocation → List Allocation
live_on instructions day allocations = filter (is_allocated_on day) (filter (λ a. is_none (ended_in instructions a.key)) allocations)

-- the terms of an allocation, where it is live and of a day
abbrev live_by : List Instruction → Option ℤ → Option Allocation → Option Terms
live_by instructions day None = None
live_by instructions day (Some a) = if is_none (ended_in instructions a.key) then day_terms day (Some a) else None

no-terms : (day : Option ℤ) (standing : Standing) → terms_by day standing None ≡ None
no-terms day (Stands named) = refl
no-terms day Live = refl
no-terms day Neither = refl

terms-of : (instructions : List Instruction) (day : Option ℤ) (a : Allocation) → terms_by day (allocation_standing instructions a.key) (Some a) ≡ live_by instructions day (Some a)
terms-of instructions day a =
    elim (cases_Bool (is_none (ended_in instructions a.key))) [
      | inl live ↦ rw live refl
      | inr ended ↦ rw ended refl
    ]

terms-by :
    (links : List Link) (instructions : List Instruction) (day : Option ℤ) (number : ℕ) (command : Command)
    → terms_by day (standing_by links instructions (version_by number command) (allocation_of command)) (allocation_of command) ≡ live_by instructions day (allocation_of command)
terms-by links instructions day number (Trade trade) = no-terms day _
terms-by links instructions day number (Correct correct) = no-terms day _
terms-by links instructions day number (Bust bust) = refl
terms-by links instructions day number (AllocNew new) = terms-of instructions day (record { key = new.key; terms = new.terms })
terms-by links instructions day number (AllocReplace replace) = terms-of instructions day (record { key = replace.key; terms = replace.terms })
terms-by links instructions day number (AllocCancel cancel) = refl
terms-by links instructions day number (Withdraw withdrawn) = refl

terms-kept :
    (instructions : List Instruction) (day : Option ℤ) (found : Option Allocation) (rest : List Allocation)
    → cons_option (live_by instructions day found) (map (λ a. a.terms) (live_on instructions day rest)) ≡ map (λ a. a.terms) (live_on instructions day (cons_option found rest))
terms-kept instructions day None rest = refl
terms-kept instructions day (Some a) rest =
    elim (cases_Bool (is_none (ended_in instructions a.key))) [
      | inl live ↦
          elim (cases_Bool (is_allocated_on day a)) [
            | inl on ↦ rw (live, on) refl
            | inr off ↦ rw (live, off) refl
          ]
      | inr ended ↦ rw ended refl
    ]

terms-found :
    (links : List Link) (instructions : List Instruction) (day : Option ℤ) (list : List Entry)
    → filter_map (λ e. terms_by day (standing_in links instructions e) (allocation_of e.command)) list
    ≡ map (λ a. a.terms) (live_on instructions day (filter_map (λ e. allocation_of e.command) list))
terms-found links instructions day [] = refl
terms-found links instructions day (entry ∷ list) =
    (λ i. cons_option (terms-by links instructions day entry.number entry.command i) (terms-found links instructions day list i))
    ∙ terms-kept instructions day (allocation_of entry.command) (filter_map (λ (e : Entry). allocation_of e.command) list)

pub terms-told : (list : List Entry) (day : Option ℤ) → terms_among list day list ≡ map (λ (a : Allocation). a.terms) (allocations_on list day)
terms-told list day = terms-found (links_of list) (instructions_of list) day list

-- ---- the entries of a book, told

entries-in : (all list : List Entry) → entries_in (map (told_in all) list) ≡ list
entries-in all [] = refl
entries-in all (entry ∷ list) = ap (λ rest. entry ∷ rest) (entries-in all list)

pub entries-told : (told : List Told) (list : List Entry) → told ≡ told_of list → entries_in told ≡ list
entries-told told list are = ap entries_in are ∙ entries-in list list

pub are-told : (told : List Told) (list : List Entry) → is_book list ≡ true → told ≡ told_of list → AreTold told
are-told told list book are =
    let same = entries-told told list are in
    record { book = ap is_book same ∙ book; each = are ∙ ap told_of (sym same) }

-- they are as many
pub as-many : (told : List Told) → length (entries_in told) ≡ length told
as-many told = length-map told (λ (one : Told). one.entry)

pub as-many-standings : (list : List Entry) (standings : List Standing) → standings ≡ standings_of list → length list ≡ length standings
as-many-standings list standings are = sym (ap length are ∙ length-map list (standing_of list))

-- one of them is told with what it comes to
standing-at :
    (all list : List Entry) (place : ℕ) (one : Told) → place < length list → one ≡ get_or (map (told_in all) list) place one
    → one.standing ≡ standing_of all one.entry
standing-at all [] place one within is = absurd (omega (arith, within))
standing-at all (entry ∷ list) zero one within is = ap (λ (t : Told). t.standing) is ∙ sym (ap (λ (t : Told). standing_of all t.entry) is)
standing-at all (entry ∷ list) (suc place) one within is = standing-at all list place one (omega (arith, within)) is

pub standing-told : (told : List Told) (place : ℕ) (one : Told) → AreTold told → place < length (entries_in told) → one ≡ get_or told place one → one.standing ≡ standing_of (entries_in told) one.entry
standing-told told place one are within is = standing-at (entries_in told) (entries_in told) place one within (is ∙ ap (λ t. get_or t place one) are.each)
