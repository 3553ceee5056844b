-- What stands on a day, or on all days, as the standing of each entry tells it.
use Rattle.std.specs.Prelude.{◌≡◌, ℕ, ℤ, true, List, map, ◌++◌, take, drop, Option, Some, None, if◌then◌else◌, filter_map, flat_map, option_map}
use Rattle.blot_types.specs.declared.{allocation.Terms.Terms, command.Entry.Entry, fill.Fill.Fill, part.Part.Part, lines.Version.Version}
use Rattle.blot_types.specs.Allocations.{Allocation, allocation_of}
use Rattle.blot_types.specs.Legal.{is_book}
use Rattle.blot_types.specs.Position.{moves_of, part_of_fill}
use Rattle.blot_types.specs.Survivors.{version_of}
use Rattle.blot_command.specs.declared.standing.Standing.{Standing}
use Rattle.blot_command.specs.declared.standing.Standing.TheVariants.{Stands, Live, Neither}
use Rattle.blot_command.specs.Standings.{Told, standing_of, told_of}
use Rattle.blot_report.specs.Day.{is_on, is_allocated_on}

-- the entries that are told
abbrev pub entries_in : List Told → List Entry
entries_in told = map (λ one. one.entry) told

-- they are a book, and each is told with what it comes to there
pub record AreTold (told : List Told) : Type 0 where
  pub book : is_book (entries_in told) ≡ true
  pub each : told ≡ told_of (entries_in told)

-- the fill of a version, if there is one and it is of a day
abbrev pub day_fill : Option ℤ → Option Version → Option Fill
day_fill day None = None
day_fill day (Some version) = if is_on day version then Some version.fill else None

-- that of an entry of a standing, if it stands; and what it adds to the positions
abbrev pub fill_by : Option ℤ → Standing → Option Version → Option Fill
fill_by day (Stands named) found = day_fill day found
fill_by day Live found = None
fill_by day Neither found = None

abbrev pub part_by : Option ℤ → Standing → Option Version → Option Part
part_by day (Stands named) found = option_map (part_of_fill named) (day_fill day found)
part_by day Live found = None
part_by day Neither found = None

abbrev pub fill_on : Option ℤ → Standing → Entry → Option Fill
fill_on day standing entry = fill_by day standing (version_of entry)

abbrev pub part_on : Option ℤ → Standing → Entry → Option Part
part_on day standing entry = part_by day standing (version_of entry)

-- the terms of an allocation, if there is one and it is of a day
abbrev pub day_terms : Option ℤ → Option Allocation → Option Terms
day_terms day None = None
day_terms day (Some allocation) = if is_allocated_on day allocation then Some allocation.terms else None

-- those of an entry of a standing, if it is live
abbrev pub terms_by : Option ℤ → Standing → Option Allocation → Option Terms
terms_by day (Stands named) found = None
terms_by day Live found = day_terms day found
terms_by day Neither found = None

abbrev pub terms_on : Option ℤ → Standing → Entry → Option Terms
terms_on day standing entry = terms_by day standing (allocation_of entry.command)

-- ---- of some entries of a list, in their order

abbrev pub parts_among : List Entry → Option ℤ → List Entry → List Part
parts_among list day entries = filter_map (λ entry. part_on day (standing_of list entry) entry) entries

-- the terms of the live allocations, and what their lines move
abbrev pub terms_among : List Entry → Option ℤ → List Entry → List Terms
terms_among list day entries = filter_map (λ entry. terms_on day (standing_of list entry) entry) entries

abbrev pub moves_among : List Entry → Option ℤ → List Entry → List Part
moves_among list day entries = flat_map moves_of (terms_among list day entries)

-- the entries from one place to before another, and all parts that they bring
abbrev pub between : List Entry → ℕ → ℕ → List Entry
between list first after = drop first (take after list)

abbrev pub parts_between : List Entry → Option ℤ → ℕ → ℕ → List Part
parts_between list day first after = parts_among list day (between list first after) ++ moves_among list day (between list first after)
