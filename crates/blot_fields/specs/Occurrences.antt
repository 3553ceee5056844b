-- What is known of the fields with one tag.
use Rattle.std.specs.Prelude.{ℕ, List, Option, Some, None, Result, Ok, Err, option_copied}
use Rattle.std.specs.Borrow.{Bor}
use Rattle.blot_fields.specs.declared.{fault.Flaw.Flaw, fault.Flaw.TheVariants.TagRepeated, fault.Wrong.Wrong, occurrence.Occurrence.Occurrence}
use Rattle.blot_fields.specs.declared.occurrence.Occurrence.TheVariants.{Missing, Once, Repeated}

-- the value of the only field, or none, or that there are several
abbrev pub found_in : Occurrence → Result (Option (List ℕ)) Flaw
found_in Missing = Ok None
found_in (Once value) = Ok (Some value.now)
found_in Repeated = Err TagRepeated

-- the same, after one field more
abbrev pub with_value : Result (Option (List ℕ)) Flaw → List ℕ → Result (Option (List ℕ)) Flaw
with_value (Ok None) value = Ok (Some value)
with_value (Ok (Some first)) value = Err TagRepeated
with_value (Err reason) value = Err reason

-- the value that a look-up lends, if it finds one
abbrev pub lone_value : Result (Option (Bor (List ℕ))) Flaw → Result (Option (List ℕ)) Flaw
lone_value (Ok found) = Ok (option_copied found)
lone_value (Err reason) = Err reason

-- the value that must be there, as it is lent
abbrev pub lent_value : Result (Bor (List ℕ)) Wrong → Result (List ℕ) Wrong
lent_value (Ok value) = Ok value.now
lent_value (Err wrong) = Err wrong
