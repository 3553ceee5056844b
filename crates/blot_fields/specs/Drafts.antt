-- A line of an allocation while its fields come.
use Rattle.std.specs.Prelude.{◌≡◌, ℕ, ℤ, ◌==◌, List, Option, Some, None, Result, Ok, Err, MatchBool, if◌then◌else◌, ok_or, option_map}
use Rattle.std.specs.Option.{option_or}
use Rattle.blot_tag.specs.Fields.{TagValue}
use Rattle.blot_tag.specs.Results.{◌>>=◌}
use Rattle.blot_types.specs.ItemsBuilder.{Made, Grows}
use Rattle.blot_fields.specs.declared.{allocation.AllocationLine.AllocationLine, drafts.LineDraft.LineDraft, fault.Flaw.Flaw, fault.Flaw.TheVariants.RequiredTagMissing, fault.Wrong.Wrong, occurrence.Occurrence.TheVariants.Missing}
use Rattle.blot_fields.specs.Forms.{text_form, qty_form, price_form}
use Rattle.blot_fields.specs.Rows.{wrong, at, needed_in, optional_in}
use Rattle.blot_fields.specs.Occurrences.{found_in, with_value}

-- what is known of a line: its AllocAccount, and what is found of AllocQty and AllocPrice
pub record Draft : Type 0 where
  pub account : List ℕ
  pub qty : Result (Option (List ℕ)) Flaw
  pub price : Result (Option (List ℕ)) Flaw

-- what a line in the code knows
abbrev pub draft_of : LineDraft → Draft
draft_of line = record { account = line.account.now; qty = found_in line.qty; price = found_in line.price }

-- the line, as far as it is known
unfoldable pub line_from : Option ℤ → Draft → Result AllocationLine Wrong
line_from average draft = do
  account ← at 79 (text_form draft.account)
  qty ← needed_in 80 qty_form draft.qty
  own ← optional_in 366 price_form draft.price
  price ← ok_or (option_or own average) (wrong 366 RequiredTagMissing)
  Ok (record { account = account; qty = qty; price = price })

-- the line after one field more
abbrev pub with_field : Draft → TagValue → Draft
with_field draft field = record {
  account = draft.account;
  qty = if field.tag == 80 then with_value draft.qty field.value else draft.qty;
  price = if field.tag == 366 then with_value draft.price field.value else draft.price;
}

-- a line that begins
abbrev pub begun : List ℕ → Draft
begun account = record { account = account; qty = found_in Missing; price = found_in Missing }

-- the open line, if there is one, was added after the others, or is at fault
abbrev pub Pushes : Option ℤ → Option Draft → Made AllocationLine → Result (Unit {0}) Wrong → Made AllocationLine → Type 0
Pushes average None old result new = (result ≡ Ok tt) × (new ≡ old)
Pushes average (Some draft) old (Ok done) new =
    (line : AllocationLine) × (line_from average draft ≡ Ok line) × Grows line old new
Pushes average (Some draft) old (Err wrong) new = line_from average draft ≡ Err wrong

-- the line that stays open
abbrev pub next_draft : Result (Option LineDraft) Wrong → Result (Option Draft) Wrong
next_draft (Ok line) = Ok (option_map draft_of line)
next_draft (Err wrong) = Err wrong

-- a field began a line and ended the one before, or went on with the open line
abbrev pub NextLine : Option ℤ → Option Draft → TagValue → Made AllocationLine → Result (Option Draft) Wrong → Made AllocationLine → Type 0
NextLine average line field old (Ok next) new =
    MatchBool (field.tag == 79)
    (Pushes average line old (Ok tt) new × (next ≡ Some (begun field.value)))
    ((next ≡ option_map (λ draft. with_field draft field) line) × (new ≡ old))
NextLine average line field old (Err wrong) new =
    (field.tag ≡ 79) × Pushes average line old (Err wrong) new
