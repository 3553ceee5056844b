use Rattle.std.proofs.Common.{ap, ◌∙◌, length, ◌-◌, List, Some, None, slice_get, option_map}
use Rattle.std.specs.List.{last_or}
use Rattle.blot_order.specs.declared.fill_numbers.ListedNumber.{ListedNumber}
use Rattle.blot_order.specs.FillNumbers.{PutAndKept}
use Rattle.blot_order.proofs.NumberLemmas.{last-listed}
use Rattle.blot_order.proofs.fill_numbers.FillNumbers.last.Goals as goal

pub returns-in-Some : goal.returns-in-Some
returns-in-Some c =
    ap Some c.from.ensures
    ∙ ap (option_map (λ (e : ListedNumber). e.number)) (c.in-Some.ensures.value ∙ ap (λ (xs : List ListedNumber). slice_get xs (length xs - 1)) c.deref.ensures.value)
    ∙ last-listed c.self.inside.listed.items c.self.invariant.0.last
    ∙ ap (λ (these : PutAndKept). last_or None these.put) c.self.view_is
