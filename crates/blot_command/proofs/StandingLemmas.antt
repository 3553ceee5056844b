-- What the entries of a live list come to, as its chains and its allocations tell it.
use Rattle.std.proofs.Common.{◌≡◌, List, [], ◌∷◌, ◌++◌, map, Result, Ok, Err, Vec, refl, sym, ap, ◌∙◌, IfOk, append-nil}
use Rattle.blot_types.specs.declared.{allocation.Instruction.Instruction, command.Entry.Entry, link.Link.Link}
use Rattle.blot_types.specs.Legal.{HoldsList}
use Rattle.blot_places.specs.declared.slots.Slot.{Slot}
use Rattle.blot_command.specs.declared.standing.Standing.{Standing}
use Rattle.blot_command.specs.Slots.{entries_in}
use Rattle.blot_command.specs.Standings.{Told, standing_in, standings_of, told_in, told_of}

pub told :
    {A E : Type 0} (result : Result (Vec Standing A) E) (slots own : List (Slot Entry)) (links : List Link) (instructions : List Instruction) (list : List Entry)
    → HoldsList (entries_in own) links instructions → slots ≡ own → entries_in own ≡ list
    → IfOk result (λ found. found.items ≡ map (standing_in links instructions) (entries_in slots)) → IfOk result (λ found. found.items ≡ standings_of list)
told (Ok found) slots own links instructions list holds same is found_is =
    found_is ∙ ap (λ s. map (standing_in links instructions) (entries_in s)) same
    ∙ (λ i. map (standing_in (holds.links_are i) (holds.instructions_are i)) (entries_in own)) ∙ ap standings_of is
told (Err fault) slots own links instructions list holds same is found_is = found_is

-- ---- entries that are told, one after the other

told-again : (list : List Entry) (items : List Told) → map (λ (one : Told). told_in list one.entry) items ≡ map (told_in list) (map (λ (one : Told). one.entry) items)
told-again list [] = refl
told-again list (one ∷ items) = ap (λ rest. told_in list one.entry ∷ rest) (told-again list items)

-- once none is left
pub told-all :
    (items : List Told) (list left : List Entry) → map (λ (one : Told). one.entry) items ++ left ≡ list → left ≡ [] → items ≡ map (λ (one : Told). told_in list one.entry) items
    → items ≡ told_of list
told-all items list left so_far none each =
    let entries : map (λ (one : Told). one.entry) items ≡ list =
    sym (append-nil (map (λ (one : Told). one.entry) items)) ∙ ap (λ back. map (λ (one : Told). one.entry) items ++ back) (sym none) ∙ so_far in
    each ∙ told-again list items ∙ ap (map (told_in list)) entries
