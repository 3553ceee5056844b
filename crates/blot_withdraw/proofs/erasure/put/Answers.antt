-- An entry after others, in a book, is above them, and they accept it.
use Rattle.std.proofs.Common.{◌≡◌, ℕ, true, List, [], ◌∷◌, ◌++◌, Some, None, ap, sym, subst, ◌∙◌, inl, inr}
use Rattle.std.specs.Option.{option_map_or}
use Rattle.blot_types.specs.declared.{command.Command.Command, command.Entry.Entry, refused.Refused.Refused as Reason}
use Rattle.blot_types.specs.Legal.{is_book, refusal_of}
use Rattle.blot_types.proofs.AcceptLemmas.{enters}
use Rattle.blot_command.specs.declared.{fault.ApplyFault.ApplyFault, fault.ApplyFault.TheVariants.Refused, inverse.Inverse.Inverse, inverse.Inverse.TheVariants.Number}
use Rattle.blot_command.specs.Book.{Shown, numbers_of, taken_of}
use Rattle.blot_command.specs.Meanings.{StaysFor, command_meaning}
use Rattle.blot_command.specs.Undoable.{AllBelow, IsStep, IsRefusal, Adds, numbers_in}
use Rattle.blot_withdraw.proofs.ErasureLemmas.{last_of}
use Rattle.blot_withdraw.proofs.erasure.put.Goals as goal

never_refused :
    (book next : Shown) (command returned : Command) (fault : ApplyFault) (reason : Reason) → refusal_of book.list command ≡ None
    → IsRefusal command_meaning book command returned fault next → fault ≡ Refused reason → ⊥
never_refused book next command returned fault reason accepted refusal is = elim refusal.reason_is [
  | inl refused ↦ (let none : None ≡ Some fault = rw accepted at refused in cc)
  | inr memory ↦ cc
]

above : (book : Shown) (entry : Entry) → is_book (book.list ++ entry ∷ []) ≡ true → book.kept ≡ [] → AllBelow entry.number (numbers_in command_meaning book)
above book entry is none =
    subst (λ kept. AllBelow entry.number (numbers_of kept ++ numbers_of book.list)) (sym none) (last_of book.list entry is).above

-- what enters leaves what is kept as it was
number_is :
    (list next : List Entry) (entry : Entry) (command : Command) (inverse : Inverse) → is_book (list ++ entry ∷ []) ≡ true → command ≡ entry.command
    → IsStep command_meaning list command entry.number inverse next → inverse ≡ Number entry.number
number_is list next entry command inverse book same step =
    let enters_as = (enters list entry.command (last_of list entry book).accepted).stays in
    step.inverse_is ∙ ap (λ c. command_meaning.inverse_of list c entry.number) same ∙ ap (λ taken. option_map_or (taken_of list) taken (Number entry.number)) enters_as

none_more : (old new : Shown) (number : ℕ) (inverse : Inverse) → old.kept ≡ [] → inverse ≡ Number number → Adds command_meaning number inverse old new → new.kept ≡ []
none_more old new number inverse none is adds = subst (λ i. StaysFor i old new) is adds.stays ∙ none

pub apply-requires-clause-above : goal.apply-requires-clause-above
apply-requires-clause-above c = above c.args.tables.now c.args.entry.now c.requires.book c.requires.none_kept

pub unreachable-requires : goal.unreachable-requires
unreachable-requires c =
    let accepted = ap (refusal_of c.args.tables.now.list) c.in-Ok.ensures ∙ (enters c.args.tables.now.list c.args.entry.now.command (last_of c.args.tables.now.list c.args.entry.now c.requires.book).accepted).accepted in
    never_refused c.args.tables.now _ _ _ _ _ accepted c.in-Err-default-Refused.ensures.refused c.in-Err-default-Refused.field-0-1-is

pub returns-in-Ok-apply-clause-none_kept : goal.returns-in-Ok-apply-clause-none_kept
returns-in-Ok-apply-clause-none_kept c =
    none_more c.args.tables.now c.apply.new.tables c.args.entry.now.number c.in-Ok-apply.field-0 c.requires.none_kept
    (number_is c.args.tables.now.list c.apply.new.tables.list c.args.entry.now c.in-Ok.command c.in-Ok-apply.field-0 c.requires.book c.in-Ok.ensures c.in-Ok-apply.ensures.accepted)
    c.in-Ok-apply.ensures.kept
