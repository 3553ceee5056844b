-- The theorem: the least number at which a list fails without an entry is that of the first entry that needs it.
use Rattle.std.proofs.Common.{◌≡◌, ℕ, true, List, [], ◌∷◌, ◌++◌, reverse, sym, ap, ◌∙◌, IsTrue, is_none}
use Rattle.std.proofs.lemmas.Bool.{and_parts}
use Rattle.std.proofs.lemmas.List.{reverse-reverse}
use Rattle.blot_types.specs.declared.{command.Command.Command, command.Entry.Entry}
use Rattle.blot_types.specs.declared.command.Command.TheVariants.{Trade, Correct, Bust, AllocNew, AllocReplace, AllocCancel, Withdraw}
use Rattle.blot_types.specs.Legal.{rises_in, refusal_in, legal_in, is_book, least_needing}
use Rattle.blot_types.proofs.LawLemmas.{book_parts}
use Rattle.blot_types.specs.Withdrawal.{needed_in, IsNeededFirst}
use Rattle.blot_types.proofs.AllocStepLemmas.{new-step, replace-step, cancel-step}
use Rattle.blot_types.proofs.BustLemmas.{bust-step, reverse-middle}
use Rattle.blot_types.proofs.CorrectLemmas.{correct-step}
use Rattle.blot_types.proofs.NeedLemmas.{blocked_in, IsStep, turned, found-first}
use Rattle.blot_types.proofs.VersionLemmas.{trade-step}

-- a legal list has no Withdraw
pub no_withdraw : (number withdrawn : ℕ) (later front : List Entry) → legal_in (later ++ record { number = number; command = Withdraw withdrawn } ∷ front) ≡ true → ⊥
no_withdraw number withdrawn [] front legal =
    let parts : (is_none (refusal_in front (Withdraw withdrawn)) ≡ true) × (legal_in front ≡ true) = and_parts _ _ legal in
    cc
no_withdraw number withdrawn (entry ∷ later) front legal =
    let k : Entry = record { number = number; command = Withdraw withdrawn } in
    let parts : (is_none (refusal_in (later ++ k ∷ front) entry.command) ≡ true) × (legal_in (later ++ k ∷ front) ≡ true) = and_parts _ _ legal in
    no_withdraw number withdrawn later front parts.1

withdraw-step : (number withdrawn : ℕ) → IsStep (record { number = number; command = Withdraw withdrawn })
withdraw-step number withdrawn later front command legal rise without accepted = absurd (no_withdraw number withdrawn later front legal)

pub step-of : (number : ℕ) (command : Command) → IsStep (record { number = number; command = command })
step-of number (Trade trade) = trade-step number trade
step-of number (Correct correct) = correct-step number correct
step-of number (Bust bust) = bust-step number bust
step-of number (AllocNew new) = new-step number new
step-of number (AllocReplace replace) = replace-step number replace
step-of number (AllocCancel cancel) = cancel-step number cancel
step-of number (Withdraw withdrawn) = withdraw-step number withdrawn

pub needed_first : (list : List Entry) → IsTrue (is_book list) → IsNeededFirst list
needed_first list book front back k is =
    let parts = book_parts list book in
    let later = reverse back in
    let earlier = reverse front in
    let whole : reverse list ≡ later ++ k ∷ earlier = ap reverse is ∙ reverse-middle front back k in
    let legal : legal_in (later ++ k ∷ earlier) ≡ true = ap legal_in (sym whole) ∙ parts.1 in
    let rise : rises_in (later ++ k ∷ earlier) ≡ true = ap rises_in (sym whole) ∙ parts.0 in
    ap (λ l. least_needing l k.number) (sym (reverse-reverse list)) ∙ turned k.number (reverse list) parts.0 ∙ ap (blocked_in k.number) whole
    ∙ found-first k later earlier (step-of k.number k.command) legal rise ∙ ap (needed_in k) (sym whole)
