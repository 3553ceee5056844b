-- A Withdraw is a step as the command of that name is.
use Rattle.std.proofs.Common.{◌≡◌, ℕ, ◌≤◌, true, List, Some, None, refl, sym, ap, ◌∙◌, find, option_map}
use Rattle.std.specs.Option.{option_map_or}
use Rattle.blot_types.specs.declared.{command.Command.TheVariants.Withdraw as WithdrawCommand, command.Entry.Entry, TheConstants.EVENTS_MAX}
use Rattle.blot_types.specs.Legal.{is_book, withdrawal_refusal, without}
use Rattle.blot_command.specs.declared.{fault.ApplyFault.TheVariants.Refused, inverse.Inverse.TheVariants.Taken}
use Rattle.blot_command.specs.Book.{Shown, has_number, numbers_of, taken_of}
use Rattle.blot_command.specs.Law.{has_entry}
use Rattle.blot_command.specs.Meanings.{command_meaning}
use Rattle.blot_command.specs.Undoable.{AllBelow, IsStep, Adds, UndoesStep, Undoes, TakesOut, numbers_in}
use Rattle.blot_command.specs.Withdrawing.{lifted, returned, CanReturn}
use Rattle.blot_command.proofs.TakenLemmas.{withdraw_adds, returns_taken, puts_back}
use Rattle.blot_withdraw.specs.declared.withdrawing.Withdraw.{Withdraw}
use Rattle.blot_withdraw.specs.Withdrawing.{withdraw_meaning, taken_from, taken_by}

pub withdraw_step :
    (list next : List Entry) (withdraw : Withdraw) (number : ℕ) (entry : Entry) → is_book list ≡ true → withdrawal_refusal list withdraw.0 ≡ None → find (has_number withdraw.0) list ≡ Some entry
    → number ≤ EVENTS_MAX → AllBelow number (numbers_of list) → next ≡ without entry.number list → IsStep withdraw_meaning list withdraw number entry next
withdraw_step list next withdraw number entry book accepted found within above is = record {
  valid = book;
  within = within;
  is_next = record { accepted = ap (option_map Refused) accepted; above = above };
  inverse_is = sym (ap (λ o. option_map_or (λ (e : Entry). e) o (record { number = withdraw.0; command = WithdrawCommand withdraw.0 })) found);
  list_is = is ∙ ap (λ k. without k list) (has_entry list withdraw.0 entry found).own;
}

pub withdraw_keeps :
    (old new : Shown) (taken number : ℕ) (entry : Entry) → is_book old.list ≡ true → find (has_number taken) old.list ≡ Some entry → new ≡ lifted entry old → CanReturn entry new
    → AllBelow number (numbers_in withdraw_meaning old) → Adds withdraw_meaning number entry old new
withdraw_keeps old new taken number entry book found is can above =
    let adds = withdraw_adds old new taken number entry book found is can above in
    record { brings = adds.brings; own = adds.own; earlier = λ n other below kept. adds.earlier n (Taken other) below kept; stays = adds.stays }

-- what it takes back
undoes_command :
    (list : List Entry) (withdraw : Withdraw) (number : ℕ) (entry : Entry) (state : Shown) → UndoesStep withdraw_meaning list withdraw number entry state
    → UndoesStep command_meaning list (WithdrawCommand withdraw.0) number (Taken entry) state
undoes_command list withdraw number entry state undoes =
    let step = undoes.step in
    let has = taken_by list withdraw number step.valid step.is_next in
    let own : Taken (taken_from list withdraw.0) ≡ taken_of list withdraw.0 = rw has.found refl in
    record {
      step = record {
        valid = step.valid;
        within = step.within;
        is_next = record { accepted = step.is_next.accepted; above = step.is_next.above };
        inverse_is = ap Taken step.inverse_is ∙ own;
        list_is = step.list_is;
      };
      kept = undoes.kept;
      latest = undoes.latest;
    }

pub can_return : (entry : Entry) (state : Shown) → Undoes withdraw_meaning entry state → CanReturn entry state
can_return entry state (list, withdraw, number, undoes) =
    returns_taken entry state (list, WithdrawCommand withdraw.0, number, undoes_command list withdraw number entry state undoes)

pub withdraw_returns : (old new : Shown) (entry : Entry) → new ≡ returned entry old → TakesOut withdraw_meaning entry old new
withdraw_returns old new entry is list withdraw number undoes =
    let leaves = puts_back old new entry is list (WithdrawCommand withdraw.0) number (undoes_command list withdraw number entry old undoes) in
    record { brings_none = leaves.brings_none; gone = leaves.gone; earlier = λ n other below kept. leaves.earlier n (Taken other) below kept; stays = leaves.stays }
