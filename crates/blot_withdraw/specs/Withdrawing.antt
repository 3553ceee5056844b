-- An entry taken out of the book, whatever came later, and put back at its place.
use Rattle.std.specs.Prelude.{◌≡◌, ℕ, true, false, List, Option, Some, find, option_map}
use Rattle.std.specs.Option.{option_map_or}
use Rattle.std.proofs.Common.{ap}
use Rattle.blot_types.specs.declared.{command.Command.TheVariants.Withdraw as WithdrawCommand, command.Entry.Entry}
use Rattle.blot_types.specs.Legal.{is_book, refusal_of, withdrawal_refusal, without}
use Rattle.blot_types.specs.Withdrawal.{put_back}
use Rattle.blot_types.proofs.AcceptLemmas.{unmapped}
use Rattle.blot_command.specs.declared.fault.ApplyFault.TheVariants.{Refused, NoMemory}
use Rattle.blot_command.specs.Book.{has_number, numbers_of}
use Rattle.blot_command.specs.Law.{Takes, takes}
use Rattle.blot_command.specs.Meanings.{BookMeaning}
use Rattle.blot_command.specs.Undoable.{IsNext, IsLawful}
use Rattle.blot_command.specs.Withdrawing.{Keeps, StaysBut}
use Rattle.blot_withdraw.specs.declared.withdrawing.Withdraw.{Withdraw}

-- the entry of a number, which is taken out; where there is none, which is refused, the command itself under that number
abbrev pub taken_from : List Entry → ℕ → Entry
taken_from list number = option_map_or (λ entry. entry) (find (has_number number) list) (record { number = number; command = WithdrawCommand number })

-- what a Withdraw means on the book
abbrev pub withdraw_meaning : BookMeaning Withdraw Entry
withdraw_meaning = record {
  list_of = λ book. book.list;
  spare = λ book. numbers_of book.kept;
  kept = Keeps;
  stays = StaysBut;
  is_valid = is_book;
  numbers = numbers_of;
  refused = λ list withdraw. option_map Refused (refusal_of list (WithdrawCommand withdraw.0));
  after = λ list withdraw number. without withdraw.0 list;
  inverse_of = λ list withdraw number. taken_from list withdraw.0;
  before = λ list entry. put_back entry list;
  command_of = λ list entry. Some (record { 0 = entry.number });
  takes_memory = λ withdraw. false;
  no_memory = NoMemory;
}

-- ---- the law

-- the entry that an accepted one takes out
pub taken_by : (list : List Entry) (withdraw : Withdraw) (number : ℕ) → is_book list ≡ true → IsNext withdraw_meaning list withdraw number → Takes list withdraw.0
taken_by list withdraw number book next = takes list withdraw.0 book (unmapped Refused (withdrawal_refusal list withdraw.0) next.accepted)

withdraw-before :
    (list : List Entry) (w : Withdraw) (n : ℕ) → is_book list ≡ true → IsNext withdraw_meaning list w n → put_back (taken_from list w.0) (without w.0 list) ≡ list
withdraw-before list w n valid next =
    let it = taken_by list w n valid next in
    rw it.found it.back

abbrev withdraw_of : ℕ → Option Withdraw
withdraw_of number = Some (record { 0 = number })

withdraw-back : (list : List Entry) (w : Withdraw) (n : ℕ) → is_book list ≡ true → IsNext withdraw_meaning list w n → withdraw_meaning.command_of (without w.0 list) (taken_from list w.0) ≡ Some w
withdraw-back list w n valid next =
    let it = taken_by list w n valid next in
    rw it.found (ap (λ (k : ℕ). withdraw_of k) it.own)

-- a Withdraw obeys the law
pub withdraw_lawful : IsLawful withdraw_meaning
withdraw_lawful = record {
  before_after = λ list w n valid next. withdraw-before list w n valid next;
  command_back = λ list w n valid next. withdraw-back list w n valid next;
  valid_after = λ list w n valid within next. (taken_by list w n valid next).rest;
}
