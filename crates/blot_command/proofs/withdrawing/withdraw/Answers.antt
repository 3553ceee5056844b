use Rattle.std.proofs.Common.{◌≡◌, ℕ, true, refl, List, None, sym, ◌∙◌, arith, find, IsSome}
use Rattle.std.proofs.lemmas.Grind.{common_steps}
use Rattle.blot_types.specs.declared.command.Entry.{Entry}
use Rattle.blot_types.specs.Legal.{is_book, least_needing, without}
use Rattle.blot_types.proofs.LawLemmas.{book_parts}
use Rattle.blot_types.proofs.WithdrawLemmas.{put-back}
use Rattle.blot_command.specs.Book.{has_number}
use Rattle.blot_command.specs.Law.{takes}
use Rattle.blot_command.proofs.withdrawing.withdraw.Goals as goal

-- a book without an entry that none needs is a book
rest : (list : List Entry) (number : ℕ) → is_book list ≡ true → IsSome (find (has_number number) list) → least_needing list number ≡ None → is_book (without number list) ≡ true
rest list number book live free = (takes list number book (rw (live, free) refl)).rest

pub lift-requires-clause-rest : goal.lift-requires-clause-rest
lift-requires-clause-rest c =
    rest c.args.tables.now.list c.args.number c.blocked.ensures.book (grind (arith, common_steps)) (sym c.blocked.ensures.blocked ∙ c.in-None.is)

-- an entry that is put back stands where it stood
pub returns-then-is_none-clause-back : goal.returns-then-is_none-clause-back
returns-then-is_none-clause-back c = put-back c.args.tables.now.list (book_parts c.args.tables.now.list c.entry.ensures.book).0

pub returns-in-Some-clause-back : goal.returns-in-Some-clause-back
returns-in-Some-clause-back c = put-back c.args.tables.now.list (book_parts c.args.tables.now.list c.blocked.ensures.book).0

pub returns-in-None-clause-back : goal.returns-in-None-clause-back
returns-in-None-clause-back c = put-back c.args.tables.now.list (book_parts c.args.tables.now.list c.blocked.ensures.book).0
