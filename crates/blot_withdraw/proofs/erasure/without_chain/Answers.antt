-- The entries that stay, up to this one, are the front of a book.
use Rattle.std.proofs.Common.{◌≡◌, ℕ, ◌+◌, ◌<◌, Bool, true, false, List, [], ◌∷◌, ◌++◌, length, take, get_or, ◌∙◌, refl, sym, ap, append-nil, take_all, not, filter}
use Rattle.std.proofs.lemmas.List.{take_more}
use Rattle.std.proofs.lemmas.List.Elements.{filter-append}
use Rattle.blot_types.specs.declared.command.Entry.{Entry}
use Rattle.blot_command.specs.Book.{Shown}
use Rattle.blot_withdraw.specs.Erasure.{is_of_chain}
use Rattle.blot_withdraw.proofs.ErasureLemmas.{next-book}
use Rattle.blot_withdraw.proofs.erasure.without_chain.Goals as goal
use Rattle.blot_withdraw.proofs.erasure.without_chain.Goals.{then-not-is_of_chain+in_ok-put, else-not-is_of_chain}

pub put-requires-clause-book : goal.put-requires-clause-book
put-requires-clause-book c =
    next-book (λ entry. not (is_of_chain c.args.list.now c.args.root.now entry)) c.args.list.now c.loop-entry.tables.list c.loop-entry.entry-index c.entry-item.result
    c.loop-entry-test.true c.entry-item.is c.loop-entry.invariant.list (ap not (sym c.if-not-is_of_chain.ensures)) c.requires

-- the entries that pass a test, with one more that does, and with one that doesn't
more :
    (p : Entry → Bool) (list old new : List Entry) (index : ℕ) (entry : Entry) → index < length list → entry ≡ get_or list index entry
    → old ≡ filter p (take index list) → p entry ≡ true → new ≡ old ++ entry ∷ [] → new ≡ filter p (take (index + 1) list)
more p list old new index entry within is held passes grown =
    let whole : take (index + 1) list ≡ take index list ++ entry ∷ [] = rw is (take_more list index entry within) in
    let one : filter p (entry ∷ []) ≡ entry ∷ [] = rw passes refl in
    grown ∙ ap (λ l. l ++ entry ∷ []) held ∙ sym (ap (filter p) whole ∙ filter-append p (take index list) (entry ∷ []) ∙ ap (λ l. filter p (take index list) ++ l) one)

same :
    (p : Entry → Bool) (list old : List Entry) (index : ℕ) (entry : Entry) → index < length list → entry ≡ get_or list index entry
    → old ≡ filter p (take index list) → p entry ≡ false → old ≡ filter p (take (index + 1) list)
same p list old index entry within is held fails =
    let whole : take (index + 1) list ≡ take index list ++ entry ∷ [] = rw is (take_more list index entry within) in
    let none : filter p (entry ∷ []) ≡ [] = rw fails refl in
    held ∙ sym (ap (filter p) whole ∙ filter-append p (take index list) (entry ∷ []) ∙ ap (λ l. filter p (take index list) ++ l) none ∙ append-nil (filter p (take index list)))

pub loop-entry-preserved : goal.loop-entry-preserved
loop-entry-preserved c =
    let stays = λ (entry : Entry). not (is_of_chain c.args.list.now c.args.root.now entry) in
    elim c.if-not-is_of_chain.branch [
      | then-not-is_of_chain+in_ok-put w ↦ record {
        list = more stays c.args.list.now c.loop-entry.tables.list c.if-not-is_of_chain.tables.list c.loop-entry.entry-index c.entry-item.result c.loop-entry-test.true c.entry-item.is
            c.loop-entry.invariant.list (ap not (sym w.if-not-is_of_chain.ensures)) (ap (λ (book : Shown). book.list) w.tables-is ∙ w.in_ok-put.ensures.list);
        none_kept = ap (λ (book : Shown). book.kept) w.tables-is ∙ w.in_ok-put.ensures.none_kept;
      }
      | else-not-is_of_chain w ↦ record {
        list = ap (λ (book : Shown). book.list) w.tables-is
            ∙ same stays c.args.list.now c.loop-entry.tables.list c.loop-entry.entry-index c.entry-item.result c.loop-entry-test.true c.entry-item.is
            c.loop-entry.invariant.list (ap not (sym w.if-not-is_of_chain.ensures));
        none_kept = ap (λ (book : Shown). book.kept) w.tables-is ∙ c.loop-entry.invariant.none_kept;
      }
    ]

pub returns-clause-list : goal.returns-clause-list
returns-clause-list c =
    c.loop-entry.invariant.list
    ∙ ap (filter (λ entry. not (is_of_chain c.args.list.now c.args.root.now entry)))
    (take_all c.loop-entry.entry-index c.args.list.now c.loop-entry-test.false)
