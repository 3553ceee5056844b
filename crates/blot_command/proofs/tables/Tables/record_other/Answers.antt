use Rattle.std.proofs.Common.{◌++◌, ◌∷◌, [], ap, ◌∙◌, refl, sym, subst, IfSome}
use Rattle.blot_types.specs.declared.command.Entry.{Entry}
use Rattle.blot_types.specs.Legal.{is_above_entries, is_book}
use Rattle.blot_types.specs.Survivors.{version_of}
use Rattle.blot_command.specs.Book.{Shown}
use Rattle.blot_command.specs.Shown.{version_replaced, CanPut, Shows, with_put, with_kept, IsPut, IsKept}
use Rattle.blot_command.specs.Withdrawing.{with_entry}
use Rattle.blot_command.proofs.AccountLemmas.{has-last, last-is}
use Rattle.blot_command.proofs.LiveLemmas.{next-entry}
use Rattle.blot_command.proofs.RecordLemmas.{brings, can_put, shows-held, records}
use Rattle.blot_command.proofs.tables.Tables.record_other.Goals as goal

pub hold-requires : goal.hold-requires
hold-requires c =
    let old = c.self.inside.accounts in
    let entry = c.args.entry in
    let next = next-entry old.list entry (ap (λ (book : Shown). is_book (book.list ++ entry ∷ [])) c.self.view_is ∙ c.requires.book) in
    let brought = brings entry (version_of entry) refl in
    subst (λ (told : Entry). IfSome (version_of told) (λ version. CanPut version c.self.inside.orders)) (sym c.as_entry-inner.ensures)
    (can_put old entry c.self.inside.orders (version_of entry) next c.self.invariant brought)

pub take-requires : goal.take-requires
take-requires c =
    let old = c.self.inside.accounts in
    let entry = c.args.entry in
    let held = c.in-Ok.ensures.ok ∙ ap (λ (told : Entry). with_kept (version_of told) c.self.inside.orders) c.as_entry-inner.ensures in
    let next = next-entry old.list entry (ap (λ (book : Shown). is_book (book.list ++ entry ∷ [])) c.self.view_is ∙ c.requires.book) in
    let brought = brings entry (version_of entry) refl in
    let above = ap (λ (book : Shown). is_above_entries entry.number book.kept) c.self.view_is ∙ c.requires.above in
    let read = c.replaced-replaced.ensures ∙ (λ i. version_replaced (c.live.ensures i).list (c.as_entry-inner.ensures i)) in
    let does = records old entry c.self.inside.orders (version_of entry) c.replaced-replaced.result next above c.self.invariant brought read in
    subst (λ fills. IfSome c.replaced-replaced.result (λ version. IsPut version fills)) (sym held) does.taken

pub last-requires : goal.last-requires
last-requires c =
    let above = ap (λ (book : Shown). is_above_entries c.args.entry.number book.kept) c.self.view_is ∙ c.requires.above in
    has-last c.self.inside.accounts c.live-in-Ok-push.result.now c.args.entry (c.live-in-Ok-push.ensures ∙ c.in-Ok-push.ensures.ok) above

pub put_held-requires : goal.put_held-requires
put_held-requires c =
    let old = c.self.inside.accounts in
    let entry = c.args.entry in
    let held = c.in-Ok.ensures.ok ∙ ap (λ (told : Entry). with_kept (version_of told) c.self.inside.orders) c.as_entry-inner.ensures in
    let next = next-entry old.list entry (ap (λ (book : Shown). is_book (book.list ++ entry ∷ [])) c.self.view_is ∙ c.requires.book) in
    let brought = brings entry (version_of entry) refl in
    let above = ap (λ (book : Shown). is_above_entries entry.number book.kept) c.self.view_is ∙ c.requires.above in
    let read = c.replaced-replaced.ensures ∙ (λ i. version_replaced (c.live.ensures i).list (c.as_entry-inner.ensures i)) in
    let does = records old entry c.self.inside.orders (version_of entry) c.replaced-replaced.result next above c.self.invariant brought read in
    let same = last-is old c.live-in-Ok-push.result.now entry c.last.result.now (c.live-in-Ok-push.ensures ∙ c.in-Ok-push.ensures.ok) c.last.ensures.last in
    subst (λ last. IfSome (version_of last) (λ version. IsKept version c.take.new.orders)) (sym same)
    (subst (λ fills. IfSome (version_of entry) (λ version. IsKept version fills)) (sym (c.take.ensures ∙ ap (with_kept c.replaced-replaced.result) held)) does.un_taken)

pub invariant_of-self-in-Ok-push : goal.invariant_of-self-in-Ok-push
invariant_of-self-in-Ok-push c =
    let old = c.self.inside.accounts in
    let entry = c.args.entry in
    let held = c.in-Ok.ensures.ok ∙ ap (λ (told : Entry). with_kept (version_of told) c.self.inside.orders) c.as_entry-inner.ensures in
    let next = next-entry old.list entry (ap (λ (book : Shown). is_book (book.list ++ entry ∷ [])) c.self.view_is ∙ c.requires.book) in
    let brought = brings entry (version_of entry) refl in
    let above = ap (λ (book : Shown). is_above_entries entry.number book.kept) c.self.view_is ∙ c.requires.above in
    let read = c.replaced-replaced.ensures ∙ (λ i. version_replaced (c.live.ensures i).list (c.as_entry-inner.ensures i)) in
    let does = records old entry c.self.inside.orders (version_of entry) c.replaced-replaced.result next above c.self.invariant brought read in
    let same = last-is old c.live-in-Ok-push.result.now entry c.last.result.now (c.live-in-Ok-push.ensures ∙ c.in-Ok-push.ensures.ok) c.last.ensures.last in
    let put = c.put_held.ensures ∙ ap (λ last. with_put (version_of last) c.take.new.orders) same in
    subst (λ shown. Shows shown c.put_held.new.orders) (sym c.in-Ok-push.ensures.ok)
    (subst (Shows (with_entry entry old)) (sym (put ∙ ap (with_put (version_of entry)) (c.take.ensures ∙ ap (with_kept c.replaced-replaced.result) held))) does.shows)

pub invariant_of-self-in-Err : goal.invariant_of-self-in-Err
invariant_of-self-in-Err c =
    let old = c.self.inside.accounts in
    let entry = c.args.entry in
    let held = c.in-Ok.ensures.ok ∙ ap (λ (told : Entry). with_kept (version_of told) c.self.inside.orders) c.as_entry-inner.ensures in
    let next = next-entry old.list entry (ap (λ (book : Shown). is_book (book.list ++ entry ∷ [])) c.self.view_is ∙ c.requires.book) in
    let brought = brings entry (version_of entry) refl in
    let above = ap (λ (book : Shown). is_above_entries entry.number book.kept) c.self.view_is ∙ c.requires.above in
    let shows = shows-held old entry c.self.inside.orders (version_of entry) next above c.self.invariant brought in
    subst (λ shown. Shows shown c.hold.new.orders) (sym c.in-Err.ensures.err) (subst (Shows old) (sym held) shows)
