use Rattle.std.proofs.Common.{◌++◌, ◌∷◌, [], None, ap, ◌∙◌, refl, sym, subst, IfSome}
use Rattle.blot_types.specs.declared.command.Entry.{Entry}
use Rattle.blot_types.specs.Legal.{is_above_entries, is_book}
use Rattle.blot_types.specs.Survivors.{version_of}
use Rattle.blot_command.specs.Book.{Shown}
use Rattle.blot_command.specs.Shown.{CanPut, Shows, with_put, with_kept, IsKept}
use Rattle.blot_command.specs.Withdrawing.{with_entry}
use Rattle.blot_command.proofs.AccountLemmas.{has-last, last-is}
use Rattle.blot_command.proofs.LiveLemmas.{next-entry}
use Rattle.blot_command.proofs.RecordLemmas.{brings, can_put, shows-held, records}
use Rattle.blot_command.proofs.TradeLemmas.{alone}
use Rattle.blot_command.proofs.tables.Tables.record_trade.Goals as goal

pub hold-requires : goal.hold-requires
hold-requires c =
    let old = c.self.inside.accounts in
    let entry = c.args.entry in
    let next = next-entry old.list entry (ap (λ (book : Shown). is_book (book.list ++ entry ∷ [])) c.self.view_is ∙ c.requires.book) in
    let brought = brings entry (version_of entry) refl in
    subst (λ (told : Entry). IfSome (version_of told) (λ version. CanPut version c.self.inside.orders)) (sym c.as_entry.ensures)
    (can_put old entry c.self.inside.orders (version_of entry) next c.self.invariant brought)

pub last-requires : goal.last-requires
last-requires c =
    let above = ap (λ (book : Shown). is_above_entries c.args.entry.number book.kept) c.self.view_is ∙ c.requires.above in
    has-last c.self.inside.accounts c.live.result.now c.args.entry (c.live.ensures ∙ c.in-Ok-push_trade.ensures.ok) above

pub put_held-requires : goal.put_held-requires
put_held-requires c =
    let old = c.self.inside.accounts in
    let entry = c.args.entry in
    let next = next-entry old.list entry (ap (λ (book : Shown). is_book (book.list ++ entry ∷ [])) c.self.view_is ∙ c.requires.book) in
    let brought = brings entry (version_of entry) refl in
    let held = c.in-Ok.ensures.ok ∙ ap (λ (told : Entry). with_kept (version_of told) c.self.inside.orders) c.as_entry.ensures in
    let above = ap (λ (book : Shown). is_above_entries entry.number book.kept) c.self.view_is ∙ c.requires.above in
    let does = records old entry c.self.inside.orders (version_of entry) None next above c.self.invariant brought (sym (alone old.list entry c.requires.trade).replaces) in
    let same = last-is old c.live.result.now entry c.last.result.now (c.live.ensures ∙ c.in-Ok-push_trade.ensures.ok) c.last.ensures.last in
    subst (λ last. IfSome (version_of last) (λ version. IsKept version c.hold.new.orders)) (sym same)
    (subst (λ fills. IfSome (version_of entry) (λ version. IsKept version fills)) (sym held) does.un_taken)

pub invariant_of-self-in-Ok-push_trade : goal.invariant_of-self-in-Ok-push_trade
invariant_of-self-in-Ok-push_trade c =
    let old = c.self.inside.accounts in
    let entry = c.args.entry in
    let next = next-entry old.list entry (ap (λ (book : Shown). is_book (book.list ++ entry ∷ [])) c.self.view_is ∙ c.requires.book) in
    let brought = brings entry (version_of entry) refl in
    let held = c.in-Ok.ensures.ok ∙ ap (λ (told : Entry). with_kept (version_of told) c.self.inside.orders) c.as_entry.ensures in
    let above = ap (λ (book : Shown). is_above_entries entry.number book.kept) c.self.view_is ∙ c.requires.above in
    let does = records old entry c.self.inside.orders (version_of entry) None next above c.self.invariant brought (sym (alone old.list entry c.requires.trade).replaces) in
    let same = last-is old c.live.result.now entry c.last.result.now (c.live.ensures ∙ c.in-Ok-push_trade.ensures.ok) c.last.ensures.last in
    let put = c.put_held.ensures ∙ ap (λ last. with_put (version_of last) c.hold.new.orders) same in
    subst (λ shown. Shows shown c.put_held.new.orders) (sym c.in-Ok-push_trade.ensures.ok)
    (subst (Shows (with_entry entry old)) (sym (put ∙ ap (with_put (version_of entry)) held)) does.shows)

pub invariant_of-self-in-Err : goal.invariant_of-self-in-Err
invariant_of-self-in-Err c =
    let old = c.self.inside.accounts in
    let entry = c.args.entry in
    let next = next-entry old.list entry (ap (λ (book : Shown). is_book (book.list ++ entry ∷ [])) c.self.view_is ∙ c.requires.book) in
    let brought = brings entry (version_of entry) refl in
    let held = c.in-Ok.ensures.ok ∙ ap (λ (told : Entry). with_kept (version_of told) c.self.inside.orders) c.as_entry.ensures in
    let above = ap (λ (book : Shown). is_above_entries entry.number book.kept) c.self.view_is ∙ c.requires.above in
    let shows = shows-held old entry c.self.inside.orders (version_of entry) next above c.self.invariant brought in
    subst (λ shown. Shows shown c.hold.new.orders) (sym c.in-Err.ensures.err) (subst (Shows old) (sym held) shows)
