use Rattle.std.proofs.Common.{◌++◌, ◌∷◌, [], ap, ◌∙◌, sym, subst, option_map}
use Rattle.blot_types.specs.declared.command.Entry.{Entry}
use Rattle.blot_types.specs.Legal.{is_above_entries, is_book}
use Rattle.blot_types.specs.Position.{part_of}
use Rattle.blot_types.specs.Refusals.{alloc_reference}
use Rattle.blot_types.specs.Survivors.{version_of}
use Rattle.blot_types.proofs.ChangeLemmas.{replaced_version}
use Rattle.blot_command.specs.Book.{Shown}
use Rattle.blot_command.specs.Shown.{version_replaced}
use Rattle.blot_command.specs.Booking.{rebooked, released, allocated}
use Rattle.blot_command.specs.Carried.{EntryFits, HasEntryCells, ShowsPositions}
use Rattle.blot_command.proofs.EntryMoveLemmas.{own_key}
use Rattle.blot_command.proofs.ReadyLemmas.{shows-opened}
use Rattle.blot_command.proofs.AccountLemmas.{Reads, has-last, last-is, pushes, move-second, move-third, move-shows}
use Rattle.blot_command.proofs.accounts.Accounts.push.Goals as goal

pub open_cells-requires : goal.open_cells-requires
open_cells-requires c = c.self.invariant.housed

pub last-requires : goal.last-requires
last-requires c =
    let above = ap (λ (shown : Shown). is_above_entries c.args.entry.number shown.kept) c.self.view_is ∙ c.requires.above in
    has-last c.self.inside.live c.push.new.self c.args.entry c.in-Ok-push.ensures.ok above

pub rebook-requires : goal.rebook-requires
rebook-requires c =
    let old = c.self.inside.live in
    let new = c.push.new.self in
    let entry = c.args.entry in
    let cells = c.open_cells.new.positions in
    let gone = c.part_of-gone.result in
    let come = c.part_by-come.result in
    let ended = c.alloc_reference-ended.result in
    let brought = c.brought_key-brought.result in
    let it : Reads new.list old.list entry (version_of entry) (replaced_version old.list entry) come gone ended brought = record {
      lost_is = c.part_by-come.ensures ∙ ap (λ last. option_map (part_of new.list) (version_of last)) (last-is old new entry c.last.result.now c.in-Ok-push.ensures.ok c.last.ensures.last);
      gained_is = c.part_of-gone.ensures ∙ ap (option_map (part_of old.list)) (c.requires.replaces ∙ sym (ap (λ (shown : Shown). version_replaced shown.list entry) c.self.view_is));
      ended_is = c.alloc_reference-ended.ensures ∙ ap (λ (told : Entry). alloc_reference told.command) c.as_entry-inner.ensures;
      brought_is = c.brought_key-brought.ensures ∙ ap own_key c.as_entry-inner.ensures;
    } in
    let book = ap (λ (shown : Shown). is_book (shown.list ++ entry ∷ [])) c.self.view_is ∙ c.requires.book in
    let made = subst (λ (told : Entry). HasEntryCells cells told.command) c.as_entry-inner.ensures c.in-Ok.ensures.made in
    let fits = subst (λ (told : Entry). EntryFits told.command) c.as_entry-inner.ensures c.in-Ok.ensures.fits in
    let leads = pushes old new entry come gone ended brought c.self.inside.positions cells c.in-Ok-push.ensures.ok book it c.self.invariant c.in-Ok.ensures.opens made fits in
    leads.moves.first

pub release-requires : goal.release-requires
release-requires c =
    let old = c.self.inside.live in
    let new = c.push.new.self in
    let entry = c.args.entry in
    let cells = c.open_cells.new.positions in
    let gone = c.part_of-gone.result in
    let come = c.part_by-come.result in
    let ended = c.alloc_reference-ended.result in
    let brought = c.brought_key-brought.result in
    let it : Reads new.list old.list entry (version_of entry) (replaced_version old.list entry) come gone ended brought = record {
      lost_is = c.part_by-come.ensures ∙ ap (λ last. option_map (part_of new.list) (version_of last)) (last-is old new entry c.last.result.now c.in-Ok-push.ensures.ok c.last.ensures.last);
      gained_is = c.part_of-gone.ensures ∙ ap (option_map (part_of old.list)) (c.requires.replaces ∙ sym (ap (λ (shown : Shown). version_replaced shown.list entry) c.self.view_is));
      ended_is = c.alloc_reference-ended.ensures ∙ ap (λ (told : Entry). alloc_reference told.command) c.as_entry-inner.ensures;
      brought_is = c.brought_key-brought.ensures ∙ ap own_key c.as_entry-inner.ensures;
    } in
    let book = ap (λ (shown : Shown). is_book (shown.list ++ entry ∷ [])) c.self.view_is ∙ c.requires.book in
    let made = subst (λ (told : Entry). HasEntryCells cells told.command) c.as_entry-inner.ensures c.in-Ok.ensures.made in
    let fits = subst (λ (told : Entry). EntryFits told.command) c.as_entry-inner.ensures c.in-Ok.ensures.fits in
    let leads = pushes old new entry come gone ended brought c.self.inside.positions cells c.in-Ok-push.ensures.ok book it c.self.invariant c.in-Ok.ensures.opens made fits in
    move-second (rebooked gone come) (released new.list ended) (allocated new.list brought) cells c.rebook.new.positions new.list leads.moves c.rebook.ensures

pub allocate-requires : goal.allocate-requires
allocate-requires c =
    let old = c.self.inside.live in
    let new = c.push.new.self in
    let entry = c.args.entry in
    let cells = c.open_cells.new.positions in
    let gone = c.part_of-gone.result in
    let come = c.part_by-come.result in
    let ended = c.alloc_reference-ended.result in
    let brought = c.brought_key-brought.result in
    let it : Reads new.list old.list entry (version_of entry) (replaced_version old.list entry) come gone ended brought = record {
      lost_is = c.part_by-come.ensures ∙ ap (λ last. option_map (part_of new.list) (version_of last)) (last-is old new entry c.last.result.now c.in-Ok-push.ensures.ok c.last.ensures.last);
      gained_is = c.part_of-gone.ensures ∙ ap (option_map (part_of old.list)) (c.requires.replaces ∙ sym (ap (λ (shown : Shown). version_replaced shown.list entry) c.self.view_is));
      ended_is = c.alloc_reference-ended.ensures ∙ ap (λ (told : Entry). alloc_reference told.command) c.as_entry-inner.ensures;
      brought_is = c.brought_key-brought.ensures ∙ ap own_key c.as_entry-inner.ensures;
    } in
    let book = ap (λ (shown : Shown). is_book (shown.list ++ entry ∷ [])) c.self.view_is ∙ c.requires.book in
    let made = subst (λ (told : Entry). HasEntryCells cells told.command) c.as_entry-inner.ensures c.in-Ok.ensures.made in
    let fits = subst (λ (told : Entry). EntryFits told.command) c.as_entry-inner.ensures c.in-Ok.ensures.fits in
    let leads = pushes old new entry come gone ended brought c.self.inside.positions cells c.in-Ok-push.ensures.ok book it c.self.invariant c.in-Ok.ensures.opens made fits in
    move-third (rebooked gone come) (released new.list ended) (allocated new.list brought) cells c.rebook.new.positions c.release.new.positions new.list leads.moves c.rebook.ensures c.release.ensures

pub invariant_of-self-in-Ok-push : goal.invariant_of-self-in-Ok-push
invariant_of-self-in-Ok-push c =
    let old = c.self.inside.live in
    let new = c.push.new.self in
    let entry = c.args.entry in
    let cells = c.open_cells.new.positions in
    let gone = c.part_of-gone.result in
    let come = c.part_by-come.result in
    let ended = c.alloc_reference-ended.result in
    let brought = c.brought_key-brought.result in
    let it : Reads new.list old.list entry (version_of entry) (replaced_version old.list entry) come gone ended brought = record {
      lost_is = c.part_by-come.ensures ∙ ap (λ last. option_map (part_of new.list) (version_of last)) (last-is old new entry c.last.result.now c.in-Ok-push.ensures.ok c.last.ensures.last);
      gained_is = c.part_of-gone.ensures ∙ ap (option_map (part_of old.list)) (c.requires.replaces ∙ sym (ap (λ (shown : Shown). version_replaced shown.list entry) c.self.view_is));
      ended_is = c.alloc_reference-ended.ensures ∙ ap (λ (told : Entry). alloc_reference told.command) c.as_entry-inner.ensures;
      brought_is = c.brought_key-brought.ensures ∙ ap own_key c.as_entry-inner.ensures;
    } in
    let book = ap (λ (shown : Shown). is_book (shown.list ++ entry ∷ [])) c.self.view_is ∙ c.requires.book in
    let made = subst (λ (told : Entry). HasEntryCells cells told.command) c.as_entry-inner.ensures c.in-Ok.ensures.made in
    let fits = subst (λ (told : Entry). EntryFits told.command) c.as_entry-inner.ensures c.in-Ok.ensures.fits in
    let leads = pushes old new entry come gone ended brought c.self.inside.positions cells c.in-Ok-push.ensures.ok book it c.self.invariant c.in-Ok.ensures.opens made fits in
    move-shows (rebooked gone come) (released new.list ended) (allocated new.list brought) cells c.rebook.new.positions c.release.new.positions c.allocate.new.positions new leads c.rebook.ensures c.release.ensures c.allocate.ensures

pub invariant_of-self-in-Err : goal.invariant_of-self-in-Err
invariant_of-self-in-Err c =
    subst (λ shown. ShowsPositions shown c.open_cells.new.positions) (sym c.in-Err.ensures.err)
    (shows-opened c.self.inside.live c.self.inside.positions c.open_cells.new.positions c.in-Ok.ensures.opens c.self.invariant)
