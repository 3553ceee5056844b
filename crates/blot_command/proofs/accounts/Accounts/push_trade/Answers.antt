use Rattle.std.proofs.Common.{◌++◌, ◌∷◌, [], None, refl, ap, ◌∙◌, sym, subst, option_map}
use Rattle.blot_types.specs.declared.command.Entry.{Entry}
use Rattle.blot_types.specs.Legal.{is_above_entries, is_book}
use Rattle.blot_types.specs.Position.{part_of}
use Rattle.blot_types.specs.Survivors.{version_of}
use Rattle.blot_types.proofs.ChangeLemmas.{replaced_version}
use Rattle.blot_command.specs.Book.{Shown}
use Rattle.blot_command.specs.Booking.{rebooked, released, allocated}
use Rattle.blot_command.specs.Carried.{EntryFits, HasEntryCells, ShowsPositions}
use Rattle.blot_command.proofs.ReadyLemmas.{shows-opened}
use Rattle.blot_command.proofs.AccountLemmas.{Reads, has-last, last-is, pushes, move-shows}
use Rattle.blot_command.proofs.TradeLemmas.{alone}
use Rattle.blot_command.proofs.accounts.Accounts.push_trade.Goals as goal

pub open_cells-requires : goal.open_cells-requires
open_cells-requires c = c.self.invariant.housed

pub last-requires : goal.last-requires
last-requires c =
    let above = ap (λ (shown : Shown). is_above_entries c.args.entry.number shown.kept) c.self.view_is ∙ c.requires.above in
    has-last c.self.inside.live c.push.new.self c.args.entry c.in-Ok-push.ensures.ok above

pub rebook-requires : goal.rebook-requires
rebook-requires c =
    let old = c.self.inside.live in
    let new = c.push.new.self in
    let entry = c.args.entry in
    let cells = c.open_cells.new.positions in
    let come = c.part_by-come.result in
    let trade = alone old.list entry c.requires.trade in
    let it : Reads new.list old.list entry (version_of entry) (replaced_version old.list entry) come None None None = record {
      lost_is = c.part_by-come.ensures ∙ ap (λ last. option_map (part_of new.list) (version_of last)) (last-is old new entry c.last.result.now c.in-Ok-push.ensures.ok c.last.ensures.last);
      gained_is = sym (ap (option_map (part_of old.list)) trade.was);
      ended_is = sym trade.ends;
      brought_is = sym trade.brings;
    } in
    let book = ap (λ (shown : Shown). is_book (shown.list ++ entry ∷ [])) c.self.view_is ∙ c.requires.book in
    let made = subst (λ (told : Entry). HasEntryCells cells told.command) c.as_entry.ensures c.in-Ok.ensures.made in
    let fits = subst (λ (told : Entry). EntryFits told.command) c.as_entry.ensures c.in-Ok.ensures.fits in
    let leads = pushes old new entry come None None None c.self.inside.positions cells c.in-Ok-push.ensures.ok book it c.self.invariant c.in-Ok.ensures.opens made fits in
    leads.moves.first

pub invariant_of-self-in-Ok-push : goal.invariant_of-self-in-Ok-push
invariant_of-self-in-Ok-push c =
    let old = c.self.inside.live in
    let new = c.push.new.self in
    let entry = c.args.entry in
    let cells = c.open_cells.new.positions in
    let come = c.part_by-come.result in
    let trade = alone old.list entry c.requires.trade in
    let it : Reads new.list old.list entry (version_of entry) (replaced_version old.list entry) come None None None = record {
      lost_is = c.part_by-come.ensures ∙ ap (λ last. option_map (part_of new.list) (version_of last)) (last-is old new entry c.last.result.now c.in-Ok-push.ensures.ok c.last.ensures.last);
      gained_is = sym (ap (option_map (part_of old.list)) trade.was);
      ended_is = sym trade.ends;
      brought_is = sym trade.brings;
    } in
    let book = ap (λ (shown : Shown). is_book (shown.list ++ entry ∷ [])) c.self.view_is ∙ c.requires.book in
    let made = subst (λ (told : Entry). HasEntryCells cells told.command) c.as_entry.ensures c.in-Ok.ensures.made in
    let fits = subst (λ (told : Entry). EntryFits told.command) c.as_entry.ensures c.in-Ok.ensures.fits in
    let leads = pushes old new entry come None None None c.self.inside.positions cells c.in-Ok-push.ensures.ok book it c.self.invariant c.in-Ok.ensures.opens made fits in
    move-shows (rebooked None come) (released new.list None) (allocated new.list None) cells c.rebook.new.positions c.rebook.new.positions c.rebook.new.positions new leads
    c.rebook.ensures refl refl

pub invariant_of-self-in-Err : goal.invariant_of-self-in-Err
invariant_of-self-in-Err c =
    subst (λ shown. ShowsPositions shown c.open_cells.new.positions) (sym c.in-Err.ensures.err)
    (shows-opened c.self.inside.live c.self.inside.positions c.open_cells.new.positions c.in-Ok.ensures.opens c.self.invariant)
