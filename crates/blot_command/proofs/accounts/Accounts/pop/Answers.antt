use Rattle.std.proofs.Common.{◌≡◌, refl, ap, ◌∙◌, sym, option_map}
use Rattle.blot_types.specs.Position.{part_of}
use Rattle.blot_types.specs.Refusals.{alloc_reference}
use Rattle.blot_types.specs.Survivors.{version_of}
use Rattle.blot_types.proofs.ChangeLemmas.{replaced_version}
use Rattle.blot_command.specs.Book.{Shown}
use Rattle.blot_command.specs.Booking.{rebooked, released, allocated}
use Rattle.blot_command.specs.Withdrawing.{with_entry}
use Rattle.blot_command.proofs.EntryMoveLemmas.{own_key}
use Rattle.blot_command.proofs.AccountLemmas.{Reads, pops, last-split, same-ends, move-second, move-third, move-shows}
use Rattle.blot_command.proofs.accounts.Accounts.pop.Goals as goal

pub release-requires : goal.release-requires
release-requires c =
    let old = c.self.inside.live in
    let entry = c.last-last.result.now in
    let split = last-split old.list entry c.last-last.ensures.last in
    let new : Shown = record { list = split.0; kept = old.kept } in
    let is : old ≡ with_entry entry new = λ k. record { list = split.1 k; kept = old.kept } in
    let gone = option_map (part_of old.list) (version_of entry) in
    let come = option_map (part_of new.list) (replaced_version new.list entry) in
    let ended = c.alloc_reference-ended.result in
    let brought = c.brought_key-brought.result in
    let it : Reads old.list new.list entry (version_of entry) (replaced_version new.list entry) gone come ended brought =
    record { lost_is = refl; gained_is = refl; ended_is = c.alloc_reference-ended.ensures; brought_is = c.brought_key-brought.ensures } in
    let leads = pops old new entry gone come ended brought c.self.inside.positions is c.last-last.ensures.book it c.self.invariant in
    leads.moves.first

pub allocate-requires : goal.allocate-requires
allocate-requires c =
    let old = c.self.inside.live in
    let entry = c.last-last.result.now in
    let split = last-split old.list entry c.last-last.ensures.last in
    let new : Shown = record { list = split.0; kept = old.kept } in
    let is : old ≡ with_entry entry new = λ k. record { list = split.1 k; kept = old.kept } in
    let gone = option_map (part_of old.list) (version_of entry) in
    let come = option_map (part_of new.list) (replaced_version new.list entry) in
    let ended = c.alloc_reference-ended.result in
    let brought = c.brought_key-brought.result in
    let it : Reads old.list new.list entry (version_of entry) (replaced_version new.list entry) gone come ended brought =
    record { lost_is = refl; gained_is = refl; ended_is = c.alloc_reference-ended.ensures; brought_is = c.brought_key-brought.ensures } in
    let leads = pops old new entry gone come ended brought c.self.inside.positions is c.last-last.ensures.book it c.self.invariant in
    move-second (released old.list brought) (allocated old.list ended) (rebooked gone come) c.self.inside.positions c.release.new.positions new.list leads.moves c.release.ensures

pub rebook-requires : goal.rebook-requires
rebook-requires c =
    let old = c.self.inside.live in
    let new = c.pop-entry.new.self in
    let entry = c.pop-entry.result in
    let split = last-split old.list c.last-last.result.now c.last-last.ensures.last in
    let same : c.last-last.result.now ≡ entry =
    (same-ends split.0 new.list c.last-last.result.now entry (sym split.1 ∙ ap (λ (shown : Shown). shown.list) c.pop-entry.ensures.rest)).1 in
    let gone = c.part_of-gone.result in
    let come = c.part_of-come.result in
    let ended = c.alloc_reference-ended.result in
    let brought = c.brought_key-brought.result in
    let it : Reads old.list new.list entry (version_of entry) (replaced_version new.list entry) gone come ended brought = record {
      lost_is = c.part_of-gone.ensures ∙ ap (option_map (part_of old.list)) (c.version-version.ensures ∙ ap version_of same);
      gained_is = c.part_of-come.ensures
          ∙ ap (option_map (part_of new.list)) (c.replaced.ensures ∙ ap (replaced_version new.list) c.as_entry-inner.ensures);
      ended_is = c.alloc_reference-ended.ensures ∙ ap (λ e. alloc_reference e.command) same;
      brought_is = c.brought_key-brought.ensures ∙ ap own_key same;
    } in
    let leads = pops old new entry gone come ended brought c.self.inside.positions c.pop-entry.ensures.rest c.pop-entry.ensures.book it c.self.invariant in
    move-third (released old.list brought) (allocated old.list ended) (rebooked gone come) c.self.inside.positions c.release.new.positions c.allocate.new.positions new.list leads.moves c.release.ensures c.allocate.ensures

pub invariant_of-self : goal.invariant_of-self
invariant_of-self c =
    let old = c.self.inside.live in
    let new = c.pop-entry.new.self in
    let entry = c.pop-entry.result in
    let split = last-split old.list c.last-last.result.now c.last-last.ensures.last in
    let same : c.last-last.result.now ≡ entry =
    (same-ends split.0 new.list c.last-last.result.now entry (sym split.1 ∙ ap (λ (shown : Shown). shown.list) c.pop-entry.ensures.rest)).1 in
    let gone = c.part_of-gone.result in
    let come = c.part_of-come.result in
    let ended = c.alloc_reference-ended.result in
    let brought = c.brought_key-brought.result in
    let it : Reads old.list new.list entry (version_of entry) (replaced_version new.list entry) gone come ended brought = record {
      lost_is = c.part_of-gone.ensures ∙ ap (option_map (part_of old.list)) (c.version-version.ensures ∙ ap version_of same);
      gained_is = c.part_of-come.ensures
          ∙ ap (option_map (part_of new.list)) (c.replaced.ensures ∙ ap (replaced_version new.list) c.as_entry-inner.ensures);
      ended_is = c.alloc_reference-ended.ensures ∙ ap (λ e. alloc_reference e.command) same;
      brought_is = c.brought_key-brought.ensures ∙ ap own_key same;
    } in
    let leads = pops old new entry gone come ended brought c.self.inside.positions c.pop-entry.ensures.rest c.pop-entry.ensures.book it c.self.invariant in
    move-shows (released old.list brought) (allocated old.list ended) (rebooked gone come) c.self.inside.positions c.release.new.positions c.allocate.new.positions c.rebook.new.positions new leads c.release.ensures c.allocate.ensures c.rebook.ensures
