-- The positions of the live list with one entry more, and with one less.
use Rattle.std.proofs.Common.{◌≡◌, ℕ, ◌+◌, ◌<◌, true, List, [], ◌∷◌, ◌++◌, reverse, Option, Some, None, refl, sym, ap, subst, ◌∙◌, arith, option_map, lt-ltb, ltb-true}
use Rattle.std.specs.List.{last_or}
use Rattle.std.proofs.lemmas.Bool.{and_from, and_parts}
use Rattle.std.proofs.lemmas.List.{reverse-append, reverse-reverse}
use Rattle.blot_types.specs.declared.{command.Entry.Entry, keys.AllocKey.AllocKey, part.Part.Part, lines.Version.Version}
use Rattle.blot_types.specs.Legal.{is_above_entries, is_book}
use Rattle.blot_types.specs.Position.{part_of}
use Rattle.blot_types.specs.Refusals.{alloc_reference}
use Rattle.blot_types.specs.Survivors.{version_of}
use Rattle.blot_types.proofs.ChangeLemmas.{replaced_version}
use Rattle.blot_types.proofs.OrderLemmas.{last_or-push}
use Rattle.blot_position.specs.Positions.{Cells}
use Rattle.blot_command.specs.Book.{Shown}
use Rattle.blot_command.specs.Booking.{Change, changed_all, CanChangeAll, rebooked, allocated, released}
use Rattle.blot_command.specs.Carried.{Opens, HasEntryCells, EntryFits, IsHoused, IsReady, ShowsPositions}
use Rattle.blot_command.specs.Withdrawing.{with_entry, HasLast}
use Rattle.blot_command.proofs.EntryMoveLemmas.{own_key, AreApart, goes-apart, comes-apart, next-apart}
use Rattle.blot_command.proofs.HouseCellLemmas.{housed-stays}
use Rattle.blot_command.proofs.LiveLemmas.{next-entry}
use Rattle.blot_command.proofs.ReadyLemmas.{ready-stays, shows-opened, ready-more, ready-less, CarriesList, CanMove}

-- ---- three lists of changes in three calls, each of which leaves other cells

pub move-second : (one two three : List Change) (cells between : Cells) (list : List Entry) → CanMove one two three cells list → between ≡ changed_all one cells → CanChangeAll two between
move-second one two three cells between list moves first = subst (CanChangeAll two) (sym first) moves.second

pub move-third : (one two three : List Change) (cells between last : Cells) (list : List Entry) → CanMove one two three cells list → between ≡ changed_all one cells → last ≡ changed_all two between → CanChangeAll three last
move-third one two three cells between last list moves first second = subst (CanChangeAll three) (sym (second ∙ ap (changed_all two) first)) moves.third

-- they lead to what a book shows
pub record LeadsTo (one two three : List Change) (cells : Cells) (shown : Shown) : Type 0 where
  pub moves : CanMove one two three cells shown.list
  pub ready : IsReady shown.list cells
  pub ready_kept : IsReady shown.kept cells
  pub housed : IsHoused cells

pub move-shows :
    (one two three : List Change) (cells between last end : Cells) (shown : Shown) → LeadsTo one two three cells shown
    → between ≡ changed_all one cells → last ≡ changed_all two between → end ≡ changed_all three last → ShowsPositions shown end
move-shows one two three cells between last end shown leads first second third =
    let after = changed_all one cells in
    let then = changed_all two after in
    let stays : (list : List Entry) → IsReady list cells → IsReady list (changed_all three then) =
    λ list here. ready-stays list three then (ready-stays list two after (ready-stays list one cells here)) in
    let housed = housed-stays three then leads.moves.third (housed-stays two after leads.moves.second (housed-stays one cells leads.moves.first leads.housed)) in
    let shows : ShowsPositions shown (changed_all three then) =
    record { carried = leads.moves.carried; ready = stays shown.list leads.ready; ready_kept = stays shown.kept leads.ready_kept; housed = housed } in
    subst (ShowsPositions shown) (sym (third ∙ ap (changed_all three) (second ∙ ap (changed_all two) first))) shows

-- ---- a list that ends in an entry

pub last-split : (list : List Entry) (entry : Entry) → last_or None list ≡ Some entry → (front : List Entry) × (list ≡ front ++ entry ∷ [])
last-split [] entry is = cc
last-split (x ∷ []) entry is = (let one : x ≡ entry = cc in ([], ap (λ e. e ∷ []) one))
last-split (x ∷ y ∷ ys) entry is = (let rest = last-split (y ∷ ys) entry is in (x ∷ rest.0, ap (λ l. x ∷ l) rest.1))

-- what is below a number is below the next one
above-next : (n : ℕ) (entries : List Entry) → is_above_entries n entries ≡ true → is_above_entries (n + 1) entries ≡ true
above-next n [] above = refl
above-next n (entry ∷ entries) above =
    let parts = and_parts _ _ above in
    let less : entry.number < n = ltb-true _ _ parts.0 in
    and_from _ _ (lt-ltb entry.number (n + 1) (omega arith)) (above-next n entries parts.1)

-- an entry that was put after the others, above all that are kept, is the last one
pub has-last : (old new : Shown) (entry : Entry) → new ≡ with_entry entry old → is_above_entries entry.number old.kept ≡ true → HasLast new
has-last old new entry is above = record {
  rest = old.list;
  entry = entry;
  is = ap (λ (shown : Shown). shown.list) is;
  above = ap (λ (shown : Shown). is_above_entries (entry.number + 1) shown.kept) is ∙ above-next entry.number old.kept above;
}

pub last-is : (old new : Shown) (entry last : Entry) → new ≡ with_entry entry old → last_or None new.list ≡ Some last → last ≡ entry
last-is old new entry last is found =
    let own : last_or None new.list ≡ Some entry = ap (λ (shown : Shown). last_or None shown.list) is ∙ last_or-push None old.list entry in
    let same : Some last ≡ Some entry = sym found ∙ own in
    cc

-- it ends in one entry alone
pub same-ends : (a b : List Entry) (x y : Entry) → a ++ x ∷ [] ≡ b ++ y ∷ [] → (a ≡ b) × (x ≡ y)
same-ends a b x y is =
    let turned : x ∷ reverse a ≡ y ∷ reverse b = sym (reverse-append a (x ∷ [])) ∙ ap reverse is ∙ reverse-append b (y ∷ []) in
    let heads : x ≡ y = cc in
    let tails : reverse a ≡ reverse b = cc in
    (sym (reverse-reverse a) ∙ ap reverse tails ∙ reverse-reverse b, heads)

-- ---- as the code reads an entry

-- the part that goes with an entry and the one that comes without it, the allocation that it ends and the one that it brings
pub record Reads (list rest : List Entry) (entry : Entry) (gone come : Option Version) (lost gained : Option Part) (ended brought : Option AllocKey) : Type 0 where
  pub lost_is : lost ≡ option_map (part_of list) gone
  pub gained_is : gained ≡ option_map (part_of rest) come
  pub ended_is : ended ≡ alloc_reference entry.command
  pub brought_is : brought ≡ own_key entry

-- the entry goes
pub goes-as :
    (list rest : List Entry) (entry : Entry) (gone come : Option Version) (lost gained : Option Part) (ended brought : Option AllocKey) (cells : Cells) → AreApart list rest entry gone come cells
    → Reads list rest entry gone come lost gained ended brought → CarriesList list cells → CanMove (released list brought) (allocated list ended) (rebooked lost gained) cells rest
goes-as list rest entry gone come lost gained ended brought cells apart it carried =
    let out = option_map (part_of list) gone in
    let into = option_map (part_of rest) come in
    subst (λ key. CanMove (released list key) (allocated list ended) (rebooked lost gained) cells rest) (sym it.brought_is)
    (subst (λ key. CanMove (released list (own_key entry)) (allocated list key) (rebooked lost gained) cells rest) (sym it.ended_is)
    (subst (λ part. CanMove (released list (own_key entry)) (allocated list (alloc_reference entry.command)) (rebooked part gained) cells rest) (sym it.lost_is)
    (subst (λ part. CanMove (released list (own_key entry)) (allocated list (alloc_reference entry.command)) (rebooked out part) cells rest) (sym it.gained_is)
    (goes-apart list rest entry gone come cells apart carried))))

-- and comes
pub comes-as :
    (list rest : List Entry) (entry : Entry) (gone come : Option Version) (lost gained : Option Part) (ended brought : Option AllocKey) (cells : Cells) → AreApart list rest entry gone come cells
    → Reads list rest entry gone come lost gained ended brought → CarriesList rest cells → CanMove (rebooked gained lost) (released list ended) (allocated list brought) cells list
comes-as list rest entry gone come lost gained ended brought cells apart it carried =
    let out = option_map (part_of rest) come in
    let into = option_map (part_of list) gone in
    subst (λ key. CanMove (rebooked gained lost) (released list ended) (allocated list key) cells list) (sym it.brought_is)
    (subst (λ key. CanMove (rebooked gained lost) (released list key) (allocated list (own_key entry)) cells list) (sym it.ended_is)
    (subst (λ part. CanMove (rebooked gained part) (released list (alloc_reference entry.command)) (allocated list (own_key entry)) cells list) (sym it.lost_is)
    (subst (λ part. CanMove (rebooked part into) (released list (alloc_reference entry.command)) (allocated list (own_key entry)) cells list) (sym it.gained_is)
    (comes-apart list rest entry gone come cells apart carried))))

-- ---- an entry after the others

-- it comes
pub pushes :
    (old new : Shown) (entry : Entry) (lost gained : Option Part) (ended brought : Option AllocKey) (before cells : Cells) → new ≡ with_entry entry old → is_book (old.list ++ entry ∷ []) ≡ true
    → Reads new.list old.list entry (version_of entry) (replaced_version old.list entry) lost gained ended brought → ShowsPositions old before → Opens before cells → HasEntryCells cells entry.command → EntryFits entry.command
    → LeadsTo (rebooked gained lost) (released new.list ended) (allocated new.list brought) cells new
pushes old new entry lost gained ended brought before cells is book it was opens made fits =
    let shows = shows-opened old before cells opens was in
    let ready = ready-more old.list entry cells shows.ready made fits in
    let list_is : new.list ≡ old.list ++ entry ∷ [] = ap (λ (shown : Shown). shown.list) is in
    let apart : AreApart new.list old.list entry (version_of entry) (replaced_version old.list entry) cells =
    subst (λ list. AreApart list old.list entry (version_of entry) (replaced_version old.list entry) cells) (sym list_is) (next-apart old.list entry cells (next-entry old.list entry book) ready) in
    record {
      moves = comes-as new.list old.list entry (version_of entry) (replaced_version old.list entry) lost gained ended brought cells apart it shows.carried;
      ready = subst (λ list. IsReady list cells) (sym list_is) ready;
      ready_kept = subst (λ (shown : Shown). IsReady shown.kept cells) (sym is) shows.ready_kept;
      housed = shows.housed;
    }

-- it goes
pub pops :
    (old new : Shown) (entry : Entry) (lost gained : Option Part) (ended brought : Option AllocKey) (cells : Cells) → old ≡ with_entry entry new → is_book old.list ≡ true
    → Reads old.list new.list entry (version_of entry) (replaced_version new.list entry) lost gained ended brought → ShowsPositions old cells
    → LeadsTo (released old.list brought) (allocated old.list ended) (rebooked lost gained) cells new
pops old new entry lost gained ended brought cells is book it shows =
    let list_is : old.list ≡ new.list ++ entry ∷ [] = ap (λ (shown : Shown). shown.list) is in
    let ready : IsReady (new.list ++ entry ∷ []) cells = subst (λ list. IsReady list cells) list_is shows.ready in
    let apart : AreApart old.list new.list entry (version_of entry) (replaced_version new.list entry) cells =
    subst (λ list. AreApart list new.list entry (version_of entry) (replaced_version new.list entry) cells) (sym list_is)
    (next-apart new.list entry cells (next-entry new.list entry (ap is_book (sym list_is) ∙ book)) ready) in
    record {
      moves = goes-as old.list new.list entry (version_of entry) (replaced_version new.list entry) lost gained ended brought cells apart it shows.carried;
      ready = ready-less new.list entry cells ready;
      ready_kept = subst (λ (shown : Shown). IsReady shown.kept cells) is shows.ready_kept;
      housed = shows.housed;
    }
