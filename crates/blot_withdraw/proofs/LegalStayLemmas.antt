-- A legal list of which nobody needs what goes is legal without it.
use Rattle.std.proofs.Common.{◌≡◌, ℕ, ◌+◌, true, ◌&&◌, List, [], ◌∷◌, reverse, refl, sym, ap, subst, ◌∙◌, inl, inr, filter, is_none, nat_lt}
use Rattle.std.proofs.lemmas.Bool.{cases_Bool, and_from, and_parts, not-true}
use Rattle.std.proofs.lemmas.List.Elements.{All-nil, All-cons}
use Rattle.blot_types.specs.declared.{command.Command.Command, command.Entry.Entry, TheConstants.EVENTS_MAX, link.Link.Link}
use Rattle.blot_types.specs.declared.command.Command.TheVariants.{Trade, Correct, Bust, AllocNew, AllocReplace, AllocCancel, Withdraw}
use Rattle.blot_types.specs.declared.link.Role.TheVariants.{Corrects, Busts}
use Rattle.blot_types.specs.Legal.{is_above_entries, rises_in, legal_in, is_book}
use Rattle.blot_types.specs.Survivors.{links_in}
use Rattle.blot_types.proofs.EntryLemmas.{chained-links}
use Rattle.blot_types.proofs.StayLemmas.{all-stays, filter-reverse}
use Rattle.blot_withdraw.proofs.ChainStayLemmas.{refers-stays}
use Rattle.blot_withdraw.proofs.RuleLemmas.{KeyStays, NeedsNone, answers, accepted-spared}
use Rattle.blot_withdraw.proofs.SpareLemmas.{Spares, spares-newest}
use Rattle.blot_withdraw.proofs.Split.{Split}

-- an entry that stays needs nothing that goes
needs-none :
    (split : Split) (number : ℕ) (command : Command) (earlier : List Entry) → Spares split (record { number = number; command = command } ∷ earlier)
    → split.stays (record { number = number; command = command }) ≡ true → NeedsNone split command
needs-none split number (Trade trade) earlier spares stays = record { chains = All-nil (KeyStays split); allocation = λ reference is. cc }
needs-none split number (Correct correct) earlier spares stays =
    let entry : Entry = record { number = number; command = Correct correct } in
    let link : Link = record { number = number; key = correct.key; role = Corrects correct.reference } in
    let kept = sym (split.linked entry link refl) ∙ stays in
    record {
      chains = All-cons (KeyStays split) correct.reference [] (refers-stays split link (links_in earlier) (chained-links (entry ∷ earlier) spares.legal) spares.knows kept) (All-nil (KeyStays split));
      allocation = λ reference is. cc;
    }
needs-none split number (Bust bust) earlier spares stays =
    let entry : Entry = record { number = number; command = Bust bust } in
    let link : Link = record { number = number; key = bust.key; role = Busts bust.reference } in
    let kept = sym (split.linked entry link refl) ∙ stays in
    record {
      chains = All-cons (KeyStays split) bust.reference [] (refers-stays split link (links_in earlier) (chained-links (entry ∷ earlier) spares.legal) spares.knows kept) (All-nil (KeyStays split));
      allocation = λ reference is. cc;
    }
needs-none split number (AllocNew new) earlier spares stays =
    let newest = spares-newest split (record { number = number; command = AllocNew new }) earlier spares in
    record { chains = newest.own.lists stays; allocation = λ reference is. cc }
needs-none split number (AllocReplace replace) earlier spares stays =
    let entry : Entry = record { number = number; command = AllocReplace replace } in
    let newest = spares-newest split entry earlier spares in
    record {
      chains = newest.own.lists stays;
      allocation = λ reference is. sym (newest.own.refers replace.key reference refl is) ∙ not-true _ (sym (split.allocated entry replace.key refl) ∙ stays);
    }
needs-none split number (AllocCancel cancel) earlier spares stays =
    let entry : Entry = record { number = number; command = AllocCancel cancel } in
    let newest = spares-newest split entry earlier spares in
    record {
      chains = All-nil (KeyStays split);
      allocation = λ reference is. sym (newest.own.refers cancel.key reference refl is) ∙ not-true _ (sym (split.allocated entry cancel.key refl) ∙ stays);
    }
needs-none split number (Withdraw withdrawn) earlier spares stays = record { chains = All-nil (KeyStays split); allocation = λ reference is. cc }

pub legal-spared : (split : Split) (entries : List Entry) → Spares split entries → legal_in (filter split.stays entries) ≡ true
legal-spared split [] spares = refl
legal-spared split (entry ∷ earlier) spares =
    let new = spares-newest split entry earlier spares in
    let rest = legal-spared split earlier new.before in
    elim (cases_Bool (split.stays entry)) [
      | inl stays ↦
          let needs = needs-none split entry.number entry.command earlier spares stays in
          let accepted = accepted-spared split earlier (filter split.stays earlier) entry.command (answers split earlier new.before) needs new.accepted in
          rw stays (and_from _ _ (ap is_none accepted) rest)
      | inr goes ↦ rw goes rest
    ]

rises-spared : (split : Split) (entries : List Entry) → rises_in entries ≡ true → rises_in (filter split.stays entries) ≡ true
rises-spared split [] rise = refl
rises-spared split (entry ∷ earlier) rise =
    let parts : (is_above_entries entry.number earlier ≡ true) × (rises_in earlier ≡ true) = and_parts _ _ rise in
    let rest = rises-spared split earlier parts.1 in
    elim (cases_Bool (split.stays entry)) [
      | inl stays ↦ rw stays (and_from _ _ (all-stays (λ e. nat_lt e.number entry.number) split.stays earlier parts.0) rest)
      | inr goes ↦ rw goes rest
    ]

-- a book without what nobody needs is a book
pub book-spared : (split : Split) (list : List Entry) → Spares split (reverse list) → is_book list ≡ true → is_book (filter split.stays list) ≡ true
book-spared split list spares book =
    let parts : ((rises_in (reverse list) && is_above_entries (EVENTS_MAX + 1) (reverse list)) ≡ true) × (legal_in (reverse list) ≡ true) = and_parts _ _ book in
    let numbered : (rises_in (reverse list) ≡ true) × (is_above_entries (EVENTS_MAX + 1) (reverse list) ≡ true) = and_parts _ _ parts.0 in
    subst (λ entries. ((rises_in entries && is_above_entries (EVENTS_MAX + 1) entries) && legal_in entries) ≡ true) (filter-reverse split.stays list)
    (and_from _ _
    (and_from _ _ (rises-spared split (reverse list) numbered.0) (all-stays (λ e. nat_lt e.number (EVENTS_MAX + 1)) split.stays (reverse list) numbered.1))
    (legal-spared split (reverse list) spares))
