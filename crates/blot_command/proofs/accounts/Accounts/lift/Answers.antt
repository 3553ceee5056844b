use Rattle.std.proofs.Common.{◌≡◌, Some, refl, ap, ◌∙◌, sym, find, option_map, option_and_then, option_copied}
use Rattle.blot_types.specs.Legal.{is_book, without}
use Rattle.blot_types.specs.Position.{part_of}
use Rattle.blot_types.specs.Refusals.{alloc_reference}
use Rattle.blot_types.specs.StandingVersion.{standing, chain_by, chain_of}
use Rattle.blot_types.specs.Survivors.{link_of, links_of}
use Rattle.blot_command.specs.Book.{Shown, has_number}
use Rattle.blot_command.specs.Booking.{rebooked, released, allocated}
use Rattle.blot_command.specs.Withdrawing.{lifted}
use Rattle.blot_command.proofs.AccountLemmas.{move-second, move-third, move-shows}
use Rattle.blot_command.proofs.EntryMoveLemmas.{own_key}
use Rattle.blot_command.proofs.LiftMoveLemmas.{ReadsChain, lift-leads}
use Rattle.blot_command.proofs.accounts.Accounts.lift.Goals as goal

pub release-requires : goal.release-requires
release-requires c =
    let old = c.self.inside.live in
    let number = c.args.number in
    let book = ap (λ (shown : Shown). is_book shown.list) c.self.view_is ∙ c.requires.book in
    let rest_book = ap (λ (shown : Shown). is_book (without number shown.list)) c.self.view_is ∙ c.requires.rest in
    let seen = c.in-Some.entry.now in
    let found : find (has_number number) old.list ≡ Some seen = sym c.entry.ensures ∙ ap option_copied c.in-Some.is in
    let ended = c.alloc_reference-ended.result in
    let brought = c.brought_key-brought.result in
    let new = lifted seen old in
    let chain = chain_of old.list seen in
    let gone = option_map (part_of old.list) (option_and_then (standing old.list) chain) in
    let come = option_map (part_of new.list) (option_and_then (standing new.list) chain) in
    let read : ReadsChain old.list new.list seen chain gone come ended brought =
    record { chain_is = refl; gone_is = refl; come_is = refl; ended_is = c.alloc_reference-ended.ensures; brought_is = c.brought_key-brought.ensures } in
    let leads = lift-leads old new number seen chain gone come ended brought c.self.inside.positions book found rest_book refl read c.self.invariant in
    leads.moves.first

pub allocate-requires : goal.allocate-requires
allocate-requires c =
    let old = c.self.inside.live in
    let number = c.args.number in
    let book = ap (λ (shown : Shown). is_book shown.list) c.self.view_is ∙ c.requires.book in
    let rest_book = ap (λ (shown : Shown). is_book (without number shown.list)) c.self.view_is ∙ c.requires.rest in
    let seen = c.in-Some.entry.now in
    let found : find (has_number number) old.list ≡ Some seen = sym c.entry.ensures ∙ ap option_copied c.in-Some.is in
    let ended = c.alloc_reference-ended.result in
    let brought = c.brought_key-brought.result in
    let new = lifted seen old in
    let chain = chain_of old.list seen in
    let gone = option_map (part_of old.list) (option_and_then (standing old.list) chain) in
    let come = option_map (part_of new.list) (option_and_then (standing new.list) chain) in
    let read : ReadsChain old.list new.list seen chain gone come ended brought =
    record { chain_is = refl; gone_is = refl; come_is = refl; ended_is = c.alloc_reference-ended.ensures; brought_is = c.brought_key-brought.ensures } in
    let leads = lift-leads old new number seen chain gone come ended brought c.self.inside.positions book found rest_book refl read c.self.invariant in
    move-second (released old.list brought) (allocated old.list ended) (rebooked gone come) c.self.inside.positions c.release.new.positions new.list leads.moves c.release.ensures

pub rebook-requires : goal.rebook-requires
rebook-requires c =
    let old = c.self.inside.live in
    let number = c.args.number in
    let book = ap (λ (shown : Shown). is_book shown.list) c.self.view_is ∙ c.requires.book in
    let rest_book = ap (λ (shown : Shown). is_book (without number shown.list)) c.self.view_is ∙ c.requires.rest in
    let seen = c.in-Some.entry.now in
    let found : find (has_number number) old.list ≡ Some seen = sym c.entry.ensures ∙ ap option_copied c.in-Some.is in
    let ended = c.alloc_reference-ended.result in
    let brought = c.brought_key-brought.result in
    let new = c.lift-entry.new.self in
    let entry = c.lift-entry.result in
    let some : Some seen ≡ Some entry = sym found ∙ c.lift-entry.ensures.entry in
    let same : seen ≡ entry = cc in
    let chain = c.chain_of-chain.result in
    let gone = c.part_of-gone.result in
    let come = c.part_of-come.result in
    let read : ReadsChain old.list new.list entry chain gone come ended brought = record {
      chain_is = c.chain_of-chain.ensures ∙ ap (chain_by (links_of old.list)) (c.link.ensures ∙ ap link_of same);
      gone_is = c.part_of-gone.ensures ∙ ap (option_map (part_of old.list)) c.stood.ensures;
      come_is = c.part_of-come.ensures ∙ ap (option_map (part_of new.list)) c.stood-2.ensures;
      ended_is = c.alloc_reference-ended.ensures ∙ ap (λ e. alloc_reference e.command) same;
      brought_is = c.brought_key-brought.ensures ∙ ap own_key same;
    } in
    let leads =
    lift-leads old new number entry chain gone come ended brought c.self.inside.positions book c.lift-entry.ensures.entry rest_book c.lift-entry.ensures.lifted read c.self.invariant in
    move-third (released old.list brought) (allocated old.list ended) (rebooked gone come) c.self.inside.positions c.release.new.positions c.allocate.new.positions new.list leads.moves c.release.ensures c.allocate.ensures

pub invariant_of-self : goal.invariant_of-self
invariant_of-self c =
    let old = c.self.inside.live in
    let number = c.args.number in
    let book = ap (λ (shown : Shown). is_book shown.list) c.self.view_is ∙ c.requires.book in
    let rest_book = ap (λ (shown : Shown). is_book (without number shown.list)) c.self.view_is ∙ c.requires.rest in
    let seen = c.in-Some.entry.now in
    let found : find (has_number number) old.list ≡ Some seen = sym c.entry.ensures ∙ ap option_copied c.in-Some.is in
    let ended = c.alloc_reference-ended.result in
    let brought = c.brought_key-brought.result in
    let new = c.lift-entry.new.self in
    let entry = c.lift-entry.result in
    let some : Some seen ≡ Some entry = sym found ∙ c.lift-entry.ensures.entry in
    let same : seen ≡ entry = cc in
    let chain = c.chain_of-chain.result in
    let gone = c.part_of-gone.result in
    let come = c.part_of-come.result in
    let read : ReadsChain old.list new.list entry chain gone come ended brought = record {
      chain_is = c.chain_of-chain.ensures ∙ ap (chain_by (links_of old.list)) (c.link.ensures ∙ ap link_of same);
      gone_is = c.part_of-gone.ensures ∙ ap (option_map (part_of old.list)) c.stood.ensures;
      come_is = c.part_of-come.ensures ∙ ap (option_map (part_of new.list)) c.stood-2.ensures;
      ended_is = c.alloc_reference-ended.ensures ∙ ap (λ e. alloc_reference e.command) same;
      brought_is = c.brought_key-brought.ensures ∙ ap own_key same;
    } in
    let leads =
    lift-leads old new number entry chain gone come ended brought c.self.inside.positions book c.lift-entry.ensures.entry rest_book c.lift-entry.ensures.lifted read c.self.invariant in
    move-shows (released old.list brought) (allocated old.list ended) (rebooked gone come) c.self.inside.positions c.release.new.positions c.allocate.new.positions c.rebook.new.positions new leads c.release.ensures c.allocate.ensures c.rebook.ensures
