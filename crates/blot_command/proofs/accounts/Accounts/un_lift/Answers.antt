use Rattle.std.proofs.Common.{ap, ◌∙◌, sym, subst, option_map}
use Rattle.blot_types.specs.Position.{part_of}
use Rattle.blot_types.specs.Refusals.{alloc_reference}
use Rattle.blot_types.specs.StandingVersion.{chain_by}
use Rattle.blot_types.specs.Survivors.{link_of, links_of}
use Rattle.blot_command.specs.Booking.{rebooked, released, allocated}
use Rattle.blot_command.specs.Withdrawing.{CanReturn}
use Rattle.blot_command.proofs.AccountLemmas.{move-second, move-third, move-shows}
use Rattle.blot_command.proofs.EntryMoveLemmas.{own_key}
use Rattle.blot_command.proofs.LiftMoveLemmas.{ReadsChain, return-leads}
use Rattle.blot_command.proofs.accounts.Accounts.un_lift.Goals as goal

pub rebook-requires : goal.rebook-requires
rebook-requires c =
    let old = c.self.inside.live in
    let new = c.un_lift.new.self in
    let entry = c.args.entry in
    let can = subst (CanReturn entry) (sym c.self.view_is) c.requires in
    let chain = c.chain_of-chain.result in
    let gone = c.part_of-gone.result in
    let come = c.part_of-come.result in
    let ended = c.alloc_reference-ended.result in
    let brought = c.brought_key-brought.result in
    let read : ReadsChain old.list new.list entry chain gone come ended brought = record {
      chain_is = c.chain_of-chain.ensures ∙ ap (chain_by (links_of old.list)) (c.link.ensures ∙ ap link_of c.as_entry-3.ensures);
      gone_is = c.part_of-gone.ensures ∙ ap (option_map (part_of old.list)) c.stood.ensures;
      come_is = c.part_of-come.ensures ∙ ap (option_map (part_of new.list)) c.stood-2.ensures;
      ended_is = c.alloc_reference-ended.ensures ∙ ap (λ e. alloc_reference e.command) c.as_entry.ensures;
      brought_is = c.brought_key-brought.ensures ∙ ap own_key c.as_entry-2.ensures;
    } in
    let leads = return-leads old new entry chain gone come ended brought c.self.inside.positions c.un_lift.ensures.book can c.un_lift.ensures.returned read c.self.invariant in
    leads.moves.first

pub release-requires : goal.release-requires
release-requires c =
    let old = c.self.inside.live in
    let new = c.un_lift.new.self in
    let entry = c.args.entry in
    let can = subst (CanReturn entry) (sym c.self.view_is) c.requires in
    let chain = c.chain_of-chain.result in
    let gone = c.part_of-gone.result in
    let come = c.part_of-come.result in
    let ended = c.alloc_reference-ended.result in
    let brought = c.brought_key-brought.result in
    let read : ReadsChain old.list new.list entry chain gone come ended brought = record {
      chain_is = c.chain_of-chain.ensures ∙ ap (chain_by (links_of old.list)) (c.link.ensures ∙ ap link_of c.as_entry-3.ensures);
      gone_is = c.part_of-gone.ensures ∙ ap (option_map (part_of old.list)) c.stood.ensures;
      come_is = c.part_of-come.ensures ∙ ap (option_map (part_of new.list)) c.stood-2.ensures;
      ended_is = c.alloc_reference-ended.ensures ∙ ap (λ e. alloc_reference e.command) c.as_entry.ensures;
      brought_is = c.brought_key-brought.ensures ∙ ap own_key c.as_entry-2.ensures;
    } in
    let leads = return-leads old new entry chain gone come ended brought c.self.inside.positions c.un_lift.ensures.book can c.un_lift.ensures.returned read c.self.invariant in
    move-second (rebooked gone come) (released new.list ended) (allocated new.list brought) c.self.inside.positions c.rebook.new.positions new.list leads.moves c.rebook.ensures

pub allocate-requires : goal.allocate-requires
allocate-requires c =
    let old = c.self.inside.live in
    let new = c.un_lift.new.self in
    let entry = c.args.entry in
    let can = subst (CanReturn entry) (sym c.self.view_is) c.requires in
    let chain = c.chain_of-chain.result in
    let gone = c.part_of-gone.result in
    let come = c.part_of-come.result in
    let ended = c.alloc_reference-ended.result in
    let brought = c.brought_key-brought.result in
    let read : ReadsChain old.list new.list entry chain gone come ended brought = record {
      chain_is = c.chain_of-chain.ensures ∙ ap (chain_by (links_of old.list)) (c.link.ensures ∙ ap link_of c.as_entry-3.ensures);
      gone_is = c.part_of-gone.ensures ∙ ap (option_map (part_of old.list)) c.stood.ensures;
      come_is = c.part_of-come.ensures ∙ ap (option_map (part_of new.list)) c.stood-2.ensures;
      ended_is = c.alloc_reference-ended.ensures ∙ ap (λ e. alloc_reference e.command) c.as_entry.ensures;
      brought_is = c.brought_key-brought.ensures ∙ ap own_key c.as_entry-2.ensures;
    } in
    let leads = return-leads old new entry chain gone come ended brought c.self.inside.positions c.un_lift.ensures.book can c.un_lift.ensures.returned read c.self.invariant in
    move-third (rebooked gone come) (released new.list ended) (allocated new.list brought) c.self.inside.positions c.rebook.new.positions c.release.new.positions new.list leads.moves c.rebook.ensures c.release.ensures

pub invariant_of-self : goal.invariant_of-self
invariant_of-self c =
    let old = c.self.inside.live in
    let new = c.un_lift.new.self in
    let entry = c.args.entry in
    let can = subst (CanReturn entry) (sym c.self.view_is) c.requires in
    let chain = c.chain_of-chain.result in
    let gone = c.part_of-gone.result in
    let come = c.part_of-come.result in
    let ended = c.alloc_reference-ended.result in
    let brought = c.brought_key-brought.result in
    let read : ReadsChain old.list new.list entry chain gone come ended brought = record {
      chain_is = c.chain_of-chain.ensures ∙ ap (chain_by (links_of old.list)) (c.link.ensures ∙ ap link_of c.as_entry-3.ensures);
      gone_is = c.part_of-gone.ensures ∙ ap (option_map (part_of old.list)) c.stood.ensures;
      come_is = c.part_of-come.ensures ∙ ap (option_map (part_of new.list)) c.stood-2.ensures;
      ended_is = c.alloc_reference-ended.ensures ∙ ap (λ e. alloc_reference e.command) c.as_entry.ensures;
      brought_is = c.brought_key-brought.ensures ∙ ap own_key c.as_entry-2.ensures;
    } in
    let leads = return-leads old new entry chain gone come ended brought c.self.inside.positions c.un_lift.ensures.book can c.un_lift.ensures.returned read c.self.invariant in
    move-shows (rebooked gone come) (released new.list ended) (allocated new.list brought) c.self.inside.positions c.rebook.new.positions c.release.new.positions c.allocate.new.positions new leads c.rebook.ensures c.release.ensures c.allocate.ensures
