use Rattle.std.proofs.Common.{ap, ◌∙◌, sym, subst, IfSome, option_and_then}
use Rattle.blot_types.specs.StandingVersion.{standing, chain_by}
use Rattle.blot_types.specs.Survivors.{link_of, links_of}
use Rattle.blot_command.specs.Book.{Shown}
use Rattle.blot_command.specs.Shown.{Shows, with_put, IsKept}
use Rattle.blot_command.specs.Withdrawing.{CanReturn}
use Rattle.blot_command.proofs.LiftLemmas.{returns}
use Rattle.blot_command.proofs.tables.Tables.un_lift.Goals as goal

pub take-requires : goal.take-requires
take-requires c =
    let entry = c.args.entry in
    let can = subst (CanReturn entry) (sym c.self.view_is) c.requires in
    let chain_is = c.chain_of-chain.ensures ∙ (λ k. chain_by (links_of (c.live.ensures k).list) ((c.link.ensures ∙ ap link_of c.as_entry.ensures) k)) in
    let does =
    returns c.self.inside.accounts c.un_lift.new.self entry c.chain_of-chain.result c.stood-gone.result c.stood-come.result c.self.inside.orders can c.un_lift.ensures.returned chain_is
    (c.stood-gone.ensures ∙ ap (λ (shown : Shown). option_and_then (standing shown.list) c.chain_of-chain.result) c.live-2.ensures)
    (c.stood-come.ensures ∙ ap (λ (shown : Shown). option_and_then (standing shown.list) c.chain_of-chain.result) c.live-3.ensures) c.self.invariant in
    does.taken

pub un_take-requires : goal.un_take-requires
un_take-requires c =
    let entry = c.args.entry in
    let can = subst (CanReturn entry) (sym c.self.view_is) c.requires in
    let chain_is = c.chain_of-chain.ensures ∙ (λ k. chain_by (links_of (c.live.ensures k).list) ((c.link.ensures ∙ ap link_of c.as_entry.ensures) k)) in
    let does =
    returns c.self.inside.accounts c.un_lift.new.self entry c.chain_of-chain.result c.stood-gone.result c.stood-come.result c.self.inside.orders can c.un_lift.ensures.returned chain_is
    (c.stood-gone.ensures ∙ ap (λ (shown : Shown). option_and_then (standing shown.list) c.chain_of-chain.result) c.live-2.ensures)
    (c.stood-come.ensures ∙ ap (λ (shown : Shown). option_and_then (standing shown.list) c.chain_of-chain.result) c.live-3.ensures) c.self.invariant in
    subst (λ fills. IfSome c.stood-come.result (λ version. IsKept version fills)) (sym c.take.ensures) does.un_taken

pub invariant_of-self : goal.invariant_of-self
invariant_of-self c =
    let entry = c.args.entry in
    let can = subst (CanReturn entry) (sym c.self.view_is) c.requires in
    let chain_is = c.chain_of-chain.ensures ∙ (λ k. chain_by (links_of (c.live.ensures k).list) ((c.link.ensures ∙ ap link_of c.as_entry.ensures) k)) in
    let does =
    returns c.self.inside.accounts c.un_lift.new.self entry c.chain_of-chain.result c.stood-gone.result c.stood-come.result c.self.inside.orders can c.un_lift.ensures.returned chain_is
    (c.stood-gone.ensures ∙ ap (λ (shown : Shown). option_and_then (standing shown.list) c.chain_of-chain.result) c.live-2.ensures)
    (c.stood-come.ensures ∙ ap (λ (shown : Shown). option_and_then (standing shown.list) c.chain_of-chain.result) c.live-3.ensures) c.self.invariant in
    subst (Shows c.un_lift.new.self) (sym (c.un_take.ensures ∙ ap (with_put c.stood-come.result) c.take.ensures)) does.shows
