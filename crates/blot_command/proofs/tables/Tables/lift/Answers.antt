use Rattle.std.proofs.Common.{ap, ◌∙◌, sym, subst, find, IfSome, option_and_then}
use Rattle.blot_types.specs.Legal.{is_book, without}
use Rattle.blot_types.specs.StandingVersion.{standing, chain_of}
use Rattle.blot_command.specs.Book.{Shown, has_number}
use Rattle.blot_command.specs.Shown.{Shows, with_put, IsKept}
use Rattle.blot_command.proofs.LiftLemmas.{lifts}
use Rattle.blot_command.proofs.tables.Tables.lift.Goals as goal

pub take-requires : goal.take-requires
take-requires c =
    let entry = c.lift-entry.result in
    let chain_is =
    c.chain_of-chain.ensures ∙ ap (λ (shown : Shown). option_and_then (chain_of shown.list) (find (has_number c.args.number) shown.list)) (sym c.self.view_is)
    ∙ ap (option_and_then (chain_of c.self.inside.accounts.list)) c.lift-entry.ensures.entry in
    let does =
    lifts c.self.inside.accounts c.lift-entry.new.self c.args.number entry c.chain_of-chain.result c.stood-gone.result c.stood-come.result c.self.inside.orders c.lift-entry.ensures.entry
    (ap (λ (shown : Shown). is_book (without c.args.number shown.list)) c.self.view_is ∙ c.requires.rest) c.lift-entry.ensures.lifted chain_is
    (c.stood-gone.ensures ∙ ap (λ (shown : Shown). option_and_then (standing shown.list) c.chain_of-chain.result) c.live.ensures)
    (c.stood-come.ensures ∙ ap (λ (shown : Shown). option_and_then (standing shown.list) c.chain_of-chain.result) c.live-2.ensures) c.self.invariant in
    does.taken

pub un_take-requires : goal.un_take-requires
un_take-requires c =
    let entry = c.lift-entry.result in
    let chain_is =
    c.chain_of-chain.ensures ∙ ap (λ (shown : Shown). option_and_then (chain_of shown.list) (find (has_number c.args.number) shown.list)) (sym c.self.view_is)
    ∙ ap (option_and_then (chain_of c.self.inside.accounts.list)) c.lift-entry.ensures.entry in
    let does =
    lifts c.self.inside.accounts c.lift-entry.new.self c.args.number entry c.chain_of-chain.result c.stood-gone.result c.stood-come.result c.self.inside.orders c.lift-entry.ensures.entry
    (ap (λ (shown : Shown). is_book (without c.args.number shown.list)) c.self.view_is ∙ c.requires.rest) c.lift-entry.ensures.lifted chain_is
    (c.stood-gone.ensures ∙ ap (λ (shown : Shown). option_and_then (standing shown.list) c.chain_of-chain.result) c.live.ensures)
    (c.stood-come.ensures ∙ ap (λ (shown : Shown). option_and_then (standing shown.list) c.chain_of-chain.result) c.live-2.ensures) c.self.invariant in
    subst (λ fills. IfSome c.stood-come.result (λ version. IsKept version fills)) (sym c.take.ensures) does.un_taken

pub invariant_of-self : goal.invariant_of-self
invariant_of-self c =
    let entry = c.lift-entry.result in
    let chain_is =
    c.chain_of-chain.ensures ∙ ap (λ (shown : Shown). option_and_then (chain_of shown.list) (find (has_number c.args.number) shown.list)) (sym c.self.view_is)
    ∙ ap (option_and_then (chain_of c.self.inside.accounts.list)) c.lift-entry.ensures.entry in
    let does =
    lifts c.self.inside.accounts c.lift-entry.new.self c.args.number entry c.chain_of-chain.result c.stood-gone.result c.stood-come.result c.self.inside.orders c.lift-entry.ensures.entry
    (ap (λ (shown : Shown). is_book (without c.args.number shown.list)) c.self.view_is ∙ c.requires.rest) c.lift-entry.ensures.lifted chain_is
    (c.stood-gone.ensures ∙ ap (λ (shown : Shown). option_and_then (standing shown.list) c.chain_of-chain.result) c.live.ensures)
    (c.stood-come.ensures ∙ ap (λ (shown : Shown). option_and_then (standing shown.list) c.chain_of-chain.result) c.live-2.ensures) c.self.invariant in
    subst (Shows c.lift-entry.new.self) (sym (c.un_take.ensures ∙ ap (with_put c.stood-come.result) c.take.ensures)) does.shows
