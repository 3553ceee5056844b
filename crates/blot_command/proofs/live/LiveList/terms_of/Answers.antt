use Rattle.std.proofs.Common.{sym, ap, ◌∙◌, find, option_and_then, option_copied}
use Rattle.blot_command.specs.Book.{Shown, has_number}
use Rattle.blot_command.specs.Shown.{terms_of_key, terms_keyed}
use Rattle.blot_command.specs.Slots.{entries_in}
use Rattle.blot_command.proofs.TermsLemmas.{terms_at, terms-found}
use Rattle.blot_command.proofs.live.LiveList.terms_of.Goals as goal

pub returns-in-None : goal.returns-in-None
returns-in-None c =
    let key = c.args.key.now in
    ap (option_and_then (terms_at (entries_in c.self.inside.slots.items) key)) (sym c.in-None.is ∙ c.number_of.ensures)
    ∙ terms-found (entries_in c.self.inside.slots.items) c.self.inside.chains.list c.self.inside.allocs.list key c.self.invariant.holds
    ∙ ap (λ (shown : Shown). terms_keyed shown.list key) c.self.view_is

pub returns-in-None-entry : goal.returns-in-None-entry
returns-in-None-entry c =
    let key = c.args.key.now in
    let list = (entries_in c.self.inside.slots.items) in
    ap (option_and_then (λ entry. terms_of_key key entry.command)) (sym (ap option_copied c.in-None-entry.is) ∙ c.entry.ensures ∙ ap (λ (shown : Shown). find (has_number c.in-Some.number) shown.list) (sym c.self.view_is))
    ∙ ap (option_and_then (terms_at list key)) (sym c.in-Some.is ∙ c.number_of.ensures)
    ∙ terms-found list c.self.inside.chains.list c.self.inside.allocs.list key c.self.invariant.holds
    ∙ ap (λ (shown : Shown). terms_keyed shown.list key) c.self.view_is

pub returns-in-Some-entry : goal.returns-in-Some-entry
returns-in-Some-entry c =
    let key = c.args.key.now in
    let list = (entries_in c.self.inside.slots.items) in
    c.terms_under.ensures
    ∙ ap (option_and_then (λ entry. terms_of_key key entry.command)) (sym (ap option_copied c.in-Some-entry.is) ∙ c.entry.ensures ∙ ap (λ (shown : Shown). find (has_number c.in-Some.number) shown.list) (sym c.self.view_is))
    ∙ ap (option_and_then (terms_at list key)) (sym c.in-Some.is ∙ c.number_of.ensures)
    ∙ terms-found list c.self.inside.chains.list c.self.inside.allocs.list key c.self.invariant.holds
    ∙ ap (λ (shown : Shown). terms_keyed shown.list key) c.self.view_is
