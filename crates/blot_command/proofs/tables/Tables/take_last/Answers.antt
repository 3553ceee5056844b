use Rattle.std.proofs.Common.{ap, ◌∙◌, sym, subst, IfSome}
use Rattle.blot_types.specs.Survivors.{version_of}
use Rattle.blot_command.specs.Book.{Shown}
use Rattle.blot_command.specs.Shown.{version_replaced, Shows, with_put, IsKept}
use Rattle.blot_command.proofs.RecordLemmas.{brings, takes_last}
use Rattle.blot_command.proofs.tables.Tables.take_last.Goals as goal

pub take-requires : goal.take-requires
take-requires c =
    let entry = c.pop-entry.result in
    let brought = brings entry c.version-version.result (c.version-version.ensures ∙ ap version_of c.as_entry-inner.ensures) in
    let read = c.replaced-restored.ensures ∙ ap (λ (shown : Shown). version_replaced shown.list c.as_entry-inner.result.now) c.live.ensures ∙ ap (version_replaced c.pop-entry.new.self.list) c.as_entry-inner.ensures in
    let does =
    takes_last c.self.inside.accounts c.pop-entry.new.self entry c.self.inside.orders c.version-version.result c.replaced-restored.result c.pop-entry.ensures.rest c.pop-entry.ensures.book c.self.invariant brought
    read in
    does.taken

pub un_take-requires : goal.un_take-requires
un_take-requires c =
    let entry = c.pop-entry.result in
    let brought = brings entry c.version-version.result (c.version-version.ensures ∙ ap version_of c.as_entry-inner.ensures) in
    let read = c.replaced-restored.ensures ∙ ap (λ (shown : Shown). version_replaced shown.list c.as_entry-inner.result.now) c.live.ensures ∙ ap (version_replaced c.pop-entry.new.self.list) c.as_entry-inner.ensures in
    let does =
    takes_last c.self.inside.accounts c.pop-entry.new.self entry c.self.inside.orders c.version-version.result c.replaced-restored.result c.pop-entry.ensures.rest c.pop-entry.ensures.book c.self.invariant brought
    read in
    subst (λ fills. IfSome c.replaced-restored.result (λ version. IsKept version fills)) (sym c.take.ensures) does.un_taken

pub invariant_of-self : goal.invariant_of-self
invariant_of-self c =
    let entry = c.pop-entry.result in
    let brought = brings entry c.version-version.result (c.version-version.ensures ∙ ap version_of c.as_entry-inner.ensures) in
    let read = c.replaced-restored.ensures ∙ ap (λ (shown : Shown). version_replaced shown.list c.as_entry-inner.result.now) c.live.ensures ∙ ap (version_replaced c.pop-entry.new.self.list) c.as_entry-inner.ensures in
    let does =
    takes_last c.self.inside.accounts c.pop-entry.new.self entry c.self.inside.orders c.version-version.result c.replaced-restored.result c.pop-entry.ensures.rest c.pop-entry.ensures.book c.self.invariant brought
    read in
    subst (Shows c.pop-entry.new.self) (sym (c.un_take.ensures ∙ ap (with_put c.replaced-restored.result) c.take.ensures)) does.shows
