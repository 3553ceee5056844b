use Rattle.std.proofs.Common.{◌≡◌, Err, [], ◌∷◌, length, sym, ap, ◌∙◌, rules, option_map}
use Rattle.std.proofs.lemmas.List.{nil_from_length}
use Rattle.blot_tag.specs.Views.{tag_value}
use Rattle.blot_tag.proofs.FieldLemmas.{items_behind-nil, items_behind-of}
use Rattle.blot_tag.proofs.FieldTextLemmas.{first_field-first}
use Rattle.blot_tag.proofs.fields.FieldsIterator.next.Goals as goal

pub invariant_of-self : goal.invariant_of-self
invariant_of-self c = (first_field-first _ _ _ c.self.invariant (sym c.in-Ok.ensures)).later

pub returns-then-is_empty-clause-steps : goal.returns-then-is_empty-clause-steps
returns-then-is_empty-clause-steps c =
    let empty : c.self.inside.rest.now ≡ [] = nil_from_length _ (search rules) in
    let none = sym c.self.view_is ∙ rw empty (items_behind-nil _) in
    (none, none)

pub returns-in-Ok-clause-steps : goal.returns-in-Ok-clause-steps
returns-in-Ok-clause-steps c = sym c.self.view_is ∙ items_behind-of _ _ _ (search rules) c.in-Ok.ensures

pub returns-in-Ok-clause-goes : goal.returns-in-Ok-clause-goes
returns-in-Ok-clause-goes c =
    let shorter = ap length (sym c.self.view_is ∙ items_behind-of _ _ _ (search rules) c.in-Ok.ensures) in
    search rules

pub returns-in-Err-clause-steps : goal.returns-in-Err-clause-steps
returns-in-Err-clause-steps c =
    sym c.self.view_is ∙ items_behind-of _ _ _ (search rules) c.in-Err.ensures
    ∙ sym (ap (λ items. Err c.in-Err.fault ∷ items) (items_behind-nil _))

pub returns-in-Err-clause-goes : goal.returns-in-Err-clause-goes
returns-in-Err-clause-goes c =
    let one = ap length (sym c.self.view_is ∙ items_behind-of _ _ _ (search rules) c.in-Err.ensures) in
    let none = ap length (items_behind-nil (option_map tag_value c.self.inside.before)) in
    search rules
