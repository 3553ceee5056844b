use Rattle.std.proofs.Common.{None, Some, sym, ap, ◌∙◌, option_map}
use Rattle.blot_types.specs.Instructions.{first_instruction, names_any}
use Rattle.blot_alloc.proofs.NeedLemmas.{ended_roots-by, ended_roots-none, none-asked}
use Rattle.blot_alloc.proofs.allocs.Allocs.first_after_end.Goals as goal

pub returns-in_err-reference : goal.returns-in_err-reference
returns-in_err-reference c =
    let list = c.args.self.now.list in
    let none = ended_roots-none list c.args.role.now (sym c.in_err-reference.was ∙ c.reference.ensures) in
    c.from_residual.ensures ∙ sym (ap (λ roots. first_instruction (names_any roots) c.args.number list) none ∙ none-asked c.args.number list)

pub returns-in_err-roots : goal.returns-in_err-roots
returns-in_err-roots c =
    let list = c.args.self.now.list in
    let none =
    ended_roots-by list c.args.role.now c.in_ok-reference.reference None (sym c.in_ok-reference.was ∙ c.reference.ensures)
    (ap (option_map (λ roots. roots.now)) (sym c.in_err-roots.was) ∙ c.roots_of.ensures) in
    c.from_residual-in_err-roots.ensures ∙ sym (ap (λ roots. first_instruction (names_any roots) c.args.number list) none ∙ none-asked c.args.number list)

pub returns : goal.returns
returns c =
    let list = c.args.self.now.list in
    let named =
    ended_roots-by list c.args.role.now c.in_ok-reference.reference (Some c.in_ok-roots.roots.now) (sym c.in_ok-reference.was ∙ c.reference.ensures)
    (ap (option_map (λ roots. roots.now)) (sym c.in_ok-roots.was) ∙ c.roots_of.ensures) in
    c.first_naming_any.ensures ∙ sym (ap (λ roots. first_instruction (names_any roots) c.args.number list) named)
