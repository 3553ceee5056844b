use Rattle.std.proofs.Common.{◌≡◌, Some, IfSome, ap, rules, subst, sym, ◌∙◌}
use Rattle.std.specs.Map.{lookup, set_value}
use Rattle.blot_types.specs.Keys.{same_text}
use Rattle.blot_terminals.specs.Staff.{Leaves}
use Rattle.blot_terminals.proofs.StaffLemmas.{left-there, own-changed, own-found}
use Rattle.blot_terminals.proofs.operators.take_known.Goals as goal

pub returns-in-Some-clause-of_name : goal.returns-in-Some-clause-of_name
returns-in-Some-clause-of_name g c =
    subst (λ seat. IfSome seat (λ seat. seat.name ≡ c.args.name.now)) (sym c.take.ensures.value)
    (own-found c.args.named.now.entries c.args.name.now c.in-Some.seat.now c.requires.own (search rules))

pub returns-in-Some-clause-own : goal.returns-in-Some-clause-own
returns-in-Some-clause-own g c =
    own-changed c.args.named.now.entries (c.get_mut.follows.lender c.take.new.self).entries c.args.name.now c.take.new.self c.requires.own (search rules)
    (subst (λ seat. IfSome seat (λ seat. seat.name ≡ c.args.name.now)) (sym c.take.ensures.after) tt)

pub returns-in-Some-clause-left : goal.returns-in-Some-clause-left
returns-in-Some-clause-left g c =
    let name = c.args.name.now in
    let named = c.args.named.now.entries in
    let put : (c.get_mut.follows.lender c.take.new.self).entries ≡ set_value (same_text name) named c.take.new.self = search rules in
    let found : lookup (same_text name) named ≡ Some c.in-Some.seat.now = search rules in
    subst (λ seat. Leaves name (Some seat) named (c.get_mut.follows.lender c.take.new.self).entries) (sym c.take.ensures.value)
    (left-there named _ name c.in-Some.seat.now found (put ∙ ap (set_value (same_text name) named) c.take.ensures.after))
