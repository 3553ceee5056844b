use Rattle.std.proofs.Common.{◌≡◌, arith, rules}
use Rattle.std.proofs.lemmas.Fn.{always_returns_same}
use Rattle.blot_order.specs.declared.fill_numbers.ListedNumber.{ListedNumber}
use Rattle.blot_order.proofs.NumberLemmas.{found, belongs-end}
use Rattle.blot_order.proofs.fill_numbers.find.Goals as goal

pub returns-in-Some : goal.returns-in-Some
returns-in-Some c =
    found c.args.number c.args.listed.now c.binary_search_by_key.result c.requires c.binary_search_by_key.ensures.bound
    (c.binary_search_by_key.ensures.position (λ (e : ListedNumber). e.number) (always_returns_same _ (λ a r. r ≡ a.0.now.number) _ (λ a r q k. search rules)))

pub returns-in_default : goal.returns-in_default
returns-in_default c =
    let less = c.if-number-from.false in
    let is = c.from.ensures in
    belongs-end c.args.number c.args.listed.now c.in-Some.last.now c.requires c.in-Some.ensures.value (omega (arith, less, is))
