use Rattle.std.proofs.Common.{◌≡◌, ◌+◌, suc, Some, length, take, refl, sym, ap, ◌∙◌, arith, option_map}
use Rattle.std.specs.List.{list_any}
use Rattle.std.proofs.lemmas.Option.{slice_get-map, slice_get_read}
use Rattle.blot_types.specs.Keys.{same_text}
use Rattle.blot_types.proofs.KeyLemmas.{same_text-true}
use Rattle.blot_recovery.specs.Parties.{operator_names}
use Rattle.blot_recovery.proofs.OperatorLemmas.{none-next}
use Rattle.blot_recovery.proofs.operators.place_of.Goals as goal

pub returns-then-eq-clause-name : goal.returns-then-eq-clause-name
returns-then-eq-clause-name g c =
    let operators = c.args.operators.now in
    let found = c.index-operators-at.result in
    slice_get-map (λ operator. operator.name) operators c.loop-at.at
    ∙ ap (option_map (λ operator. operator.name)) (slice_get_read operators (length operators) c.loop-at.at found refl c.loop-at-test.true c.index-operators-at.is)
    ∙ ap (λ name. Some name) (same_text-true found.name c.args.name.now (sym c.if-eq.ensures))

pub loop-at-preserved : goal.loop-at-preserved
loop-at-preserved g c =
    let operators = c.args.operators.now in
    let name = c.args.name.now in
    let one_more : c.loop-at.at + 1 ≡ suc c.loop-at.at = omega arith in
    ap (λ n. list_any (same_text name) (take n (operator_names operators))) one_more
    ∙ none-next operators name c.loop-at.at c.index-operators-at.result c.loop-at-test.true (sym c.index-operators-at.is) (sym c.if-eq.ensures) c.loop-at.invariant
