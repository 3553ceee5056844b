use Rattle.std.proofs.Common.{◌≡◌, true, sym, ap, subst, ◌∙◌, IfSome}
use Rattle.blot_types.specs.Chains.{root_in, is_chained}
use Rattle.blot_places.specs.Slots.{newest_live}
use Rattle.blot_chain.proofs.ChainLemmas.{one_trade-found}
use Rattle.blot_chain.proofs.HoldsLemmas.{root-held, taker-keyed}
use Rattle.blot_chain.specs.Index.{newest_on}
use Rattle.blot_chain.proofs.chains.Chains.root_of.Goals as goal

pub root_on-requires : goal.root_on-requires
root_on-requires c =
    let slots = c.self.inside.slots.items in
    subst (λ slots. IfSome (newest_on slots c.takers.result.now) (λ item. c.args.key.now ≡ item.link.key)) (sym c.deref.ensures.value)
    (subst (λ places. IfSome (newest_live slots places) (λ item. c.args.key.now ≡ item.link.key)) (sym c.takers.ensures)
    (taker-keyed c.self.inside.index slots c.args.key.now c.self.invariant))

root_found : goal.returns-clause-root
root_found c =
    let found = rw (c.deref.ensures.value, c.takers.ensures) at c.root_on.ensures in
    found ∙ root-held c.self.inside.index c.self.inside.slots.items c.args.key.now c.self.invariant ∙ ap (λ shown. root_in shown.list c.args.key.now) c.self.view_is

pub returns-clause-root : goal.returns-clause-root
returns-clause-root c = root_found c

pub returns-clause-one_trade : goal.returns-clause-one_trade
returns-clause-one_trade c =
    let chained : is_chained c.args.self.now.list ≡ true = sym (ap (λ shown. is_chained shown.list) c.self.view_is) ∙ c.self.invariant.chained in
    one_trade-found c.args.self.now.list c.args.key.now c.root_on.result chained (root_found c)
