use Rattle.std.proofs.Common.{Some, None, ap, sym, ◌∙◌, cond, reverse, option_copied}
use Rattle.blot_types.proofs.InstructionLemmas.{named_once}
use Rattle.blot_alloc.proofs.HoldsLemmas.{holder-held, shown-instructed}
use Rattle.blot_alloc.proofs.allocs.Allocs.holder.Goals as goal

pub returns-in_err-newest-clause-found : goal.returns-in_err-newest-clause-found
returns-in_err-newest-clause-found c =
    let found = rw c.deref.ensures.value at c.newest_live.ensures in
    ap option_copied c.from_residual.ensures
    ∙ holder-held c.self.inside.index c.self.inside.slots.items c.self.invariant c.under.result.now c.args.root.now c.args.self.now c.self.view_is None (ap option_copied (sym c.in_err-newest.was) ∙ found) c.under.ensures

pub returns-in_err-newest-clause-once : goal.returns-in_err-newest-clause-once
returns-in_err-newest-clause-once c =
    named_once c.args.self.now.list (shown-instructed c.self.inside.index (reverse c.self.inside.slots.items) c.args.self.now c.self.invariant c.self.view_is) c.args.root.now

pub returns-then-not-is_live-clause-found : goal.returns-then-not-is_live-clause-found
returns-then-not-is_live-clause-found c =
    let found = rw c.deref.ensures.value at c.newest_live.ensures in
    ap (λ b. cond b (Some c.in_ok-newest.newest.now) None) c.if-not-is_live.ensures
    ∙ holder-held c.self.inside.index c.self.inside.slots.items c.self.invariant c.under.result.now c.args.root.now c.args.self.now c.self.view_is (Some c.in_ok-newest.newest.now) (ap option_copied (sym c.in_ok-newest.was) ∙ found) c.under.ensures

pub returns-then-not-is_live-clause-once : goal.returns-then-not-is_live-clause-once
returns-then-not-is_live-clause-once c =
    named_once c.args.self.now.list (shown-instructed c.self.inside.index (reverse c.self.inside.slots.items) c.args.self.now c.self.invariant c.self.view_is) c.args.root.now

pub returns-clause-found : goal.returns-clause-found
returns-clause-found c =
    let found = rw c.deref.ensures.value at c.newest_live.ensures in
    ap (λ b. cond b (Some c.in_ok-newest.newest.now) None) c.if-not-is_live.ensures
    ∙ holder-held c.self.inside.index c.self.inside.slots.items c.self.invariant c.under.result.now c.args.root.now c.args.self.now c.self.view_is (Some c.in_ok-newest.newest.now) (ap option_copied (sym c.in_ok-newest.was) ∙ found) c.under.ensures

pub returns-clause-once : goal.returns-clause-once
returns-clause-once c =
    named_once c.args.self.now.list (shown-instructed c.self.inside.index (reverse c.self.inside.slots.items) c.args.self.now c.self.invariant c.self.view_is) c.args.root.now
