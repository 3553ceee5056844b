use Rattle.std.proofs.Common.{◌≡◌, false, inr, sym, ap, subst, ◌∙◌}
use Rattle.std.specs.List.{list_any}
use Rattle.blot_types.specs.Keys.{same_text}
use Rattle.blot_recovery.specs.Taking.{names_of, stands_for}
use Rattle.blot_recovery.proofs.RefusalLemmas.{not-theirs, unlisted-why}
use Rattle.blot_recovery.proofs.taking.Taking.peer_of.Goals as goal

pub returns-in-None-clause-refused : goal.returns-in-None-clause-refused
returns-in-None-clause-refused g c =
    let other = c.other_of-other.result in
    let none = subst (λ peers. list_any (same_text other) (names_of peers) ≡ false) c.deref.ensures.value (c.place_of.ensures.none c.in-None.is) in
    unlisted-why c.args.self.now c.args.kept.now other c.args.place c.unlisted.result c.requires.unasked c.other_of-other.ensures none c.unlisted.ensures.fault

pub returns-else-stands_for-clause-refused : goal.returns-else-stands_for-clause-refused
returns-else-stands_for-clause-refused g c =
    not-theirs c.args.self.now c.args.kept.now c.requires.unasked
    (inr (ap (λ other. stands_for c.args.self.now.own other c.args.kept.now) (sym c.other_of-other.ensures) ∙ sym c.stands_for.ensures ∙ c.if-stands_for.false))
