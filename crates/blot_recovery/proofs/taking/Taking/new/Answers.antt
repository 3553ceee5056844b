use Rattle.std.proofs.Common.{◌≡◌, ◌+◌, [], length, rules, refl, subst, sym, All}
use Rattle.std.proofs.lemmas.List.Elements.{All-take}
use Rattle.blot_recovery.specs.declared.{fault.RecoverFault.TheVariants.NoMemory, operators.TheConstants.OPERATOR_SEATS}
use Rattle.blot_recovery.specs.Taking.{AreApart}
use Rattle.blot_recovery.proofs.TestLemmas.{if-told}
use Rattle.blot_recovery.proofs.TakingLemmas.{none-taken}
use Rattle.blot_recovery.proofs.taking.Taking.new.Goals as goal

pub returns-in_err-peers-clause-memory : goal.returns-in_err-peers-clause-memory
returns-in_err-peers-clause-memory g c = if-told _ NoMemory c.from_residual-in_err-peers.result c.from_residual-in_err-peers.ensures.1 refl

pub returns-clause-first : goal.returns-clause-first
returns-clause-first g c =
    let total : length c.in_ok-operators.operators.named.items + length c.in_ok-operators.operators.spare.items ≡ OPERATOR_SEATS = search rules in
    none-taken _ refl c.in_ok-opening.ensures.desk (subst (AreApart c.args.own) (sym c.in_ok-peers.ensures.listed) c.requires.apart)
    (c.in_ok-peers.ensures.kept c.args.own) c.in_ok-operators.ensures.kept total

pub returns-in_err-spare-clause-memory : goal.returns-in_err-spare-clause-memory
returns-in_err-spare-clause-memory g c = if-told _ NoMemory c.from_residual-in_err-spare.result c.from_residual-in_err-spare.ensures.1 refl

pub returns-in_err-operators-clause-memory : goal.returns-in_err-operators-clause-memory
returns-in_err-operators-clause-memory g c = if-told _ NoMemory c.from_residual-in_err-operators.result c.from_residual-in_err-operators.ensures.1 refl

pub seated-requires-clause-empty : goal.seated-requires-clause-empty
seated-requires-clause-empty g c =
    subst (All (λ receipts. receipts ≡ [])) (sym c.in_ok-spare.ensures.items) (All-take (λ receipts. receipts ≡ []) _ c.in_ok-opening.seats.items c.in_ok-opening.ensures.empty)
