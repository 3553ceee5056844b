use Rattle.blot_recovery.proofs.TestLemmas.{if-told}
use Rattle.blot_recovery.proofs.walking.take_frames.Goals as goal

pub returns-in_err-size-clause-fault : goal.returns-in_err-size-clause-fault
returns-in_err-size-clause-fault g c =
    if-told _ c.in_err-size.field-0.0 c.from_residual.result c.from_residual.ensures.1 (λ first text behind so.
    c.in_err-size.ensures.fault first text behind (c.loop-size.invariant.taken first text behind so))
