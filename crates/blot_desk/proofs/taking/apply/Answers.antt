use Rattle.std.proofs.Common.{◌≡◌}
use Rattle.blot_undo.specs.declared.fault.StepFault.TheVariants.{Refused as RefusedStep}
use Rattle.blot_desk.proofs.DeskLemmas.{accepted_submit, refused_submit}
use Rattle.blot_desk.proofs.taking.apply.Goals as goal

pub returns-in-Refused-clause-ok : goal.returns-in-Refused-clause-ok
returns-in-Refused-clause-ok c = let a = c.in-Err-Refused in let o = c.apply in
    let fault : a.field-0 ≡ RefusedStep a.back a.fault = a.field-0-is in
    refused_submit _ _ c.args.command a.back a.fault c.in-Refused.reason
    (rw fault at (rw a.is at o.ensures.fault))
    c.in-Refused.is
    (rw a.is at o.ensures.err)

pub returns-in-Ok-clause-ok : goal.returns-in-Ok-clause-ok
returns-in-Ok-clause-ok c =
    let done = rw c.in-Ok.is at c.apply.ensures.taken in
    let accepted = rw c.in-Ok.is at c.apply.ensures.accepted in
    let number = rw c.in-Ok.is at c.apply.ensures.number in
    accepted_submit _ _ c.args.command _ accepted done number
