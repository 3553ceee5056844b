use Rattle.std.proofs.Common.{subst, IfOk}
use Rattle.blot_tag.specs.Fields.{fields_of}
use Rattle.blot_tag.specs.Views.{text_of}
use Rattle.blot_fields.specs.First.{first_value, IsSentAt}
use Rattle.blot_capture.proofs.SessionLemmas.{sent-at}
use Rattle.blot_capture.proofs.moment.sending_by.Goals as goal

pub returns-in-Ok : goal.returns-in-Ok
returns-in-Ok c =
    let items = fields_of (text_of c.args.frame.now) in
    sent-at (first_value 52 items) c.in-Ok.message.head.sending (subst (λ said. IfOk said (IsSentAt items)) c.in-Ok.is c.requires)
