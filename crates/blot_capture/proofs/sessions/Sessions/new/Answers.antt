use Rattle.std.proofs.Common.{[], ap, ◌∙◌}
use Rattle.blot_capture.specs.Sessions.{session_in}
use Rattle.blot_capture.proofs.LookupLemmas.{sessions-first}
use Rattle.blot_capture.proofs.sessions.Sessions.new.Goals as goal

pub returns-in-Ok : goal.returns-in-Ok
returns-in-Ok c =
    ap (λ out. session_in out c.in-Ok.table) c.new-in-Ok.ensures.items ∙ ap (session_in []) c.in-Ok.ensures.ok
    ∙ sessions-first c.args.own c.args.peers.now
