use Rattle.std.proofs.Common.{◌≡◌, arith, sym, subst, is_some}
use Rattle.blot_types.proofs.GeneralLemmas.{if-err}
use Rattle.blot_stream.specs.declared.outcome.ReplayFault.TheVariants.{NoMemory}
use Rattle.blot_stream.proofs.ResultLemmas.{if-both-ok}
use Rattle.blot_capture.specs.Replay.{StoppedOn}
use Rattle.blot_capture.specs.Sessions.{taking_of}
use Rattle.blot_trail.specs.Making.{TellsNext, telling_of}
use Rattle.blot_trail.proofs.AuditLemmas.{noted-stopped, room-within, tells-next}
use Rattle.blot_trail.proofs.telling.tell_next.Goals as goal

pub tell-requires-clause-within : goal.tell-requires-clause-within
tell-requires-clause-within c =
    let from = taking_of c.args.sessions.now c.args.desk.now in
    let now = taking_of c.next_noted.new.sessions c.next_noted.new.desk in
    omega (
      arith,
      c.skipped.ensures,
      room-within c.args.reader.now c.next_noted.new.reader from now c.in-Ok.noted c.args.trail.now c.requires.step c.requires.within c.in-Ok.ensures.read,
    )

pub returns-in-Ok-clause-ok : goal.returns-in-Ok-clause-ok
returns-in-Ok-clause-ok c =
    let from = taking_of c.args.sessions.now c.args.desk.now in
    let now = taking_of c.next_noted.new.sessions c.next_noted.new.desk in
    if-both-ok (λ told. told ≡ is_some c.in-Ok.noted)
    (λ told. TellsNext told c.args.reader.now (telling_of c.args.trail.now c.args.sessions.now c.args.desk.now) c.next_noted.new.reader
    (telling_of c.tell.new.trail c.next_noted.new.sessions c.next_noted.new.desk))
    c.tell.result c.tell.ensures.trail c.tell.ensures.some (λ told gives is.
    tells-next told c.args.reader.now c.next_noted.new.reader from now c.in-Ok.noted c.args.trail.now c.tell.new.trail c.skipped.result c.requires.step c.requires.within
    c.in-Ok.ensures.read c.skipped.ensures is gives)

pub returns-in-Ok-clause-err : goal.returns-in-Ok-clause-err
returns-in-Ok-clause-err c =
    let from = taking_of c.args.sessions.now c.args.desk.now in
    let now = taking_of c.next_noted.new.sessions c.next_noted.new.desk in
    if-err (λ fault. fault ≡ NoMemory)
    (StoppedOn from c.args.reader.now.unread c.next_noted.new.desk) c.tell.result c.tell.ensures.memory
    (λ fault is. subst (StoppedOn from c.args.reader.now.unread c.next_noted.new.desk) (sym is)
    (noted-stopped c.args.reader.now c.next_noted.new.reader from now c.in-Ok.noted c.in-Ok.ensures.read))
