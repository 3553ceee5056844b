use Rattle.std.proofs.Common.{◌≡◌, length, take, drop, arith, refl, sym, ap, ◌∙◌, length-append, length-take-le}
use Rattle.blot_stream.proofs.PieceLemmas.{front_of_buffer}
use Rattle.blot_capture.specs.Sessions.{taking_of}
use Rattle.blot_capture.proofs.StreamLemmas.{CameOf-first, CameOf-piece, CameOf-stopped}
use Rattle.blot_trail.specs.Making.{Making, Telling, none_yet, offset_of}
use Rattle.blot_trail.proofs.AuditLemmas.{SameTrailOf-first, SameTrailOf-piece, stops-nil}
use Rattle.blot_trail.proofs.auditing.tell_all.Goals as goal

pub loop-init : goal.loop-init
loop-init g c =
    let taking = taking_of c.args.sessions.now c.args.desk.now in
    let empty : c.new-trail.result ≡ none_yet = c.new-trail.ensures in
    let skipped = ap (λ (trail : Making). trail.skipped) empty in
    let passed = ap (λ (trail : Making). trail.passed) empty in
    let offset = ap offset_of empty in
    let none = ap length c.new-reader.ensures.unread in (
      SameTrailOf-first (g.R.Read.remaining c.args.input.now) (record { trail = none_yet; taking = taking }) (record { trail = c.new-trail.result; taking = taking })
          c.new-reader.result.unread c.new-reader.ensures.unread (ap (λ (trail : Making). record { trail = trail; taking = taking }) (sym empty)),
      CameOf-first (g.R.Read.remaining c.args.input.now) taking taking c.new-reader.result.unread c.new-reader.ensures.unread refl,
      record { skipped = omega (arith, skipped, passed, c.new-reader.ensures.skipped); low = omega (arith, offset, c.new-reader.ensures.skipped) },
      omega (arith, offset, none),
      omega arith,
      stops-nil c.new-reader.result.unread c.new-reader.ensures.unread,
      c.in_ok-buffer.ensures,
    )

pub loop-preserved : goal.loop-preserved
loop-preserved g c =
    let consumed = (rw c.in-Some.is at c.in_ok-count.ensures.piece) in
    let behind = drop (length c.read_piece.new.buffer) c.loop.buffer.items in
    let piece : take c.in-Some.count c.deref.result.now ≡ take c.in-Some.count c.read_piece.new.buffer =
    ap (take c.in-Some.count) c.deref.ensures.value
    ∙ front_of_buffer c.in-Some.count c.loop.buffer.len c.read_piece.new.buffer behind consumed.1 (omega (arith, consumed.1)) in
    let size : length (take c.in-Some.count c.deref.result.now) ≡ c.in-Some.count = ap length piece ∙ length-take-le c.in-Some.count c.read_piece.new.buffer consumed.1 in
    let first = taking_of c.args.sessions.now c.args.desk.now in
    let before = taking_of c.loop.sessions c.loop.desk in
    let after = taking_of c.tell_piece.new.sessions c.tell_piece.new.desk in
    let from : Telling = record { trail = none_yet; taking = first } in
    let mid : Telling = record { trail = c.loop.trail; taking = before } in
    let now : Telling = record { trail = c.tell_piece.new.trail; taking = after } in (
      SameTrailOf-piece (g.R.Read.remaining c.args.input.now) (g.R.Read.remaining c.loop.input) (g.R.Read.remaining c.read_piece.new.input) from mid now
          c.loop.reader.unread c.tell_piece.new.reader.unread (take c.in-Some.count c.deref.result.now)
          c.loop.invariant.0 (rw piece consumed.0) c.in-Ok.ensures.told,
      CameOf-piece (g.R.Read.remaining c.args.input.now) (g.R.Read.remaining c.loop.input) (g.R.Read.remaining c.read_piece.new.input) first before after
          c.loop.reader.unread c.tell_piece.new.reader.unread (take c.in-Some.count c.deref.result.now)
          c.loop.invariant.1 (rw piece consumed.0) c.in-Ok.ensures.came,
      c.in-Ok.ensures.step,
      omega (arith, c.in-Ok.ensures.read, c.loop.invariant.3, length-append c.loop.reader.unread (take c.in-Some.count c.deref.result.now), size),
      omega (arith, c.loop.invariant.4, consumed.1, c.read_piece.auto.buffer, c.deref_mut.ensures.len, c.loop.invariant.6),
      c.in-Ok.ensures.drained,
      c.loop.invariant.6,
    )

pub returns-in-Err-clause-stopped : goal.returns-in-Err-clause-stopped
returns-in-Err-clause-stopped g c =
    let consumed = (rw c.in-Some.is at c.in_ok-count.ensures.piece) in
    let behind = drop (length c.read_piece.new.buffer) c.loop.buffer.items in
    let piece : take c.in-Some.count c.deref.result.now ≡ take c.in-Some.count c.read_piece.new.buffer =
    ap (take c.in-Some.count) c.deref.ensures.value
    ∙ front_of_buffer c.in-Some.count c.loop.buffer.len c.read_piece.new.buffer behind consumed.1 (omega (arith, consumed.1)) in
    let from = taking_of c.args.sessions.now c.args.desk.now in
    let mid = taking_of c.loop.sessions c.loop.desk in
    CameOf-stopped c.in-Err.fault (g.R.Read.remaining c.args.input.now) (g.R.Read.remaining c.loop.input) (g.R.Read.remaining c.read_piece.new.input) from mid c.tell_piece.new.desk
    c.loop.reader.unread (take c.in-Some.count c.deref.result.now) c.loop.invariant.1 (rw piece consumed.0) c.in-Err.ensures.err
