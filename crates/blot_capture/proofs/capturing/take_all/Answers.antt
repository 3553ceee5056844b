use Rattle.std.proofs.Common.{◌≡◌, length, take, drop, arith, refl, ap, ◌∙◌}
use Rattle.blot_tag.specs.Walking.{frames_of}
use Rattle.blot_stream.proofs.PieceLemmas.{front_of_buffer}
use Rattle.blot_capture.specs.Sessions.{taking_of}
use Rattle.blot_capture.proofs.StreamLemmas.{CameOf-first, CameOf-piece, CameOf-stopped, frames_of-nil}
use Rattle.blot_capture.proofs.capturing.take_all.Goals as goal

pub loop-init : goal.loop-init
loop-init g c =
    let from = taking_of c.args.sessions.now (g.D.TakesCommands.desk_of c.args.desk.now) in (
      CameOf-first (g.R.Read.remaining c.args.input.now) from from c.new-reader.result.unread c.new-reader.ensures.unread refl,
      ap frames_of c.new-reader.ensures.unread ∙ frames_of-nil,
      omega (arith, c.in_ok-buffer.ensures),
    )

pub loop-preserved : goal.loop-preserved
loop-preserved g c =
    let consumed = (rw c.in-Some.is at c.in_ok-count.ensures.piece) in
    let behind = drop (length c.read_piece.new.buffer) c.loop.buffer.items in
    let piece : take c.in-Some.count c.deref.result.now ≡ take c.in-Some.count c.read_piece.new.buffer =
    ap (take c.in-Some.count) c.deref.ensures.value
    ∙ front_of_buffer c.in-Some.count c.loop.buffer.len c.read_piece.new.buffer behind consumed.1 (omega (arith, consumed.1)) in
    let from = taking_of c.args.sessions.now (g.D.TakesCommands.desk_of c.args.desk.now) in
    let mid = taking_of c.loop.sessions (g.D.TakesCommands.desk_of c.loop.desk) in
    let now = taking_of c.take_piece.new.sessions (g.D.TakesCommands.desk_of c.take_piece.new.desk) in (
      CameOf-piece (g.R.Read.remaining c.args.input.now) (g.R.Read.remaining c.loop.input) (g.R.Read.remaining c.read_piece.new.input) from mid now
          c.loop.reader.unread c.take_piece.new.reader.unread (take c.in-Some.count c.deref.result.now)
          c.loop.invariant.0
          (rw piece consumed.0)
          c.in-Ok.ensures.came,
      c.in-Ok.ensures.drained,
      c.loop.invariant.2,
    )

pub returns-in-Err-clause-stopped : goal.returns-in-Err-clause-stopped
returns-in-Err-clause-stopped g c =
    let consumed = (rw c.in-Some.is at c.in_ok-count.ensures.piece) in
    let behind = drop (length c.read_piece.new.buffer) c.loop.buffer.items in
    let piece : take c.in-Some.count c.deref.result.now ≡ take c.in-Some.count c.read_piece.new.buffer =
    ap (take c.in-Some.count) c.deref.ensures.value
    ∙ front_of_buffer c.in-Some.count c.loop.buffer.len c.read_piece.new.buffer behind consumed.1 (omega (arith, consumed.1)) in
    let from = taking_of c.args.sessions.now (g.D.TakesCommands.desk_of c.args.desk.now) in
    let mid = taking_of c.loop.sessions (g.D.TakesCommands.desk_of c.loop.desk) in
    CameOf-stopped c.in-Err.fault (g.R.Read.remaining c.args.input.now) (g.R.Read.remaining c.loop.input) (g.R.Read.remaining c.read_piece.new.input) from mid (g.D.TakesCommands.desk_of c.take_piece.new.desk)
    c.loop.reader.unread (take c.in-Some.count c.deref.result.now) c.loop.invariant.0 (rw piece consumed.0) c.in-Err.ensures.err
