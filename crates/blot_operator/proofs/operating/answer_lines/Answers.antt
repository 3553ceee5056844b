use Rattle.std.proofs.Common.{◌≡◌, ℕ, ◌≤◌, List, [], ◌++◌, length, take, Option, arith, ap, subst, sym, ◌∙◌}
use Rattle.std.specs.Io.KnownBytes.{Consumes}
use Rattle.std.proofs.KnownBytes.{Consumes-nil, Consumes-trans}
use Rattle.blot_types.proofs.GeneralLemmas.{on_err}
use Rattle.blot_stream.proofs.PieceLemmas.{front_of_buffer, IfSome-front}
use Rattle.blot_stream.specs.Texts.{lines_of}
use Rattle.blot_operator.specs.Dialogue.{StopsAmong}
use Rattle.blot_operator.proofs.DialogueLemmas.{HasTold-init, StopsAmong-between}
use Rattle.blot_operator.proofs.OpenDayLemmas.{ends-closed, open-if-closed}
use Rattle.blot_operator.proofs.operating.answer_lines.Goals as goal

-- the piece that was read comes after the bytes before it
comes-on : (first old new : Option (List ℕ)) (bytes : List ℕ) (count len : ℕ) (read behind slice : List ℕ) → Consumes first old bytes
    → Consumes old new (take count read) × (count ≤ length read) → slice ≡ take len (read ++ behind) → count ≤ len
    → Consumes first new (bytes ++ take count slice)
comes-on first old new bytes count len read behind slice before piece is fits =
    Consumes-trans first old new bytes (take count slice) before
    (subst (Consumes old new) (sym (ap (take count) is ∙ front_of_buffer count len read behind piece.1 fits)) piece.0)

pub loop-init : goal.loop-init
loop-init g c = (
  [],
  Consumes-nil (g.R.Read.remaining c.args.input.now),
  HasTold-init c.args.state.now c.new-line.result.items (g.W.Write.contents c.args.output.now) c.new-line.ensures.items,
  omega (arith, c.in_ok-buffer.ensures),
)

pub loop-preserved : goal.loop-preserved
loop-preserved g c =
    let read = (rw c.in-Some.is at c.in_ok-count.ensures.piece) in
    let bytes = c.loop.invariant.0 in (
      bytes ++ take c.in-Some.count c.deref-in-loop.result.now,
      comes-on _ _ _ bytes _ _ _ _ _ c.loop.invariant.1 read c.deref-in-loop.ensures.value (omega (arith, read.1)),
      (rw c.if-closed.false at c.in_ok-closed.ensures.ok) c.args.state.now bytes (g.W.Write.contents c.args.output.now) c.loop.invariant.2,
      c.loop.invariant.3,
    )

pub returns-in_err-buffer-clause-fault : goal.returns-in_err-buffer-clause-fault
returns-in_err-buffer-clause-fault g c =
    let contents = g.W.Write.contents c.args.output.now in
    on_err c.from_residual.result
    (IfSome-front (g.R.Read.remaining c.args.input.now) (g.R.Read.remaining c.args.input.now) [] (λ bytes. StopsAmong g.D.Operated.ways c.args.state.now (lines_of bytes) c.args.state.now contents contents)
    (Consumes-nil (g.R.Read.remaining c.args.input.now))
    (λ more. StopsAmong-between c.args.state.now [] more _ _ contents contents (HasTold-init c.args.state.now c.new-line.result.items contents c.new-line.ensures.items)))

pub returns-in_err-count-clause-fault : goal.returns-in_err-count-clause-fault
returns-in_err-count-clause-fault g c =
    on_err c.from_residual-in_err-count.result
    (IfSome-front (g.R.Read.remaining c.args.input.now) (g.R.Read.remaining c.loop.input) c.loop.invariant.0 _ c.loop.invariant.1
    (λ more. StopsAmong-between c.args.state.now c.loop.invariant.0 more _ _ _ _ c.loop.invariant.2))

pub returns-then-closed-clause-told : goal.returns-then-closed-clause-told
returns-then-closed-clause-told g c =
    let read = (rw c.in-Some.is at c.in_ok-count.ensures.piece) in
    let bytes = c.loop.invariant.0 in
    IfSome-front (g.R.Read.remaining c.args.input.now) (g.R.Read.remaining c.read_piece.new.input) (bytes ++ take c.in-Some.count c.deref-in-loop.result.now) _
    (comes-on _ _ _ bytes _ _ _ _ _ c.loop.invariant.1 read c.deref-in-loop.ensures.value (omega (arith, read.1)))
    (λ more. ((rw c.if-closed.true at c.in_ok-closed.ensures.ok) c.args.state.now bytes more (g.W.Write.contents c.args.output.now) c.loop.invariant.2).told)

pub returns-then-closed-clause-read_to_the_end : goal.returns-then-closed-clause-read_to_the_end
returns-then-closed-clause-read_to_the_end g c =
    let read = (rw c.in-Some.is at c.in_ok-count.ensures.piece) in
    let bytes = c.loop.invariant.0 in
    let closes = (rw c.if-closed.true at c.in_ok-closed.ensures.ok) c.args.state.now bytes in
    let before = g.W.Write.contents c.args.output.now in
    ends-closed g.D.Operated.ways.is_open (g.R.Read.remaining c.args.input.now) _ (open-if-closed _ _ (closes [] before c.loop.invariant.2).closed)
    (IfSome-front (g.R.Read.remaining c.args.input.now) (g.R.Read.remaining c.read_piece.new.input) (bytes ++ take c.in-Some.count c.deref-in-loop.result.now) _
    (comes-on _ _ _ bytes _ _ _ _ _ c.loop.invariant.1 read c.deref-in-loop.ensures.value (omega (arith, read.1)))
    (λ more. (closes more before c.loop.invariant.2).closed))

pub returns-in_err-closed-clause-fault : goal.returns-in_err-closed-clause-fault
returns-in_err-closed-clause-fault g c =
    let read = (rw c.in-Some.is at c.in_ok-count.ensures.piece) in
    let bytes = c.loop.invariant.0 in
    on_err c.from_residual-in_err-closed.result
    (IfSome-front (g.R.Read.remaining c.args.input.now) (g.R.Read.remaining c.read_piece.new.input) (bytes ++ take c.in-Some.count c.deref-in-loop.result.now) _
    (comes-on _ _ _ bytes _ _ _ _ _ c.loop.invariant.1 read c.deref-in-loop.ensures.value (omega (arith, read.1)))
    (λ more. c.in_err-closed.ensures.err c.args.state.now bytes more (g.W.Write.contents c.args.output.now) c.loop.invariant.2))

pub returns-clause-fault : goal.returns-clause-fault
returns-clause-fault g c =
    IfSome-front (g.R.Read.remaining c.args.input.now) (g.R.Read.remaining c.loop.input) c.loop.invariant.0 _ c.loop.invariant.1
    (λ more. StopsAmong-between c.args.state.now c.loop.invariant.0 more _ _ _ _ c.loop.invariant.2)
