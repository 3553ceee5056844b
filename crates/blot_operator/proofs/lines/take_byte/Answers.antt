use Rattle.std.proofs.Common.{[], ◌∷◌, ◌++◌, ◌∙◌, ap, append_assoc, sym, subst}
use Rattle.blot_types.proofs.GeneralLemmas.{on_err}
use Rattle.blot_stream.specs.Texts.{lines_of}
use Rattle.blot_operator.specs.Dialogue.{ComesOn, StopsAmong, StopsAtLine}
use Rattle.blot_operator.proofs.DialogueLemmas.{HasTold-more, comes-end, StopsAmong-between, StopsAmong-end}
use Rattle.blot_operator.proofs.lines.take_byte.Goals as goal

pub returns-in_err-keep_byte-clause-err : goal.returns-in_err-keep_byte-clause-err
returns-in_err-keep_byte-clause-err g c =
    let desk = g.D.Operated in
    let contents = g.W.Write.contents in
    on_err c.from_residual.result (λ start bytes more before has.
    subst (λ all. StopsAmong desk.ways start (lines_of all) c.args.state.now before (contents c.args.output.now)) (sym (append_assoc bytes (c.args.byte ∷ []) more))
    (StopsAmong-between start bytes (c.args.byte ∷ more) _ _ before _ has))

pub returns-then-byte-ne10-clause-ok : goal.returns-then-byte-ne10-clause-ok
returns-then-byte-ne10-clause-ok g c = λ start bytes before has.
    HasTold-more start bytes _ _ c.args.byte _ before _ c.if-byte-ne10.true c.in_ok-keep_byte.ensures has

pub returns-in_err-closed-clause-err : goal.returns-in_err-closed-clause-err
returns-in_err-closed-clause-err g c =
    let desk = g.D.Operated in
    let contents = g.W.Write.contents in
    let stops = subst (λ line. StopsAtLine desk.ways c.args.state.now line c.answer_line.new.state (contents c.args.output.now) (contents c.answer_line.new.output))
    c.deref.ensures.value c.in_err-closed.ensures.err in
    on_err c.from_residual-in_err-closed.result (λ start bytes more before has.
    subst (λ all. StopsAmong desk.ways start (lines_of all) c.answer_line.new.state before (contents c.answer_line.new.output))
    (ap (λ byte. bytes ++ byte ∷ more) (sym c.if-byte-ne10.false) ∙ sym (append_assoc bytes (c.args.byte ∷ []) more))
    (StopsAmong-end start bytes more _ _ _ before _ _ has stops))

pub returns-clause-ok : goal.returns-clause-ok
returns-clause-ok g c =
    let contents = g.W.Write.contents in
    subst (λ byte. ComesOn c.in_ok-closed.closed g.D.Operated.ways (byte ∷ []) c.args.line.now.items c.args.state.now (contents c.args.output.now)
    c.clear.new.self.items c.answer_line.new.state (contents c.answer_line.new.output))
    (sym c.if-byte-ne10.false)
    (comes-end c.in_ok-closed.closed _ _ _ _ _ _ (rw c.deref.ensures.value at c.in_ok-closed.ensures.ok) (rw c.deref.ensures.value at c.in_ok-closed.ensures.closed) c.clear.ensures.items)
