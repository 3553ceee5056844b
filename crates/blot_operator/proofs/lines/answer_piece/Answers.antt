use Rattle.std.proofs.Common.{◌≡◌, ℕ, ◌+◌, ◌<◌, List, [], ◌∷◌, ◌++◌, length, take, drop, get_or, sym, ap, ◌∙◌, subst, append_assoc, arith, append-nil, take_all, take-append-drop}
use Rattle.std.proofs.lemmas.List.{take_more}
use Rattle.blot_types.proofs.GeneralLemmas.{on_err}
use Rattle.blot_stream.specs.Texts.{lines_of}
use Rattle.blot_operator.specs.Dialogue.{Closes, HasTold, StopsAmong}
use Rattle.blot_operator.proofs.lines.answer_piece.Goals as goal

-- one more byte of a piece that stands after a front
one_more : (front piece : List ℕ) (index : ℕ) → index < length piece
    → (front ++ take index piece) ++ get_or piece index 0 ∷ [] ≡ front ++ take (index + 1) piece
one_more front piece index within = append_assoc front (take index piece) (get_or piece index 0 ∷ []) ∙ ap (λ taken. front ++ taken) (sym (take_more piece index 0 within))

-- the piece whole, with what stands after it
whole : (front piece more : List ℕ) (index : ℕ) → index < length piece
    → ((front ++ take index piece) ++ get_or piece index 0 ∷ []) ++ (drop (index + 1) piece ++ more) ≡ (front ++ piece) ++ more
whole front piece more index within =
    ap (λ taken. taken ++ (drop (index + 1) piece ++ more)) (one_more front piece index within)
    ∙ sym (append_assoc (front ++ take (index + 1) piece) (drop (index + 1) piece) more)
    ∙ ap (λ all. all ++ more) (append_assoc front (take (index + 1) piece) (drop (index + 1) piece) ∙ ap (λ piece. front ++ piece) (take-append-drop (index + 1) piece))

pub loop-byte-init : goal.loop-byte-init
loop-byte-init g c = λ start bytes before has.
    subst (λ all. HasTold g.D.Operated.ways start all c.args.line.now.items c.args.state.now before (g.W.Write.contents c.args.output.now)) (sym (append-nil bytes)) has

pub loop-byte-preserved : goal.loop-byte-preserved
loop-byte-preserved g c = λ start bytes before has.
    let piece = c.args.piece.now in
    let index = c.loop-byte.byte-index in
    subst (λ all. HasTold g.D.Operated.ways start all c.take_byte.new.line.items c.take_byte.new.state before (g.W.Write.contents c.take_byte.new.output))
    (one_more bytes piece index c.loop-byte-test.true)
    ((rw c.if-closed.false at c.in_ok-closed.ensures.ok) start (bytes ++ take index piece) before (c.loop-byte.invariant start bytes before has))

pub returns-then-closed-clause-ok : goal.returns-then-closed-clause-ok
returns-then-closed-clause-ok g c = λ start bytes more before has.
    let piece = c.args.piece.now in
    let index = c.loop-byte.byte-index in
    subst (λ all. Closes g.D.Operated.ways start (lines_of all) c.take_byte.new.state before (g.W.Write.contents c.take_byte.new.output))
    (whole bytes piece more index c.loop-byte-test.true)
    ((rw c.if-closed.true at c.in_ok-closed.ensures.ok) start (bytes ++ take index piece) (drop (index + 1) piece ++ more) before
    (c.loop-byte.invariant start bytes before has))

pub returns-in_err-closed-clause-err : goal.returns-in_err-closed-clause-err
returns-in_err-closed-clause-err g c =
    let piece = c.args.piece.now in
    let index = c.loop-byte.byte-index in
    on_err c.from_residual.result (λ start bytes more before has.
    subst (λ all. StopsAmong g.D.Operated.ways start (lines_of all) c.take_byte.new.state before (g.W.Write.contents c.take_byte.new.output))
    (whole bytes piece more index c.loop-byte-test.true)
    (c.in_err-closed.ensures.err start (bytes ++ take index piece) (drop (index + 1) piece ++ more) before
    (c.loop-byte.invariant start bytes before has)))

pub returns-clause-ok : goal.returns-clause-ok
returns-clause-ok g c = λ start bytes before has.
    subst (λ piece. HasTold g.D.Operated.ways start (bytes ++ piece) c.loop-byte.line.items c.loop-byte.state before (g.W.Write.contents c.loop-byte.output))
    (take_all c.loop-byte.byte-index c.args.piece.now (omega (arith, c.loop-byte-test.false)))
    (c.loop-byte.invariant start bytes before has)
