use Rattle.std.proofs.Common.{inl, ◌≡◌, ◌+◌, ◌≤◌, ◌++◌, [], length, ap, subst, sym, ◌∙◌, drop, refl, arith, append-nil}
use Rattle.std.proofs.lemmas.List.{drop_all}
use Rattle.blot_tag.specs.Frames.{BeginsWithFrame}
use Rattle.blot_recovery.specs.Walking.{IsFaultIn}
use Rattle.blot_recovery.proofs.TestLemmas.{if-told}
use Rattle.blot_recovery.proofs.WalkLemmas.{fed-next, first-left, left-is, left-over, no-frame-nil, read-on}
use Rattle.blot_recovery.proofs.walking.take_all.Goals as goal

pub loop-at-init : goal.loop-at-init
loop-at-init g c = record {
  clean = c.new-reader.ensures.skipped;
  within = omega arith;
  text_is = refl;
  read = inl refl;
  readable = c.requires.readable;
  ends = subst (λ unread. BeginsWithFrame unread → ⊥) (sym c.new-reader.ensures.unread) no-frame-nil;
  taken = first-left g.T.Takes.After c.args.taker.now (g.P.Pieces.text c.args.text.now) c.new-reader.result.unread c.new-reader.ensures.unread c.requires.first;
}

pub returns-in_err-place-clause-fault : goal.returns-in_err-place-clause-fault
returns-in_err-place-clause-fault g c =
    let text = g.P.Pieces.text c.args.text.now in
    let next = c.loop-at.at + c.in_ok-piece.piece.len in
    let fed = ap (λ reading. reading.unread) c.in_ok-feed.ensures.ok ∙ ap (λ piece. c.loop-at.reader.unread ++ piece) c.deref.ensures.value in
    let read = subst (λ text. drop c.loop-at.at text ≡ c.in_ok-piece.piece.items ++ drop next text) c.loop-at.invariant.text_is c.in_ok-piece.ensures.bytes in
    if-told (IsFaultIn g.T.Takes.After g.T.Takes.IsOther g.T.Takes.Refuses c.args.taker.now text) c.in_err-place.field-0.0 c.from_residual-in_err-place.result c.from_residual-in_err-place.ensures.1
    (c.in_err-place.ensures.fault c.args.taker.now text (drop next text)
    (left-is g.T.Takes.After c.args.taker.now text (c.loop-at.reader.unread ++ drop c.loop-at.at text) (c.feed.new.self.unread ++ drop next text) c.loop-at.place c.loop-at.taker
    (fed-next text c.loop-at.reader.unread c.feed.new.self.unread c.in_ok-piece.piece.items c.loop-at.at next fed read) c.loop-at.invariant.taken))

pub loop-at-preserved : goal.loop-at-preserved
loop-at-preserved g c =
    let text = g.P.Pieces.text c.args.text.now in
    let next = c.loop-at.at + c.len-at.result in
    let fed = ap (λ reading. reading.unread) c.in_ok-feed.ensures.ok ∙ ap (λ piece. c.loop-at.reader.unread ++ piece) c.deref.ensures.value in
    let read = subst (λ text. drop c.loop-at.at text ≡ c.in_ok-piece.piece.items ++ drop next text) c.loop-at.invariant.text_is
    (subst (λ size. drop c.loop-at.at (g.P.Pieces.text c.loop-at.text) ≡ c.in_ok-piece.piece.items ++ drop (c.loop-at.at + size) (g.P.Pieces.text c.loop-at.text))
    (sym c.len-at.ensures) c.in_ok-piece.ensures.bytes) in
    let so = left-is g.T.Takes.After c.args.taker.now text (c.loop-at.reader.unread ++ drop c.loop-at.at text) (c.feed.new.self.unread ++ drop next text) c.loop-at.place
    c.loop-at.taker (fed-next text c.loop-at.reader.unread c.feed.new.self.unread c.in_ok-piece.piece.items c.loop-at.at next fed read) c.loop-at.invariant.taken in record {
      clean = c.in_ok-place.ensures.clean;
      within = subst (λ text. next ≤ length text) c.loop-at.invariant.text_is
          (subst (λ size. c.loop-at.at + size ≤ length (g.P.Pieces.text c.loop-at.text)) (sym c.len-at.ensures) c.in_ok-piece.ensures.within);
      text_is = c.in_ok-piece.ensures.same ∙ c.loop-at.invariant.text_is;
      read = read-on g.P.Pieces.Reads g.P.Pieces.reads_on c.args.text.now c.loop-at.text c.next_piece.new.text c.loop-at.invariant.read c.in_ok-piece.ensures.read;
      readable = c.in_ok-piece.ensures.readable;
      ends = c.in_ok-place.ensures.ends;
      taken = c.in_ok-place.ensures.taken c.args.taker.now text (drop next text) so;
    }

pub returns-then-place-len-clause-fault : goal.returns-then-place-len-clause-fault
returns-then-place-len-clause-fault g c =
    let text = g.P.Pieces.text c.args.text.now in
    let unread = c.loop-at.reader.unread in
    let len = c.len-len.ensures c.requires.readable in
    let none : drop c.loop-at.at text ≡ [] = drop_all c.loop-at.at text (omega (arith, c.loop-at-test.false, len)) in
    left-over g.T.Takes.After g.T.Takes.IsOther g.T.Takes.Refuses c.args.taker.now text unread c.loop-at.place c.loop-at.taker (omega (arith, c.if-place-len.true, len))
    c.loop-at.invariant.ends
    (left-is g.T.Takes.After c.args.taker.now text (unread ++ drop c.loop-at.at text) unread c.loop-at.place c.loop-at.taker
    (ap (λ back. unread ++ back) none ∙ append-nil unread) c.loop-at.invariant.taken)
