use Rattle.std.proofs.Common.{◌≡◌, ◌<◌, Ok, None, Some, ap, subst, sym, ◌∙◌, arith}
use Rattle.blot_tag.specs.Reading.{FindsNone, Leaves, TakesFirst}
use Rattle.blot_tag.specs.Views.{text_of}
use Rattle.blot_recovery.proofs.WalkLemmas.{IsNext, IsNoNext, IsSized, clean-frame, next-some, no-frame-prefix, no-next, passed-garbled, passed-over, size-some, some-taken}
use Rattle.blot_recovery.proofs.walking.take_next.Goals as goal
use Rattle.blot_recovery.proofs.walking.take_next.Goals.{in-Some, in-None}

pub returns-clause-taken : goal.returns-clause-taken
returns-clause-taken g c =
    let old = c.args.reader.now in
    let new = c.match-branch-2.reader in
    let After = g.T.Takes.After in
    let IsOther = g.T.Takes.IsOther in
    let Refuses = g.T.Takes.Refuses in
    let clean : new.skipped ≡ 0 = omega (arith, c.if-skipped-gt0.false, c.skipped.ensures) in
    elim c.match-branch-2.branch [
      | in-Some w ↦
          let frame = text_of w.in-Some.frame in
          let leaves : Leaves old c.next.result new = subst (Leaves old c.next.result) (sym w.reader-is) c.next.follows.holds-at-none in
          let takes : TakesFirst old frame new = subst (λ given. Leaves old given new) (c.in_ok-frame.was ∙ ap (λ found. Ok found) w.in-Some.is) leaves in
          let is = clean-frame old new frame takes c.requires.clean clean in
          let some = next-some After IsOther Refuses old.unread new.unread c.args.place c.args.taker.now frame is w.taken_by-taken.result w.taken_by-taken.new.taker
          w.taken_by-taken.ensures.size w.taken_by-taken.ensures.taken in
          subst (λ taken. IsNext After IsOther Refuses old.unread new.unread c.args.place c.args.taker.now taken c.match-branch-2.taker) (sym w.taken-is)
          (subst (λ after. IsNext After IsOther Refuses old.unread new.unread c.args.place c.args.taker.now w.taken_by-taken.result after) (sym w.taker-is) some)
      | in-None w ↦
          subst (λ taken. IsNext After IsOther Refuses old.unread new.unread c.args.place c.args.taker.now taken c.match-branch-2.taker) (sym w.taken-is) tt
    ]

pub returns-clause-fault : goal.returns-clause-fault
returns-clause-fault g c =
    let old = c.args.reader.now in
    let new = c.match-branch-2.reader in
    let After = g.T.Takes.After in
    let IsOther = g.T.Takes.IsOther in
    let Refuses = g.T.Takes.Refuses in
    let clean : new.skipped ≡ 0 = omega (arith, c.if-skipped-gt0.false, c.skipped.ensures) in
    elim c.match-branch-2.branch [
      | in-Some w ↦
          let frame = text_of w.in-Some.frame in
          let leaves : Leaves old c.next.result new = subst (Leaves old c.next.result) (sym w.reader-is) c.next.follows.holds-at-none in
          let takes : TakesFirst old frame new = subst (λ given. Leaves old given new) (c.in_ok-frame.was ∙ ap (λ found. Ok found) w.in-Some.is) leaves in
          let is = clean-frame old new frame takes c.requires.clean clean in
          subst (IsNoNext After IsOther Refuses old.unread new.unread c.args.place c.args.taker.now) (sym w.taken-is)
          (no-next After IsOther Refuses old.unread new.unread c.args.place c.args.taker.now frame is takes.valid w.taken_by-taken.result w.taken_by-taken.ensures.fault)
      | in-None w ↦ subst (IsNoNext After IsOther Refuses old.unread new.unread c.args.place c.args.taker.now) (sym w.taken-is) tt
    ]

pub returns-clause-size : goal.returns-clause-size
returns-clause-size g c =
    let old = c.args.reader.now in
    let new = c.match-branch-2.reader in
    let After = g.T.Takes.After in
    let IsOther = g.T.Takes.IsOther in
    let Refuses = g.T.Takes.Refuses in
    let clean : new.skipped ≡ 0 = omega (arith, c.if-skipped-gt0.false, c.skipped.ensures) in
    elim c.match-branch-2.branch [
      | in-Some w ↦
          let frame = text_of w.in-Some.frame in
          let leaves : Leaves old c.next.result new = subst (Leaves old c.next.result) (sym w.reader-is) c.next.follows.holds-at-none in
          let takes : TakesFirst old frame new = subst (λ given. Leaves old given new) (c.in_ok-frame.was ∙ ap (λ found. Ok found) w.in-Some.is) leaves in
          let is = clean-frame old new frame takes c.requires.clean clean in
          subst (IsSized After IsOther Refuses old.unread new.unread c.args.place c.args.taker.now) (sym w.taken-is)
          (size-some After IsOther Refuses old.unread new.unread c.args.place c.args.taker.now frame is takes.shorter w.taken_by-taken.result w.taken_by-taken.ensures.size)
      | in-None w ↦ subst (IsSized After IsOther Refuses old.unread new.unread c.args.place c.args.taker.now) (sym w.taken-is) tt
    ]

pub returns-clause-ends : goal.returns-clause-ends
returns-clause-ends g c = λ none.
    let old = c.args.reader.now in
    let new = c.match-branch-2.reader in
    elim c.match-branch-2.branch [
      | in-Some w ↦ absurd (some-taken _ w.taken_by-taken.result w.taken_by-taken.ensures.size (sym w.taken-is ∙ none))
      | in-None w ↦
          let leaves : Leaves old c.next.result new = subst (Leaves old c.next.result) (sym w.reader-is) c.next.follows.holds-at-none in
          let finds : FindsNone old new = subst (λ given. Leaves old given new) (c.in_ok-frame.was ∙ ap (λ found. Ok found) w.in-None.is) leaves in
          no-frame-prefix new.unread finds.prefix
    ]

pub returns-then-skipped-gt0-clause-fault : goal.returns-then-skipped-gt0-clause-fault
returns-then-skipped-gt0-clause-fault g c =
    let old = c.args.reader.now in
    let new = c.match-branch-2.reader in
    let After = g.T.Takes.After in
    let IsOther = g.T.Takes.IsOther in
    let Refuses = g.T.Takes.Refuses in
    let some : 0 < new.skipped = omega (arith, c.if-skipped-gt0.true, c.skipped.ensures) in
    elim c.match-branch-2.branch [
      | in-Some w ↦
          let frame = text_of w.in-Some.frame in
          let leaves : Leaves old c.next.result new = subst (Leaves old c.next.result) (sym w.reader-is) c.next.follows.holds-at-none in
          let takes : TakesFirst old frame new = subst (λ given. Leaves old given new) (c.in_ok-frame.was ∙ ap (λ found. Ok found) w.in-Some.is) leaves in
          passed-over After IsOther Refuses old.unread c.args.place c.args.taker.now (passed-garbled old new (Some frame) takes c.requires.clean some)
      | in-None w ↦
          let leaves : Leaves old c.next.result new = subst (Leaves old c.next.result) (sym w.reader-is) c.next.follows.holds-at-none in
          let finds : FindsNone old new = subst (λ given. Leaves old given new) (c.in_ok-frame.was ∙ ap (λ found. Ok found) w.in-None.is) leaves in
          passed-over After IsOther Refuses old.unread c.args.place c.args.taker.now (passed-garbled old new None finds c.requires.clean some)
    ]
