use Rattle.std.proofs.Common.{◌≡◌, ◌≤◌, length, sym, ap, subst, ◌∙◌}
use Rattle.blot_diary.specs.Diary.{desk_events, diary_of}
use Rattle.blot_diary.proofs.DiaryLemmas.{as_durable, more_durable, stops, synced, text_known, text_stays}
use Rattle.blot_diary.proofs.diary.DiaryKeeper.sync.Goals as goal
use Rattle.blot_diary.proofs.diary.DiaryKeeper.sync.Goals.{in-Ok, in-Err}

pub invariant_of-self : goal.invariant_of-self
invariant_of-self g c =
    let own = c.self.inside in
    let on = sym c.is_broken.ensures ∙ c.if-is_broken.false in
    let s = c.sync.ensures in
    elim c.match-sync.branch [
      | in-Ok w ↦
          synced g.D.Device.seen g.D.Device.may_leave g.D.Device.left_since g.D.Device.moment own.journal c.sync.new.self own.opened.value own.last.value
          c.self.invariant on (s.any_moment on)
          c.of-self-inside.result.value w.in-Ok.ensures.text w.in-Ok.ensures.waiting w.in-Ok.ensures.open w.in-Ok.ensures.crash
      | in-Err w ↦
          stops g.D.Device.seen g.D.Device.may_leave g.D.Device.left_since g.D.Device.moment own.journal c.sync.new.self own.opened.value own.last.value
          c.self.invariant on (s.any_moment on)
          c.of-self-inside.result.value c.of-self-inside.ensures w.in-Err.ensures.broken (λ file later left. g.met.D.Device.counts_now
          c.sync.new.self.device (g.D.Device.moment own.journal.device) file later left)
    ]

pub returns-clause-events : goal.returns-clause-events
returns-clause-events g c =
    let own = c.self.inside in
    let on = sym c.is_broken.ensures ∙ c.if-is_broken.false in
    let s = c.sync.ensures in
    let after = diary_of g.D.Device.seen g.D.Device.moment c.sync.new.self own.opened.value c.of-self-inside.result.value in
    subst (λ d. desk_events after.text ≡ desk_events d.text) c.self.view_is (ap desk_events
    (elim c.match-sync.branch [
      | in-Ok w ↦
          text_stays g.D.Device.seen g.D.Device.may_leave g.D.Device.left_since g.D.Device.moment own.journal c.sync.new.self own.opened.value
          own.last.value c.self.invariant on (s.any_moment on) c.of-self-inside.result.value w.in-Ok.ensures.text w.in-Ok.ensures.waiting
          w.in-Ok.ensures.open
      | in-Err w ↦
          text_known g.D.Device.seen g.D.Device.may_leave g.D.Device.left_since g.D.Device.moment own.journal c.sync.new.self own.opened.value
          own.last.value c.self.invariant on (s.any_moment on) c.of-self-inside.result.value c.of-self-inside.ensures w.in-Err.ensures.broken
    ]))

pub returns-clause-never_less : goal.returns-clause-never_less
returns-clause-never_less g c =
    let own = c.self.inside in
    let on = sym c.is_broken.ensures ∙ c.if-is_broken.false in
    let s = c.sync.ensures in
    let after = diary_of g.D.Device.seen g.D.Device.moment c.sync.new.self own.opened.value c.of-self-inside.result.value in
    subst (λ d. length (desk_events d.durable) ≤ length (desk_events after.durable)) c.self.view_is
    (elim c.match-sync.branch [
      | in-Ok w ↦
          more_durable g.D.Device.seen g.D.Device.may_leave g.D.Device.left_since g.D.Device.moment own.journal c.sync.new.self own.opened.value
          own.last.value c.self.invariant on (s.any_moment on)
          c.of-self-inside.result.value w.in-Ok.ensures.text w.in-Ok.ensures.waiting w.in-Ok.ensures.open
      | in-Err w ↦
          as_durable g.D.Device.seen g.D.Device.may_leave g.D.Device.left_since g.D.Device.moment own.journal c.sync.new.self own.opened.value
          own.last.value c.self.invariant on (s.any_moment on)
          c.of-self-inside.result.value c.of-self-inside.ensures w.in-Err.ensures.broken
    ])
