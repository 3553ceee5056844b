use Rattle.std.proofs.Common.{List, length, subst}
use Rattle.blot_desk.specs.declared.event.Event.{Event}
use Rattle.blot_desk.specs.Keeping.{IsBeginning}
use Rattle.blot_diary.specs.Diary.{Leaves, desk_events, diary_of}
use Rattle.blot_diary.proofs.DiaryLemmas.{leaves_beginning}
use Rattle.blot_diary.proofs.diary.DiaryKeeper.ever.Goals as goal

pub returns-clause-now : goal.returns-clause-now
returns-clause-now g c =
    let own = c.self.inside in
    let diary = diary_of g.D.Device.seen g.D.Device.moment own.journal own.opened.value own.last.value in
    subst (λ d. (left : List Event) → Leaves (g.D.Device.may_leave d.device) left → IsBeginning (length (desk_events d.durable)) (desk_events d.text) left)
    c.self.view_is
    (λ left crash. leaves_beginning diary.durable diary.text (g.D.Device.may_leave diary.device) left c.self.invariant.now crash)

pub returns-clause-ever : goal.returns-clause-ever
returns-clause-ever g c =
    let own = c.self.inside in
    let diary = diary_of g.D.Device.seen g.D.Device.moment own.journal own.opened.value own.last.value in
    subst (λ d. (left : List Event) → Leaves (g.D.Device.left_since d.device d.since) left → IsBeginning (length (desk_events d.found)) (desk_events d.text)
    left) c.self.view_is
    (λ left crash. leaves_beginning diary.found diary.text (g.D.Device.left_since diary.device diary.since) left c.self.invariant.ever crash)
