use Rattle.std.proofs.Common.{◌≡◌, ◌≤◌, [], ◌++◌, length, sym, ap, subst, ◌∙◌}
use Rattle.std.specs.List.{cons_option}
use Rattle.blot_diary.specs.Diary.{desk_events, diary_of, event_in}
use Rattle.blot_diary.proofs.DiaryLemmas.{HoldsDiary, appended, desk_events-last, grown}
use Rattle.blot_diary.proofs.diary.Diary.append.Goals as goal

pub invariant_of-self : goal.invariant_of-self
invariant_of-self g c =
    let own = c.self.inside in
    let frame = c.args.frame.now in
    let diary = diary_of g.D.Device.seen g.D.Device.moment own.journal own.opened.value own.last.value in
    let room = subst (λ d. length frame ≤ d.room) (sym c.self.view_is) c.requires.room in
    let a = c.append.ensures in
    let same = grown g.D.Device.seen g.D.Device.may_leave g.D.Device.left_since g.D.Device.moment own.opened.value own.last.value own.journal
    c.append.new.self frame c.requires.valid room a.waiting a.device a.broken in
    subst (HoldsDiary g.D.Device.seen g.D.Device.may_leave g.D.Device.left_since g.D.Device.moment) (sym same)
    (appended g.D.Device.seen g.D.Device.may_leave g.D.Device.left_since g.D.Device.moment diary frame c.append.new.self.room c.requires.valid
    c.self.invariant)

pub returns : goal.returns
returns g c =
    let own = c.self.inside in
    let frame = c.args.frame.now in
    let diary = diary_of g.D.Device.seen g.D.Device.moment own.journal own.opened.value own.last.value in
    let next = diary_of g.D.Device.seen g.D.Device.moment c.append.new.self own.opened.value own.last.value in
    let room = subst (λ d. length frame ≤ d.room) (sym c.self.view_is) c.requires.room in
    let a = c.append.ensures in
    let same = grown g.D.Device.seen g.D.Device.may_leave g.D.Device.left_since g.D.Device.moment own.opened.value own.last.value own.journal
    c.append.new.self frame c.requires.valid room a.waiting a.device a.broken in
    record {
      events = subst (λ d. desk_events next.text ≡ desk_events d.text ++ cons_option (event_in frame) []) c.self.view_is
          (ap (λ d. desk_events d.text) same ∙ desk_events-last diary.text frame c.self.invariant.whole c.requires.valid);
      same = subst (λ d. next ≡ record d { text = d.text ++ frame; room = next.room }) c.self.view_is
          (same ∙ ap (λ room. record diary { text = diary.text ++ frame; room = room }) (sym (ap (λ d. d.room) same)));
    }
