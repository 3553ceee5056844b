use Rattle.blot_diary.proofs.DiaryLemmas.{with_next_room}
use Rattle.blot_diary.proofs.diary.Diary.make_room.Goals as goal

pub invariant_of-self : goal.invariant_of-self
invariant_of-self g c =
    let own = c.self.inside in
    with_next_room g.D.Device.seen g.D.Device.may_leave g.D.Device.left_since g.D.Device.moment own.opened.value own.last.value own.journal
    c.reserve.new.self c.reserve.ensures.same c.self.invariant
