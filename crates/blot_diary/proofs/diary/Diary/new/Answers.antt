use Rattle.blot_diary.proofs.DiaryLemmas.{begun}
use Rattle.blot_diary.proofs.diary.Diary.new.Goals as goal

pub invariant_of-result : goal.invariant_of-result
invariant_of-result g c =
    let journal = c.args.journal in
    begun g.D.Device.seen g.D.Device.may_leave g.D.Device.left_since g.D.Device.moment journal c.of-opened.result.value c.of-last.result.value
    c.requires.unbroken c.requires.none_waiting c.requires.whole
    c.of-opened.ensures (c.len.ensures.crash c.requires.unbroken) (g.met.D.Device.only_now journal.device)
