use Rattle.std.proofs.Common.{◌≡◌, ◌<◌, [], Err, ap, sym, subst, true, ◌∙◌, All}
use Rattle.blot_journal.specs.Device.{LeavesOnly}
use Rattle.blot_journal.specs.File.{text_of}
use Rattle.blot_journal.specs.Journal.{text_in_journal}
use Rattle.blot_journal.specs.Recovery.{IsLeft}
use Rattle.blot_recovery.specs.Moments.{IsOpening}
use Rattle.blot_recovery.specs.Opening.{IfRefused, IsOpened, OpensWith, is_of_disk}
use Rattle.blot_recovery.specs.declared.opening.OpenFault.TheVariants.{Write}
use Rattle.blot_recovery.specs.Parties.{IsKeptPeer}
use Rattle.blot_recovery.proofs.OpeningLemmas.{cut-moments, left-moments, open-fault, opened-file, refused-left, taken-moments, text-cause, write-cause, write-fault}
use Rattle.blot_recovery.proofs.opening.open_day.Goals as goal

pub returns-in-Ok-trim-clause-peers : goal.returns-in-Ok-trim-clause-peers
returns-in-Ok-trim-clause-peers g c =
    subst (λ text. All (IsKeptPeer c.args.own text) c.in-Ok-take_up.recovered.peers.items) (sym (c.new.ensures.text ∙ c.in-Ok-trim.ensures.text)) c.in-Ok-take_up.ensures.recovered.peers

pub returns-in-Ok-trim-clause-file : goal.returns-in-Ok-trim-clause-file
returns-in-Ok-trim-clause-file g c =
    let D = g.D.Device in
    let same : (text_of (D.seen c.args.device) ≡ [] → ⊥) → D.seen c.take_up.new.journal.device ≡ D.seen c.args.device =
    λ some. c.in-Ok-take_up.ensures.file (λ none. some (sym c.in-Ok.ensures.text ∙ none)) ∙ c.in-Ok.ensures.untouched.seen_is in
    subst (λ new. IsOpened (D.seen c.args.device) (D.seen new)) (sym c.new.ensures.device)
    (opened-file (D.seen c.args.device) (D.seen c.take_up.new.journal.device) (D.seen c.trim.new.self.device) same c.in-Ok-trim.ensures.trimmed c.in-Ok-trim.ensures.text)

pub returns-in-Ok-trim-clause-any_moment : goal.returns-in-Ok-trim-clause-any_moment
returns-in-Ok-trim-clause-any_moment g c =
    let D = g.D.Device in
    let mid = c.take_up.new.journal.device in
    let taken = taken-moments D.moment D.left_since c.args.own c.args.day D.seen D.may_leave c.args.device c.in-Ok.journal.device mid c.in-Ok.ensures.untouched c.take_up.ensures.any_moment in
    let opens = subst (λ found. OpensWith c.args.own c.args.day found (text_of (D.seen mid))) c.in-Ok.ensures.text c.in-Ok-take_up.ensures.opens in
    let same : (text_of (D.seen c.args.device) ≡ [] → ⊥) → D.seen mid ≡ D.seen c.args.device =
    λ some. c.in-Ok-take_up.ensures.file (λ none. some (sym c.in-Ok.ensures.text ∙ none)) ∙ c.in-Ok.ensures.untouched.seen_is in
    subst (λ new. LeavesOnly D.moment D.left_since c.args.device new (IsOpening c.args.own c.args.day (D.seen c.args.device) (D.may_leave c.args.device)))
    (sym c.new.ensures.device)
    (cut-moments D.moment D.left_since c.args.own c.args.day D.seen D.may_leave c.args.device mid c.trim.new.self.device opens same taken c.trim.ensures.any_moment)

pub returns-in-Err-trim-clause-any_moment_err : goal.returns-in-Err-trim-clause-any_moment_err
returns-in-Err-trim-clause-any_moment_err g c =
    let D = g.D.Device in
    let mid = c.take_up.new.journal.device in
    let taken = taken-moments D.moment D.left_since c.args.own c.args.day D.seen D.may_leave c.args.device c.in-Ok.journal.device mid c.in-Ok.ensures.untouched c.take_up.ensures.any_moment in
    let opens = subst (λ found. OpensWith c.args.own c.args.day found (text_of (D.seen mid))) c.in-Ok.ensures.text c.in-Ok-take_up.ensures.opens in
    let same : (text_of (D.seen c.args.device) ≡ [] → ⊥) → D.seen mid ≡ D.seen c.args.device =
    λ some. c.in-Ok-take_up.ensures.file (λ none. some (sym c.in-Ok.ensures.text ∙ none)) ∙ c.in-Ok.ensures.untouched.seen_is in
    subst (λ new. LeavesOnly D.moment D.left_since c.args.device new (IsOpening c.args.own c.args.day (D.seen c.args.device) (D.may_leave c.args.device)))
    (sym c.into_device-in-Err-trim.ensures)
    (cut-moments D.moment D.left_since c.args.own c.args.day D.seen D.may_leave c.args.device mid c.trim.new.self.device opens same taken c.trim.ensures.any_moment)

pub returns-in-Err-trim-clause-fault : goal.returns-in-Err-trim-clause-fault
returns-in-Err-trim-clause-fault g c =
    write-fault (text_of (g.D.Device.seen c.args.device)) c.in-Err-trim.fault (λ full. absurd (c.in-Err-trim.ensures.full (ap (λ fault. Err fault) full)))
    (λ broken. c.in-Err-trim.ensures.was_broken (ap (λ fault. Err fault) broken))

pub returns-in-Err-trim-clause-cause : goal.returns-in-Err-trim-clause-cause
returns-in-Err-trim-clause-cause g c =
    let D = g.D.Device in
    subst (λ new. is_of_disk (Write c.in-Err-trim.fault) ≡ true → D.failures c.args.device < D.failures new) (sym c.into_device-in-Err-trim.ensures)
    (write-cause c.in-Err-trim.fault (D.failures c.args.device) (D.failures c.take_up.new.journal.device) (D.failures c.trim.new.self.device) c.in-Ok.ensures.unfailed
    (λ failed. c.in-Err-trim.ensures.failed (ap (λ fault. Err fault) failed)))

pub returns-in-Err-take_up-clause-fault : goal.returns-in-Err-take_up-clause-fault
returns-in-Err-take_up-clause-fault g c =
    open-fault c.args.own c.args.day c.args.peers.now c.args.operator (g.D.Device.seen c.args.device) (text_in_journal g.D.Device.seen c.in-Ok.journal) c.in-Err-take_up.fault c.in-Ok.ensures.text
    c.in-Err-take_up.ensures.fault

pub returns-in-Err-take_up-clause-any_moment_err : goal.returns-in-Err-take_up-clause-any_moment_err
returns-in-Err-take_up-clause-any_moment_err g c =
    let D = g.D.Device in
    subst (λ new. LeavesOnly D.moment D.left_since c.args.device new (IsOpening c.args.own c.args.day (D.seen c.args.device) (D.may_leave c.args.device)))
    (sym c.into_device.ensures)
    (taken-moments D.moment D.left_since c.args.own c.args.day D.seen D.may_leave c.args.device c.in-Ok.journal.device c.take_up.new.journal.device c.in-Ok.ensures.untouched
    c.take_up.ensures.any_moment)

pub returns-in-Err-clause-any_moment_err : goal.returns-in-Err-clause-any_moment_err
returns-in-Err-clause-any_moment_err g c =
    left-moments g.D.Device.moment g.D.Device.left_since c.args.own c.args.day g.D.Device.seen g.D.Device.may_leave c.args.device c.in-Err.device c.in-Err.ensures.untouched_err

pub returns-in-Err-take_up-clause-untouched : goal.returns-in-Err-take_up-clause-untouched
returns-in-Err-take_up-clause-untouched g c =
    let D = g.D.Device in
    subst (λ new. IfRefused c.in-Err-take_up.fault (IsLeft D.seen D.may_leave D.moment D.left_since c.args.device new)) (sym c.into_device.ensures)
    (refused-left D.moment D.left_since D.seen D.may_leave c.args.device c.in-Ok.journal c.take_up.new.journal c.in-Err-take_up.fault c.in-Ok.ensures.untouched c.in-Err-take_up.ensures.untouched)

pub returns-in-Err-take_up-clause-cause : goal.returns-in-Err-take_up-clause-cause
returns-in-Err-take_up-clause-cause g c =
    let D = g.D.Device in
    subst (λ new. is_of_disk c.in-Err-take_up.fault ≡ true → D.failures c.args.device < D.failures new) (sym c.into_device.ensures)
    (text-cause c.args.own c.args.day c.args.peers.now c.args.operator (text_in_journal D.seen c.in-Ok.journal) c.in-Err-take_up.fault (D.failures c.args.device) (D.failures c.in-Ok.journal.device)
    (D.failures c.take_up.new.journal.device) c.in-Ok.ensures.unfailed c.in-Err-take_up.ensures.fault
    (λ failed. c.in-Err-take_up.ensures.failed (ap (λ fault. Err fault) failed)))
