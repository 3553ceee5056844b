use Rattle.std.proofs.Common.{◌≡◌, ℕ, take, ap, subst, ◌∙◌, arith}
use Rattle.std.proofs.lemmas.Result.{IfOk-weaker, IfErr-weaker}
use Rattle.blot_journal.specs.Recovery.{IsCounted, IsHeadFault}
use Rattle.blot_journal.proofs.RecoveryLemmas.{counted_head, front_read, head_fault}
use Rattle.blot_journal.proofs.recovery.find.Goals as goal

pub returns-clause-head : goal.returns-clause-head
returns-clause-head g c =
    let file = g.D.Device.seen c.args.device.now in
    let head = c.read_at.new.buffer in
    let is : head ≡ take 4096 file = c.in_ok-read_at.ensures.bytes ∙ ap (λ (n : ℕ). take n file) c.requires.head in
    IfOk-weaker c.counted_in.result _ _ (λ counted found. counted_head file head (front_read file head is) counted.second counted.size
    (subst (λ n. IsCounted head n counted.second counted.size) c.len-len.ensures found)) c.counted_in.ensures.counted

pub returns-clause-refused : goal.returns-clause-refused
returns-clause-refused g c =
    let file = g.D.Device.seen c.args.device.now in
    let head = c.read_at.new.buffer in
    let is : head ≡ take 4096 file = c.in_ok-read_at.ensures.bytes ∙ ap (λ (n : ℕ). take n file) c.requires.head in
    IfErr-weaker c.counted_in.result _ _ (λ fault found. head_fault file head (front_read file head is) (omega (arith, c.len-len.ensures, c.if-len-lt-HEAD.false)) fault
    (subst (λ n. IsHeadFault head n fault) c.len-len.ensures found)) c.counted_in.ensures.refused
