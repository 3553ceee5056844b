use Rattle.std.proofs.Common.{◌≡◌, ◌+◌, ◌≤◌, ℕ, List, length, take, drop, ap, subst, arith, ◌∙◌}
use Rattle.std.proofs.lemmas.Result.{on_ok_weaker}
use Rattle.blot_journal.specs.Device.{LeavesOnly}
use Rattle.blot_journal.specs.File.{text_of}
use Rattle.blot_journal.specs.Journal.{text_in_journal}
use Rattle.blot_journal.proofs.JournalLemmas.{piece, text_long}
use Rattle.blot_journal.proofs.MomentLemmas.{goes_on, started}
use Rattle.blot_journal.proofs.journal.Journal.read.Goals as goal

pub overflow_add-at : goal.overflow_add-at
overflow_add-at g c =
    let own = c.self.inside in
    let is = c.self.invariant (ap (λ k. k.is_broken) c.self.view_is ∙ c.requires.unbroken) in
    let text : text_of (g.D.Device.seen own.device) ≡ text_in_journal g.D.Device.seen c.args.self.now = ap (text_in_journal g.D.Device.seen) c.self.view_is in
    omega (arith, is.fits, c.requires.within, ap length text, text_long (g.D.Device.seen own.device) own.second own.size is.head)

pub returns-clause-bytes : goal.returns-clause-bytes
returns-clause-bytes g c =
    let own = c.self.inside in
    let file = g.D.Device.seen own.device in
    let count = length c.args.buffer.now in
    let is = c.self.invariant (ap (λ k. k.is_broken) c.self.view_is ∙ c.requires.unbroken) in
    let text : text_of file ≡ text_in_journal g.D.Device.seen c.args.self.now = ap (text_in_journal g.D.Device.seen) c.self.view_is in
    let within : c.args.at + count ≤ own.size = omega (arith, c.requires.within, ap length text, text_long file own.second own.size is.head) in
    on_ok_weaker c.read_at.result (λ read. read ∙ piece file own.second own.size is.head c.args.at count within ∙ ap (λ (t : List ℕ). take count (drop c.args.at t)) text) c.read_at.ensures.bytes

pub returns-clause-any_moment : goal.returns-clause-any_moment
returns-clause-any_moment g c =
    let own = c.self.inside in
    let device = own.device in
    let is = c.self.invariant (ap (λ k. k.is_broken) c.self.view_is ∙ c.requires.unbroken) in
    let P = λ (file : List ℕ). file ≡ g.D.Device.seen device in
    let start = started g.D.Device.moment g.D.Device.left_since device P (λ f left. is.durable f (g.met.D.Device.only_now device f left)) in
    subst (λ k. LeavesOnly g.D.Device.moment g.D.Device.left_since k.device c.read_at.new.self (λ file. file ≡ g.D.Device.seen k.device)) c.self.view_is
    (goes_on g.D.Device.moment g.D.Device.left_since device device c.read_at.new.self P _ start c.read_at.ensures.time (λ f now. is.durable f (c.read_at.ensures.crash f now)))
