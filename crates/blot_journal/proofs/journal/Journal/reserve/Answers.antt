use Rattle.std.proofs.Common.{true≢false, ap, ◌≡◌, ◌+◌, ◌<◌, ◌^◌, false, length, refl, subst, sym, arith, rules, is_err}
use Rattle.blot_journal.specs.File.{text_of}
use Rattle.blot_journal.specs.Journal.{text_in_journal}
use Rattle.blot_journal.proofs.JournalLemmas.{text_long}
use Rattle.blot_journal.proofs.journal.Journal.reserve.Goals as goal

pub returns-then-bytes-saturating_sub-clause-full : goal.returns-then-bytes-saturating_sub-clause-full
returns-then-bytes-saturating_sub-clause-full g c =
    let own = c.self.inside in
    let waiting : c.len.result ≡ length own.waiting.items = search rules in
    let long = text_long (g.D.Device.seen own.device) own.second own.size (c.self.invariant c.if-self.false).head in
    let whole = subst (λ k. k.is_broken ≡ false) c.self.view_is c.if-self.false in
    let over = subst (λ k. 2 ^ 40 < length (text_in_journal g.D.Device.seen k) + length k.waiting + c.args.bytes) c.self.view_is
    (omega (arith, c.if-bytes-saturating_sub.true, c.saturating_sub-2.ensures, c.saturating_sub.ensures, waiting, long)) in
    (λ full. (whole, omega (arith, c.if-bytes-saturating_sub.true), over), λ both. refl)

pub returns-clause-full : goal.returns-clause-full
returns-clause-full g c =
    let own = c.self.inside in
    let waiting : c.len.result ≡ length own.waiting.items = search rules in
    let long = text_long (g.D.Device.seen own.device) own.second own.size (c.self.invariant c.if-self.false).head in
    let over : 2 ^ 40 < length (text_of (g.D.Device.seen own.device)) + length own.waiting.items + c.args.bytes → 0 < c.args.bytes → ⊥ =
    λ over some. absurd (omega (arith, over, some, c.if-bytes-saturating_sub.false, c.saturating_sub-2.ensures, c.saturating_sub.ensures, waiting, long)) in
    (λ full. absurd (true≢false (sym (ap is_err full))), λ both. absurd (over (subst (λ k. 2 ^ 40 < length (text_in_journal g.D.Device.seen k) + length k.waiting + c.args.bytes) (sym c.self.view_is) both.2) both.1))
