use Rattle.std.proofs.Common.{◌≡◌, ◌+◌, ◌++◌, ◌<◌, inl, ℕ, List, [], not, length, sym, ap, subst, arith, rules, ◌∙◌, eqb-true, append-nil, vec_len}
use Rattle.std.proofs.lemmas.Bool.{eqb-false}
use Rattle.std.proofs.lemmas.List.{nil_from_length}
use Rattle.blot_journal.specs.Device.{LeavesOnly}
use Rattle.blot_journal.specs.File.{HasHead, Stands, StandsBeforeOrAfter, text_of}
use Rattle.blot_journal.specs.Journal.{text_in_journal}
use Rattle.blot_journal.proofs.HeadLemmas.{head_whole}
use Rattle.blot_journal.proofs.JournalLemmas.{open_stands, positive}
use Rattle.blot_journal.proofs.MomentLemmas.{started}
use Rattle.blot_journal.proofs.journal.Journal.sync.Goals as goal

pub returns-then-is_empty-clause-crash : goal.returns-then-is_empty-clause-crash
returns-then-is_empty-clause-crash g c =
    let own = c.self.inside in
    let text = text_of (g.D.Device.seen own.device) in
    let count : vec_len own.waiting ≡ 0 = eqb-true (vec_len own.waiting) 0 (sym c.is_empty.ensures ∙ c.if-is_empty.true) in
    let long : length own.waiting.items ≡ 0 = search rules in
    let none : own.waiting.items ≡ [] = nil_from_length own.waiting.items long in
    let all : text ≡ text ++ own.waiting.items = sym (append-nil text) ∙ ap (λ (l : List ℕ). text ++ l) (sym none) in
    subst (λ k. (file : List ℕ) → g.D.Device.may_leave k.device file → Stands (text_in_journal g.D.Device.seen k ++ k.waiting) file) c.self.view_is
    (λ file left. subst (λ (t : List ℕ). Stands t file) all (open_stands g.D.Device.seen g.D.Device.may_leave own.device own.second own.size (length own.waiting.items) (c.self.invariant c.if-self.false) file left))

pub returns-then-is_empty-clause-any_moment : goal.returns-then-is_empty-clause-any_moment
returns-then-is_empty-clause-any_moment g c =
    let own = c.self.inside in
    let stands = open_stands g.D.Device.seen g.D.Device.may_leave own.device own.second own.size (length own.waiting.items) (c.self.invariant c.if-self.false) in
    λ whole. subst (λ k. LeavesOnly g.D.Device.moment g.D.Device.left_since k.device k.device (StandsBeforeOrAfter (text_in_journal g.D.Device.seen k) k.waiting)) c.self.view_is
    (started g.D.Device.moment g.D.Device.left_since own.device _ (λ f left. inl (stands f (g.met.D.Device.only_now own.device f left))))

pub returns-in_err-make_durable-clause-any_moment : goal.returns-in_err-make_durable-clause-any_moment
returns-in_err-make_durable-clause-any_moment g c =
    let own = c.self.inside in
    λ whole. subst (λ k. LeavesOnly g.D.Device.moment g.D.Device.left_since k.device c.make_durable.new.device (StandsBeforeOrAfter (text_in_journal g.D.Device.seen k) k.waiting)) c.self.view_is
    (subst (λ m. LeavesOnly g.D.Device.moment g.D.Device.left_since own.device c.make_durable.new.device (StandsBeforeOrAfter (text_of (g.D.Device.seen own.device)) m)) c.deref.ensures.value c.make_durable.ensures.any_moment)

pub returns-clause-any_moment : goal.returns-clause-any_moment
returns-clause-any_moment g c =
    let own = c.self.inside in
    λ whole. subst (λ k. LeavesOnly g.D.Device.moment g.D.Device.left_since k.device c.make_durable.new.device (StandsBeforeOrAfter (text_in_journal g.D.Device.seen k) k.waiting)) c.self.view_is
    (subst (λ m. LeavesOnly g.D.Device.moment g.D.Device.left_since own.device c.make_durable.new.device (StandsBeforeOrAfter (text_of (g.D.Device.seen own.device)) m)) c.deref.ensures.value c.make_durable.ensures.any_moment)

pub invariant_of-self-2 : goal.invariant_of-self-2
invariant_of-self-2 g c =
    let own = c.self.inside in
    let size : own.size + length c.deref.result.now ≡ own.size + c.len.result = search rules in
    let none : length c.clear.new.self.items ≡ 0 = ap length c.clear.ensures.items in
    let all : vec_len own.waiting ≡ length own.waiting.items = search rules in
    let some = subst (λ n. 0 < n) all (positive (vec_len own.waiting) (eqb-false (vec_len own.waiting) 0 (sym c.is_empty.ensures ∙ c.if-is_empty.false))) in
    let waiting : length c.deref.result.now ≡ length own.waiting.items = ap length c.deref.ensures.value in
    let few = (c.self.invariant c.if-self.false).few some in
    λ whole. record {
      head = subst (λ n. HasHead (not own.second) n (g.D.Device.seen c.make_durable.new.device)) size c.in_ok-make_durable.ensures.head;
      durable = c.in_ok-make_durable.ensures.durable;
      fits = omega (arith, few, waiting, size);
      few = λ more. absurd (omega (arith, none, more));
    }

pub returns-clause-crash : goal.returns-clause-crash
returns-clause-crash g c =
    let own = c.self.inside in
    let new = g.D.Device.seen c.make_durable.new.device in
    let text : text_of new ≡ text_of (g.D.Device.seen own.device) ++ own.waiting.items =
    subst (λ m. text_of new ≡ text_of (g.D.Device.seen own.device) ++ m) c.deref.ensures.value c.in_ok-make_durable.ensures.text in
    let now : text_of new ≡ text_in_journal g.D.Device.seen c.args.self.now ++ c.args.self.now.waiting = text ∙ ap (λ k. text_in_journal g.D.Device.seen k ++ k.waiting) c.self.view_is in
    λ file left. subst (Stands (text_in_journal g.D.Device.seen c.args.self.now ++ c.args.self.now.waiting)) (sym (c.in_ok-make_durable.ensures.durable file left))
    (record { says = now; whole = head_whole _ _ new c.in_ok-make_durable.ensures.head })
