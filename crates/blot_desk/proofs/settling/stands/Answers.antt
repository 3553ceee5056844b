use Rattle.std.proofs.Common.{◌∙◌, ap, sym, Some, arith}
use Rattle.std.proofs.lemmas.Bool.Decides.{Decides-at}
use Rattle.std.proofs.lemmas.Option.{slice_get-get_or, slice_get_within}
use Rattle.blot_desk.proofs.EqualLemmas.{event_same, reply_same, told}
use Rattle.blot_desk.proofs.MarkLemmas.{stands_by}
use Rattle.blot_desk.proofs.settling.stands.Goals as goal

pub returns-then-eq : goal.returns-then-eq
returns-then-eq c =
    let at = c.in-Some.ensures.lookup.3 in
    let event = Decides-at _ _ c.eq.ensures (event_same _ _) in
    record {
      stands = stands_by c.args.history.now c.args.receipt.now c.in-Some.recorded.now _ (slice_get-get_or c.args.history.now c.args.receipt.now.place c.in-Some.recorded.now at.0 ∙ ap Some (sym (at.1 c.in-Some.recorded.now)))
          (told (Decides-at _ _ c.eq-then-eq.ensures (reply_same _ _)) (λ reply. (event.0 c.if-eq.true, reply)) (λ both. both.1));
      within = λ yes. at.0;
    }

pub returns-else-eq : goal.returns-else-eq
returns-else-eq c =
    let at = c.in-Some.ensures.lookup.3 in
    let event = Decides-at _ _ c.eq.ensures (event_same _ _) in
    record {
      stands = stands_by c.args.history.now c.args.receipt.now c.in-Some.recorded.now _ (slice_get-get_or c.args.history.now c.args.receipt.now.place c.in-Some.recorded.now at.0 ∙ ap Some (sym (at.1 c.in-Some.recorded.now)))
          (λ yes. cc, λ both. event.1 both.0);
      within = λ yes. at.0;
    }

pub returns-in-None : goal.returns-in-None
returns-in-None c = record {
  stands = (λ yes. cc, λ stands. absurd (omega (arith, slice_get_within c.args.history.now c.args.receipt.now.place _ stands, c.in-None.ensures.lookup)));
  within = λ yes. cc;
}
