use Rattle.std.proofs.Common.{◌≡◌, [], subst, sym, All}
use Rattle.std.proofs.lemmas.List.Elements.{All-take}
use Rattle.blot_types.proofs.GeneralLemmas.{on-ok}
use Rattle.blot_stream.proofs.ResultLemmas.{ok-says}
use Rattle.blotter.proofs.ServingLemmas.{of-some}
use Rattle.blotter.proofs.staffed_day.serve_staffed_day.Goals as goal

pub first_peers-requires-clause-empty : goal.first_peers-requires-clause-empty
first_peers-requires-clause-empty g c =
    subst (All (λ receipts. receipts ≡ [])) (sym c.in_ok-spare.ensures.items) (All-take (λ receipts. receipts ≡ []) _ c.in_ok-desk.seats.items c.in_ok-desk.ensures.empty)

pub returns : goal.returns
returns g c = record {
  served = on-ok c.ended.result c.ended.ensures.ok (λ all.
      (c.in_ok-staffed.staffed.seats.items, ok-says _ all.1 (of-some _ _ _ _ _ _ _ c.report_kept-reported.ensures.reported)));
}
