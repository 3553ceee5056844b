use Rattle.std.proofs.Common.{[], ◌∷◌, ◌++◌, ap, rules, ◌∙◌}
use Rattle.blotter.proofs.ServingLemmas.{served-by}
use Rattle.blotter.proofs.open_day.serve_desk.Goals as goal

pub returns-clause-told : goal.returns-clause-told
returns-clause-told g c =
    let brokers = c.in_ok-brokers.brokers.items in
    served-by c.in_ok-answered.answered g.K.Keeper.IsKept c.args.operator c.in_ok-answered.operator c.args.others.items brokers _ _ _ _ (search rules) c.in_ok-brokers.ensures.submits
    (c.in_ok-seats.ensures ∙ ap (λ seats. seats ++ c.args.others.items) (c.in_ok-all_seats.ensures ∙ ap (λ receipts. brokers ++ (receipts ∷ [])) c.into_seat.ensures))
