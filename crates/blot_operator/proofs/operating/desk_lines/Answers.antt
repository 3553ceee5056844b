use Rattle.std.proofs.lemmas.Result.{on_err_weaker}
use Rattle.blot_types.proofs.GeneralLemmas.{on-ok}
use Rattle.blot_stream.proofs.ResultLemmas.{if-some}
use Rattle.blot_operator.proofs.OperatingLemmas.{own-told, own-stopped}
use Rattle.blot_operator.proofs.operating.desk_lines.Goals as goal

pub returns-clause-desk : goal.returns-clause-desk
returns-clause-desk g c =
    on-ok c.answer_lines.result c.answer_lines.ensures.told
    (λ told. if-some _ _ (g.R.Read.remaining c.args.input.now) told (λ bytes told. (own-told _ _ _ _ _ told).0))

pub returns-clause-wrote : goal.returns-clause-wrote
returns-clause-wrote g c =
    on-ok c.answer_lines.result c.answer_lines.ensures.told
    (λ told. if-some _ _ (g.R.Read.remaining c.args.input.now) told (λ bytes told. (own-told _ _ _ _ _ told).1))

pub returns-clause-fault : goal.returns-clause-fault
returns-clause-fault g c =
    on_err_weaker c.answer_lines.result
    (λ stopped. if-some _ _ (g.R.Read.remaining c.args.input.now) stopped (λ bytes stopped. own-stopped _ _ _ _ _ stopped))
    c.answer_lines.ensures.fault
