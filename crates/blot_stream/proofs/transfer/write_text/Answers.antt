use Rattle.std.proofs.Common.{[], append-nil}
use Rattle.std.proofs.KnownBytes.{Appends-kept}
use Rattle.blot_types.proofs.GeneralLemmas.{on_err}
use Rattle.blot_stream.proofs.transfer.write_text.Goals as goal

pub returns-clause-err : goal.returns-clause-err
returns-clause-err g c =
    let text = c.args.text.now in
    on_err c.flush.result (text, [], append-nil text, Appends-kept _ _ _ _ c.in_ok-write_all.ensures.ok c.flush.ensures.kept)
