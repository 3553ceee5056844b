use Rattle.blot_session.proofs.StateLemmas.{row_fits_reply}
use Rattle.blot_session.proofs.taking.reply_by_row.Goals as goal

pub take_row-outcome-requires-clause-fits : goal.take_row-outcome-requires-clause-fits
take_row-outcome-requires-clause-fits c =
    row_fits_reply c.args.state.now c.args.reply c.row_of_reply-row.result c.row_of_reply-row.ensures c.requires.within c.requires.awaiting
