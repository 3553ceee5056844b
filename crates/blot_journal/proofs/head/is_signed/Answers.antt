use Rattle.blot_journal.specs.File.{signature, signed_in}
use Rattle.blot_journal.proofs.RecoveryLemmas.{decided}
use Rattle.blot_journal.proofs.head.is_signed.Goals as goal

pub returns : goal.returns
returns c = decided (signed_in c.args.head.now) c.as_slice.result.now signature c.eq.result c.eq.ensures c.as_slice.ensures
