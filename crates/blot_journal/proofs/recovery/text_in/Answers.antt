use Rattle.std.proofs.Common.{take, refl, arith}
use Rattle.blot_journal.proofs.RecoveryLemmas.{front_read, head_fault, read_text, read_whole}
use Rattle.blot_journal.proofs.recovery.text_in.Goals as goal

pub returns-in-Ok-clause-text : goal.returns-in-Ok-clause-text
returns-in-Ok-clause-text c = read_text c.args.file.now c.in-Ok.counted.second c.in-Ok.counted.size c.in-Ok.ensures.counted _ (omega arith)

pub returns-in-Ok-clause-whole : goal.returns-in-Ok-clause-whole
returns-in-Ok-clause-whole c =
    read_whole c.args.file.now c.in-Ok.counted.second c.in-Ok.counted.size c.in-Ok.ensures.counted c.if-file-lt-HEAD.false

pub returns-in-Err-clause-refused : goal.returns-in-Err-clause-refused
returns-in-Err-clause-refused c =
    let file = c.args.file.now in
    head_fault file (take 4096 file) (front_read file (take 4096 file) refl) c.if-file-lt-HEAD.false c.in-Err.fault c.in-Err.ensures.refused
