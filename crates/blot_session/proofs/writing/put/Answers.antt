use Rattle.std.proofs.Common.{length}
use Rattle.blot_tag.specs.Writing.{body_of}
use Rattle.blot_session.proofs.TextLemmas.{put-fault, put-short, put-size}
use Rattle.blot_session.proofs.writing.put.Goals as goal

pub out_of_memory-requires : goal.out_of_memory-requires
out_of_memory-requires c =
    put-fault (length (body_of c.args.text.now)) c.args.tag c.args.value.now c.in-Err.fault c.requires.room c.requires.tag c.requires.value c.in-Err.ensures.refused

pub returns-in-Ok-clause-size : goal.returns-in-Ok-clause-size
returns-in-Ok-clause-size c = put-size c.args.text.now c.put.new.self c.args.tag c.args.value.now c.requires.tag c.requires.value c.in-Ok.ensures.ok

pub returns-in-Ok-clause-short : goal.returns-in-Ok-clause-short
returns-in-Ok-clause-short c = put-short c.args.text.now c.put.new.self c.args.tag c.args.value.now c.requires.value c.in-Ok.ensures.ok c.requires.short
