-- What the frame of a command keeps.
use Rattle.std.proofs.Common.{List, ap, ◌∙◌, option_and_then}
use Rattle.blot_tag.specs.Fields.{Item}
use Rattle.blot_diary.specs.Events.{IsItsSubmit, noted_by, noted_of}
use Rattle.blot_diary.specs.Keeping.{content_by, kept_of, kept_said}
use Rattle.blot_diary.specs.Kinds.{kind_of}

pub its_submit : (items : List Item) → IsItsSubmit items
unfolding kept_of
its_submit items message command is gives =
    ap (λ said. option_and_then noted_of (kept_said said items)) is
    ∙ ap (λ command. noted_by message.head.sender (content_by command (kind_of message.head.kind) items)) gives
