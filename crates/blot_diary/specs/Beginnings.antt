-- Whose journal a text is, and of which day: what its first frame says.
use Rattle.std.specs.Prelude.{ℕ, List, Option, Some, None, option_and_then}
use Rattle.blot_tag.specs.Fields.{fields_of}
use Rattle.blot_tag.specs.Walking.{first_frame}
use Rattle.blot_diary.specs.declared.{kept.Beginning.Beginning, kept.Content.Content, kept.Kept.Kept}
use Rattle.blot_diary.specs.declared.kept.Content.TheVariants as contents
use Rattle.blot_diary.specs.Keeping.{kept_of}

-- a journal is its sender's
abbrev pub begun_said : List ℕ → Content → Option Beginning
begun_said from (contents.Beginning day) = Some (record { own = from; day = day })
begun_said from content = None

-- what begins with a frame, if a journal does
abbrev pub begun_by : Kept → Option Beginning
begun_by kept = begun_said kept.from kept.content

-- what a text begins with
abbrev pub beginning_of : List ℕ → Option Beginning
beginning_of text = option_and_then begun_by (option_and_then (λ frame. kept_of (fields_of frame)) (first_frame text))
