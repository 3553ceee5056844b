-- How replies and refusals are told. Words are divided by tabs, and each line ends with LF. Source: this project's rule.
use Rattle.std.specs.Prelude.{ℕ, ℤ, List, [], ◌∷◌, ◌++◌, codes, decimal}
use Rattle.blot_decimal.specs.Printed.{printed}
use Rattle.blot_types.specs.declared.{keys.ExecKey.ExecKey, refused.Refused.Refused}
use Rattle.blot_types.specs.declared.refused.Refused.TheVariants.{DuplicateExec, DuplicateAlloc, UnknownAlloc, DeadAlloc, UnknownExec, BustedExec, RepeatedExec, ExecTaken, Instrument, Quantity, NotLive, Needed, NothingToUndo, Moved, NothingToRedo}
use Rattle.blot_types.specs.RefusalNames.{refused_number, refused_name}
use Rattle.blot_desk.specs.declared.event.Reply.{Reply}
use Rattle.blot_desk.specs.declared.event.Reply.TheVariants as replies

-- a word after a tab
abbrev pub word_text : List ℕ → List ℕ
word_text word = 9 ∷ word

-- a number after a tab
abbrev pub number_text : ℕ → List ℕ
number_text number = word_text (decimal number)

-- an execution after a tab: its peer and its ExecID
abbrev pub exec_text : ExecKey → List ℕ
exec_text key = word_text key.peer ++ word_text key.id

-- two quantities, each after a tab
abbrev pub quantities_text : ℤ → ℤ → List ℕ
quantities_text wanted found = word_text (printed 6 wanted) ++ word_text (printed 6 found)

-- what a refusal tells after its name
abbrev pub values_text : Refused → List ℕ
values_text (DuplicateExec number) = number_text number
values_text (DuplicateAlloc number) = number_text number
values_text UnknownAlloc = []
values_text (DeadAlloc number) = number_text number
values_text (UnknownExec key) = exec_text key
values_text (BustedExec number) = number_text number
values_text (RepeatedExec key) = exec_text key
values_text (ExecTaken number) = number_text number
values_text (Instrument key) = exec_text key
values_text (Quantity wanted found) = quantities_text wanted found
values_text (NotLive number) = number_text number
values_text (Needed number) = number_text number
values_text NothingToUndo = []
values_text (Moved newest) = number_text newest
values_text NothingToRedo = []

-- a refusal: its number, its name and its values
abbrev pub refused_text : Refused → List ℕ
refused_text refused =
    codes "refused" ++ number_text (refused_number refused) ++ word_text (refused_name refused) ++ values_text refused ++ 10 ∷ []

-- a line of one word
abbrev pub word_line : List ℕ → List ℕ
word_line name = name ++ 10 ∷ []

-- a line of a word and a number
abbrev pub number_line : List ℕ → ℕ → List ℕ
number_line name number = name ++ number_text number ++ 10 ∷ []

-- a reply; the line of an order or of a position is told with the key that was asked for
abbrev pub reply_text : Reply → List ℕ
reply_text (replies.Accepted number) = number_line (codes "accepted") number
reply_text (replies.Refused refused) = refused_text refused
reply_text (replies.Undone number) = number_line (codes "undone") number
reply_text (replies.Redone number) = number_line (codes "redone") number
reply_text (replies.Order line) = []
reply_text (replies.Position line) = []

-- a reply that is told without a key
abbrev pub IsTold : Reply → Type 0
IsTold (replies.Order line) = ⊥
IsTold (replies.Position line) = ⊥
IsTold _ = Unit {0}
