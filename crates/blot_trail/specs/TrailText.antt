-- The text of an audit trail. Words are divided by tabs, and each line ends with LF. Source: this project's rule.
use Rattle.std.specs.Prelude.{ℕ, zero, suc, ◌+◌, ◌==◌, List, [], ◌∷◌, ◌++◌, length, map, filter, codes, Option, Some, None, if◌then◌else◌, flat_map}
use Rattle.blot_tag.specs.Fields.{Item, fields_of}
use Rattle.blot_types.specs.Keys.{same_text}
use Rattle.blot_fields.specs.declared.head.Head.{Head}
use Rattle.blot_fields.specs.Numbers.{head_in}
use Rattle.blot_fields.specs.First.{first_text}
use Rattle.blot_fields.specs.Sender.{sender_of}
use Rattle.blot_session.specs.declared.{action.Action.Action, action.Action.TheVariants.Send, met.Met.Met}
use Rattle.blot_session.specs.declared.met.Met.TheVariants as met
use Rattle.blot_session.specs.Runs.{said_by}
use Rattle.blot_session.specs.CloseNames.{close_name, close_number}
use Rattle.blot_desk.specs.declared.{event.Reply.Reply, event.Reply.TheVariants.Accepted}
use Rattle.blot_console.specs.Replies.{IsTold, number_line, number_text, reply_text, word_text, word_line}
use Rattle.blot_capture.specs.declared.became.Became.{Became}
use Rattle.blot_capture.specs.declared.became.Became.TheVariants as became
use Rattle.blot_trail.specs.declared.word.Word.{Word}
use Rattle.blot_trail.specs.declared.word.Word.TheVariants as words

-- ---- the words of a message

-- a text, or `-` where there is none
abbrev pub word_or_dash : Option (List ℕ) → List ℕ
word_or_dash None = codes "-"
word_or_dash (Some word) = word

-- the tag of what a message is known by: ExecID(17) of an Execution Report, AllocID(70) of an Allocation Instruction
abbrev pub id_tag_of : List ℕ → Option ℕ
id_tag_of kind =
    if same_text kind (codes "8") then Some 17
    else (if same_text kind (codes "J") then Some 70 else None)

-- what it is known by
abbrev pub id_by : Option ℕ → List Item → Option (List ℕ)
id_by None items = None
id_by (Some tag) items = first_text tag items

-- MsgSeqNum, MsgType and that, of a message whose header can be read
abbrev pub head_text : Option Head → List Item → List ℕ
head_text None items = codes "\t-\t-\t-"
head_text (Some head) items = number_text head.number ++ word_text head.kind ++ word_text (word_or_dash (id_by (id_tag_of head.kind) items))

-- ---- what became of it, to the end of its line

-- (a delivered command is told by the reply to it)
abbrev pub met_text : Met → List ℕ
met_text (met.Closed reason) = codes "closed" ++ number_text (close_number reason) ++ word_text (close_name reason) ++ 10 ∷ []
met_text met.Delivered = word_line (codes "taken")
met_text (met.Rejected tag reason) = codes "rejected" ++ number_text tag ++ number_text reason ++ 10 ∷ []
met_text met.Unsupported = word_line (codes "unsupported")
met_text (met.Early expected) = number_line (codes "early") expected
met_text (met.Late expected) = number_line (codes "late") expected
met_text met.Taken = word_line (codes "taken")

abbrev pub became_text : Became → List ℕ
became_text became.Passed = word_line (codes "passed")
became_text (became.Met met) = met_text met
became_text (became.Replied reply) = reply_text reply

-- ---- lines

-- SOH is shown as a bar
abbrev pub shown_byte : ℕ → ℕ
shown_byte byte = if byte == 1 then 124 else byte

-- a message that would be sent
abbrev pub sent_text : List ℕ → List ℕ
sent_text text = codes "sent" ++ word_text (map shown_byte text) ++ 10 ∷ []

-- what an action would send; one that sends nothing has no line
abbrev pub action_text : Action → List ℕ
action_text (Send bytes) = sent_text bytes
action_text action = []

-- what is told of a message after its place and where it begins: its words, to the end of its line, and the lines of what is sent
abbrev pub tail_text : List ℕ → Became → List Action → List ℕ
tail_text frame became actions =
    word_text (word_or_dash (sender_of (fields_of frame)))
    ++ head_text (head_in (said_by frame)) (fields_of frame)
    ++ 9 ∷ became_text became
    ++ flat_map action_text actions

-- its line and those after it
abbrev pub message_text : ℕ → ℕ → List ℕ → List ℕ
message_text place offset tail = codes "message" ++ number_text place ++ number_text offset ++ tail

-- bytes that are passed over, or left at the end: their first one and how many; none have no line
unfoldable pub bytes_text : List ℕ → ℕ → ℕ → List ℕ
bytes_text word offset zero = []
bytes_text word offset (suc count) = word ++ number_text offset ++ number_text (suc count) ++ 10 ∷ []

-- ---- sums

-- the word of what became of a message
abbrev pub word_of_met : Met → Word
word_of_met (met.Closed reason) = words.Closed
word_of_met met.Delivered = words.Taken
word_of_met (met.Rejected tag reason) = words.Rejected
word_of_met met.Unsupported = words.Unsupported
word_of_met (met.Early expected) = words.Early
word_of_met (met.Late expected) = words.Late
word_of_met met.Taken = words.Taken

abbrev pub word_of_reply : Reply → Word
word_of_reply (Accepted number) = words.Accepted
word_of_reply reply = words.Refused

abbrev pub word_of : Became → Word
word_of became.Passed = words.Passed
word_of (became.Met met) = word_of_met met
word_of (became.Replied reply) = word_of_reply reply

-- its name
abbrev pub word_name : Word → List ℕ
word_name words.Accepted = codes "accepted"
word_name words.Refused = codes "refused"
word_name words.Rejected = codes "rejected"
word_name words.Unsupported = codes "unsupported"
word_name words.Taken = codes "taken"
word_name words.Early = codes "early"
word_name words.Late = codes "late"
word_name words.Closed = codes "closed"
word_name words.Passed = codes "passed"

-- its place among the sums, from 0
abbrev pub word_place : Word → ℕ
word_place words.Accepted = 0
word_place words.Refused = 1
word_place words.Rejected = 2
word_place words.Unsupported = 3
word_place words.Taken = 4
word_place words.Early = 5
word_place words.Late = 6
word_place words.Closed = 7
word_place words.Passed = 8

-- how often a word is among some
abbrev pub times : Word → List Word → ℕ
times word all = length (filter (λ other. word_place other == word_place word) all)

-- a sum
unfoldable pub sum_text : List ℕ → ℕ → List ℕ
sum_text name count = codes "sum" ++ word_text name ++ number_text count ++ 10 ∷ []

unfoldable pub word_sum : List Word → Word → List ℕ
word_sum all word = sum_text (word_name word) (times word all)

-- the sums of all words, in their order
unfoldable pub word_sums : List Word → List ℕ
word_sums all =
    word_sum all words.Accepted ++ word_sum all words.Refused ++ word_sum all words.Rejected ++ word_sum all words.Unsupported
    ++ word_sum all words.Taken ++ word_sum all words.Early ++ word_sum all words.Late ++ word_sum all words.Closed
    ++ word_sum all words.Passed

-- ---- a trail

-- the last lines: what is passed over after the last message, which ends at this place, and the rest after it; the sums, of which the
-- last but one is all that is passed over; and how many messages there are
abbrev pub last_text : List Word → ℕ → ℕ → ℕ → ℕ → List ℕ
last_text all end passed skipped rest =
    bytes_text (codes "skipped") end passed
    ++ bytes_text (codes "rest") (end + passed) rest
    ++ word_sums all
    ++ sum_text (codes "skipped") skipped
    ++ sum_text (codes "rest") rest
    ++ number_line (codes "end") (length all)

-- ---- what can be told

-- a reply to a command is told without a key
abbrev pub IsToldOf : Became → Type 0
IsToldOf (became.Replied reply) = IsTold reply
IsToldOf became = Unit {0}
