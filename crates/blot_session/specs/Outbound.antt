-- The messages that a session sends (FIX 4.4 volume 2, "Administrative messages" and "Business Message Reject"; volume 5,
-- "Allocation Instruction Ack").
use Rattle.std.specs.Prelude.{◌≡◌, ◌<◌, ◌≤◌, ℕ, ◌+◌, ◌==◌, nat_lt, ◌&&◌, All, Bool, true, false, not, ℤ, List, [], ◌∷◌, ◌++◌, length, codes, Option, Some, None, if◌then◌else◌, decimal}
use Rattle.blot_time.specs.Moment.{moment_text}
use Rattle.blot_tag.specs.Fields.{TagValue, field_of}
use Rattle.blot_tag.specs.Writing.{Written, frame_of, has_soh, is_data_tag, is_own_tag}
use Rattle.blot_types.specs.RefusalNames.{reject_code}
use Rattle.blot_session.specs.declared.{outbound.Outbound.Outbound, replies.SeenReply.SeenReply, state.State.State}
use Rattle.blot_session.specs.declared.outbound.Outbound.TheVariants.{Logon, Heartbeat, TestRequest, ResendRequest, Reject, GapFill, Logout, Unsupported, AllocationAck}
use Rattle.blot_session.specs.declared.replies.SeenReply.TheVariants.{Accepted, Refused}

-- MsgType
abbrev pub kind_of : Outbound → List ℕ
kind_of (Logon heartbeat reset) = codes "A"
kind_of (Heartbeat id) = codes "0"
kind_of TestRequest = codes "1"
kind_of (ResendRequest begin) = codes "2"
kind_of (Reject number tag reason) = codes "3"
kind_of (GapFill begin) = codes "4"
kind_of Logout = codes "5"
kind_of (Unsupported number kind) = codes "j"
kind_of (AllocationAck id reply) = codes "P"

-- the number that a message is sent under: a gap fill has that of the first message that it stands for
abbrev pub number_of : Outbound → ℕ → ℕ
number_of (GapFill begin) next = begin
number_of message next = next

-- the next number to send after it: a gap fill uses none up
abbrev pub next_behind : Outbound → ℕ → ℕ
next_behind (GapFill begin) next = next
next_behind message next = next + 1

-- a field that is there where this is so
abbrev pub field_if : Bool → ℕ → List ℕ → List TagValue
field_if there tag value = if there then field_of tag value ∷ [] else []

-- TestReqID, where a TestRequest is answered
abbrev pub id_fields : Option (List ℕ) → List TagValue
id_fields (Some id) = field_of 112 id ∷ []
id_fields None = []

-- AllocStatus, and AllocRejCode for a refusal
abbrev pub status_fields : SeenReply → List TagValue
status_fields Accepted = field_of 87 (codes "0") ∷ []
status_fields (Refused refusal) = field_of 87 (codes "1") ∷ field_of 88 (decimal (reject_code refusal)) ∷ []

-- what stands after the header: of a Logon
abbrev pub logon_fields : ℕ → Bool → List TagValue
logon_fields heartbeat reset = field_of 98 (codes "0") ∷ field_of 108 (decimal heartbeat) ∷ field_if reset 141 (codes "Y")

-- of a Resend Request, which asks for all from a number on
abbrev pub resend_fields : ℕ → List TagValue
resend_fields begin = field_of 7 (decimal begin) ∷ field_of 16 (codes "0") ∷ []

-- of a Reject, which names a tag where there is one
abbrev pub reject_fields : ℕ → ℕ → ℕ → List TagValue
reject_fields number tag reason =
    field_of 45 (decimal number) ∷ (field_if (not (tag == 0)) 371 (decimal tag) ++ field_of 373 (decimal reason) ∷ [])

-- of a gap fill up to a number
abbrev pub gap_fill_fields : ℕ → List TagValue
gap_fill_fields next = field_of 123 (codes "Y") ∷ field_of 36 (decimal next) ∷ []

-- of a Business Message Reject: this type of message isn't supported
abbrev pub unsupported_fields : ℕ → List ℕ → List TagValue
unsupported_fields number kind = field_of 45 (decimal number) ∷ field_of 372 kind ∷ field_of 380 (codes "3") ∷ []

-- of an Allocation Instruction Ack
abbrev pub ack_fields : List ℕ → SeenReply → ℤ → List TagValue
ack_fields id reply now = field_of 70 id ∷ field_of 60 (moment_text now) ∷ status_fields reply

-- of a message, where this is the next number to send
abbrev pub body_fields : Outbound → ℕ → ℤ → List TagValue
body_fields (Logon heartbeat reset) next now = logon_fields heartbeat reset
body_fields (Heartbeat id) next now = id_fields id
body_fields TestRequest next now = field_of 112 (decimal next) ∷ []
body_fields (ResendRequest begin) next now = resend_fields begin
body_fields (Reject number tag reason) next now = reject_fields number tag reason
body_fields (GapFill begin) next now = gap_fill_fields next
body_fields Logout next now = []
body_fields (Unsupported number kind) next now = unsupported_fields number kind
body_fields (AllocationAck id reply) next now = ack_fields id reply now

-- whether a message stands for others that were sent before
abbrev pub is_gap_fill : Outbound → Bool
is_gap_fill (GapFill begin) = true
is_gap_fill message = false

-- the header: SenderCompID, TargetCompID, MsgSeqNum and SendingTime; a gap fill is marked as sent before, by
-- PossDupFlag and OrigSendingTime
abbrev pub header_fields : State → Outbound → ℤ → List TagValue
header_fields state message now =
    field_of 49 state.own ∷ field_of 56 state.peer ∷ field_of 34 (decimal (number_of message state.next))
    ∷ (field_if (is_gap_fill message) 43 (codes "Y")
    ++ field_of 52 (moment_text now) ∷ field_if (is_gap_fill message) 122 (moment_text now))

-- the bytes of a message
unfoldable pub text_of : State → Outbound → ℤ → List ℕ
text_of state message now = frame_of (record {
  kind = kind_of message;
  fields = header_fields state message now ++ body_fields message state.next now;
})

-- a message with some fields more
abbrev pub with_fields : Written → List TagValue → Written
with_fields written fields = record { kind = written.kind; fields = written.fields ++ fields }

-- a tag that a message has after its kind, and that isn't data
abbrev pub is_plain_tag : ℕ → Bool
is_plain_tag tag = nat_lt 0 tag && nat_lt tag 1000 && not (is_own_tag tag) && not (is_data_tag tag)

-- a value of 1 to 64 bytes without an SOH, as each field of a sent message has
pub record IsShort (value : List ℕ) : Type 0 where
  pub some : 0 < length value
  pub few : length value ≤ 64
  pub plain : has_soh value ≡ false

-- all values of some fields are
abbrev pub AreShort : List TagValue → Type 0
AreShort fields = All (λ field. IsShort field.value) fields
