-- What a message that is kept says of the two numbers of a peer's session. Source: this project's rule.
use Rattle.std.specs.Prelude.{◌≡◌, ℕ, ◌+◌, ◌&&◌, List, not, IsOk, Ok, if◌then◌else◌}
use Rattle.blot_tag.specs.Fields.{fields_of}
use Rattle.blot_types.specs.Keys.{same_text}
use Rattle.blot_fields.specs.Decoding.{decoded}
use Rattle.blot_fields.specs.declared.message.Message.{Message}

-- a text that is one message without an event, by what texts say of both numbers: if the blotter sent it to the peer for the first time, the number
-- after its own is the peer's next; nothing else changes
pub record CountsItself (spells_none : List ℕ → Type 0) (numbers_after : List ℕ → List ℕ → List ℕ → ℕ × ℕ → ℕ × ℕ) (text : List ℕ) : Type 0 where
  pub quiet : spells_none text
  pub read : IsOk (decoded (fields_of text))
  pub counts : (message : Message) → decoded (fields_of text) ≡ Ok message → (own peer : List ℕ) (numbers : ℕ × ℕ)
      → numbers_after own peer text numbers
      ≡ (numbers.0, if same_text message.head.sender own && same_text message.head.target peer && not message.head.dup then message.head.number + 1 else numbers.1)
