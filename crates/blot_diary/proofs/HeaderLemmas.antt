-- A frame of fields without a fault that has no table is read again.
use Rattle.std.proofs.Common.{◌≡◌, ℕ, ◌≤◌, true, List, [], ◌∷◌, length, map, Ok, ap, ◌∙◌, ℤ, decimal}
use Rattle.blot_time.specs.Moment.{moment_text}
use Rattle.blot_tag.specs.Frames.{IsFrame}
use Rattle.blot_tag.specs.Writing.{Written, frame_fields, frame_of}
use Rattle.blot_types.specs.Text.{is_text}
use Rattle.blot_fields.specs.Decoding.{decoded, message_of, message_under}
use Rattle.blot_fields.specs.declared.message.Body.TheVariants as bodies
use Rattle.blot_fields.specs.Kinds.{kind_of}
use Rattle.blot_fields.specs.Messages.{body_of as body_by}
use Rattle.blot_fields.specs.Rows.{values}
use Rattle.blot_session.proofs.HeaderLemmas.{EachSome, HasHeader, IsReadable, decoded-whole, head_of-plain, head_with}

-- a message has this header, and no table but that; no field is empty
pub record IsHeaded (message : Written) (own to : List ℕ) (number : ℕ) (now : ℤ) : Type 0 where
  pub kind : is_text message.kind ≡ true
  pub kinds : values 35 (frame_fields message) ≡ message.kind ∷ []
  pub from : values 49 (frame_fields message) ≡ own ∷ []
  pub target : values 56 (frame_fields message) ≡ to ∷ []
  pub numbered : values 34 (frame_fields message) ≡ decimal number ∷ []
  pub sent : values 52 (frame_fields message) ≡ moment_text now ∷ []
  pub once : values 43 (frame_fields message) ≡ []
  pub body : body_by (kind_of message.kind) (frame_fields message) ≡ Ok bodies.Other
  pub some : EachSome message.fields
  pub few : length message.fields ≤ 100

pub decoded-plain : (message : Written) (own to : List ℕ) (number : ℕ) (now : ℤ) → IsFrame (frame_of message) → IsHeaded message own to number now
    → IsReadable own to number now → decoded (map Ok (frame_fields message)) ≡ Ok (record {
      head = head_with message.kind own to number now;
      body = bodies.Other;
    })
decoded-plain message own to number now valid has reads =
    let fields = frame_fields message in
    let header : HasHeader fields message.kind own to number now = record { kinds = has.kinds; from = has.from; target = has.target; numbered = has.numbered; sent = has.sent; once = has.once } in
    decoded-whole message valid has.kind has.some has.few
    ∙ ap (λ head. message_of head fields) (head_of-plain fields message.kind own to number now has.kind header reads)
    ∙ ap (message_under (head_with message.kind own to number now)) has.body
