-- A message that is kept as it is brings no event, and counts itself.
use Rattle.std.proofs.Common.{◌≡◌, ℕ, ◌+◌, Bool, true, false, not, List, Option, Some, None, Result, Ok, Err, refl, ap, ◌∙◌, ◌↔◌, ◌&&◌, IfOk, IsOk, IsTrue, if◌then◌else◌, option_and_then}
use Rattle.std.specs.Option.{option_map_or}
use Rattle.blot_tag.specs.Fields.{Item, fields_of}
use Rattle.blot_types.specs.Keys.{same_text}
use Rattle.blot_fields.specs.Decoding.{decoded}
use Rattle.blot_fields.specs.declared.{fault.FieldFault.FieldFault, message.Message.Message}
use Rattle.blot_gateway.specs.Counting.{CountsItself}
use Rattle.blot_diary.specs.declared.{kept.Content.Content, kept.Kept.Kept}
use Rattle.blot_diary.specs.declared.kept.Content.TheVariants as contents
use Rattle.blot_diary.specs.Events.{IsPlain, IsQuiet, is_message, noted_by, noted_of}
use Rattle.blot_diary.specs.Keeping.{content_of, kept_of, kept_said}
use Rattle.blot_diary.specs.Laws.{kept_from}
use Rattle.blot_diary.specs.Numbering.{numbers_after, pair_behind, pair_of}

abbrev plain_kept : Option Kept → Bool
plain_kept kept = option_map_or (λ (kept : Kept). is_message kept.content) kept false

-- it brings no event
none_of : (kept : Option Kept) → plain_kept kept ≡ true → option_and_then noted_of kept ≡ None
none_of None is = absurd cc
none_of (Some kept) is = by_content kept.content is
  where
    by_content : (content : Content) → is_message content ≡ true → noted_by kept.from content ≡ None
    by_content contents.Message is = refl
    by_content (contents.Command command) is = absurd cc
    by_content (contents.Beginning day) is = absurd cc
    by_content (contents.Asked operator event) is = absurd cc
    by_content (contents.Numbers numbers) is = absurd cc
    by_content contents.Wrapped is = absurd cc
    by_content contents.Unclear is = absurd cc

-- its message is without a fault
read_of : (said : Result Message FieldFault) (items : List Item) → plain_kept (kept_said said items) ≡ true → IsOk said
read_of (Ok message) items is = refl
read_of (Err fault) items is = absurd cc

-- a pair of numbers
abbrev both : ℕ → ℕ → ℕ × ℕ
both expected next = (expected, next)

-- the numbers after it
sent_by : (own peer : List ℕ) (message : Message) (numbers : ℕ × ℕ) (content : Content) → is_message content ≡ true
    → pair_of (numbers_after own peer (record { expected = numbers.0; next = numbers.1 }) (kept_from message content))
    ≡ (numbers.0, if same_text message.head.sender own && same_text message.head.target peer && not message.head.dup then message.head.number + 1 else numbers.1)
sent_by own peer message numbers contents.Message is = refl
sent_by own peer message numbers (contents.Command command) is = absurd cc
sent_by own peer message numbers (contents.Beginning day) is = absurd cc
sent_by own peer message numbers (contents.Asked operator event) is = absurd cc
sent_by own peer message numbers (contents.Numbers other) is = absurd cc
sent_by own peer message numbers contents.Wrapped is = absurd cc
sent_by own peer message numbers contents.Unclear is = absurd cc

-- of any frame
behind : (own peer : List ℕ) (said : Result Message FieldFault) (items : List Item) (message : Message) (numbers : ℕ × ℕ) → said ≡ Ok message
    → plain_kept (kept_said said items) ≡ true
    → pair_of (option_map_or (numbers_after own peer (record { expected = numbers.0; next = numbers.1 })) (kept_said said items) (record { expected = numbers.0; next = numbers.1 }))
    ≡ (numbers.0, if same_text message.head.sender own && same_text message.head.target peer && not message.head.dup then message.head.number + 1 else numbers.1)
behind own peer (Ok other) items message numbers is plain =
    let same : other ≡ message = cc in
    sent_by own peer other numbers (content_of other other.head.sender items) plain
    ∙ ap (λ (found : Message). both numbers.0 (if same_text found.head.sender own && same_text found.head.target peer && not found.head.dup then found.head.number + 1 else numbers.1)) same
behind own peer (Err fault) items message numbers is plain = absurd cc

-- it counts itself
counts : (text : List ℕ) → IsPlain text → CountsItself IsQuiet pair_behind text
unfolding kept_of
counts text plain =
    let items = fields_of text in
    let said = decoded items in
    record {
      quiet = (plain.0, none_of (kept_said said items) plain.1);
      read = read_of said items plain.1;
      counts = λ message is own peer numbers. behind own peer said items message numbers is plain.1;
    }

-- so a text that was found to be one counts itself
pub plain_counts : {E : Type 0} (found : Result Bool E) (text : List ℕ) → IfOk found (λ plain. IsTrue plain ↔ IsPlain text)
    → IfOk found (λ plain. plain ≡ true → CountsItself IsQuiet pair_behind text)
plain_counts (Ok plain) text is = λ true_is. counts text (is.0 true_is)
plain_counts (Err fault) text is = tt
