use Rattle.std.proofs.Common.{◌≡◌, Some, Ok, subst, ℕ, List, [], ◌∷◌, IfSome}
use Rattle.blot_time.specs.Moment.{moment_of}
use Rattle.blot_tag.specs.Fields.{Item, field_of, fields_of}
use Rattle.blot_diary.specs.declared.kept.Content.TheVariants.{Numbers}
use Rattle.blot_diary.specs.Keeping.{kept_of}
use Rattle.blot_diary.specs.Records.{keeps, numbers_message}
use Rattle.blot_diary.proofs.RecordLemmas.{if_made, numbers_fit, numbers_kept, some_made}
use Rattle.blot_diary.proofs.records.numbers_record.Goals as goal

pub unwrap-requires : goal.unwrap-requires
unwrap-requires c =
    let own = c.args.own.now in
    let peer = c.args.peer.now in
    let both = field_of 789 c.as_bytes-2.result.now ∷ field_of 36 c.as_bytes-3.result.now ∷ [] in
    let raw = field_of 49 c.bytes.result.now ∷ field_of 56 c.bytes-2.result.now ∷ field_of 34 c.as_bytes.result.now ∷ field_of 52 c.write-sent.result ∷
    both in
    some_made (numbers_message own peer c.args.number c.args.now c.args.numbers) raw c.in_ok-made.made c.in_ok-made.ensures.made (cc)
    (numbers_fit own peer c.args.number c.args.now c.args.numbers c.bytes.ensures.text c.bytes-2.ensures.text c.requires.high c.requires.numbers)

pub returns-clause-kept : goal.returns-clause-kept
returns-clause-kept c =
    let own = c.args.own.now in
    let peer = c.args.peer.now in
    let number = c.args.number in
    let now = c.args.now in
    let sent = subst (λ text. moment_of text ≡ Ok now) c.write-sent.ensures.text c.write-sent.ensures.read_again in
    let both = field_of 789 c.as_bytes-2.result.now ∷ field_of 36 c.as_bytes-3.result.now ∷ [] in
    let raw = field_of 49 c.bytes.result.now ∷ field_of 56 c.bytes-2.result.now ∷ field_of 34 c.as_bytes.result.now ∷ field_of 52 c.write-sent.result ∷
    both in
    let keeps_them = λ (items : List Item). kept_of items ≡ Some (keeps own peer number (Numbers c.args.numbers)) in
    let kept = if_made (numbers_message own peer number now c.args.numbers) raw keeps_them {E = ℕ} (λ text. text.items) (Ok c.in_ok-made.made)
    (numbers_kept own peer number now c.args.numbers c.requires.numbers
    (record { from = c.bytes.ensures.text; target = c.bytes-2.ensures.text; low = c.requires.low; high = c.requires.high; sent = sent }))
    c.in_ok-made.ensures.text c.in_ok-made.ensures.valid c.in_ok-made.ensures.fields (cc) in
    subst (λ made. IfSome made (λ text. keeps_them (fields_of text.items))) c.unwrap.ensures kept
