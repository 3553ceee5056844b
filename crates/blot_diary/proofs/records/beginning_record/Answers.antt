use Rattle.std.proofs.Common.{◌≡◌, Some, Ok, subst, arith, ℕ, List, [], ◌∷◌, codes, IfSome}
use Rattle.blot_time.specs.Day.{day_of}
use Rattle.blot_time.specs.Moment.{moment_of}
use Rattle.blot_tag.specs.Fields.{Item, field_of, fields_of}
use Rattle.blot_diary.specs.declared.kept.Content.TheVariants.{Beginning}
use Rattle.blot_diary.specs.Keeping.{kept_of}
use Rattle.blot_diary.specs.Records.{beginning_message, keeps}
use Rattle.blot_diary.proofs.RecordLemmas.{beginning_fits, beginning_kept, if_made, some_made}
use Rattle.blot_diary.proofs.records.beginning_record.Goals as goal

pub unwrap-requires : goal.unwrap-requires
unwrap-requires c =
    let own = c.args.own.now in
    let header = field_of 34 (codes "1") ∷ field_of 52 c.write-sent.result ∷ field_of 75 c.write-said.result ∷ [] in
    some_made (beginning_message own c.args.day c.args.now) (field_of 49 c.bytes.result.now ∷ field_of 56 c.bytes-2.result.now ∷ header) c.in_ok-made.made
    c.in_ok-made.ensures.made (cc) (beginning_fits own c.args.day c.args.now c.bytes.ensures.text)

pub returns-clause-kept : goal.returns-clause-kept
returns-clause-kept c =
    let own = c.args.own.now in
    let day = c.args.day in
    let now = c.args.now in
    let text = c.bytes.ensures.text in
    let sent = subst (λ text. moment_of text ≡ Ok now) c.write-sent.ensures.text c.write-sent.ensures.read_again in
    let said = subst (λ text. day_of text ≡ Ok day) c.write-said.ensures.text c.write-said.ensures.read_again in
    let header = field_of 34 (codes "1") ∷ field_of 52 c.write-sent.result ∷ field_of 75 c.write-said.result ∷ [] in
    let raw = field_of 49 c.bytes.result.now ∷ field_of 56 c.bytes-2.result.now ∷ header in
    let keeps_it = λ (items : List Item). kept_of items ≡ Some (keeps own own 1 (Beginning day)) in
    let kept = if_made (beginning_message own day now) raw keeps_it {E = ℕ} (λ text. text.items) (Ok c.in_ok-made.made)
    (beginning_kept own day now said (record { from = text; target = text; low = omega arith; high = omega arith; sent = sent })) c.in_ok-made.ensures.text
    c.in_ok-made.ensures.valid c.in_ok-made.ensures.fields (cc) in
    subst (λ made. IfSome made (λ text. keeps_it (fields_of text.items))) c.unwrap.ensures kept
