use Rattle.std.proofs.Common.{refl, sym, subst}
use Rattle.blot_tag.specs.Writing.{kind_field, refusal_of}
use Rattle.blot_diary.specs.Writing.{fields_in, fits, written}
use Rattle.blot_diary.proofs.WritingLemmas.{Goes, goes_on, refuses, starts, stops}
use Rattle.blot_diary.proofs.writing.write.Goals as goal

pub loop-tag-init : goal.loop-tag-init
loop-tag-init c =
    let whole = written c.args.kind.now (fields_in c.args.fields.now) in
    subst (λ message. Goes whole message whole.fields) (sym c.in-Ok.ensures.ok) (starts whole c.requires.follow c.in-Ok.ensures.accepted)

pub loop-tag-preserved : goal.loop-tag-preserved
loop-tag-preserved c =
    let taken = c.in_default.ensures in
    goes_on _ c.args.fields.now c.loop-tag.tag-index _ c.loop-tag.text c.loop-tag-test.true c.loop-tag.invariant c.put.new.self taken.accepted taken.ok

pub returns-in-Err-clause-made : goal.returns-in-Err-clause-made
unfolding fits
returns-in-Err-clause-made c =
    let refusal = refusal_of 0 (kind_field c.args.kind.now) in
    refuses (written c.args.kind.now (fields_in c.args.fields.now)) refusal c.in-Err.fault _ refl c.in-Err.ensures.refused c.in_ok-unless_refused-in-Err.ensures

pub returns-in-Err-put-clause-made : goal.returns-in-Err-put-clause-made
returns-in-Err-put-clause-made c =
    let refused = c.in-Err-put in
    stops _ c.args.fields.now c.loop-tag.tag-index _ c.loop-tag.text c.loop-tag-test.true c.loop-tag.invariant refused.fault refused.ensures.refused
    c.in_ok-unless_refused.ensures
