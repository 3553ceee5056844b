use Rattle.std.proofs.Common.{◌≡◌, ◌++◌, Some, subst, sym, ◌∙◌}
use Rattle.blot_tag.specs.Fields.{fields_of}
use Rattle.blot_tag.specs.Views.{text_of}
use Rattle.blot_diary.specs.Keeping.{kept_of}
use Rattle.blot_recovery.specs.Taking.{TakesUpAll}
use Rattle.blot_recovery.proofs.TestLemmas.{five-ok, four-ok}
use Rattle.blot_recovery.proofs.TakingLemmas.{first-taken, kept-taken, other-taken}
use Rattle.blot_recovery.proofs.taking.TakingTakes.take.Goals as goal

pub returns-in-None-clause-taken : goal.returns-in-None-clause-taken
returns-in-None-clause-taken g c =
    let old = c.args.self.now in
    let frame = text_of c.args.frame.now in
    let is : kept_of (fields_of frame) ≡ Some c.in-Some.kept = sym c.in_ok-kept.ensures.value ∙ c.in-Some.is in
    let does = c.begin.ensures in
    four-ok c.begin.result does.begun does.some does.wanted does.same (λ begun some wanted same first text whole up.
    subst (TakesUpAll first (text ++ frame)) (sym same)
    (first-taken first old c.begin.new.self.begun text frame c.in-Some.kept c.text.ensures.first (c.text.ensures.last text whole) is c.in-None.is begun some wanted up))

pub returns-in-None-clause-other : goal.returns-in-None-clause-other
returns-in-None-clause-other g c = λ found told first text behind whole up.
    let frame = text_of c.args.frame.now in
    let is : kept_of (fields_of frame) ≡ Some c.in-Some.kept = sym c.in_ok-kept.ensures.value ∙ c.in-Some.is in
    let other = c.begin.ensures.other found told in
    other-taken first c.args.self.now text frame behind c.in-Some.kept found c.text.ensures.first is c.in-None.is other.0 other.1 up

pub returns-in-Some-begun-clause-taken : goal.returns-in-Some-begun-clause-taken
returns-in-Some-begun-clause-taken g c =
    let frame = text_of c.args.frame.now in
    let is : kept_of (fields_of frame) ≡ Some c.in-Some.kept = sym c.in_ok-kept.ensures.value ∙ c.in-Some.is in
    let does = c.take_kept.ensures in
    five-ok c.take_kept.result does.held does.asks does.begun does.of does.seats (λ held asks begun of seats first text whole up.
    kept-taken first c.args.self.now c.take_kept.new.self c.in-Some-begun.field-0 text frame c.in-Some.kept (c.text.ensures.last text whole) is
    c.in-Some-begun.is asks begun held of seats up)
