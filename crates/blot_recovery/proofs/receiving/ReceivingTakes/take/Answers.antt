use Rattle.std.proofs.Common.{◌≡◌, Some, sym, ◌∙◌}
use Rattle.blot_tag.specs.Fields.{fields_of}
use Rattle.blot_tag.specs.Views.{text_of}
use Rattle.blot_diary.specs.Keeping.{kept_of}
use Rattle.blot_recovery.proofs.ReceivedLemmas.{received-more, receiving-refused}
use Rattle.blot_recovery.proofs.TestLemmas.{three-ok}
use Rattle.blot_recovery.proofs.receiving.ReceivingTakes.take.Goals as goal

pub returns-then-self-clause-taken : goal.returns-then-self-clause-taken
returns-then-self-clause-taken c =
    let frame = text_of c.args.frame.now in
    let is : kept_of (fields_of frame) ≡ Some c.in-Some.kept = sym c.in_ok-kept.ensures.value ∙ c.in-Some.is in
    three-ok c.add.result c.add.ensures.received c.add.ensures.own c.add.ensures.begun (λ received own begun first text whole has.
    received-more first c.args.self.now c.add.new.self text frame c.in-Some.kept (c.text.ensures.last text whole) is c.if-self.true received own begun has)

pub returns-clause-refused : goal.returns-clause-refused
returns-clause-refused c =
    let frame = text_of c.args.frame.now in
    let is : kept_of (fields_of frame) ≡ Some c.in-Some.kept = sym c.in_ok-kept.ensures.value ∙ c.in-Some.is in
    receiving-refused c.args.self.now frame c.in-Some.kept c.in-Err.fault is c.if-self.false c.in-Err.ensures.refused c.in-Err.ensures.listed
