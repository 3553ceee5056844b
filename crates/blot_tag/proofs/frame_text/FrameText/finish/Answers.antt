use Rattle.std.proofs.Common.{◌≡◌, ◌++◌, subst, sym, ap, ◌∙◌, arith}
use Rattle.std.proofs.lemmas.Grind.{common_steps}
use Rattle.blot_tag.specs.Fields.{fields_of}
use Rattle.blot_tag.specs.Frames.{IsFrame}
use Rattle.blot_tag.specs.Walking.{walk_of, takes}
use Rattle.blot_tag.specs.Writing.{frame_of}
use Rattle.blot_tag.proofs.WritingLemmas.{IsWritten-view, frame_of-valid, walk_of-frame_of, fields_of-frame_of}
use Rattle.blot_tag.proofs.frame_text.FrameText.finish.Goals as goal

pub returns-clause-valid : goal.returns-clause-valid
returns-clause-valid c =
    let is = IsWritten-view c.args.self _ _ c.self.invariant c.self.view_is in
    let text : c.extend_from_slice-4.new.self.items ≡ frame_of c.args.self = grind (arith, common_steps) in
    subst IsFrame (sym text) (frame_of-valid c.args.self is)

pub returns-clause-alone : goal.returns-clause-alone
returns-clause-alone c more =
    let is = IsWritten-view c.args.self _ _ c.self.invariant c.self.view_is in
    let text : c.extend_from_slice-4.new.self.items ≡ frame_of c.args.self = grind (arith, common_steps) in
    ap (λ frame. walk_of (frame ++ more)) text ∙ walk_of-frame_of c.args.self more is ∙ ap (λ frame. takes frame (walk_of more)) (sym text)

pub returns-clause-fields : goal.returns-clause-fields
returns-clause-fields c =
    let is = IsWritten-view c.args.self _ _ c.self.invariant c.self.view_is in
    let text : c.extend_from_slice-4.new.self.items ≡ frame_of c.args.self = grind (arith, common_steps) in
    ap fields_of text ∙ fields_of-frame_of c.args.self is
