use Rattle.std.proofs.Common.{◌≡◌, length, sym, rules}
use Rattle.blot_tag.specs.Fields.{TagValue}
use Rattle.blot_tag.proofs.WritingLemmas.{grows}
use Rattle.blot_tag.proofs.frame_text.FrameText.put.Goals as goal

pub invariant_of-self-2 : goal.invariant_of-self-2
invariant_of-self-2 c =
    let field : TagValue = record { tag = c.args.tag; value = c.args.value.now } in
    let size : c.len.result ≡ length c.self.inside.body.items = search rules in
    (grows c.args.self.now field _ _ _ c.len.result size c.self.invariant c.self.view_is c.requires (sym c.in_ok-check.ensures) c.in_ok-put_field.ensures.ok).0

pub returns-clause-ok : goal.returns-clause-ok
returns-clause-ok c =
    let field : TagValue = record { tag = c.args.tag; value = c.args.value.now } in
    let size : c.len.result ≡ length c.self.inside.body.items = search rules in
    (grows c.args.self.now field _ _ _ c.len.result size c.self.invariant c.self.view_is c.requires (sym c.in_ok-check.ensures) c.in_ok-put_field.ensures.ok).1
