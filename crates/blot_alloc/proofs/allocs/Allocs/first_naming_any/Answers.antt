use Rattle.std.proofs.Common.{arith, ◌≡◌, length, take, sym, ap, ◌∙◌}
use Rattle.std.proofs.Math.Seq.{take-length}
use Rattle.blot_types.specs.Instructions.{first_instruction, names_any}
use Rattle.blot_types.specs.Lesser.{lesser}
use Rattle.blot_alloc.proofs.NeedLemmas.{any-step, none-asked}
use Rattle.blot_alloc.proofs.allocs.Allocs.first_naming_any.Goals as goal

pub loop-root-init : goal.loop-root-init
loop-root-init c = sym (none-asked c.args.number c.args.self.now.list)

pub loop-root-preserved : goal.loop-root-preserved
loop-root-preserved c =
    let list = c.args.self.now.list in
    c.lesser-first.ensures ∙ (λ i. lesser (c.loop-root.invariant i) (c.first_naming.ensures.first i))
    ∙ any-step c.args.roots.now c.loop-root.root-index c.root-item.result c.args.number list c.first_naming.ensures.fall (omega arith) c.root-item.is

pub returns : goal.returns
returns c =
    let all : c.loop-root.root-index ≡ length c.args.roots.now = omega arith in
    c.loop-root.invariant
    ∙ ap (λ roots. first_instruction (names_any roots) c.args.number c.args.self.now.list) (ap (λ index. take index c.args.roots.now) all ∙ take-length c.args.roots.now)
