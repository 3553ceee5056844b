use Rattle.std.proofs.Common.{◌≡◌, take}
use Rattle.blot_types.specs.Instructions.{first_instruction, names_any}
use Rattle.blot_alloc.proofs.allocs.Allocs.first_naming_any.Given as goal

abbrev pub invariant-loop-root : goal.invariant-loop-root
invariant-loop-root l = l.first ≡ first_instruction (names_any (take l.root-index l.roots)) l.number l.self.list
