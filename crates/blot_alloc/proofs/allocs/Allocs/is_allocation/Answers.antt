use Rattle.std.proofs.Common.{Some, None, ap, sym, ◌∙◌, option_copied}
use Rattle.blot_alloc.proofs.HolderLemmas.{allocation-taker}
use Rattle.blot_alloc.proofs.allocs.Allocs.is_allocation.Goals as goal

pub returns-in-Some : goal.returns-in-Some
returns-in-Some c =
    c.brings_allocation.ensures
    ∙ allocation-taker c.args.self.now.list c.args.key.now (Some c.in-Some.instruction.now) (ap option_copied (sym c.in-Some.is) ∙ c.taker.ensures.found) c.taker.ensures.once

pub returns-in-None : goal.returns-in-None
returns-in-None c = allocation-taker c.args.self.now.list c.args.key.now None (ap option_copied (sym c.in-None.is) ∙ c.taker.ensures.found) c.taker.ensures.once
