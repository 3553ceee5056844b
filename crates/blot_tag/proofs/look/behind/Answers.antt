use Rattle.std.proofs.Common.{Some, None}
use Rattle.std.proofs.lemmas.Slice.Eq.{starts_is, strip_prefix_is}
use Rattle.std.specs.Cmp.{unsigned_Decides}
use Rattle.blot_tag.proofs.MatchLemmas.{behind_whole, behind_short, behind_other}
use Rattle.blot_tag.proofs.look.behind.Goals as goal

pub returns-in-Some : goal.returns-in-Some
returns-in-Some c =
    behind_whole _ _ _ (strip_prefix_is unsigned_Decides c.args.text.now c.args.expected.now (Some c.in-Some.rest) c.in-Some.ensures.cases)

pub returns-in-None : goal.returns-in-None
returns-in-None c =
    let starts = starts_is unsigned_Decides c.args.expected.now c.args.text.now _ c.starts_with.ensures.value in
    behind_short _ _ (strip_prefix_is unsigned_Decides c.args.text.now c.args.expected.now None c.in-None.ensures.cases)
    (starts.0 c.if-starts_with.true)

pub returns-in-None-2 : goal.returns-in-None-2
returns-in-None-2 c =
    let starts = starts_is unsigned_Decides c.args.expected.now c.args.text.now _ c.starts_with.ensures.value in
    behind_other _ _ (strip_prefix_is unsigned_Decides c.args.text.now c.args.expected.now None c.in-None-2.ensures.cases)
    (λ rest is. cc (starts.1 rest is))
