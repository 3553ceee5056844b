use Rattle.std.proofs.Common.{◌-◌, take, drop, length, ap, ◌∙◌}
use Rattle.std.proofs.lemmas.List.{take_rest}
use Rattle.blot_tag.proofs.ReadingLemmas.{steps_by}
use Rattle.blot_tag.proofs.buffer.Buffer.find_first.Goals as goal

pub returns-clause-finds : goal.returns-clause-finds
returns-clause-finds c =
    let old = c.args.self.now in
    let seen = ap (λ bytes. take (length bytes - old.start) (drop old.start bytes)) c.deref.ensures.value ∙ take_rest old.bytes.items old.start in
    steps_by old _ c.find.result seen c.find.ensures
