use Rattle.std.proofs.Common.{◌≡◌, ap, ◌∙◌, arith, length, swap}
use Rattle.blot_undo.proofs.PutLemmas.{put_back_is}
use Rattle.blot_undo.proofs.steps.put_back.Goals as goal

pub returns : goal.returns
returns g c = λ before taken within is.
    let end : c.len-last.result ≡ length c.args.items.now.items = omega arith in
    c.swap.ensures.items ∙ ap (λ items. swap items c.args.place c.len-last.result) c.push_reserved.ensures.items
    ∙ put_back_is before c.args.items.now.items c.args.place c.len-last.result taken c.args.item within is end
