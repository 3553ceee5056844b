use Rattle.std.proofs.Common.{◌++◌, length, drop, replicate, ap, ◌∙◌}
use Rattle.std.proofs.lemmas.List.{drop-replicate}
use Rattle.blot_types.proofs.text.filled_up.Goals as goal

pub returns : goal.returns
returns c =
    ap (λ front. front ++ drop (length c.args.text.now) (replicate 64 0)) c.copy_from_slice.ensures.after
    ∙ ap (λ rest. c.args.text.now ++ rest) (drop-replicate (length c.args.text.now) 64 0)
