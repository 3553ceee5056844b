use Rattle.std.proofs.Common.{arith, ap, ◌∙◌, max, flat_map}
use Rattle.rayon.specs.Lists.{chunks_of}
use Rattle.rayon.proofs.ListFacts.{IfOk-then}
use Rattle.blot_report.proofs.PieceLemmas.{chunks-joined}
use Rattle.blot_report.proofs.pieces.in_pieces.Goals as goal

pub returns : goal.returns
returns g c =
    let results = c.in_ok-collect.ensures in
    let chain = rw (c.map.ensures.base, c.map.ensures.f) at results.1 in
    let oks = rw c.in_ok-pieces.was at results.2 in
    let cut = chain.1 ∙ (λ i. chunks_of (max (c.par_chunks.ensures.size i) 1) (c.par_chunks.ensures.slice i)) in
    IfOk-then c.joined.result _ _ c.joined.ensures
    (λ made is. chunks-joined _ c.args.items.now 1024 chain.0 results.0 oks.0 made.items cut (omega arith) chain.2 oks.1 (is ∙ ap (flat_map (λ piece. piece.items)) oks.2))
