use Rattle.std.proofs.Common.{◌∙◌, sym}
use Rattle.blot_ask.proofs.AheadLemmas.{ends_here, goes_on, is_over, no_more, nothing_more, refills}
use Rattle.blot_ask.proofs.ahead.Ahead.next_line.Goals as goal

pub returns-then-branch : goal.returns-then-branch
returns-then-branch g c = record {
  taken = ends_here _ (g.R.Read.remaining c.loop.stream) c.loop.self c.take_line.new.self c.loop.line.items c.take_line.new.line.items
      c.loop.invariant.0 c.loop.invariant.1 (sym c.if-branch.true ∙ c.in_ok-take_line.ensures.ended) c.in_ok-take_line.ensures.line c.in_ok-take_line.ensures.left;
}

pub refill-requires : goal.refill-requires
refill-requires g c = no_more c.loop.self _ (sym c.if-branch.false ∙ c.in_ok-take_line.ensures.ended) c.in_ok-take_line.ensures.left

pub returns-then-not-branch : goal.returns-then-not-branch
returns-then-not-branch g c =
    let known = g.R.Read.remaining c.loop.stream in
    let after = g.R.Read.remaining c.refill.new.stream in
    let on = goes_on _ known c.loop.self c.take_line.new.self c.loop.line.items c.take_line.new.line.items
    c.loop.invariant.0 c.loop.invariant.1 (sym c.if-branch.false ∙ c.in_ok-take_line.ensures.ended) c.in_ok-take_line.ensures.line c.in_ok-take_line.ensures.left in
    let left = no_more c.loop.self _ (sym c.if-branch.false ∙ c.in_ok-take_line.ensures.ended) c.in_ok-take_line.ensures.left in record {
      taken = (
        nothing_more _ _ _ c.take_line.new.line.items on.0
            (refills c.in_ok-refill.field-0 c.take_line.new.self c.refill.new.self known after left c.in_ok-refill.ensures),
        on.1,
        is_over c.in_ok-refill.field-0 c.refill.new.self known after c.if-not-branch.true c.in_ok-refill.ensures,
      );
    }

pub loop-preserved : goal.loop-preserved
loop-preserved g c =
    let known = g.R.Read.remaining c.loop.stream in
    let after = g.R.Read.remaining c.refill.new.stream in
    let on = goes_on _ known c.loop.self c.take_line.new.self c.loop.line.items c.take_line.new.line.items
    c.loop.invariant.0 c.loop.invariant.1 (sym c.if-branch.false ∙ c.in_ok-take_line.ensures.ended) c.in_ok-take_line.ensures.line c.in_ok-take_line.ensures.left in
    let left = no_more c.loop.self _ (sym c.if-branch.false ∙ c.in_ok-take_line.ensures.ended) c.in_ok-take_line.ensures.left in (
      nothing_more _ _ _ c.take_line.new.line.items on.0
          (refills c.in_ok-refill.field-0 c.take_line.new.self c.refill.new.self known after left c.in_ok-refill.ensures),
      on.1,
    )
