use Rattle.std.proofs.Common.{◌≡◌, ◌<◌, true, sym, ◌∙◌, arith, le-ltb, lt-ltb}
use Rattle.std.proofs.lemmas.Bool.{or_from, or_left, or_right}
use Rattle.blot_command.specs.Slots.{entries_in}
use Rattle.blot_command.proofs.ListingLemmas.{counts, listing-here, listing-next, listing-none, naming-above}
use Rattle.blot_command.proofs.blocked.first_listing.Goals as goal
use Rattle.blot_command.proofs.blocked.first_listing.Goals.{then-next-until-via-then-next-until, then-next-until-via-else-next-until+then-lists_at}

pub returns-then-next-until : goal.returns-then-next-until
returns-then-next-until c =
    let entries = entries_in c.args.slots.now in
    let counted : counts entries c.args.key.now c.args.root.now c.args.until c.args.allocs.now.list c.in-Some.next ≡ true =
    elim c.then-next-until.branch [
      | then-next-until-via-then-next-until w ↦ or_left _ _ (lt-ltb c.in-Some.next c.args.until w.if-next-until.true)
      | then-next-until-via-else-next-until+then-lists_at w ↦ or_right _ _ (sym w.lists_at.ensures ∙ w.if-lists_at.true)
    ] in
    sym (listing-here entries c.args.key.now c.args.root.now c.args.until c.args.allocs.now.list c.loop-next.above c.in-Some.next (sym c.in-Some.ensures.first) counted) ∙ c.loop-next.invariant

pub loop-next-smaller : goal.loop-next-smaller
loop-next-smaller c =
    let more : c.loop-next.above < c.in-Some.next = naming-above c.args.allocs.now.list c.args.root.now c.loop-next.above c.in-Some.next (sym c.in-Some.ensures.first) in
    omega (arith, more)

pub loop-next-preserved : goal.loop-next-preserved
loop-next-preserved c =
    let entries = entries_in c.args.slots.now in
    let other = or_from _ _ (le-ltb c.in-Some.next c.args.until c.if-next-until.false) (sym c.lists_at.ensures ∙ c.if-lists_at.false) in
    listing-next entries c.args.key.now c.args.root.now c.args.until c.args.allocs.now.list c.loop-next.above c.in-Some.next c.in-Some.ensures.fall (sym c.in-Some.ensures.first) other ∙ c.loop-next.invariant

pub returns : goal.returns
returns c =
    sym (listing-none (entries_in c.args.slots.now) c.args.key.now c.args.root.now c.args.until c.args.allocs.now.list c.loop-next.above (sym c.first_naming.ensures.first ∙ c.in_default.is)) ∙ c.loop-next.invariant
