use Rattle.std.proofs.Common.{◌≢◌, ◌∙◌, ap, arith, length, rules, subst, sym}
use Rattle.std.proofs.lemmas.Fn.{filter_same}
use Rattle.std.proofs.lemmas.List.Elements.{All-filter}
use Rattle.blot_order.specs.FillNumbers.{AreListed, IsUnlisted, numbers_put}
use Rattle.blot_order.proofs.NumberLemmas.{is_put, length-filter, listed-filter, put-filter}
use Rattle.blot_order.proofs.fill_numbers.make_room.Goals as goal

pub returns-then-len-capacity-clause-listed : goal.returns-then-len-capacity-clause-listed
returns-then-len-capacity-clause-listed c =
    let kept = filter_same _ is_put _ (λ x b q k. search rules) _ _ c.retain.ensures.filtered in
    subst AreListed (sym kept) (listed-filter c.args.listed.now.items c.requires.listed)

pub returns-then-len-capacity-clause-put : goal.returns-then-len-capacity-clause-put
returns-then-len-capacity-clause-put c =
    let kept = filter_same _ is_put _ (λ x b q k. search rules) _ _ c.retain.ensures.filtered in
    ap numbers_put kept ∙ put-filter c.args.listed.now.items

pub returns-then-len-capacity-clause-unlisted : goal.returns-then-len-capacity-clause-unlisted
returns-then-len-capacity-clause-unlisted c =
    let kept = filter_same _ is_put _ (λ x b q k. search rules) _ _ c.retain.ensures.filtered in
    λ number none. subst (IsUnlisted number) (sym kept) (All-filter is_put (λ entry. entry.number ≢ number) c.args.listed.now.items none)

pub returns-then-len-capacity-clause-room : goal.returns-then-len-capacity-clause-room
returns-then-len-capacity-clause-room c =
    let kept = filter_same _ is_put _ (λ x b q k. search rules) _ _ c.retain.ensures.filtered in
    let long = ap length kept ∙ length-filter c.args.listed.now.items in
    let capacity = c.retain.ensures.capacity in
    omega (arith, long, capacity, c.requires.room)
