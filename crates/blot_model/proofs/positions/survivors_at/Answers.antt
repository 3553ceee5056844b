use Rattle.std.proofs.Common.{◌≡◌, ◌+◌, ◌*◌, ◌^◌, ◌∷◌, [], arith, map, length, ap, ◌∙◌, false}
use Rattle.std.specs.Option.{option_map_or}
use Rattle.std.proofs.lemmas.List.{map-append}
use Rattle.blot_types.specs.Bounds.{BOOK_FILLED, BOOK_QTY}
use Rattle.blot_types.specs.Keys.{is_among}
use Rattle.blot_types.specs.Position.{part_of, part_of_fill}
use Rattle.blot_types.specs.Survivors.{root_of, survivors}
use Rattle.blot_types.proofs.SurvivorLemmas.{length-survivors}
use Rattle.blot_model.specs.Sums.{sums_at}
use Rattle.blot_model.proofs.BookLemmas.{few_entries}
use Rattle.blot_model.proofs.PositionLemmas.{sums-more, small-up_to, up_to-weaker, up_to-joined}
use Rattle.blot_model.proofs.positions.survivors_at.Goals as goal

pub joined-sums-requires-clause-first : goal.joined-sums-requires-clause-first
joined-sums-requires-clause-first c =
    let list = c.args.list.now in
    let versions = c.deref-version-items.result.now in
    let is : versions ≡ survivors list = cc (c.deref-version-items.ensures.value, c.in_ok-survivors.ensures.exact) in
    up_to-weaker (10 ^ 16 * c.loop-version.version-index) BOOK_QTY c.loop-version.sums
    (omega (arith, ap length is, length-survivors list, few_entries list c.requires, c.loop-version-test.true)) c.loop-version.invariant.few

pub loop-version-preserved : goal.loop-version-preserved
loop-version-preserved c =
    let list = c.args.list.now in
    let account = c.args.account.now in
    let symbol = c.args.symbol.now in
    let index = c.loop-version.version-index in
    let version = c.version-item.result in
    let named = c.is_named.ensures ∙ ap (λ roots. option_map_or (is_among roots) (root_of list version.key) false) (c.deref.ensures.value ∙ c.in_ok-named.ensures.exact) in
    let part : c.of_fill-part.result ≡ part_of list version = c.of_fill-part.ensures.part ∙ ap (λ flag. part_of_fill flag version.fill) named in
    let one : c.shown.result ≡ sums_at account symbol (map (part_of list) (version ∷ [])) = c.shown.ensures.sums ∙ ap (λ p. sums_at account symbol (p ∷ [])) part in
    record {
      sums = c.joined-sums.ensures ∙ sums-more (map (part_of list)) (map-append (part_of list)) account symbol c.deref-version-items.result.now index version c.loop-version.sums c.shown.result
          c.loop-version-test.true c.version-item.is c.loop-version.invariant.sums one;
      few = up_to-joined (10 ^ 16 * index) (10 ^ 16) (10 ^ 16 * (index + 1)) c.loop-version.sums c.shown.result c.joined-sums.result
          c.joined-sums.ensures c.loop-version.invariant.few (c.shown.ensures.small (10 ^ 16) (small-up_to c.of_fill-part.result c.of_fill-part.ensures.small)) (omega arith);
    }

pub returns-clause-few : goal.returns-clause-few
returns-clause-few c =
    let list = c.args.list.now in
    let versions = c.deref-version-items.result.now in
    let is : versions ≡ survivors list = cc (c.deref-version-items.ensures.value, c.in_ok-survivors.ensures.exact) in
    up_to-weaker (10 ^ 16 * c.loop-version.version-index) BOOK_FILLED c.loop-version.sums
    (omega (arith, ap length is, length-survivors list, few_entries list c.requires)) c.loop-version.invariant.few
