use Rattle.std.proofs.Common.{◌≡◌, List, ap, refl, subst, sym, take, true, ◌∙◌}
use Rattle.blot_order.specs.declared.fill_numbers.ListedNumber.{ListedNumber}
use Rattle.blot_order.specs.FillNumbers.{AreListed, BelongsAt, StandsAt, ends_put, numbers_put}
use Rattle.blot_order.proofs.NumberLemmas.{belongs-unlisted, listed-taken, put-listed, put-taken}
use Rattle.blot_order.proofs.fill_numbers.take_number.Goals as goal

pub unreachable-requires : goal.unreachable-requires
unreachable-requires c =
    let entries = c.args.listed.now.items in
    let belongs = subst (λ xs. BelongsAt c.args.number xs c.in_default.field-0) c.deref.ensures.value c.in_default.ensures in
    put-listed c.args.number entries c.requires.put (belongs-unlisted c.args.number entries c.in_default.field-0 belongs)

pub returns-clause-listed : goal.returns-clause-listed
returns-clause-listed c =
    let entries = c.args.listed.now.items in
    let stands = subst (λ xs. StandsAt c.args.number xs c.in-Ok.place) c.deref.ensures.value c.in-Ok.ensures in
    let last = subst (λ (xs : List ListedNumber). ends_put true (take c.end_of_put-end.result xs) ≡ true) c.deref-2.ensures.value c.end_of_put-end.ensures.last in
    subst AreListed (sym c.truncate.ensures.items)
    (listed-taken c.args.number entries c.in-Ok.place _ c.end_of_put-end.result (ap (λ (e : ListedNumber). e.number) c.index_mut.ensures.value ∙ stands.at c.index_mut.result.now) c.requires.listed stands last)

pub returns-clause-taken : goal.returns-clause-taken
returns-clause-taken c =
    let entries = c.args.listed.now.items in
    let stands = subst (λ xs. StandsAt c.args.number xs c.in-Ok.place) c.deref.ensures.value c.in-Ok.ensures in
    let same = subst (λ (xs : List ListedNumber). numbers_put (take c.end_of_put-end.result xs) ≡ numbers_put xs) c.deref-2.ensures.value c.end_of_put-end.ensures.same in
    ap numbers_put c.truncate.ensures.items ∙ same ∙ put-taken 0 c.args.number entries c.in-Ok.place _ refl c.requires.listed.rise stands c.requires.put
