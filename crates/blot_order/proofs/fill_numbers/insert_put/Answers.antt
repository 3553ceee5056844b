use Rattle.std.proofs.Common.{subst, ◌∙◌, sym, ap, refl}
use Rattle.blot_order.specs.FillNumbers.{AreListed, BelongsAt, StandsAt, numbers_put}
use Rattle.blot_order.proofs.NumberLemmas.{listed-insert, put-inserted, stands-listed}
use Rattle.blot_order.proofs.fill_numbers.insert_put.Goals as goal

pub unreachable-requires : goal.unreachable-requires
unreachable-requires c =
    let stands = subst (λ xs. StandsAt c.args.number xs c.in_default.field-0) c.deref.ensures.value c.in_default.ensures in
    stands-listed c.args.number c.args.listed.now.items c.in_default.field-0 stands c.requires.unlisted

pub returns-clause-listed : goal.returns-clause-listed
returns-clause-listed c =
    let belongs = subst (λ xs. BelongsAt c.args.number xs c.in-Err.place) c.deref.ensures.value c.in-Err.ensures in
    subst AreListed (sym c.in-Ok.ensures.items) (listed-insert c.args.number c.args.listed.now.items c.in-Err.place _ refl refl c.requires.listed belongs)

pub returns-clause-put : goal.returns-clause-put
returns-clause-put c =
    let belongs = subst (λ xs. BelongsAt c.args.number xs c.in-Err.place) c.deref.ensures.value c.in-Err.ensures in
    ap numbers_put c.in-Ok.ensures.items ∙ put-inserted 0 c.args.number c.args.listed.now.items c.in-Err.place _ refl refl c.requires.listed.rise belongs
