use Rattle.std.proofs.Common.{Some, None, ap, sym, ◌∙◌, cond, option_copied, eq-eqb, ne_eqb}
use Rattle.blot_places.proofs.NumberedLemmas.{live-numbered, numbered}
use Rattle.blot_places.proofs.slots.live_numbered.Goals as goal

pub returns-in_err-item : goal.returns-in_err-item
returns-in_err-item g c =
    let e = c.place_of.ensures in
    let number_of = g.T.Numbered.number_of in
    ap option_copied c.from_residual.ensures
    ∙ ap (numbered number_of c.args.number) (ap option_copied (sym c.in_err-item.was) ∙ c.live_at.ensures)
    ∙ live-numbered number_of c.args.number c.args.slots.now c.place_of.result c.requires e.below e.above

pub returns-then-number : goal.returns-then-number
returns-then-number g c =
    let e = c.place_of.ensures in
    let number_of = g.T.Numbered.number_of in
    let item = c.in_ok-item.item.now in
    sym (ap (λ b. cond b (Some item) None) (eq-eqb _ _ (sym c.number.ensures ∙ c.if-number.true)))
    ∙ ap (numbered number_of c.args.number) (ap option_copied (sym c.in_ok-item.was) ∙ c.live_at.ensures)
    ∙ live-numbered number_of c.args.number c.args.slots.now c.place_of.result c.requires e.below e.above

pub returns-else-number : goal.returns-else-number
returns-else-number g c =
    let e = c.place_of.ensures in
    let number_of = g.T.Numbered.number_of in
    let item = c.in_ok-item.item.now in
    sym (ap (λ b. cond b (Some item) None) (ne_eqb _ _ (λ same. c.if-number.false (c.number.ensures ∙ same))))
    ∙ ap (numbered number_of c.args.number) (ap option_copied (sym c.in_ok-item.was) ∙ c.live_at.ensures)
    ∙ live-numbered number_of c.args.number c.args.slots.now c.place_of.result c.requires e.below e.above
