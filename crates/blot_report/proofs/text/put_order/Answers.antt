use Rattle.std.proofs.Common.{ℕ, List, ◌∙◌}
use Rattle.blot_report.proofs.TextLemmas.{on_ok, six_behind}
use Rattle.blot_report.proofs.text.put_order.Goals as goal

pub returns : goal.returns
returns c =
    let w1 = c.in_ok-put_word_and_tab.ensures in
    let w2 = c.in_ok-put_word_and_tab-2.ensures in
    let w3 = c.in_ok-put_word_and_tab-3.ensures in
    let w4 = c.in_ok-put_word_and_tab-4.ensures in
    let w5 = c.in_ok-put_word_and_tab-5.ensures in
    on_ok c.put_order_amounts.result
    (λ last.
    (◌∙◌ {A = List ℕ} last
    (rw (w5, w4, w3, w2, w1, c.bytes.ensures.value, c.bytes-2.ensures.value, c.bytes-3.ensures.value, c.sign_word.ensures)
    (six_behind c.args.text.now.items _ _ _ _ _ _))))
    c.put_order_amounts.ensures
