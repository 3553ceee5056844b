use Rattle.std.proofs.Common.{◌+◌, ◌*◌, ◌^◌, arith, ◌∙◌}
use Rattle.blot_types.specs.Bounds.{BOOK_MOVED, BOOK_QTY}
use Rattle.blot_model.specs.Sums.{moves_by}
use Rattle.blot_model.proofs.BookLemmas.{few_entries, entry_books}
use Rattle.blot_model.proofs.PositionLemmas.{sums-more, live_moves-append, up_to-weaker, up_to-joined}
use Rattle.blot_model.proofs.positions.moves_at.Goals as goal

pub moves_of_entry-requires : goal.moves_of_entry-requires
moves_of_entry-requires c = entry_books c.args.list.now c.loop-entry.entry-index c.entry-item.result c.requires c.loop-entry-test.true c.entry-item.is

pub joined-sums-requires-clause-first : goal.joined-sums-requires-clause-first
joined-sums-requires-clause-first c =
    up_to-weaker (2 * 10 ^ 16 * c.loop-entry.entry-index) BOOK_QTY c.loop-entry.sums (omega (arith, few_entries c.args.list.now c.requires, c.loop-entry-test.true)) c.loop-entry.invariant.few

pub loop-entry-preserved : goal.loop-entry-preserved
loop-entry-preserved c =
    let instructions = c.args.instructions.now in
    let index = c.loop-entry.entry-index in
    record {
      sums = c.joined-sums.ensures ∙ sums-more (moves_by instructions) (live_moves-append instructions)
          c.args.account.now c.args.symbol.now c.args.list.now index c.entry-item.result c.loop-entry.sums c.moves_of_entry.result
          c.loop-entry-test.true c.entry-item.is c.loop-entry.invariant.sums c.moves_of_entry.ensures.sums;
      few = up_to-joined (2 * 10 ^ 16 * index) (2 * 10 ^ 16) (2 * 10 ^ 16 * (index + 1)) c.loop-entry.sums c.moves_of_entry.result c.joined-sums.result
          c.joined-sums.ensures c.loop-entry.invariant.few c.moves_of_entry.ensures.few (omega arith);
    }

pub returns-clause-few : goal.returns-clause-few
returns-clause-few c =
    up_to-weaker (2 * 10 ^ 16 * c.loop-entry.entry-index) BOOK_MOVED c.loop-entry.sums (omega (arith, few_entries c.args.list.now c.requires)) c.loop-entry.invariant.few
