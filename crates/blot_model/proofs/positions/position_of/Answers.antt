use Rattle.std.proofs.Common.{◌≡◌, ap, sym, ◌∙◌}
use Rattle.blot_types.specs.Allocations.{instructions_of}
use Rattle.blot_types.proofs.AllocationLawLemmas.{is_conserving}
use Rattle.blot_model.specs.Sums.{sums_at, survivor_parts, joined, moves_by}
use Rattle.blot_model.proofs.PositionLemmas.{sums-append}
use Rattle.blot_model.proofs.positions.position_of.Goals as goal

pub returns-in_err-stood-clause-conserving : goal.returns-in_err-stood-clause-conserving
returns-in_err-stood-clause-conserving c = is_conserving c.args.list.now

pub returns-in_err-instructions-clause-conserving : goal.returns-in_err-instructions-clause-conserving
returns-in_err-instructions-clause-conserving c = is_conserving c.args.list.now

pub returns-clause-conserving : goal.returns-clause-conserving
returns-clause-conserving c = is_conserving c.args.list.now

pub returns-clause-exact : goal.returns-clause-exact
returns-clause-exact c =
    let list = c.args.list.now in
    let account = c.args.account.now in
    let symbol = c.args.symbol.now in
    let stood = survivor_parts list in
    let all : c.deref.result.now ≡ instructions_of list = c.deref.ensures.value ∙ c.in_ok-instructions.ensures in
    let moved : c.moves_at-moved.result ≡ sums_at account symbol (moves_by (instructions_of list) list) =
    c.moves_at-moved.ensures.sums ∙ ap (λ instructions. sums_at account symbol (moves_by instructions list)) all in
    c.joined.ensures ∙ ap (λ sums. joined sums c.moves_at-moved.result) c.in_ok-stood.ensures.sums
    ∙ ap (joined (sums_at account symbol stood)) moved ∙ sym (sums-append account symbol stood (moves_by (instructions_of list) list))
