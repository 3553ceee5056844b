use Rattle.std.proofs.Common.{true}
use Rattle.blot_command.specs.Booking.{allocated, chains_moved, lines_put}
use Rattle.blot_command.proofs.ChangeListLemmas.{allocated-some, first-step, second-step, both-steps}
use Rattle.blot_command.proofs.accounts.allocate.Goals as goal

pub move_chains-requires : goal.move_chains-requires
move_chains-requires c =
    let live = c.args.live.now.list in
    let terms = c.in-Some-Some.terms.now in
    let roots = c.in-Some-Some.roots.now in
    let is = allocated-some live c.args.key.now c.in-Some.key terms roots c.in-Some.is c.in-Some-Some.ensures c.in-Some-Some.ensures' in
    first-step (allocated live c.args.key.now) (chains_moved true live roots) (lines_put terms terms.lines) c.args.positions.now is c.requires

pub put_lines-requires : goal.put_lines-requires
put_lines-requires c =
    let live = c.args.live.now.list in
    let terms = c.in-Some-Some.terms.now in
    let roots = c.in-Some-Some.roots.now in
    let is = allocated-some live c.args.key.now c.in-Some.key terms roots c.in-Some.is c.in-Some-Some.ensures c.in-Some-Some.ensures' in
    second-step (allocated live c.args.key.now) (chains_moved true live roots) (lines_put terms terms.lines) c.args.positions.now c.move_chains.new.positions is c.requires
    c.move_chains.ensures

pub returns-in-Some-Some : goal.returns-in-Some-Some
returns-in-Some-Some c =
    let live = c.args.live.now.list in
    let terms = c.in-Some-Some.terms.now in
    let roots = c.in-Some-Some.roots.now in
    let is = allocated-some live c.args.key.now c.in-Some.key terms roots c.in-Some.is c.in-Some-Some.ensures c.in-Some-Some.ensures' in
    both-steps (allocated live c.args.key.now) (chains_moved true live roots) (lines_put terms terms.lines) c.args.positions.now c.move_chains.new.positions c.put_lines.new.positions is
    c.move_chains.ensures c.put_lines.ensures
