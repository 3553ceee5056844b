use Rattle.std.proofs.Common.{false}
use Rattle.blot_command.specs.Booking.{released, chains_moved, lines_taken}
use Rattle.blot_command.proofs.ChangeListLemmas.{released-some, first-step, second-step, both-steps}
use Rattle.blot_command.proofs.accounts.release.Goals as goal

pub take_lines-requires : goal.take_lines-requires
take_lines-requires c =
    let live = c.args.live.now.list in
    let terms = c.in-Some-Some.terms.now in
    let roots = c.in-Some-Some.roots.now in
    let is = released-some live c.args.key.now c.in-Some.key terms roots c.in-Some.is c.in-Some-Some.ensures c.in-Some-Some.ensures' in
    first-step (released live c.args.key.now) (lines_taken terms terms.lines) (chains_moved false live roots) c.args.positions.now is c.requires

pub move_chains-requires : goal.move_chains-requires
move_chains-requires c =
    let live = c.args.live.now.list in
    let terms = c.in-Some-Some.terms.now in
    let roots = c.in-Some-Some.roots.now in
    let is = released-some live c.args.key.now c.in-Some.key terms roots c.in-Some.is c.in-Some-Some.ensures c.in-Some-Some.ensures' in
    second-step (released live c.args.key.now) (lines_taken terms terms.lines) (chains_moved false live roots) c.args.positions.now c.take_lines.new.positions is c.requires
    c.take_lines.ensures

pub returns-in-Some-Some : goal.returns-in-Some-Some
returns-in-Some-Some c =
    let live = c.args.live.now.list in
    let terms = c.in-Some-Some.terms.now in
    let roots = c.in-Some-Some.roots.now in
    let is = released-some live c.args.key.now c.in-Some.key terms roots c.in-Some.is c.in-Some-Some.ensures c.in-Some-Some.ensures' in
    both-steps (released live c.args.key.now) (lines_taken terms terms.lines) (chains_moved false live roots) c.args.positions.now c.take_lines.new.positions c.move_chains.new.positions is
    c.take_lines.ensures c.move_chains.ensures
