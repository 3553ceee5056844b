use Rattle.std.proofs.Common.{refl, Some, ap, sym}
use Rattle.blot_command.specs.Book.{Shown}
use Rattle.blot_command.proofs.StepLemmas.{has_last, taken_back, takes_out}
use Rattle.blot_command.proofs.entering.leave_boxed.Goals as goal

pub take_last-requires : goal.take_last-requires
take_last-requires c = has_last c.args.tables.now c.args.number c.requires

pub returns-clause-list : goal.returns-clause-list
returns-clause-list c =
    (taken_back (λ command. command) (λ command. Some command) (λ command. refl) _ _ _ _ c.requires (ap (λ (shown : Shown). shown.list) c.take_last.ensures.rest)).0

pub returns-clause-command : goal.returns-clause-command
returns-clause-command c =
    (taken_back (λ command. command) (λ command. Some command) (λ command. refl) _ _ _ _ c.requires (ap (λ (shown : Shown). shown.list) c.take_last.ensures.rest)).1

pub returns-clause-kept : goal.returns-clause-kept
returns-clause-kept c =
    takes_out _ _ _ _ c.take_last.ensures.rest c.take_last.ensures.above
    (taken_back (λ command. command) (λ command. Some command) (λ command. refl) _ _ _ _ c.requires (ap (λ (shown : Shown). shown.list) c.take_last.ensures.rest)).0

pub returns-clause-left : goal.returns-clause-left
returns-clause-left c = sym (ap (λ (shown : Shown). shown.kept) c.take_last.ensures.rest)
