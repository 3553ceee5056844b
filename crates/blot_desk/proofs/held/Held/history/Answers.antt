use Rattle.std.proofs.Common.{subst}
use Rattle.blot_command.specs.Meanings.{command_meaning}
use Rattle.blot_undo.specs.Laws.{LeadTo}
use Rattle.blot_desk.specs.Desk.{DeskState, UndosGoBack, RedosReturn, desk_book}
use Rattle.blot_desk.proofs.BackLemmas.{undos_go_back, redos_return}
use Rattle.blot_desk.proofs.held.Held.history.Goals as goal

pub returns-clause-lead : goal.returns-clause-lead
returns-clause-lead c = subst (λ (desk : DeskState). LeadTo command_meaning desk.book.done desk.book.list) c.self.view_is c.done.ensures.lead

pub returns-clause-undos : goal.returns-clause-undos
returns-clause-undos c =
    subst (λ (desk : DeskState). UndosGoBack desk.book) c.self.view_is (undos_go_back (desk_book c.self.inside.steps) c.done.ensures.lead)

pub returns-clause-redos : goal.returns-clause-redos
returns-clause-redos c =
    subst (λ (desk : DeskState). RedosReturn desk.book) c.self.view_is (redos_return (desk_book c.self.inside.steps) c.done.ensures.round_trip)
