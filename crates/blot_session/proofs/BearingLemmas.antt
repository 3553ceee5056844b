-- The numbers that actions bear.
use Rattle.std.proofs.Common.{◌≡◌, ℕ, List, [], ◌∷◌, ◌++◌, Option, Some, None, refl, sym, ap, ◌∙◌, inl, inr, ℤ}
use Rattle.std.proofs.lemmas.Bool.{cases_Bool, cond-false, cond-true}
use Rattle.blot_types.specs.declared.command.Command.{Command}
use Rattle.blot_session.specs.declared.{outbound.Outbound.Outbound, row.End.End, row.Row.Row, state.State.State}
use Rattle.blot_session.specs.declared.row.End.TheVariants.{Stays, Delivers, Closes}
use Rattle.blot_session.specs.Calls.{carried_out, ending, is_spent, outcome_of, sent, spent}
use Rattle.blot_session.specs.Sending.{numbers_by, numbers_from}
use Rattle.blot_session.specs.Table.{messages_of}

-- a row of which nothing is sent uses no number
starts-sending : (state : State) (messages : List Outbound) (now : ℤ) (end other : End) (command given : Option Command) (next : ℕ)
    → sent state messages now ++ ending end command ≡ ending other given → numbers_from next messages ≡ []
starts-sending state [] now end other command given next is = refl
starts-sending state (message ∷ messages) now end Stays command given next is = absurd cc
starts-sending state (message ∷ messages) now end Delivers command None next is = absurd cc
starts-sending state (message ∷ messages) now end Delivers command (Some brought) next is = absurd cc
starts-sending state (message ∷ messages) now end (Closes reason) command given next is = absurd cc

pub quiet-none : (state : State) (row : Row) (command : Option Command) (now : ℤ) (end : End) (given : Option Command)
    → (outcome_of state row command now).actions ≡ ending end given → numbers_by state row ≡ []
quiet-none state row command now end given is =
    elim (cases_Bool (is_spent state row)) [
      | inl used ↦ cond-true (is_spent state row) [] (numbers_from row.state.next (messages_of row.sends)) used
      | inr left ↦
          let carried = ap (λ done. done.actions) (sym (cond-false (is_spent state row) (spent state) (carried_out row command now) left)) in
          cond-false (is_spent state row) [] (numbers_from row.state.next (messages_of row.sends)) left
          ∙ starts-sending row.state (messages_of row.sends) now row.end end command given row.state.next (carried ∙ is)
    ]

-- ---- calls
