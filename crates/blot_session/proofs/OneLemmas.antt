-- A frame delivers one command at most, that of its message.
use Rattle.std.proofs.Common.{◌≡◌, ℕ, List, [], ◌∷◌, ◌++◌, Option, Some, None, Result, refl, sym, subst, ℤ}
use Rattle.std.proofs.lemmas.Bool.{cond_both}
use Rattle.blot_types.specs.declared.command.Command.{Command}
use Rattle.blot_fields.specs.declared.{fault.FieldFault.FieldFault, message.Message.Message}
use Rattle.blot_session.specs.declared.{action.Action.Action, outbound.Outbound.Outbound, row.End.End, row.Row.Row, state.State.State}
use Rattle.blot_session.specs.declared.row.End.TheVariants.{Stays, Delivers, Closes}
use Rattle.blot_session.specs.Calls.{Outcome, behind, sent, ending, carried_out, is_spent, command_said, on_frame}
use Rattle.blot_session.specs.Rows.{frame_row}
use Rattle.blot_session.specs.Runs.{Numbered, delivered_by}
use Rattle.blot_session.specs.Table.{messages_of}

-- no two items
abbrev pub AtMostOne : {A : Type 0} → List A → Type 0
AtMostOne [] = Unit {0}
AtMostOne (item ∷ []) = Unit {0}
AtMostOne (item ∷ next ∷ items) = ⊥

-- what is sent delivers nothing
delivered-sent : (number : ℕ) (messages : List Outbound) (state : State) (now : ℤ) (actions : List Action)
    → delivered_by number (sent state messages now ++ actions) ≡ delivered_by number actions
delivered-sent number [] state now actions = refl
delivered-sent number (message ∷ messages) state now actions = delivered-sent number messages (behind state message now) now actions

-- what holds of nothing, and of the command alone, holds of what an ending delivers
by-ending : (P : List Numbered → Type 0) (number : ℕ) (end : End) (command : Option Command)
    → P [] → ((given : Command) → command ≡ Some given → end ≡ Delivers → P (record { number = number; command = given } ∷ []))
    → P (delivered_by number (ending end command))
by-ending P number Stays command none one = none
by-ending P number Delivers None none one = none
by-ending P number Delivers (Some command) none one = one command refl refl
by-ending P number (Closes reason) command none one = none

by-row : (P : List Numbered → Type 0) (number : ℕ) (row : Row) (command : Option Command) (now : ℤ)
    → P [] → ((given : Command) → command ≡ Some given → row.end ≡ Delivers → P (record { number = number; command = given } ∷ []))
    → P (delivered_by number (carried_out row command now).actions)
by-row P number row command now none one =
    subst P (sym (delivered-sent number (messages_of row.sends) row.state now (ending row.end command))) (by-ending P number row.end command none one)

-- so it holds of what a frame delivers, which is nothing, or the command of its message where its row delivers one
pub by-ended : (P : List Numbered → Type 0) (number : ℕ) (state : State) (said : Result Message FieldFault) (now : ℤ)
    → P []
    → ((given : Command) → command_said said state.peer ≡ Some given → (frame_row state said now).end ≡ Delivers → P (record { number = number; command = given } ∷ []))
    → P (delivered_by number (on_frame state said now).actions)
by-ended P number state said now none one =
    cond_both (is_spent state (frame_row state said now)) _ _ (λ (outcome : Outcome). P (delivered_by number outcome.actions))
    (λ y. none)
    (λ n. by-row P number (frame_row state said now) (command_said said state.peer) now none one)

pub by-frame : (P : List Numbered → Type 0) (number : ℕ) (state : State) (said : Result Message FieldFault) (now : ℤ)
    → P [] → ((given : Command) → command_said said state.peer ≡ Some given → P (record { number = number; command = given } ∷ []))
    → P (delivered_by number (on_frame state said now).actions)
by-frame P number state said now none one = by-ended P number state said now none (λ given gives ends. one given gives)

pub one-frame : (number : ℕ) (state : State) (said : Result Message FieldFault) (now : ℤ) → AtMostOne (delivered_by number (on_frame state said now).actions)
one-frame number state said now = by-frame AtMostOne number state said now tt (λ given is. tt)
