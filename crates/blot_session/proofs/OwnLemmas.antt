-- A delivered command is the one that its frame brings by itself.
use Rattle.std.proofs.Common.{◌≡◌, ℕ, List, [], ◌∷◌, map, Option, Some, None, option_to_list, Result, Ok, Err, sym, ap, subst, ◌∙◌, ℤ, IfSome}
use Rattle.std.specs.Cmp.Lexicographic.{bytes_decides}
use Rattle.std.proofs.lemmas.Bool.{and_parts, cond_both}
use Rattle.blot_types.specs.declared.command.Command.{Command}
use Rattle.blot_fields.specs.Bringing.{brought_by}
use Rattle.blot_fields.specs.Commands.{command_of}
use Rattle.blot_fields.specs.declared.{fault.FieldFault.FieldFault, head.Head.Head, message.Body.Body, message.Message.Message}
use Rattle.blot_fields.specs.declared.message.Body.TheVariants as bodies
use Rattle.blot_session.specs.declared.{action.Action.Action, row.End.TheVariants.Delivers, row.Row.Row, state.LinkState.LinkState, state.State.State}
use Rattle.blot_session.specs.declared.state.LinkState.TheVariants as links
use Rattle.blot_session.specs.Calls.{Outcome, command_said, on_frame}
use Rattle.blot_session.specs.Rows.{comp_id_row, frame_row, frame_row_by, head_row, is_from_peer, on_row, waiting_body_row, waiting_row}
use Rattle.blot_session.specs.Runs.{DeliversOwn, Numbered, delivered_by, said_by}
use Rattle.blot_session.specs.States.{heard}
use Rattle.blot_session.proofs.OneLemmas.{by-ended}

-- ---- a row delivers only what the peer sent

comp_id-closes : (state : State) (head : Head) → (comp_id_row state head).end ≡ Delivers → ⊥
unfolding comp_id_row
comp_id-closes state head ends = cc

head-own : (state : State) (head : Head) (said : Result Message FieldFault) (now : ℤ) → (head_row state head said now).end ≡ Delivers → head.sender ≡ state.peer
unfolding head_row
head-own state head said now =
    cond_both (is_from_peer state head) _ _ (λ (row : Row). row.end ≡ Delivers → head.sender ≡ state.peer)
    (λ y ends. (bytes_decides head.sender state.peer).0 (and_parts _ _ y).0)
    (λ n ends. absurd (comp_id-closes state head ends))

on-own : (state : State) (message : Message) (now : ℤ) → (on_row state (Ok message) now).end ≡ Delivers → message.head.sender ≡ state.peer
unfolding on_row
on-own state message now ends = head-own state message.head (Ok message) now ends

-- a session that waits delivers nothing
waiting-none : (state : State) (head : Head) (body : Body) (now : ℤ) (command : Command) → (waiting_body_row state head body now).end ≡ Delivers
    → command_of (record { head = head; body = body }) state.peer ≡ Some command → ⊥
waiting-none state head (bodies.Admin admin) now command ends gives = cc
waiting-none state head (bodies.Report report) now command ends gives = cc
waiting-none state head (bodies.Allocation allocation) now command ends gives = cc
waiting-none state head bodies.Other now command ends gives = cc

waiting-own : (state : State) (message : Message) (now : ℤ) (command : Command) → (waiting_row state (Ok message) now).end ≡ Delivers
    → command_of message state.peer ≡ Some command → message.head.sender ≡ state.peer
unfolding waiting_row
waiting-own state message now command ends gives = absurd (waiting-none state message.head message.body now command ends gives)

row-own : (state : State) (link : LinkState) (message : Message) (now : ℤ) (command : Command) → (frame_row_by state link (Ok message) now).end ≡ Delivers
    → command_of message state.peer ≡ Some command → message.head.sender ≡ state.peer
row-own state links.Waiting message now command ends gives = waiting-own state message now command ends gives
row-own state (links.On live) message now command ends gives = on-own (heard now state) message now ends
row-own state links.Closed message now command ends gives = absurd cc

said-own : (state : State) (said : Result Message FieldFault) (now : ℤ) (command : Command) → (frame_row state said now).end ≡ Delivers
    → command_said said state.peer ≡ Some command → brought_by said ≡ Some command
said-own state (Ok message) now command ends gives = ap (command_of message) (row-own state state.link message now command ends gives) ∙ gives
said-own state (Err fault) now command ends gives = absurd cc

-- ---- what is delivered

-- where just one command is delivered, a message brings it
abbrev IsOwn : Result Message FieldFault → List Numbered → Type 0
IsOwn said numbered = (found : Option Command) → map (λ (one : Numbered). one.command) numbered ≡ option_to_list found
    → IfSome found (λ command. brought_by said ≡ Some command)

own-none : (said : Result Message FieldFault) → IsOwn said []
own-none said None is = tt
own-none said (Some command) is = absurd cc

own-one : (said : Result Message FieldFault) (number : ℕ) (given : Command) → brought_by said ≡ Some given
    → IsOwn said (record { number = number; command = given } ∷ [])
own-one said number given brings None is = tt
own-one said number given brings (Some command) is = brings ∙ ap Some (same is)
  where
    same : given ∷ [] ≡ command ∷ [] → given ≡ command
    same is = cc

pub delivers_own : (state next : State) (actions : List Action) (text : List ℕ) (now : ℤ)
    → record { state = next; actions = actions } ≡ on_frame state (said_by text) now → DeliversOwn text actions
delivers_own state next actions text now gives found just =
    let said = said_by text in
    subst (λ (outcome : Outcome). IsOwn said (delivered_by 0 outcome.actions)) (sym gives)
    (by-ended (IsOwn said) 0 state said now (own-none said) (λ given gives ends. own-one said 0 given (said-own state said now given ends gives)))
    found (just 0)
