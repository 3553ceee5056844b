-- What stops a session delivers nothing.
use Rattle.std.proofs.Common.{◌≡◌, ◌<◌, length, true, false, List, [], ◌∷◌, ◌++◌, Option, Some, None, refl, sym, ap, subst, ◌∙◌, inl, inr, arith, ℕ, is_some}
use Rattle.std.specs.List.{list_any}
use Rattle.std.proofs.lemmas.Bool.{cases_Bool, false≢true}
use Rattle.blot_types.specs.declared.command.Command.{Command}
use Rattle.blot_session.specs.declared.{action.Action.Action, state.State.State}
use Rattle.blot_session.specs.declared.action.Action.TheVariants.{Send, Deliver, Close}
use Rattle.blot_session.specs.Calls.{Awaits, DeliversAlone, is_deliver}
use Rattle.blot_session.specs.States.{awaited_of, IsIdle}
use Rattle.blot_gateway.specs.declared.ended.Stop.{Stop}
use Rattle.blot_gateway.specs.declared.ended.Stop.TheVariants as stops
use Rattle.blot_gateway.specs.Wires.{Did}
use Rattle.blot_gateway.specs.Sending.{Halts}

alone-is : (actions : List Action) → DeliversAlone actions → list_any is_deliver actions ≡ true → (command : Command) × (actions ≡ Deliver command ∷ [])
alone-is [] alone some = absurd (false≢true some)
alone-is (Send bytes ∷ []) alone some = absurd (false≢true some)
alone-is (Deliver command ∷ []) alone some = (command, refl)
alone-is (Close reason ∷ []) alone some = absurd (false≢true some)
alone-is (action ∷ next ∷ actions) alone some = absurd (false≢true (sym alone ∙ some))

not-halted : {W : Type 0} (does : W → Did → W → Type 0) (stop : Stop) (a b : W) (command : Command) → Halts does stop a (Deliver command ∷ []) b → ⊥
not-halted does (stops.Closed reason) a b command halts = elim-close halts.1
  where
    elim-close : None ≡ Some reason → ⊥
    elim-close is = cc
not-halted does stops.WriteFault a b command halts = full halts.front halts.is_front.back halts.is_front.joined halts.is_front.short
  where
    full : (front back : List ℕ) → front ++ back ≡ [] → 0 < length back → ⊥
    full [] back is short = omega (arith, ap length is)
    full (byte ∷ front) back is short = absurd cc
not-halted does stops.NoMemory a b command halts = halts

pub halted-idle : {W : Type 0} (does : W → Did → W → Type 0) (stop : Stop) (a b : W) (state : State) (actions : List Action)
    → Awaits state actions → DeliversAlone actions → Halts does stop a actions b → IsIdle state
halted-idle does stop a b state actions awaits alone halts = elim (cases_Bool (list_any is_deliver actions)) [
  | inl some ↦
      let one = alone-is actions alone some in
      absurd (not-halted does stop a b one.0 (subst (λ list. Halts does stop a list b) one.1 halts))
  | inr none ↦ idle-none (awaited_of state) (sym awaits.awaited ∙ none)
]
  where
    idle-none : {A : Type 0} (found : Option A) → is_some found ≡ false → found ≡ None
    idle-none None none = refl
    idle-none (Some x) none = absurd (false≢true (sym none))
