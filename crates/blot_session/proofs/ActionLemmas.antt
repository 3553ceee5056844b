-- What the actions of a call deliver.
use Rattle.std.proofs.Common.{◌≡◌, ℕ, ◌<◌, length, false, List, [], ◌∷◌, ◌++◌, map, Option, Some, None, refl, sym, ap, ◌∙◌, arith, IsSome, is_some, option_to_list, option_and_then}
use Rattle.std.specs.List.{list_any}
use Rattle.std.proofs.lemmas.Bool.{false≢true}
use Rattle.blot_types.specs.declared.command.Command.{Command}
use Rattle.blot_session.specs.declared.{action.Action.Action, state.State.State}
use Rattle.blot_session.specs.declared.action.Action.TheVariants.{Send, Deliver, Close}
use Rattle.blot_session.specs.Calls.{Awaits, DeliversAlone, is_deliver}
use Rattle.blot_session.specs.Runs.{delivered, delivered_by}
use Rattle.blot_session.specs.States.{IsIdle}

abbrev pub commands : ℕ → List Action → List Command
commands number actions = map (λ numbered. numbered.command) (delivered_by number actions)

pub delivered-none : (number : ℕ) (actions : List Action) → list_any is_deliver actions ≡ false → delivered_by number actions ≡ []
delivered-none number [] is = refl
delivered-none number (Send bytes ∷ actions) is = delivered-none number actions is
delivered-none number (Deliver command ∷ actions) is = absurd (false≢true (sym is))
delivered-none number (Close reason ∷ actions) is = delivered-none number actions is

-- where a call leaves nothing awaited, it delivered nothing
pub delivered-idle : (number : ℕ) (state : State) (actions : List Action) → Awaits state actions → IsIdle state → delivered_by number actions ≡ []
delivered-idle number state actions awaits idle = delivered-none number actions (awaits.awaited ∙ ap is_some idle)

-- ---- the last action

commands-one : (number : ℕ) (action : Action) → commands number (action ∷ []) ≡ option_to_list (delivered action)
commands-one number (Send bytes) = refl
commands-one number (Deliver command) = refl
commands-one number (Close reason) = refl

any-one : (action : Action) → list_any is_deliver (action ∷ []) ≡ is_some (delivered action)
any-one (Send bytes) = refl
any-one (Deliver command) = refl
any-one (Close reason) = refl

none-last : (front : List Action) (last : Action) → list_any is_deliver (front ++ last ∷ []) ≡ false → delivered last ≡ None
none-last [] (Send bytes) none = refl
none-last [] (Deliver command) none = absurd (false≢true (sym none))
none-last [] (Close reason) none = refl
none-last (Send bytes ∷ front) last none = none-last front last none
none-last (Deliver command ∷ front) last none = absurd (false≢true (sym none))
none-last (Close reason ∷ front) last none = none-last front last none

-- what stands before the last of some actions, and the last, if there are any
pub record IsPopped (actions front : List Action) (last : Option Action) : Type 0 where
  pub is : actions ≡ front ++ option_to_list last
  pub some : 0 < length actions → IsSome last

nothing-behind : (front : List Action) (last : Action) → [] ≡ front ++ last ∷ [] → ⊥
nothing-behind [] last is = absurd cc
nothing-behind (action ∷ front) last is = absurd cc

only : (front : List Action) (action last : Action) → action ∷ [] ≡ front ++ last ∷ [] → action ≡ last
only [] action last is = cc
only (first ∷ front) action last is = absurd (nothing-behind front last cc)

pub popped : (actions front : List Action) (last : Option Action) → IsPopped actions front last → DeliversAlone actions
    → ((number : ℕ) → commands number actions ≡ option_to_list (option_and_then delivered last)) × (list_any is_deliver actions ≡ is_some (option_and_then delivered last))
popped [] front None pop alone = (λ number. refl, refl)
popped [] front (Some last) pop alone = absurd (nothing-behind front last pop.is)
popped (action ∷ actions) front None pop alone = absurd (false≢true (pop.some (omega arith)))
popped (action ∷ []) front (Some last) pop alone =
    let same : action ≡ last = only front action last pop.is in (
      λ number. ap (λ (one : Action). commands number (one ∷ [])) same ∙ commands-one number last,
      ap (λ (one : Action). list_any is_deliver (one ∷ [])) same ∙ any-one last,
    )
popped (action ∷ next ∷ actions) front (Some last) pop alone =
    let none : delivered last ≡ None = none-last front last (ap (list_any is_deliver) (sym pop.is) ∙ alone) in (
      λ number. ap (map (λ numbered. numbered.command)) (delivered-none number (action ∷ next ∷ actions) alone) ∙ sym (ap option_to_list none),
      alone ∙ sym (ap is_some none),
    )
