-- Who made what, computed on a short day: A's broker trades twice, and once more under a number that is taken; the operator, O, takes the
-- first out, undoes that and does it again, and wants to take out what isn't live.
use Rattle.std.proofs.Common.{◌≡◌, ℕ, ◌*◌, ◌^◌, pos, List, [], ◌∷◌, fold, None, refl}
use Rattle.blot_types.specs.declared.command.Command.TheVariants as commands
use Rattle.blot_types.specs.declared.fill.Sign.TheVariants.{Buy}
use Rattle.blot_desk.specs.declared.{event.Event.Event, question.Question.Question}
use Rattle.blot_desk.specs.declared.event.Event.TheVariants.{Submit, Undo, Redo}
use Rattle.blot_desk.specs.declared.question.Question.TheVariants.{Entry, Refusals, Steps}
use Rattle.blot_desk.specs.Desk.{DeskState, empty_desk, recorded_of, step_of}
use Rattle.blot_desk.specs.Makers.{Makers, makers_of, no_makers, with_maker}
use Rattle.blot_desk.specs.Questions.{found_of}

abbrev A : List ℕ
A = 65 ∷ []

abbrev B : List ℕ
B = 66 ∷ []

abbrev O : List ℕ
O = 79 ∷ []

-- a trade of a broker under a number
abbrev trade : List ℕ → ℕ → Event
trade broker n = Submit (commands.Trade (record {
  key = record { peer = broker; id = n ∷ [] };
  fill = record {
    order = record { peer = broker; id = 49 ∷ [] };
    account = None;
    symbol = 88 ∷ [];
    sign = Buy;
    size = pos (300 * 10 ^ 6);
    qty = 100 * 10 ^ 6;
    price = pos 1;
    day = pos 0;
  };
}))

abbrev withdrawal : ℕ → Event
withdrawal number = Submit (commands.Withdraw number)

-- what a desk holds, with the makers, after an event of a maker
abbrev DeskWithMakers : Type 0
DeskWithMakers = DeskState × Makers

abbrev on : DeskWithMakers → List ℕ × Event → DeskWithMakers
on now made = (recorded_of now.0 made.1, with_maker made.0 made.1 (step_of now.0.book made.1).reply now.1)

abbrev day : DeskWithMakers
day = fold on (empty_desk, no_makers) (
    (A, trade A 49)
    ∷ (B, trade B 49)
    ∷ (A, trade A 49)
    ∷ (B, trade B 50)
    ∷ (O, withdrawal 1)
    ∷ (B, Undo 4)
    ∷ (A, Redo)
    ∷ (A, Undo 9)
    ∷ (O, withdrawal 1)
    ∷ [])

abbrev told : Question → List (List ℕ)
told question = makers_of day.1 (found_of day.0 question)

-- whoever undoes a step or does it again, it stays its maker's
steps : told (Steps 9) ≡ O ∷ B ∷ B ∷ A ∷ []
steps = refl

newest_step : told (Steps 1) ≡ O ∷ []
newest_step = refl

-- the undo that was refused is no command
refusals : told (Refusals 9) ≡ O ∷ A ∷ []
refusals = refl

newest_refusal : told (Refusals 1) ≡ O ∷ []
newest_refusal = refl

other : told (Entry 2) ≡ []
other = refl
