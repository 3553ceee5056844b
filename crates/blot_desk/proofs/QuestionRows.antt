-- What questions are answered at a desk, computed on the day of two brokers, whose commands are numbered as there.
use Rattle.std.proofs.Common.{◌≡◌, ℕ, ◌*◌, ◌^◌, pos, List, [], ◌∷◌, map, fold, Option, Some, None, refl, option_map}
use Rattle.blot_types.specs.declared.command.Command.TheVariants as commands
use Rattle.blot_types.specs.declared.{command.Entry.Entry, fill.Fill.Fill, fill.Sign.TheVariants.Buy, keys.AllocKey.AllocKey, keys.ExecKey.ExecKey}
use Rattle.blot_types.specs.declared.refused.Refused.TheVariants.{BustedExec, Needed, NotLive}
use Rattle.blot_types.specs.Legal.{refusal_of}
use Rattle.blot_command.specs.Questions.{allocation_of, execution_of}
use Rattle.blot_desk.specs.declared.{event.Event.Event, event.Event.TheVariants.Submit, question.StepRow.StepRow}
use Rattle.blot_desk.specs.declared.question.CommandKey.TheVariants as keys
use Rattle.blot_desk.specs.declared.question.StepRow.TheVariants.{Entry as Live, Withdraw, Withdrawn}
use Rattle.blot_desk.specs.Desk.{DeskState, empty_desk, recorded_of}
use Rattle.blot_desk.specs.Questions.{newest_refusals, newest_steps}

-- broker A or B, and an execution or an allocation of it
abbrev A : ℕ
A = 65

abbrev B : ℕ
B = 66

abbrev exec : ℕ → ℕ → ExecKey
exec broker n = record { peer = broker ∷ []; id = 69 ∷ n ∷ [] }

abbrev alloc : ℕ → AllocKey
alloc n = record { peer = A ∷ []; id = 76 ∷ n ∷ [] }

-- so many bought
abbrev bought : ℕ → Fill
bought qty = record {
  order = record { peer = A ∷ []; id = 79 ∷ [] };
  account = None;
  symbol = 88 ∷ [];
  sign = Buy;
  size = pos (300 * 10 ^ 6);
  qty = qty * 10 ^ 6;
  price = pos 1;
  day = pos 0;
}

abbrev trade : ℕ → ℕ → ℕ → Event
trade broker n qty = Submit (commands.Trade (record { key = exec broker n; fill = bought qty }))

abbrev bust : ℕ → ℕ → ℕ → Event
bust broker n reference = Submit (commands.Bust (record { key = exec broker n; reference = exec broker reference }))

-- an allocation of executions of A, all to one account
abbrev allocated : ℕ → ℕ → List ExecKey → Event
allocated n qty execs = Submit (commands.AllocNew (record {
  key = alloc n;
  terms = record {
    symbol = 88 ∷ [];
    sign = Buy;
    day = pos 0;
    block = qty * 10 ^ 6;
    execs = execs;
    lines = record { account = 67 ∷ []; qty = qty * 10 ^ 6; price = pos 1 } ∷ [];
  };
}))

-- 1 and 2 are A's, 3 and 4 B's; 5 corrects 1, 6 busts 4, which then can't be busted again; 7 allocates 1 and 2
abbrev events : List Event
events =
    trade A 1 100
    ∷ trade A 2 50
    ∷ trade B 1 10
    ∷ trade B 2 30
    ∷ Submit (commands.Correct (record { key = exec A 3; reference = exec A 1; fill = bought 80 }))
    ∷ bust B 3 2
    ∷ bust B 4 2
    ∷ allocated 1 130 (exec A 1 ∷ exec A 2 ∷ [])
    ∷ []

abbrev after : List Event → DeskState
after these = fold recorded_of empty_desk these

abbrev list : List Entry
list = (after events).book.list

-- the numbers of a chain, its Bust, its last version, and the allocation that names it
abbrev Answered : Type 0
Answered = List ℕ × (Option ℕ × (Option ℕ × Option ℕ))

abbrev told : ExecKey → Option Answered
told key = option_map (λ answer. (map (λ entry. entry.number) answer.entries, (answer.bust, (answer.version, answer.allocation)))) (execution_of list key)

-- `execution` of B's E2, and by the key of its Bust; of A's E1; of none
busted : told (exec B 2) ≡ Some (4 ∷ 6 ∷ [], (Some 6, (Some 4, None)))
busted = refl

by_its_bust : told (exec B 3) ≡ Some (4 ∷ 6 ∷ [], (Some 6, (Some 4, None)))
by_its_bust = refl

corrected : told (exec A 1) ≡ Some (1 ∷ 5 ∷ [], (None, (Some 5, Some 7)))
corrected = refl

unknown : told (exec A 9) ≡ None
unknown = refl

-- `needs`, and `allocation`
needed : refusal_of list (commands.Withdraw 2) ≡ Some (Needed 7)
needed = refl

free : refusal_of list (commands.Withdraw 6) ≡ None
free = refl

not_live : refusal_of list (commands.Withdraw 8) ≡ Some (NotLive 8)
not_live = refl

allocation : option_map {U = ℕ × Option ℕ} (λ answer. (answer.entry.number, answer.ended)) (allocation_of list (alloc 1)) ≡ Some (7, None)
allocation = refl

-- the Bust is withdrawn by step 8: then it isn't live, and its step is told as withdrawn
abbrev withdrawn : DeskState
withdrawn = recorded_of (after events) (Submit (commands.Withdraw 6))

gone : refusal_of withdrawn.book.list (commands.Withdraw 6) ≡ Some (NotLive 6)
gone = refl

abbrev numbered : StepRow → ℕ × Option ℕ
numbered (Live entry) = (entry.number, None)
numbered (Withdraw number own) = (number, Some own)
numbered (Withdrawn number) = (number, Some number)

steps : map numbered (newest_steps 3 withdrawn.book) ≡ (8, Some 6) ∷ (7, None) ∷ (6, Some 6) ∷ []
steps = refl

-- the second Bust, refused as the seventh event
refused : newest_refusals 5 withdrawn.history ≡ record { place = 7; command = keys.Bust (exec B 4); reason = BustedExec 6 } ∷ []
refused = refl
