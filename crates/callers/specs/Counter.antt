-- What adding to a total means.
use Rattle.std.specs.Prelude.{◌≡◌, ℕ, ◌+◌, ◌-◌, true, [], Some, None, refl, nat_le, if◌then◌else◌}
use Rattle.std.proofs.Common.{arith}
use Rattle.blot_command.specs.Undoable.{Meaning, IsLawful}
use Rattle.callers.specs.declared.{counter.Add.Add, counter.AddFault.AddFault, counter.TheConstants.TOTAL_MAX}
use Rattle.callers.specs.declared.counter.AddFault.TheVariants.{TooLarge, NoMemory}

-- the total grows by the amount, up to TOTAL_MAX, and the inverse is the amount; a total has no numbers in it
abbrev pub add_meaning : Meaning ℕ ℕ Add ℕ AddFault
add_meaning = record {
  list_of = λ total. total;
  spare = λ total. [];
  kept = λ total number amount. Unit {0};
  stays = λ amount old new. Unit {0};
  is_valid = λ total. true;
  numbers = λ total. [];
  refused = λ total add. if nat_le (total + add.amount) TOTAL_MAX then None else Some TooLarge;
  after = λ total add number. total + add.amount;
  inverse_of = λ total add number. add.amount;
  before = λ total amount. total - amount;
  command_of = λ total amount. Some (record { amount = amount });
  takes_memory = λ add. true;
  no_memory = NoMemory;
}

less-added : (total amount : ℕ) → (total + amount) - amount ≡ total
less-added total amount = omega arith

-- and that it is lawful
pub add_lawful : IsLawful add_meaning
add_lawful = record {
  before_after = λ total add number valid next. less-added total add.amount;
  command_back = λ total add number valid next. refl;
  valid_after = λ total add number valid within next. refl;
}
