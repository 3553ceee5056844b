use Rattle.std.proofs.Common.{◌≡◌, ◌<◌, ◌^◌, take}
use Rattle.blot_time.specs.Digits.{number}
use Rattle.blot_time.proofs.digits.number_of.Given as goal

abbrev pub invariant-loop-digit : goal.invariant-loop-digit
invariant-loop-digit l = (l.value ≡ number (take l.digit-index l.digits)) × (l.value < 10 ^ l.digit-index)
