use Rattle.std.proofs.Common.{◌≡◌, ◌%◌, sum, take}
use Rattle.blot_tag.proofs.sums.sum_of.Given as goal

abbrev pub invariant-loop-byte : goal.invariant-loop-byte
invariant-loop-byte l = l.sum ≡ sum (take l.byte-index l.bytes) % 256
