-- The limits of a day and of a stream, as figures: all contracts name them.
use Rattle.std.proofs.Common.{◌≡◌, ◌^◌, refl}
use Rattle.blot_types.specs.declared.TheConstants.{EVENTS_MAX}
use Rattle.blot_gateway.specs.declared.ended.TheConstants.{READS_MAX}

events_of_a_day : EVENTS_MAX ≡ 250_000
events_of_a_day = refl

reads_of_a_stream : READS_MAX ≡ 2 ^ 30
reads_of_a_stream = refl
