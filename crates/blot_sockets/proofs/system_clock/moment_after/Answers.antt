use Rattle.std.proofs.Common.{None, refl, ◌/◌}
use Rattle.std.specs.Duration.{as_nanos}
use Rattle.blot_time.specs.declared.moment.Moment.{Moment}
use Rattle.blot_sockets.proofs.ClockLemmas.{too-late}
use Rattle.blot_sockets.proofs.system_clock.moment_after.Goals as goal

pub returns-in-Err-clause-within : goal.returns-in-Err-clause-within
returns-in-Err-clause-within c =
    too-late {A = Moment} None refl (as_nanos c.args.since_1970 / 1_000_000) c.as_millis.result c.as_millis.ensures c.in-Err.ensures
