use Rattle.std.proofs.Common.{rules}
use Rattle.blot_time.specs.Clock.{clock_of}
use Rattle.blot_time.proofs.clock.read_clock.Goals as goal

pub returns-then-text-lt9-clause-value : goal.returns-then-text-lt9-clause-value
unfolding clock_of
returns-then-text-lt9-clause-value c = search rules

pub returns-then-not-has_shape-clause-value : goal.returns-then-not-has_shape-clause-value
unfolding clock_of
returns-then-not-has_shape-clause-value c = search rules

pub returns-then-hour-gt23-clause-value : goal.returns-then-hour-gt23-clause-value
unfolding clock_of
returns-then-hour-gt23-clause-value c = search rules

pub returns-in_err-read_fraction-clause-value : goal.returns-in_err-read_fraction-clause-value
unfolding clock_of
returns-in_err-read_fraction-clause-value c = search rules

pub returns-clause-value : goal.returns-clause-value
unfolding clock_of
returns-clause-value c = search rules
