use Rattle.blot_time.specs.Clock.{clock_text}
use Rattle.blot_time.proofs.clock.write_clock.Goals as goal

pub returns : goal.returns
unfolding clock_text
returns c = rw (c.two_digits.ensures, c.two_digits-2.ensures, c.two_digits-3.ensures, c.three_digits.ensures)
