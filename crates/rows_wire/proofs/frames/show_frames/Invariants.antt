use Rattle.std.proofs.Common.{length}
use Rattle.rows_wire.proofs.frames.show_frames.Given as goal

abbrev pub decreases-loop-frame : goal.decreases-loop-frame
decreases-loop-frame l = length l.reader.unread
