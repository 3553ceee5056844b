use Rattle.std.proofs.Common.{◌≡◌, ◌≤◌, ◌++◌, drop, length, map}
use Rattle.blot_command.specs.Standings.{Told, told_in}
use Rattle.blot_command.proofs.snapshot.SnapshotReported.told.Given as goal

abbrev pub invariant-loop-place : goal.invariant-loop-place
invariant-loop-place l = record {
  told : map (λ (one : Told). one.entry) l.told.items ++ drop l.place l.entry-items ≡ l.entry-items;
  each : l.told.items ≡ map (λ (one : Told). told_in l.entry-items one.entry) l.told.items;
  few : length l.told.items ≤ l.place;
}
