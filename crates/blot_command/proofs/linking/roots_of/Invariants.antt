use Rattle.std.proofs.Common.{◌≡◌, ◌≤◌, ◌++◌, drop, length, filter_map}
use Rattle.blot_types.specs.Chains.{root_in}
use Rattle.blot_command.proofs.linking.roots_of.Given as goal

abbrev pub invariant-loop-key : goal.invariant-loop-key
invariant-loop-key l = record {
  found : l.roots.items ++ filter_map (root_in l.chains.list) (drop l.key-index l.key-items) ≡ filter_map (root_in l.chains.list) l.key-items;
  few : length l.roots.items ≤ l.key-index;
}
