use Rattle.std.proofs.Common.{◌↔◌, drop}
use Rattle.std.specs.List.{IsDistinct}
use Rattle.blot_types.specs.Keys.{same_text}
use Rattle.blot_lanes.specs.Listing.{peers_of}
use Rattle.blot_lanes.proofs.listed_peer.are_distinct.Given as goal

abbrev pub invariant-loop-index : goal.invariant-loop-index
invariant-loop-index g l = IsDistinct same_text (peers_of l.listed) ↔ IsDistinct same_text (peers_of (drop l.index l.listed))
