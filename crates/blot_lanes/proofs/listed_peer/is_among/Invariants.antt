use Rattle.std.proofs.Common.{◌≡◌, drop}
use Rattle.std.specs.List.{list_any}
use Rattle.blot_types.specs.Keys.{same_text}
use Rattle.blot_lanes.specs.Listing.{peers_of}
use Rattle.blot_lanes.proofs.listed_peer.is_among.Given as goal

abbrev pub invariant-loop-other : goal.invariant-loop-other
invariant-loop-other g l = list_any (same_text l.peer) (peers_of l.others) ≡ list_any (same_text l.peer) (peers_of (drop l.other-index l.others))
