use Rattle.std.proofs.Common.{◌≡◌, take}
use Rattle.blot_lanes.specs.Listing.{peers_of}
use Rattle.blot_lanes.proofs.listed_peer.names_of.Given as goal

abbrev pub invariant-loop-it : goal.invariant-loop-it
invariant-loop-it g l = l.names.items ≡ peers_of (take l.it-index l.listed)
