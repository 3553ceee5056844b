-- What the chains keep.
use Rattle.std.specs.Prelude.{◌≡◌, List, true}
use Rattle.blot_types.specs.declared.link.Link.{Link}
use Rattle.blot_types.specs.Chains.{is_chained}
use Rattle.blot_places.specs.declared.slots.Slot.{Slot}
use Rattle.blot_places.specs.Shown.{Shown}
use Rattle.blot_places.specs.Slots.{items, lifted, live, numbers_fall}
use Rattle.blot_chain.specs.declared.{index.Index.Index, chain_link.ChainLink.ChainLink}
use Rattle.blot_chain.specs.Index.{IsIndexed}
use Rattle.blot_chain.specs.ChainLinks.{HaveRoots, NewestLive, link_number, links_in}

-- of all slots: the numbers fall from the newest to the oldest, each has its root beside it, and the index names their places; of the
-- live ones: each link was accepted after those before it, and each is the newest slot of its key
pub record HoldsChains (index : Index) (slots : List (Slot ChainLink)) : Type 0 where
  pub fall : numbers_fall link_number (items slots) ≡ true
  pub roots : HaveRoots slots
  pub indexed : IsIndexed index slots
  pub chained : is_chained (links_in (live slots)) ≡ true
  pub newest : NewestLive slots

-- what a contract sees of slots: the links of those that are live, and of those that are lifted
abbrev pub shown_of : List (Slot ChainLink) → Shown Link
shown_of slots = record { list = links_in (live slots); kept = links_in (lifted slots) }
