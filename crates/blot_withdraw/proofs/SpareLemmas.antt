-- A legal list in which nobody needs what goes: what is known of each entry, and of the entries before it.
use Rattle.std.proofs.Common.{◌≡◌, true, false, List, ◌∷◌, Option, Some, None, refl, sym, ap, ◌∙◌, filter, is_none, All}
use Rattle.std.specs.List.{cons_option}
use Rattle.std.proofs.lemmas.Bool.{and_parts}
use Rattle.std.proofs.lemmas.List.Elements.{All-head, All-tail}
use Rattle.blot_types.specs.declared.{command.Entry.Entry, keys.ExecKey.ExecKey, link.Link.Link}
use Rattle.blot_types.specs.Chains.{root_in, bust_in, current_in}
use Rattle.blot_types.specs.Legal.{is_above_entries, rises_in, refusal_in, legal_in}
use Rattle.blot_types.specs.Survivors.{link_of, links_in}
use Rattle.blot_types.proofs.ChainLemmas.{none_is, accepted_key}
use Rattle.blot_types.proofs.EntryLemmas.{refusal-link, chained-links}
use Rattle.blot_withdraw.proofs.ChainStayLemmas.{SameRoots, GoWhole, knows-earlier, root-stays, unbusted-stays, bust-stays, current-stays}
use Rattle.blot_withdraw.proofs.Split.{Split, IsFree, Knows, links-split}

-- nobody needs what goes of these entries, which are legal
pub record Spares (split : Split) (entries : List Entry) : Type 0 where
  pub legal : legal_in entries ≡ true
  pub rises : rises_in entries ≡ true
  pub knows : Knows split (links_in entries)
  pub free : All (IsFree split) entries

-- the same, told of the newest one and those before it
pub record SparesNewest (split : Split) (entry : Entry) (earlier : List Entry) : Type 0 where
  pub accepted : refusal_in earlier entry.command ≡ None
  pub own : IsFree split entry
  pub before : Spares split earlier

knows-before :
    (split : Split) (entry : Entry) (earlier : List Entry) (found : Option Link) → link_of entry ≡ found → refusal_in earlier entry.command ≡ None
    → Knows split (cons_option found (links_in earlier)) → Knows split (links_in earlier)
knows-before split entry earlier None is accepted knows = knows
knows-before split entry earlier (Some link) is accepted knows =
    let fresh = accepted_key (links_in earlier) link.key link.role (sym (refusal-link earlier entry link is) ∙ accepted) in
    knows-earlier split link (links_in earlier) fresh.0 knows

pub spares-newest : (split : Split) (entry : Entry) (earlier : List Entry) → Spares split (entry ∷ earlier) → SparesNewest split entry earlier
spares-newest split entry earlier spares =
    let legals : (is_none (refusal_in earlier entry.command) ≡ true) × (legal_in earlier ≡ true) = and_parts _ _ spares.legal in
    let rises : (is_above_entries entry.number earlier ≡ true) × (rises_in earlier ≡ true) = and_parts _ _ spares.rises in
    let accepted = none_is (refusal_in earlier entry.command) legals.0 in
    record {
      accepted = accepted;
      own = All-head (IsFree split) entry earlier spares.free;
      before = record {
        legal = legals.1;
        rises = rises.1;
        knows = knows-before split entry earlier (link_of entry) refl accepted spares.knows;
        free = All-tail (IsFree split) entry earlier spares.free;
      };
    }

-- the chains that stay are as they were
pub roots-spared : (split : Split) (entries : List Entry) → Spares split entries → SameRoots split (links_in entries) (links_in (filter split.stays entries))
roots-spared split entries spares key stays =
    ap (λ links. root_in links key) (links-split split entries) ∙ root-stays split (links_in entries) (chained-links entries spares.legal) spares.knows key stays

pub unbusted-spared :
    (split : Split) (entries : List Entry) (root : ExecKey) → Spares split entries → bust_in (links_in entries) root ≡ None
    → bust_in (links_in (filter split.stays entries)) root ≡ None
unbusted-spared split entries root spares none =
    ap (λ links. bust_in links root) (links-split split entries) ∙ unbusted-stays split (links_in entries) root (chained-links entries spares.legal) spares.knows none

pub bust-spared :
    (split : Split) (entries : List Entry) (root : ExecKey) → Spares split entries → GoWhole split → split.goes (Some root) ≡ false
    → bust_in (links_in (filter split.stays entries)) root ≡ bust_in (links_in entries) root
bust-spared split entries root spares whole stays =
    ap (λ links. bust_in links root) (links-split split entries) ∙ bust-stays split (links_in entries) root (chained-links entries spares.legal) spares.knows whole stays

pub current-spared :
    (split : Split) (entries : List Entry) (root : ExecKey) → Spares split entries → split.goes (Some root) ≡ false
    → current_in (links_in (filter split.stays entries)) root ≡ current_in (links_in entries) root
current-spared split entries root spares stays =
    ap (λ links. current_in links root) (links-split split entries) ∙ current-stays split (links_in entries) root (chained-links entries spares.legal) spares.knows stays
