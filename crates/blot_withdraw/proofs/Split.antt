-- Which entries of a list stay, where some chains of executions and some allocations go.
use Rattle.std.proofs.Common.{◌≡◌, ℕ, Bool, true, false, List, Option, Some, refl, sym, ap, ◌∙◌, inl, inr, not, filter, All, filter_map}
use Rattle.std.specs.Option.{option_map_or}
use Rattle.std.proofs.lemmas.Bool.{cases_Bool}
use Rattle.blot_types.specs.declared.{command.Command.Command, command.Entry.Entry, keys.AllocKey.AllocKey, keys.ExecKey.ExecKey, lines.Version.Version, link.Link.Link, link.Role.Role}
use Rattle.blot_types.specs.declared.command.Command.TheVariants.{Trade, Correct, Bust, AllocNew, AllocReplace, AllocCancel, Withdraw}
use Rattle.blot_types.specs.declared.link.Role.TheVariants.{Begins, Corrects, Busts}
use Rattle.blot_types.specs.Chains.{root_in, brings_version}
use Rattle.blot_types.specs.Refusals.{alloc_key, alloc_reference, listed_by}
use Rattle.blot_types.specs.Survivors.{link_of, links_in, version_by, version_of}
use Rattle.blot_types.proofs.StayLemmas.{filter_map-filter}

-- the execution by which a link is of a chain: its own, or for a Bust its reference
abbrev pub chain_key : ExecKey → Role → ExecKey
chain_key key Begins = key
chain_key key (Corrects reference) = key
chain_key key (Busts reference) = reference

-- chains of executions go, told by their roots, and allocations, told by their keys: a Trade or a Correct goes where
-- its chain goes, and stays where that stays; a Bust goes with its chain, or alone
pub record Split : Type 0 where
  -- the roots of keys in the whole list
  pub roots : ExecKey → Option ExecKey
  -- whether a chain goes
  pub goes : Option ExecKey → Bool
  -- whether an allocation goes
  pub drops : AllocKey → Bool
  -- whether an entry stays, and a link
  pub stays : Entry → Bool
  pub keeps : Link → Bool
  pub linked : (entry : Entry) (link : Link) → link_of entry ≡ Some link → stays entry ≡ keeps link
  pub kept : (link : Link) → keeps link ≡ true → goes (roots (chain_key link.key link.role)) ≡ false
  pub gone : (link : Link) → brings_version link.role ≡ true → keeps link ≡ false → goes (roots link.key) ≡ true
  pub allocated : (entry : Entry) (key : AllocKey) → alloc_key entry.command ≡ Some key → stays entry ≡ not (drops key)

-- nobody needs what goes: an allocation that stays lists no execution of a chain that goes, and what refers to an
-- allocation goes where that goes, and stays where it stays
pub record IsFree (split : Split) (entry : Entry) : Type 0 where
  pub lists : split.stays entry ≡ true → All (λ key. split.goes (split.roots key) ≡ false) (listed_by entry.command)
  pub refers : (key reference : AllocKey) → alloc_key entry.command ≡ Some key → alloc_reference entry.command ≡ Some reference → split.drops key ≡ split.drops reference

-- the roots that these links tell are those of the whole list
pub record Knows (split : Split) (links : List Link) : Type 0 where
  pub known : (key root : ExecKey) → root_in links key ≡ Some root → split.roots key ≡ Some root

-- the links of the entries that stay
pub links-split : (split : Split) (entries : List Entry) → links_in (filter split.stays entries) ≡ filter split.keeps (links_in entries)
links-split split entries = filter_map-filter link_of split.stays split.keeps entries split.linked

-- ---- versions

pub own_key : (key : ExecKey) (role : Role) → brings_version role ≡ true → chain_key key role ≡ key
own_key key Begins is = refl
own_key key (Corrects reference) is = refl
own_key key (Busts reference) is = cc

-- the link of a Trade or a Correct stays where its chain stays
whole : (split : Split) (link : Link) → brings_version link.role ≡ true → split.keeps link ≡ not (split.goes (split.roots link.key))
whole split link is =
    elim (cases_Bool (split.keeps link)) [
      | inl stays ↦
          let chain : split.goes (split.roots link.key) ≡ false = ap (λ key. split.goes (split.roots key)) (sym (own_key link.key link.role is)) ∙ split.kept link stays in
          stays ∙ sym (ap not chain)
      | inr goes ↦ goes ∙ sym (ap not (split.gone link is goes))
    ]

abbrev pub version_stays : Split → Version → Bool
version_stays split version = not (split.goes (split.roots version.key))

by_link : (split : Split) (entry : Entry) (link : Link) (version : Version) → link_of entry ≡ Some link → brings_version link.role ≡ true → link.key ≡ version.key → split.stays entry ≡ version_stays split version
by_link split entry link version is one key = split.linked entry link is ∙ whole split link one ∙ ap (λ k. not (split.goes (split.roots k))) key

-- what an entry brings stays where the entry stays
brought_stays :
    (split : Split) (number : ℕ) (command : Command) (version : Version) → version_by number command ≡ Some version
    → split.stays (record { number = number; command = command }) ≡ version_stays split version
brought_stays split number (Trade trade) version is =
    by_link split (record { number = number; command = Trade trade }) (record { number = number; key = trade.key; role = Begins }) version refl refl
    (ap (λ o. option_map_or (λ v. v.key) o trade.key) is)
brought_stays split number (Correct correct) version is =
    by_link split (record { number = number; command = Correct correct }) (record { number = number; key = correct.key; role = Corrects correct.reference }) version refl refl
    (ap (λ o. option_map_or (λ v. v.key) o correct.key) is)
brought_stays split number (Bust bust) version is = cc
brought_stays split number (AllocNew new) version is = cc
brought_stays split number (AllocReplace replace) version is = cc
brought_stays split number (AllocCancel cancel) version is = cc
brought_stays split number (Withdraw withdrawn) version is = cc

-- the versions of the entries that stay
pub versions-split : (split : Split) (entries : List Entry) → filter_map version_of (filter split.stays entries) ≡ filter (version_stays split) (filter_map version_of entries)
versions-split split entries =
    filter_map-filter version_of split.stays (version_stays split) entries (λ entry version is. brought_stays split entry.number entry.command version is)
