-- Entries, read as the links and the versions that they are.
use Rattle.std.proofs.Common.{◌≡◌, ℕ, true, false, List, [], ◌∷◌, ◌++◌, Option, Some, None, refl, sym, ap, ◌∙◌, subst, is_none, nat_lt, find, option_map, option_and_then}
use Rattle.std.specs.List.{cons_option}
use Rattle.std.specs.Option.{option_or}
use Rattle.std.proofs.lemmas.Bool.{and_from, and_parts}
use Rattle.std.proofs.lemmas.List.{reverse-append}
use Rattle.blot_types.specs.declared.{command.Command.Command, command.Entry.Entry, keys.ExecKey.ExecKey, lines.Version.Version, link.Link.Link}
use Rattle.blot_types.specs.declared.command.Command.TheVariants.{Trade, Correct, Bust, AllocNew, AllocReplace, AllocCancel, Withdraw}
use Rattle.blot_types.specs.declared.refused.Refused.TheVariants.{DuplicateExec, UnknownExec, BustedExec}
use Rattle.blot_types.specs.Chains.{taker_in, root_in, bust_in, chain_refusal, link_refusal, is_chained, is_above_links, falls, brings_version}
use Rattle.blot_types.specs.Legal.{is_above_entries, rises_in, refusal_in, legal_in}
use Rattle.blot_types.specs.Survivors.{link_by, link_of, links_in, links_of, version_by, version_of}
use Rattle.blot_types.proofs.ChainLemmas.{none_is}

-- ---- one entry

abbrev link_number : Option Link → ℕ
link_number None = 0
link_number (Some link) = link.number

numbered_link : (number : ℕ) (command : Command) (link : Link) → link_by number command ≡ Some link → link.number ≡ number
numbered_link number (Trade trade) link is = ap link_number (sym is)
numbered_link number (Correct correct) link is = ap link_number (sym is)
numbered_link number (Bust bust) link is = ap link_number (sym is)
numbered_link number (AllocNew new) link is = cc
numbered_link number (AllocReplace replace) link is = cc
numbered_link number (AllocCancel cancel) link is = cc
numbered_link number (Withdraw withdrawn) link is = cc

-- a link bears the number of its entry
pub link-number : (entry : Entry) (link : Link) → link_of entry ≡ Some link → link.number ≡ entry.number
link-number entry link is = numbered_link entry.number entry.command link is

abbrev version_number : Option Version → ℕ
version_number None = 0
version_number (Some version) = version.number

numbered_version : (number : ℕ) (command : Command) (version : Version) → version_by number command ≡ Some version → version.number ≡ number
numbered_version number (Trade trade) version is = ap version_number (sym is)
numbered_version number (Correct correct) version is = ap version_number (sym is)
numbered_version number (Bust bust) version is = cc
numbered_version number (AllocNew new) version is = cc
numbered_version number (AllocReplace replace) version is = cc
numbered_version number (AllocCancel cancel) version is = cc
numbered_version number (Withdraw withdrawn) version is = cc

-- a version bears the number of its entry
pub version-number : (entry : Entry) (version : Version) → version_of entry ≡ Some version → version.number ≡ entry.number
version-number entry version is = numbered_version entry.number entry.command version is

-- what an entry's version has of its link
pub record IsVersionOf (link : Link) (version : Version) : Type 0 where
  pub number : version.number ≡ link.number
  pub key : version.key ≡ link.key

-- an entry that is a link of a Trade or a Correct brings a version of it
abbrev BringsVersion : Option Link → Option Version → Type 0
BringsVersion None brought = brought ≡ None
BringsVersion (Some link) brought = brings_version link.role ≡ true → (version : Version) × (brought ≡ Some version) × IsVersionOf link version

brought_by : (number : ℕ) (command : Command) → BringsVersion (link_by number command) (version_by number command)
brought_by number (Trade trade) = λ is. (record { number = number; key = trade.key; fill = trade.fill }, refl, record { number = refl; key = refl })
brought_by number (Correct correct) = λ is. (record { number = number; key = correct.key; fill = correct.fill }, refl, record { number = refl; key = refl })
brought_by number (Bust bust) = λ is. cc
brought_by number (AllocNew new) = refl
brought_by number (AllocReplace replace) = refl
brought_by number (AllocCancel cancel) = refl
brought_by number (Withdraw withdrawn) = refl

pub version-of_link :
    (entry : Entry) (link : Link) → link_of entry ≡ Some link → brings_version link.role ≡ true → (version : Version) × (version_of entry ≡ Some version) × IsVersionOf link version
version-of_link entry link is =
    let brought = brought_by entry.number entry.command in
    subst (λ found. BringsVersion found (version_of entry)) is brought

-- an entry that is no link brings no version
pub version-unlinked : (entry : Entry) → link_of entry ≡ None → version_of entry ≡ None
version-unlinked entry is = subst (λ found. BringsVersion found (version_of entry)) is (brought_by entry.number entry.command)

-- nor does one that is the link of a Bust
abbrev BringsNone : Option Link → Option Version → Type 0
BringsNone None brought = brought ≡ None
BringsNone (Some link) brought = brings_version link.role ≡ false → brought ≡ None

none_by : (number : ℕ) (command : Command) → BringsNone (link_by number command) (version_by number command)
none_by number (Trade trade) = λ is. cc
none_by number (Correct correct) = λ is. cc
none_by number (Bust bust) = λ is. refl
none_by number (AllocNew new) = refl
none_by number (AllocReplace replace) = refl
none_by number (AllocCancel cancel) = refl
none_by number (Withdraw withdrawn) = refl

pub version-of_bust : (entry : Entry) (link : Link) → link_of entry ≡ Some link → brings_version link.role ≡ false → version_of entry ≡ None
version-of_bust entry link is = subst (λ found. BringsNone found (version_of entry)) is (none_by entry.number entry.command)

-- ---- why an execution is refused

or-none : (bust : Option ℕ) → option_or (option_map BustedExec (option_or bust None)) None ≡ option_map BustedExec bust
or-none None = refl
or-none (Some number) = refl

-- the rules of unknown and busted executions, of the one execution that a Correct or a Bust refers to
one_reference :
    (links : List Link) (reference : ExecKey) (found : Option ExecKey)
    → option_or (option_map UnknownExec (find (λ key. is_none found) (reference ∷ [])))
    (option_or (option_map BustedExec (option_or (option_and_then (bust_in links) found) None)) None)
    ≡ chain_refusal links reference found
one_reference links reference None = refl
one_reference links reference (Some root) = or-none (bust_in links root)

-- a link is refused as its command is
abbrev RefusedAs : List Entry → Command → Option Link → Type 0
RefusedAs entries command None = Unit {0}
RefusedAs entries command (Some link) = refusal_in entries command ≡ link_refusal (links_in entries) link.key link.role

refused_as : (entries : List Entry) (number : ℕ) (command : Command) → RefusedAs entries command (link_by number command)
refused_as entries number (Trade trade) = refl
refused_as entries number (Correct correct) =
    ap (option_or (option_map DuplicateExec (taker_in (links_in entries) correct.key)))
    (one_reference (links_in entries) correct.reference (root_in (links_in entries) correct.reference))
refused_as entries number (Bust bust) =
    ap (option_or (option_map DuplicateExec (taker_in (links_in entries) bust.key)))
    (one_reference (links_in entries) bust.reference (root_in (links_in entries) bust.reference))
refused_as entries number (AllocNew new) = tt
refused_as entries number (AllocReplace replace) = tt
refused_as entries number (AllocCancel cancel) = tt
refused_as entries number (Withdraw withdrawn) = tt

pub refusal-link :
    (entries : List Entry) (entry : Entry) (link : Link) → link_of entry ≡ Some link
    → refusal_in entries entry.command ≡ link_refusal (links_in entries) link.key link.role
refusal-link entries entry link is = subst (RefusedAs entries entry.command) is (refused_as entries entry.number entry.command)

-- ---- lists of entries

-- one more entry is one more link, if it is one
pub links_of-push : (list : List Entry) (entry : Entry) → links_of (list ++ entry ∷ []) ≡ cons_option (link_of entry) (links_of list)
links_of-push list entry = ap links_in (reverse-append list (entry ∷ []))

is_above_links-link : (number : ℕ) (entry : Entry) (found : Option Link) (links : List Link) → link_of entry ≡ found → nat_lt entry.number number ≡ true → is_above_links number links ≡ true → is_above_links number (cons_option found links) ≡ true
is_above_links-link number entry None links is less below = below
is_above_links-link number entry (Some link) links is less below = and_from _ _ (ap (λ n. nat_lt n number) (link-number entry link is) ∙ less) below

-- the numbers of entries, seen in their links
pub is_above_links-links : (number : ℕ) (entries : List Entry) → is_above_entries number entries ≡ true → is_above_links number (links_in entries) ≡ true
is_above_links-links number [] above = refl
is_above_links-links number (entry ∷ entries) above =
    let parts : (nat_lt entry.number number ≡ true) × (is_above_entries number entries ≡ true) = and_parts _ _ above in
    is_above_links-link number entry (link_of entry) (links_in entries) refl parts.0 (is_above_links-links number entries parts.1)

falls-link : (entry : Entry) (found : Option Link) (links : List Link) → link_of entry ≡ found → is_above_links entry.number links ≡ true → falls links ≡ true → falls (cons_option found links) ≡ true
falls-link entry None links is below fall = fall
falls-link entry (Some link) links is below fall = and_from _ _ (ap (λ n. is_above_links n links) (link-number entry link is) ∙ below) fall

pub falls-links : (entries : List Entry) → rises_in entries ≡ true → falls (links_in entries) ≡ true
falls-links [] rise = refl
falls-links (entry ∷ entries) rise =
    let parts : (is_above_entries entry.number entries ≡ true) × (rises_in entries ≡ true) = and_parts _ _ rise in
    falls-link entry (link_of entry) (links_in entries) refl (is_above_links-links entry.number entries parts.0) (falls-links entries parts.1)

-- the links of legal entries are chained
chained-link :
    (entries : List Entry) (entry : Entry) (found : Option Link) → link_of entry ≡ found → refusal_in entries entry.command ≡ None → is_chained (links_in entries) ≡ true
    → is_chained (cons_option found (links_in entries)) ≡ true
chained-link entries entry None is accepted chained = chained
chained-link entries entry (Some link) is accepted chained =
    and_from _ _ (ap is_none (sym (refusal-link entries entry link is) ∙ accepted)) chained

pub chained-links : (entries : List Entry) → legal_in entries ≡ true → is_chained (links_in entries) ≡ true
chained-links [] legal = refl
chained-links (entry ∷ entries) legal =
    let parts : (is_none (refusal_in entries entry.command) ≡ true) × (legal_in entries ≡ true) = and_parts _ _ legal in
    chained-link entries entry (link_of entry) refl (none_is (refusal_in entries entry.command) parts.0) (chained-links entries parts.1)
