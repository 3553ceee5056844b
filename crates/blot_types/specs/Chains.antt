-- The chains of executions: a Trade begins one, each Correct brings it a new version, a Bust ends it.
--
-- "The entries before it" is natural on a list newest first. So a word that ends in `_in` reads the links
-- newest first: after a link stand the earlier ones.
use Rattle.std.specs.Prelude.{ℕ, Bool, true, false, ◌&&◌, List, [], ◌∷◌, reverse, Option, Some, None, find, is_none, nat_eq, nat_lt, if◌then◌else◌, filter, option_map, option_and_then}
use Rattle.std.specs.List.{cons_option, list_all}
use Rattle.std.specs.Option.{option_map_or, option_or}
use Rattle.blot_types.specs.declared.{keys.ExecKey.ExecKey, link.Link.Link, link.Role.Role, refused.Refused.Refused}
use Rattle.blot_types.specs.declared.link.Role.TheVariants.{Begins, Corrects, Busts}
use Rattle.blot_types.specs.declared.refused.Refused.TheVariants.{DuplicateExec, UnknownExec, BustedExec}
use Rattle.blot_types.specs.Keys.{same_exec}

-- whether an entry takes up this key
abbrev pub takes_up : ExecKey → Link → Bool
takes_up key link = same_exec link.key key

-- the number of the entry that takes up a key
abbrev pub taker_in : List Link → ExecKey → Option ℕ
taker_in links key = option_map (λ link. link.number) (find (takes_up key) links)

-- whether an entry of this role brings its chain a version
abbrev pub brings_version : Role → Bool
brings_version Begins = true
brings_version (Corrects reference) = true
brings_version (Busts reference) = false

-- the root of the key of an entry, where `root` tells the roots of the keys before it: a Trade's key is its
-- own root, a Correct's has the root of its reference, a Bust's has none
abbrev pub own_root : (ExecKey → Option ExecKey) → ExecKey → Role → Option ExecKey
own_root root key Begins = Some key
own_root root key (Corrects reference) = root reference
own_root root key (Busts reference) = None

-- the root of a key; a key that no entry takes up has none (FIX 4.4 volume 4, ExecRefID)
abbrev pub root_in : List Link → ExecKey → Option ExecKey
root_in [] key = None
root_in (link ∷ earlier) key = if takes_up key link then own_root (root_in earlier) link.key link.role else root_in earlier key

-- whether there is a root, and it is this one
abbrev pub is_root : ExecKey → Option ExecKey → Bool
is_root root found = option_map_or (λ key. same_exec key root) found false

-- whether an entry is a Bust of the chain of this root
abbrev pub busts : List Link → ExecKey → Role → Bool
busts earlier root (Busts reference) = is_root root (root_in earlier reference)
busts earlier root _ = false

-- the number of the Bust of the chain of a root
abbrev pub bust_in : List Link → ExecKey → Option ℕ
bust_in [] root = None
bust_in (link ∷ earlier) root = if busts earlier root link.role then Some link.number else bust_in earlier root

-- the roots of the chains that are busted: those of the references of the Busts
abbrev pub busted_by : List Link → Role → List ExecKey → List ExecKey
busted_by earlier (Busts reference) others = cons_option (root_in earlier reference) others
busted_by earlier _ others = others

abbrev pub busted_roots_in : List Link → List ExecKey
busted_roots_in [] = []
busted_roots_in (link ∷ earlier) = busted_by earlier link.role (busted_roots_in earlier)

-- the number of the last version of the chain of a root: the newest Trade or Correct with that root
abbrev pub current_in : List Link → ExecKey → Option ℕ
current_in [] root = None
current_in (link ∷ earlier) root =
    if is_root root (own_root (root_in earlier) link.key link.role) then Some link.number else current_in earlier root

-- the number of the last version of a root's chain, where no Bust ended it
abbrev pub standing_version_in : List Link → ExecKey → Option ℕ
standing_version_in links root = if is_none (bust_in links root) then current_in links root else None

-- the number of the last version of the chain of a key
abbrev pub current_of_key : List Link → ExecKey → Option ℕ
current_of_key links key = option_and_then (current_in links) (root_in links key)

-- why a reference is refused: it has no root, or its chain is busted
abbrev pub chain_refusal : List Link → ExecKey → Option ExecKey → Option Refused
chain_refusal links reference None = Some (UnknownExec reference)
chain_refusal links reference (Some root) = option_map BustedExec (bust_in links root)

abbrev pub reference_refusal : List Link → Role → Option Refused
reference_refusal links Begins = None
reference_refusal links (Corrects reference) = chain_refusal links reference (root_in links reference)
reference_refusal links (Busts reference) = chain_refusal links reference (root_in links reference)

-- why a link is refused: its key is taken up, or else what its reference is refused for
abbrev pub link_refusal : List Link → ExecKey → Role → Option Refused
link_refusal links key role = option_or (option_map DuplicateExec (taker_in links key)) (reference_refusal links role)

-- whether each link is accepted after those before it
abbrev pub is_chained : List Link → Bool
is_chained [] = true
is_chained (link ∷ earlier) = is_none (link_refusal earlier link.key link.role) && is_chained earlier

-- the number of the version that a link takes the place of, or busts
abbrev pub replaced_in : List Link → Role → Option ℕ
replaced_in links Begins = None
replaced_in links (Corrects reference) = current_of_key links reference
replaced_in links (Busts reference) = current_of_key links reference

-- the number of the version that an entry's link, if it is one, takes the place of, or busts
abbrev pub replaced_by : List Link → Option Link → Option ℕ
replaced_by links link = option_and_then (λ newest. replaced_in links newest.role) link

-- whether a number is above those of the links
abbrev pub is_above_links : ℕ → List Link → Bool
is_above_links number links = list_all (λ link. nat_lt link.number number) links

-- whether the numbers fall from the newest link to the oldest
abbrev pub falls : List Link → Bool
falls [] = true
falls (link ∷ earlier) = is_above_links link.number earlier && falls earlier

-- whether a link of this role refers to a key
abbrev pub refers_to : ExecKey → Role → Bool
refers_to key Begins = false
refers_to key (Corrects reference) = same_exec reference key
refers_to key (Busts reference) = same_exec reference key

-- the number of the first link above a number that refers to a key
abbrev pub first_referring : List Link → ℕ → ExecKey → Option ℕ
first_referring links number key =
    option_map (λ link. link.number) (find (λ link. nat_lt number link.number && refers_to key link.role) (reverse links))

-- the number of the first link above that of another, given by its number, that refers to the other's key
abbrev pub first_needing_link : List Link → ℕ → Option ℕ
first_needing_link links number =
    option_and_then (λ link. first_referring links number link.key) (find (λ link. nat_eq link.number number) links)

-- the number of the last version of the chain of a root below a number
abbrev pub version_before_in : List Link → ℕ → ExecKey → Option ℕ
version_before_in links number root = current_in (filter (λ link. nat_lt link.number number) links) root

-- the number of the first version of the chain of a root above a number
abbrev pub version_after_in : List Link → ℕ → ExecKey → Option ℕ
version_after_in [] number root = None
version_after_in (link ∷ earlier) number root =
    option_or (version_after_in earlier number root)
    (if nat_lt number link.number && is_root root (own_root (root_in earlier) link.key link.role) then Some link.number else None)
