-- What a contract sees of the chains: one link more and one less, one lifted out and put back.
use Rattle.std.specs.Prelude.{◌≡◌, ℕ, Bool, true, ◌&&◌, not, nat_lt, List, ◌∷◌, Option, Some}
use Rattle.std.specs.List.{list_all}
use Rattle.blot_types.specs.declared.{keys.ExecKey.ExecKey, link.Link.Link, link.Role.Role, refused.Refused.Refused}
use Rattle.blot_types.specs.Chains.{chain_refusal, is_above_links, root_in}
use Rattle.blot_types.specs.Keys.{same_exec}
use Rattle.blot_places.specs.Shown.{Shown, item_at, lifted_out as item_lifted_out, put_back as item_put_back}

-- why a reference is refused: it has no root, or its chain is busted
abbrev pub exec_refusal : List Link → ExecKey → Option Refused
exec_refusal links reference = chain_refusal links reference (root_in links reference)

-- the later list is the earlier one with one link more, of this number, key and role
abbrev pub Adds : ℕ → ExecKey → Role → Shown Link → Shown Link → Type 0
Adds number key role earlier later = later.list ≡ record { number = number; key = key; role = role } ∷ earlier.list

-- the same, whatever the number
abbrev pub AddsOne : ExecKey → Role → Shown Link → Shown Link → Type 0
AddsOne key role earlier later = (number : ℕ) × Adds number key role earlier later

-- the newest link has this key and role, and came after each one that is kept
abbrev pub IsNewest : ExecKey → Role → Shown Link → Type 0
IsNewest key role shown =
    (number : ℕ) × (earlier : List Link) × (shown.list ≡ record { number = number; key = key; role = role } ∷ earlier)
    × (is_above_links number shown.kept ≡ true)

-- the number of a link
abbrev pub number_of : Link → ℕ
number_of link = link.number

-- the link of a number
abbrev pub link_at : ℕ → List Link → Option Link
link_at number links = item_at number_of number links

-- the link of this number is lifted out of the list, and kept; and it is put back at its place
abbrev pub lifted_out : ℕ → Shown Link → Shown Link
lifted_out number shown = item_lifted_out number_of number shown

abbrev pub put_back : ℕ → Shown Link → Shown Link
put_back number shown = item_put_back number_of number shown

-- no link above this number takes up this key
abbrev pub is_untaken_above : ℕ → ExecKey → List Link → Bool
is_untaken_above number key links = list_all (λ link. not (nat_lt number link.number && same_exec link.key key)) links

-- the link of this number is kept, and no kept link above it takes up its key
pub record CanReturn (number : ℕ) (shown : Shown Link) : Type 0 where
  pub link : Link
  pub kept : link_at number shown.kept ≡ Some link
  pub untaken : is_untaken_above number link.key shown.kept ≡ true
