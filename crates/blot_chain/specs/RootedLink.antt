-- What a contract sees of a stored link.
use Rattle.std.specs.Prelude.{ℕ}
use Rattle.blot_types.specs.declared.{keys.ExecKey.ExecKey, link.Link.Link, link.Role.Role, link.Role.TheVariants.Begins}

-- a link, and beside it the root of its chain, and the place of the cell of its key among the cells
pub record RootedLink : Type 0 where
  pub link : Link
  pub root : ExecKey
  pub place : ℕ

-- that of this number, key, role, root and place
abbrev pub rooted : ℕ → ExecKey → Role → ExecKey → ℕ → RootedLink
rooted number key role root place = record { link = record { number = number; key = key; role = role }; root = root; place = place }

-- a Trade's: its root is its own key
abbrev pub begun : ℕ → ExecKey → ℕ → RootedLink
begun number key place = rooted number key Begins key place
