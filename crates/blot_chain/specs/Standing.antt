-- In which chain a version stands. The links stand newest first.
use Rattle.std.specs.Prelude.{ℕ, List, Option, None, if◌then◌else◌}
use Rattle.blot_types.specs.declared.{keys.ExecKey.ExecKey, link.Link.Link}
use Rattle.blot_types.specs.Chains.{root_in}
use Rattle.blot_types.specs.Survivors.{stands_under}

-- the root of the chain in which the version of a number and a key stands
abbrev pub standing_root_in : List Link → ℕ → ExecKey → Option ExecKey
standing_root_in links number key = if stands_under links number (root_in links key) then root_in links key else None
