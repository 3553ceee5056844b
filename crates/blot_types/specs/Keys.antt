-- When two keys are one.
use Rattle.std.specs.Prelude.{ℕ, Bool, ◌&&◌, List, nat_eq}
use Rattle.std.specs.Cmp.Lexicographic.{pointwise, slice_cmp}
use Rattle.std.specs.List.{list_any}
use Rattle.std.specs.Ordering.{nat_cmp, ordering_then}
use Rattle.std.specs.declared.cmp.Ordering.{Ordering}
use Rattle.blot_types.specs.declared.{keys.AllocKey.AllocKey, keys.ExecKey.ExecKey, keys.OrderKey.OrderKey, keys.PositionKey.PositionKey}

-- the same text, byte for byte
abbrev pub same_text : List ℕ → List ℕ → Bool
same_text a b = pointwise nat_eq a b

-- the same peer and ExecID(17)
abbrev pub same_exec : ExecKey → ExecKey → Bool
same_exec a b = same_text a.peer b.peer && same_text a.id b.id

-- whether an execution is among some
abbrev pub is_among : List ExecKey → ExecKey → Bool
is_among keys key = list_any (λ other. same_exec other key) keys

-- the same peer and OrderID(37)
abbrev pub same_order : OrderKey → OrderKey → Bool
same_order a b = same_text a.peer b.peer && same_text a.id b.id

-- the same peer and AllocID(70)
abbrev pub same_alloc : AllocKey → AllocKey → Bool
same_alloc a b = same_text a.peer b.peer && same_text a.id b.id

-- the position of an account in a symbol
abbrev pub position_at : List ℕ → List ℕ → PositionKey
position_at account symbol = record { account = account; symbol = symbol }

-- positions by account, and then by symbol, each by its bytes
abbrev pub position_cmp : PositionKey → PositionKey → Ordering
position_cmp a b = ordering_then (slice_cmp nat_cmp a.account b.account) (slice_cmp nat_cmp a.symbol b.symbol)
