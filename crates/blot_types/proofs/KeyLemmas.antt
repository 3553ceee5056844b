-- When two keys are one: the test is an equivalence that decides equality; and the order of positions is total.
use Rattle.std.proofs.Common.{◌≡◌, true, sym, ℕ, List, nat_cmp}
use Rattle.std.specs.Cmp.{IsTotalOrder, on_total, then_total}
use Rattle.std.specs.Cmp.Lexicographic.{slice_cmp, same_text as text_told, nat_list_cmp_total, nat_list_eq_equiv}
use Rattle.std.specs.FinMap as finite
use Rattle.std.proofs.lemmas.Bool.{and_from, and_parts}
use Rattle.std.proofs.lemmas.Map.Lookups.{exact_bytes, exact_pairs}
use Rattle.blot_types.specs.declared.{keys.AllocKey.AllocKey, keys.ExecKey.ExecKey, keys.PositionKey.PositionKey, keys.OrderKey.OrderKey}
use Rattle.blot_types.specs.Keys.{same_text, same_exec, same_alloc, position_cmp, same_order}

-- texts and keys that a test calls one are equal
pub same_text-true : (a b : List ℕ) → same_text a b ≡ true → a ≡ b
same_text-true a b same = text_told a b (sym same)

pub same_text-refl : (a : List ℕ) → same_text a a ≡ true
same_text-refl a = nat_list_eq_equiv.refl a

pub same_order-true : (a b : OrderKey) → same_order a b ≡ true → a ≡ b
same_order-true a b same =
    let parts = and_parts _ _ same in
    let peers = same_text-true a.peer b.peer parts.0 in
    let ids = same_text-true a.id b.id parts.1 in
    λ i. record { peer = peers i; id = ids i }

pub same_exec-true : (a b : ExecKey) → same_exec a b ≡ true → a ≡ b
same_exec-true a b same =
    let parts : (same_text a.peer b.peer ≡ true) × (same_text a.id b.id ≡ true) = and_parts _ _ same in
    let peers : a.peer ≡ b.peer = text_told a.peer b.peer (sym parts.0) in
    let ids : a.id ≡ b.id = text_told a.id b.id (sym parts.1) in
    λ i. record { peer = peers i; id = ids i }

-- a key is itself
pub same_exec-refl : (a : ExecKey) → same_exec a a ≡ true
same_exec-refl a = and_from _ _ (nat_list_eq_equiv.refl a.peer) (nat_list_eq_equiv.refl a.id)

-- the test doesn't look at the order
pub same_exec-sym : (a b : ExecKey) → same_exec a b ≡ same_exec b a
same_exec-sym a b = rw (nat_list_eq_equiv.symm a.peer b.peer, nat_list_eq_equiv.symm a.id b.id)

-- likewise of allocations
pub same_alloc-true : (a b : AllocKey) → same_alloc a b ≡ true → a ≡ b
same_alloc-true a b same =
    let parts : (same_text a.peer b.peer ≡ true) × (same_text a.id b.id ≡ true) = and_parts _ _ same in
    let peers : a.peer ≡ b.peer = text_told a.peer b.peer (sym parts.0) in
    let ids : a.id ≡ b.id = text_told a.id b.id (sym parts.1) in
    λ i. record { peer = peers i; id = ids i }

pub same_alloc-refl : (a : AllocKey) → same_alloc a a ≡ true
same_alloc-refl a = and_from _ _ (nat_list_eq_equiv.refl a.peer) (nat_list_eq_equiv.refl a.id)

pub same_alloc-sym : (a b : AllocKey) → same_alloc a b ≡ same_alloc b a
same_alloc-sym a b = rw (nat_list_eq_equiv.symm a.peer b.peer, nat_list_eq_equiv.symm a.id b.id)

-- the order of positions is total, and ties no two of them
pub position_cmp-total : IsTotalOrder position_cmp
position_cmp-total = then_total (on_total (λ (key : PositionKey). key.account) nat_list_cmp_total) (on_total (λ (key : PositionKey). key.symbol) nat_list_cmp_total)

pub position_cmp-exact : finite.IsAntisymmetric position_cmp
position_cmp-exact a b tied =
    let both : (a.account, a.symbol) ≡ (b.account, b.symbol) = exact_pairs (slice_cmp nat_cmp) (slice_cmp nat_cmp) exact_bytes exact_bytes (a.account, a.symbol) (b.account, b.symbol) tied in
    λ i. record { account = (both i).0; symbol = (both i).1 }
