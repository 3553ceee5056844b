-- Seats that stand under their own peers' names.
use Rattle.std.proofs.Common.{◌≡◌, ℕ, List, [], ◌∷◌, Some, None, IfSome, inl, inr, sym, subst, ap, ◌∙◌}
use Rattle.std.specs.Cmp.Lexicographic.{bytes_decides}
use Rattle.std.specs.Map.{lookup, set_value}
use Rattle.std.proofs.lemmas.Bool.{cases_Bool}
use Rattle.std.proofs.lemmas.List.Elements.{All-cons, All-head, All-nil, All-tail}
use Rattle.indexmap.specs.IndexMap.{insert_entry}
use Rattle.blot_types.specs.Keys.{same_text}
use Rattle.blot_lanes.specs.declared.peers.Peer.{Peer}
use Rattle.blot_lanes.specs.Seating.{AreOwnSeats, IsOwnSeat, changed, changed_in}

-- the seat that is found under a name is that peer's
pub own-found : {L : Type 0} (peers : List (List ℕ × Peer L)) (peer : List ℕ) (found : Peer L)
    → AreOwnSeats peers → lookup (same_text peer) peers ≡ Some found → IfSome found.seat (λ seat. seat.peer ≡ peer)
own-found [] peer found own is = absurd cc
own-found (entry ∷ peers) peer found own is =
    elim (cases_Bool (same_text peer entry.0)) [
      | inl same ↦
          let first : Some entry.1 ≡ Some found = rw same at is in
          let its : entry.1 ≡ found = cc in
          let stands : IfSome found.seat (λ seat. seat.peer ≡ entry.0) = subst (λ held. IfSome held.seat (λ seat. seat.peer ≡ entry.0)) its (All-head IsOwnSeat entry peers own) in
          rw ((bytes_decides peer entry.0).0 same) stands
      | inr other ↦ own-found peers peer found (All-tail IsOwnSeat entry peers own) (rw other at is)
    ]

-- a change of one entry leaves the others
own-set : {L : Type 0} (peers : List (List ℕ × Peer L)) (peer : List ℕ) (value : Peer L)
    → AreOwnSeats peers → IfSome value.seat (λ seat. seat.peer ≡ peer) → AreOwnSeats (set_value (same_text peer) peers value)
own-set [] peer value own its = own
own-set (entry ∷ peers) peer value own its =
    let rest = All-tail IsOwnSeat entry peers own in
    elim (cases_Bool (same_text peer entry.0)) [
      | inl same ↦ rw same (All-cons IsOwnSeat (entry.0, value) peers (subst (λ key. IfSome value.seat (λ seat. seat.peer ≡ key)) ((bytes_decides peer entry.0).0 same) its) rest)
      | inr other ↦ rw other (All-cons IsOwnSeat entry (set_value (same_text peer) peers value) (All-head IsOwnSeat entry peers own) (own-set peers peer value rest its))
    ]

pub own-changed : {L : Type 0} (before after : List (List ℕ × Peer L)) (peer : List ℕ) (value : Peer L)
    → AreOwnSeats before → after ≡ set_value (same_text peer) before value → IfSome value.seat (λ seat. seat.peer ≡ peer) → AreOwnSeats after
own-changed before after peer value own is its = subst AreOwnSeats (sym is) (own-set before peer value own its)

-- and so does one that is put in
own-insert : {L : Type 0} (peers : List (List ℕ × Peer L)) (peer : List ℕ) (value : Peer L)
    → AreOwnSeats peers → IfSome value.seat (λ seat. seat.peer ≡ peer) → AreOwnSeats (insert_entry same_text peers peer value)
own-insert [] peer value own its = All-cons IsOwnSeat (peer, value) [] its (All-nil IsOwnSeat)
own-insert (entry ∷ peers) peer value own its =
    let rest = All-tail IsOwnSeat entry peers own in
    elim (cases_Bool (same_text peer entry.0)) [
      | inl same ↦ rw same (All-cons IsOwnSeat (entry.0, value) peers (subst (λ key. IfSome value.seat (λ seat. seat.peer ≡ key)) ((bytes_decides peer entry.0).0 same) its) rest)
      | inr other ↦ rw other (All-cons IsOwnSeat entry (insert_entry same_text peers peer value) (All-head IsOwnSeat entry peers own) (own-insert peers peer value rest its))
    ]

pub own-inserted : {L : Type 0} (before after : List (List ℕ × Peer L)) (peer : List ℕ) (value : Peer L)
    → AreOwnSeats before → after ≡ insert_entry same_text before peer value → IfSome value.seat (λ seat. seat.peer ≡ peer) → AreOwnSeats after
own-inserted before after peer value own is its = subst AreOwnSeats (sym is) (own-insert before peer value own its)

-- ---- what stands under one name, changed

pub changed-there : {L : Type 0} (change : Peer L → Peer L) (peers new : List (List ℕ × Peer L)) (peer : List ℕ) (listed value : Peer L) → lookup (same_text peer) peers ≡ Some listed
    → change listed ≡ value → new ≡ set_value (same_text peer) peers value → new ≡ changed change peer peers
changed-there change peers new peer listed value found is set =
    set ∙ ap (set_value (same_text peer) peers) (sym is) ∙ sym (ap (λ found. changed_in found change peer peers) found)

pub changed-nowhere : {L : Type 0} (change : Peer L → Peer L) (peers new : List (List ℕ × Peer L)) (peer : List ℕ) → lookup (same_text peer) peers ≡ None → new ≡ peers
    → new ≡ changed change peer peers
changed-nowhere change peers new peer none same = same ∙ sym (ap (λ found. changed_in found change peer peers) none)
