-- The cells at their places: what stays there where a key's cell is reached, and what a cell that is written changes.
use Rattle.std.proofs.Common.{◌≡◌, ℕ, zero, suc, ◌+◌, ◌<◌, Bool, true, List, [], ◌∷◌, slice_get, Option, Some, None, refl, sym, ap, subst, ◌∙◌, inl, inr, arith, unwrap_or, HashMap, option_map, IsSomeAnd}
use Rattle.std.specs.Cmp.{IsEquivalence}
use Rattle.std.specs.HashMap.{IsUnique, values}
use Rattle.std.specs.List.{position_or_len}
use Rattle.std.specs.Map.{keys_of, lookup, values_of}
use Rattle.std.proofs.lemmas.Bool.{cases_Bool}
use Rattle.std.proofs.lemmas.Map.Entries.{hash_map_get_place}
use Rattle.std.proofs.lemmas.Option.{same_Some, slice_get-map}
use Rattle.indexmap.proofs.CallerLemmas.{updates-with_value_at}
use Rattle.indexmap.specs.IndexMap.{insert_entry, set_value_at}
use Rattle.blot_places.specs.Stack.{Stack}
use Rattle.blot_chain.specs.declared.{cell.Cell.Cell, cell.Relation.Relation}
use Rattle.blot_chain.specs.Cells.{CellsByKey, HasMore, HasSame, HasTakerRoom, KeepsPlaces, KeepsTakerRoom, PutsAt, SameUnder, key_at}
use Rattle.blot_chain.proofs.CellLemmas.{puts-under, same-under, there-places}

-- the cells by their keys
abbrev pub by_key : {K : Type 0} → List (K × Cell) → CellsByKey K
by_key cells = record { cells = cells }

module _ {K : Type 0} where
  -- ---- what is at a place

  key-there : (cells : List (K × Cell)) (place : ℕ) (key : K) → key_at (by_key cells) place ≡ Some key → (cell : Cell) × (slice_get cells place ≡ Some (key, cell))
  key-there [] place key is = absurd (cc is)
  key-there (cell ∷ cells) zero key is = let same = same_Some cell.0 key is in (cell.1, λ i. Some (same i, cell.1))
  key-there (cell ∷ cells) (suc place) key is = key-there cells place key is

  cell-there : (cells : List (K × Cell)) (place : ℕ) (was : Cell) → Some was ≡ slice_get (values_of cells) place → (key : K) × (slice_get cells place ≡ Some (key, was))
  cell-there [] place was is = absurd (cc is)
  cell-there (cell ∷ cells) zero was is = let same = same_Some was cell.1 is in (cell.0, λ i. Some (cell.0, sym same i))
  cell-there (cell ∷ cells) (suc place) was is = cell-there cells place was is

  room-there : (found : Option (K × Cell)) → IsSomeAnd found (λ entry. 0 < entry.1.takers.room) → (entry : K × Cell) × (found ≡ Some entry) × (0 < entry.1.takers.room)
  room-there None room = absurd room
  room-there (Some entry) room = (entry, refl, room)

  -- ---- what stays

  -- each cell that was at a place is there as it was
  abbrev pub KeepsCells : List (K × Cell) → List (K × Cell) → Type 0
  KeepsCells old new = (place : ℕ) (entry : K × Cell) → slice_get old place ≡ Some entry → slice_get new place ≡ Some entry

  pub places-kept : (old new : List (K × Cell)) → KeepsCells old new → KeepsPlaces (by_key old) (by_key new)
  places-kept old new keeps place key is =
      let there = key-there old place key is in
      slice_get-map (λ entry. entry.0) new place ∙ ap (option_map (λ entry. entry.0)) (keeps place (key, there.0) there.1)

  pub room-kept : (old new : List (K × Cell)) → KeepsCells old new → KeepsTakerRoom (by_key old) (by_key new)
  room-kept old new keeps place room =
      let there = room-there (slice_get old place) room in
      subst (λ found. IsSomeAnd found (λ (entry : K × Cell). 0 < entry.1.takers.room)) (sym (keeps place there.0 there.1)) there.2

  -- the same keys are at the same places
  pub same-keys : (old new : List (K × Cell)) → keys_of new ≡ keys_of old → KeepsPlaces (by_key old) (by_key new)
  same-keys old new same place key is = ap (λ keys. slice_get keys place) same ∙ is

  -- one place more, in a cell that keeps its takers' room
  pub room-written :
      (cells : List (K × Cell)) (at : ℕ) (was cell : Cell) → Some was ≡ slice_get (values_of cells) at → cell.takers ≡ was.takers
      → KeepsTakerRoom (by_key cells) (by_key (set_value_at cells at cell))
  room-written [] at was cell read kept place room = absurd room
  room-written (first ∷ cells) zero was cell read kept zero room =
      subst (λ (stack : Stack). 0 < stack.room) (sym (kept ∙ ap (λ (c : Cell). c.takers) (same_Some was first.1 read))) room
  room-written (first ∷ cells) zero was cell read kept (suc place) room = room
  room-written (first ∷ cells) (suc at) was cell read kept zero room = room
  room-written (first ∷ cells) (suc at) was cell read kept (suc place) room = room-written cells at was cell read kept place room

  -- and what is written has
  pub room-made : (cells : List (K × Cell)) (at : ℕ) (was cell : Cell) → Some was ≡ slice_get (values_of cells) at → 0 < cell.takers.room → HasTakerRoom (by_key (set_value_at cells at cell)) at
  room-made [] at was cell read room = absurd (cc read)
  room-made (first ∷ cells) zero was cell read room = room
  room-made (first ∷ cells) (suc at) was cell read room = room-made cells at was cell read room

-- ---- a cell that is reached

module _ {K : Type 0} (same : K → K → Bool) (key : K) where
  -- it is the one that is there, or a new one that comes last
  pub reached-keeps : (cells : List (K × Cell)) (fresh : Cell) → KeepsCells cells (insert_entry same cells key (unwrap_or (lookup (same key) cells) fresh))
  reached-keeps [] fresh place entry is = absurd (cc is)
  reached-keeps (cell ∷ cells) fresh zero entry is = elim (cases_Bool (same key cell.0)) [
    | inl here ↦ rw here is
    | inr on ↦ rw on is
  ]
  reached-keeps (cell ∷ cells) fresh (suc place) entry is = elim (cases_Bool (same key cell.0)) [
    | inl here ↦ rw here is
    | inr on ↦ rw on (reached-keeps cells fresh place entry is)
  ]

  next : (first : K) (rest : List K) (n : ℕ) → slice_get (first ∷ rest) (1 + n) ≡ slice_get rest n
  next first rest n = let one : 1 + n ≡ suc n = omega arith in ap (slice_get (first ∷ rest)) one

  pub reached-there :
      (cells : List (K × Cell)) (cell : Cell) → same key key ≡ true
      → IsSomeAnd (slice_get (keys_of (insert_entry same cells key cell)) (position_or_len (same key) (keys_of cells))) (λ there. same key there ≡ true)
  reached-there [] cell own = own
  reached-there (first ∷ cells) cell own = elim (cases_Bool (same key first.0)) [
    | inl here ↦ rw here here
    | inr on ↦
        rw on (subst (λ found. IsSomeAnd found (λ there. same key there ≡ true))
        (sym (next first.0 (keys_of (insert_entry same cells key cell)) (position_or_len (same key) (keys_of cells)))) (reached-there cells cell own))
  ]

  -- what the cells are then
  module _ (cells after : List (K × Cell)) (found : Option Cell) (fresh cell : Cell) (at_key : found ≡ lookup (same key) cells) (is : cell ≡ unwrap_or found fresh)
      (inserts : after ≡ insert_entry same cells key cell) where
    pub keeps-reached : KeepsCells cells after
    keeps-reached =
        subst (KeepsCells cells) (sym (inserts ∙ ap (insert_entry same cells key) (is ∙ ap (λ there. unwrap_or there fresh) at_key))) (reached-keeps cells fresh)

    pub there-reached :
        (place : ℕ) → place ≡ position_or_len (same key) (keys_of cells) → same key key ≡ true
        → IsSomeAnd (key_at (by_key after) place) (λ there. same key there ≡ true)
    there-reached place at own =
        subst (λ (list : List (K × Cell)). IsSomeAnd (key_at (by_key list) place) (λ there. same key there ≡ true)) (sym inserts)
        (subst (λ p. IsSomeAnd (slice_get (keys_of (insert_entry same cells key cell)) p) (λ there. same key there ≡ true)) (sym at) (reached-there cells cell own))

-- ---- a cell that is written at its place

module _ {K S : Type 0} (same : K → K → Bool) (laws : IsEquivalence same) (cells : HashMap K Cell S) (unique : IsUnique same cells) (at : ℕ) (was cell : Cell)
    (read : Some was ≡ slice_get (values cells) at) where
  abbrev new : List (K × Cell)
  new = set_value_at cells.entries at cell

  -- it is that of the key which is there
  at-key : (key : K) → key_at (by_key cells.entries) at ≡ Some key → slice_get cells.entries at ≡ Some (key, was)
  at-key key is =
      let there = cell-there cells.entries at was read in
      let its : there.0 ≡ key =
      same_Some there.0 key (sym (slice_get-map (λ entry. entry.0) cells.entries at ∙ ap (option_map (λ entry. entry.0)) there.1) ∙ is) in
      there.1 ∙ λ i. Some (its i, was)

  pub puts-at : (relation : Relation) (place : ℕ) → HasMore relation place was cell → PutsAt same relation at place (by_key cells.entries) (by_key new)
  puts-at relation place more key is =
      let there = at-key key is in
      puts-under same laws (by_key cells.entries) (by_key new) key cell was
      (there-places same (by_key cells.entries) key was (sym (hash_map_get_place laws cells at key was unique there)))
      (λ other. (updates-with_value_at cells at cell laws unique key was there).0 other) relation place more

  pub same-at : HasSame was cell → SameUnder same (by_key cells.entries) (by_key new)
  same-at kept =
      let there = cell-there cells.entries at was read in
      same-under same laws (by_key cells.entries) (by_key new) there.0 cell was
      (there-places same (by_key cells.entries) there.0 was (sym (hash_map_get_place laws cells at there.0 was unique there.1)))
      (λ other. (updates-with_value_at cells at cell laws unique there.0 was there.1).0 other) kept
