-- What always holds of the definitions.
use Rattle.std.specs.Prelude.{◌≡◌, ℕ, ◌^◌, ◌≤◌, Bool, true, false, ◌&&◌, not, ℤ, pos, neg_ℤ, ◌*ℤ◌, ◌<ℤ◌, List, [], ◌∷◌, ◌++◌, length, filter, Some, None, All, IfSome}
use Rattle.std.specs.List.{list_any}
use Rattle.std.specs.Option.{option_map_or}
use Rattle.blot_types.specs.declared.{command.Bust.Bust, command.Command.TheVariants.Bust as BustCommand, command.Entry.Entry, keys.ExecKey.ExecKey, keys.OrderKey.OrderKey, lines.Version.Version, link.Link.Link, link.Role.Role}
use Rattle.blot_types.specs.declared.link.Role.TheVariants.{Begins, Corrects, Busts}
use Rattle.blot_types.specs.Chains.{takes_up, root_in, is_root, bust_in}
use Rattle.blot_types.specs.Allocations.{instructions_of}
use Rattle.blot_types.specs.Instructions.{holds_in}
use Rattle.blot_types.specs.Keys.{is_among, same_text}
use Rattle.blot_types.specs.Order.{total, order_of}
use Rattle.blot_types.specs.Position.{signed, position_of, parts_of}
use Rattle.blot_types.specs.Survivors.{links_of, root_of, busted_roots, version_of, stands_in, survivors}

-- the references of a chain end in one Trade: one link takes up the root, and it begins the chain
pub record IsOneTrade (links : List Link) (root : ExecKey) : Type 0 where
  pub trade : Link
  pub alone : filter (takes_up root) links ≡ trade ∷ []
  pub begins : trade.role ≡ Begins

-- whether a version is of the chain of a root
abbrev pub is_of_chain : List Entry → ExecKey → Version → Bool
is_of_chain list root version = is_root root (root_of list version.key)

-- the survivors of the chain of a root
abbrev pub survivors_of_chain : List Entry → ExecKey → List Version
survivors_of_chain list root = filter (is_of_chain list root) (survivors list)

-- the survivors of all other chains
abbrev pub survivors_beside : List Entry → ExecKey → List Version
survivors_beside list root = filter (λ version. not (is_of_chain list root version)) (survivors list)

-- each chain that isn't busted has exactly one survivor, and a busted chain has none
pub record HasOneSurvivorEach (list : List Entry) : Type 0 where
  pub live :
      (key root : ExecKey) → root_of list key ≡ Some root → bust_in (links_of list) root ≡ None
      → (version : Version) × (survivors_of_chain list root ≡ version ∷ [])
  pub busted : (root : ExecKey) (number : ℕ) → bust_in (links_of list) root ≡ Some number → survivors_of_chain list root ≡ []

-- a Bust leaves the survivors of the other chains as they were: the list, and the list without the Bust, have
-- the same ones in the same order
pub record BustsLeaveOthers (list : List Entry) : Type 0 where
  pub others :
      (front back : List Entry) (number : ℕ) (bust : Bust) (root : ExecKey)
      → list ≡ front ++ record { number = number; command = BustCommand bust } ∷ back → root_of front bust.reference ≡ Some root
      → survivors_beside list root ≡ survivors_beside (front ++ back) root

-- whether a role is a Correct's
abbrev pub is_correct : Role → Bool
is_correct Begins = false
is_correct (Corrects reference) = true
is_correct (Busts reference) = false

-- whether a link of a list is a Correct of the chain of a root
abbrev pub corrects_chain : List Link → ExecKey → Link → Bool
corrects_chain links root link = is_correct link.role && is_root root (root_in links link.key)

-- a version stands exactly where its root isn't one of the busted ones, and no later Correct is of its chain
pub record StandsUncorrected (list : List Entry) : Type 0 where
  pub stands :
      (front back : List Entry) (entry : Entry) (version : Version) (root : ExecKey) → list ≡ front ++ entry ∷ back
      → version_of entry ≡ Some version → root_of list version.key ≡ Some root
      → stands_in (links_of list) version
      ≡ (not (is_among (busted_roots list) root) && not (list_any (corrects_chain (links_of list) root) (links_of back)))

-- each chain is named by at most one live allocation
abbrev pub IsNamedOnce : List Entry → Type 0
IsNamedOnce list = (root : ExecKey) → length (filter (holds_in (instructions_of list) root) (instructions_of list)) ≤ 1

-- an amount is below 10^38 in size
pub record IsBounded (amount : ℤ) : Type 0 where
  pub low : neg_ℤ (pos (10 ^ 38)) <ℤ amount
  pub high : amount <ℤ pos (10 ^ 38)

-- so are the totals of all orders and positions
pub record HasBoundedTotals (list : List Entry) : Type 0 where
  pub orders : (order : OrderKey) → IfSome (order_of list order) (λ line. IsBounded line.cum × IsBounded line.value)
  pub positions : (account symbol : List ℕ) → IfSome (position_of list account symbol) (λ line. IsBounded line.qty × IsBounded line.value)

-- the quantity and the value of a position, 0 where there is none
abbrev pub position_qty : List Entry → List ℕ → List ℕ → ℤ
position_qty list symbol account = option_map_or (λ line. line.qty) (position_of list account symbol) (pos 0)

abbrev pub position_value : List Entry → List ℕ → List ℕ → ℤ
position_value list symbol account = option_map_or (λ line. line.value) (position_of list account symbol) (pos 0)

-- the accounts are all different
abbrev pub are_distinct : List (List ℕ) → Bool
are_distinct [] = true
are_distinct (account ∷ accounts) = not (list_any (same_text account) accounts) && are_distinct accounts

-- whether a survivor is of a symbol
abbrev pub is_of_symbol : List ℕ → Version → Bool
is_of_symbol symbol version = same_text version.fill.symbol symbol

-- allocations make and lose nothing: for each symbol, quantity and value of the positions of all accounts, the
-- house account included, add up to the signed sums of the survivors of that symbol
pub record ConservesAmounts (list : List Entry) (symbol : List ℕ) (accounts : List (List ℕ)) : Type 0 where
  pub qty :
      total (position_qty list symbol) accounts
      ≡ total (λ version. signed version.fill.sign (pos version.fill.qty)) (filter (is_of_symbol symbol) (survivors list))
  pub value :
      total (position_value list symbol) accounts
      ≡ total (λ version. signed version.fill.sign (pos version.fill.qty *ℤ version.fill.price)) (filter (is_of_symbol symbol) (survivors list))

-- accounts that are all different, and hold each part of the positions
pub record HoldsAllParts (list : List Entry) (accounts : List (List ℕ)) : Type 0 where
  pub different : are_distinct accounts ≡ true
  pub holds : All (λ part. list_any (same_text part.account) accounts ≡ true) (parts_of list)

abbrev pub IsConserving : List Entry → Type 0
IsConserving list = (symbol : List ℕ) (accounts : List (List ℕ)) → HoldsAllParts list accounts → ConservesAmounts list symbol accounts
