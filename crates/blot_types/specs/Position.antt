-- Positions, by account and symbol: sums of signed parts, with no bound.
use Rattle.std.specs.Prelude.{ℕ, ◌*◌, ◌^◌, ◌≤◌, Bool, true, false, ◌&&◌, ℤ, pos, neg_ℤ, ◌*ℤ◌, List, [], ◌∷◌, ◌++◌, length, map, filter, All, Option, Some, None, unsigned_abs, flat_map, unwrap_or}
use Rattle.std.specs.Option.{option_map_or}
use Rattle.blot_types.specs.declared.{allocation.Line.Line, allocation.Terms.Terms, command.Entry.Entry, fill.Fill.Fill, fill.Sign.Sign, keys.ExecKey.ExecKey, part.Part.Part, lines.PositionLine.PositionLine, lines.Version.Version, TheConstants.ITEMS_MAX}
use Rattle.blot_types.specs.declared.fill.Sign.TheVariants.{Buy, Sell}
use Rattle.blot_types.specs.Allocations.{live_allocations, named_roots}
use Rattle.blot_types.specs.Keys.{is_among, same_text}
use Rattle.blot_types.specs.Order.{total}
use Rattle.blot_types.specs.Survivors.{root_of, survivors}

-- the house account, `*`: what was executed and isn't allocated sits there
abbrev pub house : List ℕ
house = 42 ∷ []

-- an amount with the side's sign: a buy adds, a sell takes
abbrev pub signed : Sign → ℤ → ℤ
signed Buy amount = amount
signed Sell amount = neg_ℤ amount

-- the account where a fill sits: the house account where its chain is named or it has no account, else its own
abbrev pub account_of : Bool → Fill → List ℕ
account_of true fill = house
account_of false fill = unwrap_or fill.account house

-- what a quantity at a price adds, under a sign, to the position of an account in a symbol
abbrev pub signed_part : List ℕ → List ℕ → Sign → ℕ → ℤ → Part
signed_part account symbol sign qty price =
    record { account = account; symbol = symbol; qty = signed sign (pos qty); value = signed sign (pos qty *ℤ price) }

-- what a fill adds to a position
abbrev pub part_of_fill : Bool → Fill → Part
part_of_fill named fill = signed_part (account_of named fill) fill.symbol fill.sign fill.qty fill.price

-- what a line of an allocation adds to its account, under the allocation's own symbol and sign
abbrev pub part_of_line : Terms → Line → Part
part_of_line terms line = signed_part line.account terms.symbol terms.sign line.qty line.price

-- the same amounts, taken from the house account
abbrev pub from_house : Part → Part
from_house part = record { account = house; symbol = part.symbol; qty = neg_ℤ part.qty; value = neg_ℤ part.value }

-- a part is that of one fill or of one line: at most 10^16 units of quantity, at a price of at most 10^16 units
pub record IsSmall (part : Part) : Type 0 where
  pub qty : unsigned_abs part.qty ≤ 10 ^ 16
  pub value : unsigned_abs part.value ≤ unsigned_abs part.qty * 10 ^ 16

-- a line moves its amounts from the house account to its own
abbrev pub moves_of_line : Terms → Line → List Part
moves_of_line terms line = part_of_line terms line ∷ from_house (part_of_line terms line) ∷ []

abbrev pub moves_of : Terms → List Part
moves_of terms = flat_map (moves_of_line terms) terms.lines

-- the amounts of a fill are in range
abbrev pub FillFits : Fill → Type 0
FillFits fill = (named : Bool) → IsSmall (part_of_fill named fill)

-- the amounts of the lines of terms are in range, and so is their block
pub record TermsFit (terms : Terms) : Type 0 where
  pub lines : All (λ line. IsSmall (part_of_line terms line)) terms.lines
  pub few : length terms.lines ≤ ITEMS_MAX
  pub block : terms.block ≤ 10 ^ 16

-- whether the chain of a key is named by a live allocation
abbrev pub is_named : List Entry → ExecKey → Bool
is_named list key = option_map_or (is_among (named_roots list)) (root_of list key) false

-- what a survivor adds
abbrev pub part_of : List Entry → Version → Part
part_of list version = part_of_fill (is_named list version.key) version.fill

-- all parts of the positions: those of the survivors, and those of the lines of live allocations
abbrev pub parts_of : List Entry → List Part
parts_of list = map (part_of list) (survivors list) ++ flat_map (λ allocation. moves_of allocation.terms) (live_allocations list)

-- whether a part is of the position of an account in a symbol
abbrev pub is_at : List ℕ → List ℕ → Part → Bool
is_at account symbol part = same_text part.account account && same_text part.symbol symbol

-- the signed sums of parts; none without a part
abbrev pub position_by : List Part → Option PositionLine
position_by [] = None
position_by (part ∷ parts) =
    Some (record { qty = total (λ p. p.qty) (part ∷ parts); value = total (λ p. p.value) (part ∷ parts) })

-- the position of an account in a symbol
abbrev pub position_of : List Entry → List ℕ → List ℕ → Option PositionLine
position_of list account symbol = position_by (filter (is_at account symbol) (parts_of list))
