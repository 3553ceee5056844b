-- The definitions, computed on worked days. Executions E1, E2, .. and orders O1, O2, .. are of one peer;
-- quantities are in units of 10^-6, prices in units of 10^-8, values in units of 10^-14.
use Rattle.std.proofs.Common.{◌≡◌, ℕ, ◌*◌, ◌^◌, pos, List, [], ◌∷◌, reverse, map, Option, Some, None, true, false, refl}
use Rattle.blot_types.specs.declared.{command.Command.Command, command.Entry.Entry, fill.Fill.Fill, fill.Sign.TheVariants.Buy, keys.AllocKey.AllocKey, keys.ExecKey.ExecKey, keys.OrderKey.OrderKey, lines.OrderLine.OrderLine, link.Link.Link, lines.Version.Version}
use Rattle.blot_types.specs.declared.command.Command.TheVariants.{Trade, Correct, Bust}
use Rattle.blot_types.specs.declared.link.Role.TheVariants.{Begins, Corrects, Busts}
use Rattle.blot_types.specs.declared.refused.Refused.TheVariants.{DuplicateExec, UnknownExec, BustedExec}
use Rattle.blot_types.specs.Chains.{takes_up, taker_in, own_root, root_in, is_root, busts, bust_in, current_in, standing_version_in, current_of_key}
use Rattle.blot_types.specs.Keys.{same_text, same_exec, is_among, same_order, same_alloc}
use Rattle.blot_types.specs.Laws.{survivors_of_chain, survivors_beside}
use Rattle.blot_types.specs.Legal.{is_legal, refusal_of}
use Rattle.blot_types.specs.Order.{total, cum_of, value_of, line_by, line_of, fills_of, order_of}
use Rattle.blot_types.specs.Survivors.{link_by, link_of, links_in, links_of, root_of, busted_roots, version_by, version_of, versions_of, is_number, stands_under, stands_in, survivors}

abbrev exec : ℕ → ExecKey
exec n = record { peer = 66 ∷ []; id = 69 ∷ n ∷ [] }

abbrev order : ℕ → OrderKey
order n = record { peer = 66 ∷ []; id = 79 ∷ n ∷ [] }

-- so many bought of an order of a size, at a price in hundredths
abbrev bought : ℕ → ℕ → ℕ → ℕ → Fill
bought n qty price size = record {
  order = order n;
  account = None;
  symbol = 88 ∷ [];
  sign = Buy;
  size = pos (size * 10 ^ 6);
  qty = qty * 10 ^ 6;
  price = pos (price * 10 ^ 6);
  day = pos 0;
}

abbrev trade : ℕ → ℕ → Fill → Entry
trade number key fill = record { number = number; command = Trade (record { key = exec key; fill = fill }) }

abbrev correct : ℕ → ℕ → ℕ → Fill → Entry
correct number key reference fill =
    record { number = number; command = Correct (record { key = exec key; reference = exec reference; fill = fill }) }

abbrev bust_of : ℕ → ℕ → Command
bust_of key reference = Bust (record { key = exec key; reference = exec reference })

abbrev bust : ℕ → ℕ → ℕ → Entry
bust number key reference = record { number = number; command = bust_of key reference }

-- what is bought of an order: filled, left, and its value in hundredths
abbrev shows : ℕ → ℕ → ℕ → Option OrderLine
shows cum leaves value = Some (record {
  cum = pos (cum * 10 ^ 6);
  leaves = pos (leaves * 10 ^ 6);
  value = pos (value * 10 ^ 12);
  symbol = 88 ∷ [];
  sign = Buy;
})

abbrev numbers_in : List Version → List ℕ
numbers_in versions = map (λ version. version.number) versions

abbrev numbers : List Entry → List ℕ
numbers list = numbers_in (survivors list)

-- a second fill and a correction of the first
abbrev corrected : List Entry
corrected = trade 1 1 (bought 1 100 1050 300) ∷ trade 2 2 (bought 1 50 1100 250) ∷ correct 3 3 1 (bought 1 80 1025 300) ∷ []

corrected_line : order_of corrected (order 1) ≡ shows 130 170 137000
corrected_line = refl

corrected_roots : map (root_of corrected) (exec 1 ∷ exec 2 ∷ exec 3 ∷ exec 4 ∷ []) ≡ Some (exec 1) ∷ Some (exec 2) ∷ Some (exec 1) ∷ None ∷ []
corrected_roots = refl

corrected_legal : is_legal corrected ≡ true
corrected_legal = refl

-- a bust of the whole chain, by its correction
abbrev busted : List Entry
busted = trade 1 1 (bought 1 100 1050 300) ∷ trade 2 2 (bought 1 50 1100 250) ∷ correct 3 3 1 (bought 1 80 1025 300) ∷ bust 4 4 3 ∷ []

busted_line : order_of busted (order 1) ≡ shows 50 200 55000
busted_line = refl

busted_survivors : numbers busted ≡ 2 ∷ []
busted_survivors = refl

busted_chains : busted_roots busted ≡ exec 1 ∷ []
busted_chains = refl

busted_again : refusal_of busted (bust_of 5 1) ≡ Some (BustedExec 4)
busted_again = refl

-- the busted chain has no survivor, the other one has its own
busted_chain : survivors_of_chain busted (exec 1) ≡ []
busted_chain = refl

other_chain : numbers_in (survivors_of_chain busted (exec 2)) ≡ 2 ∷ []
other_chain = refl

beside_busted : numbers_in (survivors_beside busted (exec 1)) ≡ 2 ∷ []
beside_busted = refl

-- a bust's own key is taken up, and has no root
bust_key_taken : refusal_of busted (bust_of 4 2) ≡ Some (DuplicateExec 4)
bust_key_taken = refl

bust_key_unknown : refusal_of busted (bust_of 5 4) ≡ Some (UnknownExec (exec 4))
bust_key_unknown = refl

-- corrections, each of the one before
abbrev twice_corrected : List Entry
twice_corrected = trade 1 1 (bought 1 100 100 300) ∷ correct 2 2 1 (bought 1 80 100 300) ∷ correct 3 3 2 (bought 1 70 100 300) ∷ []

twice_corrected_line : order_of twice_corrected (order 1) ≡ shows 70 230 7000
twice_corrected_line = refl

twice_corrected_survivors : numbers twice_corrected ≡ 3 ∷ []
twice_corrected_survivors = refl

-- a correction that moves the fill to another order leaves nothing of the first
abbrev moved : List Entry
moved = trade 1 1 (bought 1 100 100 300) ∷ correct 2 2 1 (bought 2 90 100 300) ∷ []

moved_lines : map (order_of moved) (order 1 ∷ order 2 ∷ []) ≡ None ∷ shows 90 210 9000 ∷ []
moved_lines = refl

-- a bust of the only execution of an order
only_busted : order_of (trade 1 1 (bought 1 100 100 300) ∷ bust 2 2 1 ∷ []) (order 1) ≡ None
only_busted = refl

-- a reference that isn't there, and a list that needs it
unknown : refusal_of [] (bust_of 2 9) ≡ Some (UnknownExec (exec 9))
unknown = refl

out_of_order : is_legal (bust 1 2 1 ∷ trade 2 1 (bought 1 100 100 300) ∷ []) ≡ false
out_of_order = refl

-- ---- word by word: keys

abbrev alloc : ℕ → AllocKey
alloc n = record { peer = 66 ∷ []; id = 76 ∷ n ∷ [] }

one_text : map (same_text (69 ∷ 1 ∷ [])) ((69 ∷ 1 ∷ []) ∷ (69 ∷ []) ∷ (69 ∷ 2 ∷ []) ∷ []) ≡ true ∷ false ∷ false ∷ []
one_text = refl

one_exec : map (same_exec (exec 1)) (exec 1 ∷ exec 2 ∷ record { peer = 67 ∷ []; id = 69 ∷ 1 ∷ [] } ∷ []) ≡ true ∷ false ∷ false ∷ []
one_exec = refl

one_order : map (same_order (order 1)) (order 1 ∷ order 2 ∷ []) ≡ true ∷ false ∷ []
one_order = refl

one_alloc : map (same_alloc (alloc 1)) (alloc 1 ∷ alloc 2 ∷ []) ≡ true ∷ false ∷ []
one_alloc = refl

among_two : map (is_among (exec 1 ∷ exec 2 ∷ [])) (exec 2 ∷ exec 3 ∷ []) ≡ true ∷ false ∷ []
among_two = refl

-- ---- the links of those entries, and their chains

-- those of the correction and of the bust
abbrev third : Link
third = record { number = 3; key = exec 3; role = Corrects (exec 1) }

abbrev fourth : Link
fourth = record { number = 4; key = exec 4; role = Busts (exec 3) }

bust_link : link_by 4 (bust_of 4 3) ≡ Some fourth
bust_link = refl

entry_link : link_of (bust 4 4 3) ≡ Some fourth
entry_link = refl

reversed_links : map (λ link. link.number) (links_in (reverse corrected)) ≡ 3 ∷ 2 ∷ 1 ∷ []
reversed_links = refl

newest_first : map (λ link. link.number) (links_of corrected) ≡ 3 ∷ 2 ∷ 1 ∷ []
newest_first = refl

own_key : map (λ key. takes_up key third) (exec 3 ∷ exec 1 ∷ []) ≡ true ∷ false ∷ []
own_key = refl

taker : map (taker_in (links_of busted)) (exec 4 ∷ exec 9 ∷ []) ≡ Some 4 ∷ None ∷ []
taker = refl

root_by_role :
    map (own_root (root_in (links_of corrected)) (exec 9)) (Begins ∷ Corrects (exec 3) ∷ Busts (exec 3) ∷ [])
    ≡ Some (exec 9) ∷ Some (exec 1) ∷ None ∷ []
root_by_role = refl

roots : map (root_in (links_of busted)) (exec 1 ∷ exec 3 ∷ exec 4 ∷ exec 9 ∷ []) ≡ Some (exec 1) ∷ Some (exec 1) ∷ None ∷ None ∷ []
roots = refl

this_root : map (is_root (exec 1)) (None ∷ Some (exec 1) ∷ Some (exec 2) ∷ []) ≡ false ∷ true ∷ false ∷ []
this_root = refl

bust_by_role :
    map (busts (links_of corrected) (exec 1)) (Begins ∷ Corrects (exec 1) ∷ Busts (exec 3) ∷ Busts (exec 2) ∷ [])
    ≡ false ∷ false ∷ true ∷ false ∷ []
bust_by_role = refl

bust_number : map (bust_in (links_of busted)) (exec 1 ∷ exec 2 ∷ []) ≡ Some 4 ∷ None ∷ []
bust_number = refl

last_version : map (current_in (links_of corrected)) (exec 1 ∷ exec 2 ∷ []) ≡ Some 3 ∷ Some 2 ∷ []
last_version = refl

last_unbusted : map (standing_version_in (links_of busted)) (exec 1 ∷ exec 2 ∷ []) ≡ None ∷ Some 2 ∷ []
last_unbusted = refl

last_of_key : map (current_of_key (links_of corrected)) (exec 3 ∷ exec 2 ∷ exec 9 ∷ []) ≡ Some 3 ∷ Some 2 ∷ None ∷ []
last_of_key = refl

-- ---- their versions, and those that stand

-- that of the first trade
abbrev first : Version
first = record { number = 1; key = exec 1; fill = bought 1 100 1050 300 }

version_by_kind : map (version_by 1) ((trade 1 1 (bought 1 100 1050 300)).command ∷ bust_of 4 3 ∷ []) ≡ Some first ∷ None ∷ []
version_by_kind = refl

version_if_any : map version_of (trade 1 1 (bought 1 100 1050 300) ∷ bust 4 4 3 ∷ []) ≡ Some first ∷ None ∷ []
version_if_any = refl

all_versions : numbers_in (versions_of busted) ≡ 1 ∷ 2 ∷ 3 ∷ []
all_versions = refl

this_number : map (is_number 3) (None ∷ Some 3 ∷ Some 4 ∷ []) ≡ false ∷ true ∷ false ∷ []
this_number = refl

last_stands : map (λ number. stands_under (links_of corrected) number (Some (exec 1))) (1 ∷ 3 ∷ []) ≡ false ∷ true ∷ []
last_stands = refl

busted_stands : map (stands_in (links_of busted)) (versions_of busted) ≡ false ∷ true ∷ false ∷ []
busted_stands = refl

corrected_survivors : numbers_in (survivors corrected) ≡ 2 ∷ 3 ∷ []
corrected_survivors = refl

-- ---- the fills of an order

-- two of order O1, and one of O2
abbrev two_fills : List Fill
two_fills = bought 1 50 1100 250 ∷ bought 1 80 1025 300 ∷ []

abbrev other_fill : Fill
other_fill = bought 2 10 100 300

sum_of_sizes : total (λ fill. fill.size) two_fills ≡ pos (550 * 10 ^ 6)
sum_of_sizes = refl

filled : cum_of two_fills ≡ pos (130 * 10 ^ 6)
filled = refl

worth : value_of two_fills ≡ pos (137000 * 10 ^ 12)
worth = refl

line_by_last : Some (line_by two_fills (bought 1 80 1025 300)) ≡ shows 130 170 137000
line_by_last = refl

line_if_filled : map line_of ([] ∷ two_fills ∷ []) ≡ None ∷ shows 130 170 137000 ∷ []
line_if_filled = refl

fills_by_order : map (fills_of (other_fill ∷ two_fills)) (order 1 ∷ order 2 ∷ []) ≡ two_fills ∷ (other_fill ∷ []) ∷ []
fills_by_order = refl
