-- Legal entries without a Trade or a Correct: the fills of the chains, and the step for a Trade.
use Rattle.std.proofs.Common.{◌≡◌, ℕ, ◌==◌, true, false, List, [], ◌∷◌, ◌++◌, Option, Some, None, refl, sym, ap, ◌∙◌, inl, inr, Bool, ◌||◌, not, find, is_none, All, filter_map, option_map, option_and_then, eqb-true, eq-eqb}
use Rattle.std.specs.List.{cons_option}
use Rattle.std.proofs.lemmas.Bool.{cases_Bool}
use Rattle.std.proofs.lemmas.List.Elements.{All-weaker, filter_map-append}
use Rattle.std.proofs.lemmas.List.Folds.{list_any_none}
use Rattle.blot_types.specs.declared.{command.Command.Command, command.Command.TheVariants.Trade as TradeCommand, command.Entry.Entry, command.Trade.Trade, keys.ExecKey.ExecKey, lines.Version.Version, link.Link.Link, link.Role.TheVariants.Begins}
use Rattle.blot_types.specs.Chains.{root_in, is_root, current_in, falls}
use Rattle.blot_types.specs.Keys.{same_exec, is_among}
use Rattle.blot_types.specs.Legal.{rises_in, refusal_in}
use Rattle.blot_types.specs.Refusals.{exec_references, listed_by, current_fill}
use Rattle.blot_types.specs.Survivors.{is_number, links_in, version_of, version_numbered}
use Rattle.blot_types.proofs.ChainLemmas.{differing, root-fresh}
use Rattle.blot_types.proofs.EntryLemmas.{version-number, link-number, falls-links}
use Rattle.blot_types.proofs.KeyLemmas.{same_exec-sym}
use Rattle.blot_types.specs.Withdrawal.{is_last_of, needs}
use Rattle.blot_types.proofs.AcceptOutLemmas.{accepts, accepted, accepts-out, references-other, shaped, listed}
use Rattle.blot_types.proofs.ChainOutLemmas.{IsLast, current-behind, current-back}
use Rattle.blot_types.proofs.NeedLemmas.{IsStep}
use Rattle.blot_types.proofs.LinkOutLemmas.{GoneLink, links-whole, links-rest, chained-whole, chained-rest, key-gone, root-gone, answers-gone, uses-gone, IsOther, ShapeStays, AnyKey}
use Rattle.blot_types.proofs.GeneralLemmas.{any-none}

-- ---- plain lists

pub find-skip : {A : Type 0} (p : A → Bool) (xs ys : List A) (y : A) → p y ≡ false → find p (xs ++ ys) ≡ find p (xs ++ y ∷ ys)
find-skip p [] ys y other = rw other refl
find-skip p (x ∷ xs) ys y other =
    elim (cases_Bool (p x)) [
      | inl here ↦ rw here refl
      | inr passed ↦ rw passed (find-skip p xs ys y other)
    ]

pub unnamed : {A : Type 0} (o : Option A) → (o ≡ None → ⊥) → is_none o ≡ false
unnamed None some = absurd (some refl)
unnamed (Some a) some = refl

-- ---- fills

version-skip : (later front : List Entry) (k : Entry) (v : Version) (n : ℕ) → version_of k ≡ Some v → (k.number == n) ≡ false → version_numbered (later ++ front) n ≡ version_numbered (later ++ k ∷ front) n
version-skip later front k v n is other =
    let passed : (v.number == n) ≡ false = ap (λ m. m == n) (version-number k v is) ∙ other in
    ap (find (λ w. w.number == n)) (filter_map-append version_of later front)
    ∙ find-skip (λ w. w.number == n) (filter_map version_of later) (filter_map version_of front) v passed
    ∙ ap (λ found. find (λ w. w.number == n) (filter_map version_of later ++ cons_option found (filter_map version_of front))) (sym is)
    ∙ ap (find (λ w. w.number == n)) (sym (filter_map-append version_of later (k ∷ front)))

other-way : (m n : ℕ) → (m == n) ≡ false → (n == m) ≡ false
other-way m n other =
    elim (cases_Bool (n == m)) [
      | inl same ↦ (let is : n ≡ m = eqb-true _ _ same in absurd (differing (eq-eqb m n (sym is)) other))
      | inr apart ↦ apart
    ]

numbered-stays : (later front : List Entry) (k : Entry) (v : Version) (found : Option ℕ) → version_of k ≡ Some v → is_number k.number found ≡ false
    → option_and_then (version_numbered (later ++ front)) found ≡ option_and_then (version_numbered (later ++ k ∷ front)) found
numbered-stays later front k v None is other = refl
numbered-stays later front k v (Some n) is other = version-skip later front k v n is (other-way n k.number other)

rooted-stays : (later front : List Entry) (k : Entry) (l : Link) (v : Version) (found : Option ExecKey) → GoneLink later front k l → version_of k ≡ Some v
    → is_number k.number (option_and_then (current_in (links_in (later ++ k ∷ front))) found) ≡ false
    → option_and_then (version_numbered (later ++ front)) (option_and_then (current_in (links_in (later ++ front))) found)
    ≡ option_and_then (version_numbered (later ++ k ∷ front)) (option_and_then (current_in (links_in (later ++ k ∷ front))) found)
rooted-stays later front k l v None gone is other = refl
rooted-stays later front k l v (Some r) gone is other =
    let whole = links-whole later front k l gone.link in
    let number : l.number ≡ k.number = link-number k l gone.link in
    let behind : is_number l.number (current_in (links_in later ++ l ∷ links_in front) r) ≡ false = ap (λ n. is_number n (current_in (links_in later ++ l ∷ links_in front) r)) number ∙ ap (λ ls. is_number k.number (current_in ls r)) (sym whole) ∙ other in
    let same : current_in (links_in (later ++ front)) r ≡ current_in (links_in (later ++ k ∷ front)) r =
    ap (λ ls. current_in ls r) (links-rest later front) ∙ current-behind (links_in later) (links_in front) l r (chained-whole later front k l gone) (chained-rest later front k l gone) behind ∙ ap (λ ls. current_in ls r) (sym whole) in
    ap (option_and_then (version_numbered (later ++ front))) same ∙ numbered-stays later front k v (current_in (links_in (later ++ k ∷ front)) r) is other

-- a chain of which k isn't the last version has the fill that it had
pub fill-behind : (later front : List Entry) (k : Entry) (l : Link) (v : Version) (key : ExecKey) → GoneLink later front k l → version_of k ≡ Some v → IsOther l key → is_last_of (later ++ k ∷ front) k.number key ≡ false
    → current_fill (later ++ front) key ≡ current_fill (later ++ k ∷ front) key
fill-behind later front k l v key gone is other behind =
    let entries = later ++ k ∷ front in
    let others = later ++ front in
    ap (λ found. option_map (λ version. version.fill) (option_and_then (version_numbered others) (option_and_then (current_in (links_in others)) found))) (root-gone later front k l gone key other)
    ∙ ap (option_map (λ version. version.fill)) (rooted-stays later front k l v (root_in (links_in entries) key) gone is behind)

-- what a chain has of which k is the last version
pub last-of : (later front : List Entry) (k : Entry) (l : Link) (r : ExecKey) → GoneLink later front k l → rises_in (later ++ k ∷ front) ≡ true → is_number k.number (current_in (links_in (later ++ k ∷ front)) r) ≡ true
    → IsLast (links_in later) (links_in front) l r
last-of later front k l r gone rise last =
    let whole = links-whole later front k l gone.link in
    let number : l.number ≡ k.number = link-number k l gone.link in
    let is : is_number l.number (current_in (links_in later ++ l ∷ links_in front) r) ≡ true = ap (λ n. is_number n (current_in (links_in later ++ l ∷ links_in front) r)) number ∙ ap (λ ls. is_number k.number (current_in ls r)) (sym whole) ∙ last in
    current-back (links_in later) (links_in front) l r (chained-whole later front k l gone) (chained-rest later front k l gone) (ap falls (sym whole) ∙ falls-links (later ++ k ∷ front) rise) is

-- ---- a Trade

abbrev pub as_entry : ℕ → Trade → Entry
as_entry number trade = record { number = number; command = TradeCommand trade }

abbrev pub as_link : ℕ → Trade → Link
as_link number trade = record { number = number; key = trade.key; role = Begins }

-- another key of its chain would refer to it
trade-last : (later front : List Entry) (number : ℕ) (trade : Trade) (key : ExecKey) (found : Option ExecKey) → GoneLink later front (as_entry number trade) (as_link number trade) → rises_in (later ++ as_entry number trade ∷ front) ≡ true
    → root_in (links_in (later ++ front)) key ≡ found
    → is_number number (option_and_then (current_in (links_in (later ++ as_entry number trade ∷ front))) found) ≡ false
trade-last later front number trade key None gone rise is = refl
trade-last later front number trade key (Some r) gone rise is =
    let k = as_entry number trade in
    elim (cases_Bool (is_number number (current_in (links_in (later ++ k ∷ front)) r))) [
      | inl last ↦
          let own : same_exec trade.key r ≡ true = (last-of later front k (as_link number trade) r gone rise last).own in
          let root : is_root trade.key (root_in (links_in (later ++ front)) key) ≡ false = root-fresh (links_in (later ++ front)) trade.key key (key-gone later front k (as_link number trade) gone) in
          let other : same_exec r trade.key ≡ false = ap (is_root trade.key) (sym is) ∙ root in
          absurd (differing (same_exec-sym r trade.key ∙ own) other)
      | inr behind ↦ behind
    ]

trade-uses : (later front : List Entry) (number : ℕ) (trade : Trade) (command : Command) → GoneLink later front (as_entry number trade) (as_link number trade) → rises_in (later ++ as_entry number trade ∷ front) ≡ true
    → is_among (exec_references command) trade.key ≡ false → refusal_in (later ++ as_entry number trade ∷ front) command ≡ None → refusal_in (later ++ front) command ≡ None
trade-uses later front number trade command gone rise apart is =
    let k = as_entry number trade in
    let l = as_link number trade in
    let entries = later ++ k ∷ front in
    let others = later ++ front in
    let v : Version = record { number = number; key = trade.key; fill = trade.fill } in
    let refers : All (IsOther l) (exec_references command) =
    All-weaker (λ key. same_exec key trade.key ≡ false) (IsOther l) (λ key other. same_exec-sym trade.key key ∙ other) (exec_references command) (any-none (λ key. same_exec key trade.key) (exec_references command) apart) in
    let shapes : All (ShapeStays entries others) (listed_by command) =
    All-weaker (IsOther l) (ShapeStays entries others)
    (λ key other.
    let rooted = root-gone later front k l gone key other in
    let behind : is_last_of entries number key ≡ false =
    ap (λ found. is_number number (option_and_then (current_in (links_in entries)) found)) (sym rooted) ∙ trade-last later front number trade key (root_in (links_in others) key) gone rise refl in
    ap shaped (fill-behind later front k l v key gone refl other behind)) (listed_by command) (listed (IsOther l) command refers) in
    accepted others command
    (accepts-out (IsOther l) (ShapeStays entries others) AnyKey entries others command (answers-gone later front k l gone)
    (uses-gone later front k l gone command refers shapes) (accepts entries command is))

pub refused-among : (later front : List Entry) (k : Entry) (l : Link) (command : Command) → GoneLink later front k l → is_among (exec_references command) l.key ≡ true → refusal_in (later ++ front) command ≡ None → ⊥
refused-among later front k l command gone among is =
    let refers = references-other (later ++ front) l.key command (key-gone later front k l gone) (accepts (later ++ front) command is).rooted in
    differing among
    (list_any_none (λ key. same_exec key l.key) (exec_references command)
    (All-weaker (IsOther l) (λ key. same_exec key l.key ≡ false) (λ key other. same_exec-sym key l.key ∙ other) (exec_references command) refers))

or-false : (b : Bool) → (b || false || false || false) ≡ b
or-false true = refl
or-false false = refl

-- all that can need a Trade is a reference to it
pub trade-needs : (before : List Entry) (number : ℕ) (trade : Trade) (command : Command) → needs before (as_entry number trade) command ≡ is_among (exec_references command) trade.key
trade-needs before number trade command = or-false (is_among (exec_references command) trade.key)

pub trade-step : (number : ℕ) (trade : Trade) → IsStep (as_entry number trade)
trade-step number trade = λ later front command legal rise out is.
    let k = as_entry number trade in
    let gone : GoneLink later front k (as_link number trade) = record { link = refl; legal = legal; out = out } in
    elim (cases_Bool (is_among (exec_references command) trade.key)) [
      | inl among ↦
          let needed : needs (later ++ k ∷ front) k command ≡ true = trade-needs (later ++ k ∷ front) number trade command ∙ among in
          unnamed (refusal_in (later ++ front) command) (refused-among later front k (as_link number trade) command gone among) ∙ ap not (sym needed)
      | inr apart ↦
          let unneeded : needs (later ++ k ∷ front) k command ≡ false = trade-needs (later ++ k ∷ front) number trade command ∙ apart in
          ap is_none (trade-uses later front number trade command gone rise apart is) ∙ ap not (sym unneeded)
    ]
