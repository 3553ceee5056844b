-- A legal list without a Bust is legal: nothing needs it.
use Rattle.std.proofs.Common.{◌≡◌, ℕ, true, false, List, [], ◌∷◌, ◌++◌, reverse, Option, Some, None, refl, sym, ap, ◌∙◌, ◌==◌, ◌&&◌, find, nat_lt, is_none, All, IsTrue, option_map, option_and_then, append_assoc}
use Rattle.std.proofs.lemmas.Bool.{and_right}
use Rattle.std.proofs.lemmas.List.{reverse-append, reverse-reverse}
use Rattle.std.proofs.lemmas.List.Elements.{All-weaker, filter_map-append}
use Rattle.blot_types.specs.declared.{command.Bust.Bust, command.Command.Command, command.Entry.Entry, keys.ExecKey.ExecKey, link.Link.Link, link.Role.TheVariants.Busts}
use Rattle.blot_types.specs.Chains.{root_in, current_in}
use Rattle.blot_types.specs.Legal.{rises_in, refusal_in, legal_in, is_book, least_needing}
use Rattle.blot_types.specs.Refusals.{listed_by, exec_references, current_fill, unknown_exec}
use Rattle.blot_types.specs.Survivors.{links_in, version_of, version_numbered}
use Rattle.blot_types.proofs.LawLemmas.{book_parts, bust_under}
use Rattle.blot_types.specs.Withdrawal.{needed_in, IsBustUnneeded}
use Rattle.blot_types.proofs.AcceptOutLemmas.{accepts, accepted, accepts-out, rootless-other, shaped, listed}
use Rattle.blot_types.proofs.NeedLemmas.{blocked_in, IsStep, turned, found-first}
use Rattle.blot_types.proofs.ChainOutLemmas.{bust-key}
use Rattle.blot_types.proofs.LinkOutLemmas.{GoneLink, links-whole, chained-whole, root-gone, current-gone, answers-gone, uses-gone, IsOther, ShapeStays, AnyKey}

abbrev pub as_link : ℕ → Bust → Link
as_link number bust = record { number = number; key = bust.key; role = Busts bust.reference }

then-agree : {A B : Type 0} (f g : A → Option B) (o : Option A) → ((a : A) → f a ≡ g a) → option_and_then f o ≡ option_and_then g o
then-agree f g None same = refl
then-agree f g (Some a) same = same a

-- it brings no version
version_numbered-gone : (later front : List Entry) (number : ℕ) (bust : Bust) (n : ℕ) → version_numbered (later ++ front) n ≡ version_numbered (later ++ bust_under number bust ∷ front) n
version_numbered-gone later front number bust n =
    ap (λ versions. find (λ v. v.number == n) versions)
    (filter_map-append version_of later front ∙ sym (filter_map-append version_of later (bust_under number bust ∷ front)))

fill-gone : (later front : List Entry) (number : ℕ) (bust : Bust) (key : ExecKey) → GoneLink later front (bust_under number bust) (as_link number bust) → IsOther (as_link number bust) key
    → current_fill (later ++ front) key ≡ current_fill (later ++ bust_under number bust ∷ front) key
fill-gone later front number bust key gone other =
    let k = bust_under number bust in
    let entries = later ++ k ∷ front in
    let others = later ++ front in
    let root = root_in (links_in entries) key in
    ap (λ found. option_map (λ version. version.fill) (option_and_then (version_numbered others) (option_and_then (current_in (links_in others)) found))) (root-gone later front k (as_link number bust) gone key other)
    ∙ ap (λ found. option_map (λ version. version.fill) (option_and_then (version_numbered others) found))
    (then-agree (current_in (links_in others)) (current_in (links_in entries)) root (λ r. current-gone later front k (as_link number bust) gone r refl))
    ∙ ap (option_map (λ version. version.fill)) (then-agree (version_numbered others) (version_numbered entries) (option_and_then (current_in (links_in entries)) root) (version_numbered-gone later front number bust))

-- a Bust's own key has no root, so nothing refers to it
pub rootless-bust : (later front : List Entry) (number : ℕ) (bust : Bust) → GoneLink later front (bust_under number bust) (as_link number bust) → root_in (links_in (later ++ bust_under number bust ∷ front)) bust.key ≡ None
rootless-bust later front number bust gone =
    ap (λ ls. root_in ls bust.key) (links-whole later front (bust_under number bust) (as_link number bust) refl)
    ∙ bust-key (links_in later) (links_in front) (as_link number bust) (chained-whole later front (bust_under number bust) (as_link number bust) gone) (λ root. refl)

refers-other : (later front : List Entry) (number : ℕ) (bust : Bust) (command : Command) → GoneLink later front (bust_under number bust) (as_link number bust)
    → unknown_exec (later ++ bust_under number bust ∷ front) command ≡ None → All (IsOther (as_link number bust)) (exec_references command)
refers-other later front number bust command gone rooted =
    rootless-other (later ++ bust_under number bust ∷ front) bust.key command (rootless-bust later front number bust gone) rooted

-- what is accepted with it is accepted without it
pub accepted-unbusted : (later front : List Entry) (number : ℕ) (bust : Bust) (command : Command) → legal_in (later ++ bust_under number bust ∷ front) ≡ true → legal_in (later ++ front) ≡ true
    → refusal_in (later ++ bust_under number bust ∷ front) command ≡ None → refusal_in (later ++ front) command ≡ None
accepted-unbusted later front number bust command legal out is =
    let k = bust_under number bust in
    let l = as_link number bust in
    let entries = later ++ k ∷ front in
    let others = later ++ front in
    let gone : GoneLink later front k l = record { link = refl; legal = legal; out = out } in
    let whole = accepts entries command is in
    let refers = refers-other later front number bust command gone whole.rooted in
    let shapes = All-weaker (IsOther l) (ShapeStays entries others) (λ key other. ap shaped (fill-gone later front number bust key gone other)) (listed_by command) (listed (IsOther l) command refers) in
    accepted others command
    (accepts-out (IsOther l) (ShapeStays entries others) AnyKey entries others command (answers-gone later front k l gone)
    (uses-gone later front k l gone command refers shapes) whole)

pub bust-step : (number : ℕ) (bust : Bust) → IsStep (bust_under number bust)
bust-step number bust = λ later front command legal rise out is. ap is_none (accepted-unbusted later front number bust command legal out is)

unneeded : (number : ℕ) (bust : Bust) (entries : List Entry) → needed_in (bust_under number bust) entries ≡ None
unneeded number bust [] = refl
unneeded number bust (entry ∷ earlier) =
    let none : (nat_lt number entry.number && false) ≡ false = and_right (nat_lt number entry.number) false refl in
    rw (unneeded number bust earlier, none) refl

-- newest first, the list with k in the middle
pub reverse-middle : (front back : List Entry) (k : Entry) → reverse (front ++ k ∷ back) ≡ reverse back ++ k ∷ reverse front
reverse-middle front back k =
    let turned : reverse (k ∷ back) ≡ reverse back ++ k ∷ [] = reverse-append (k ∷ []) back in
    let whole : reverse (front ++ k ∷ back) ≡ reverse (k ∷ back) ++ reverse front = reverse-append front (k ∷ back) in
    whole ∙ ap (λ l. l ++ reverse front) turned ∙ append_assoc (reverse back) (k ∷ []) (reverse front)

pub bust_unneeded : (list : List Entry) → IsTrue (is_book list) → IsBustUnneeded list
bust_unneeded list book front back number bust is =
    let parts = book_parts list book in
    let k = bust_under number bust in
    let later = reverse back in
    let earlier = reverse front in
    let whole : reverse list ≡ later ++ k ∷ earlier = ap reverse is ∙ reverse-middle front back k in
    let legal : legal_in (later ++ k ∷ earlier) ≡ true = ap legal_in (sym whole) ∙ parts.1 in
    let rise : rises_in (later ++ k ∷ earlier) ≡ true = ap rises_in (sym whole) ∙ parts.0 in
    ap (λ l. least_needing l number) (sym (reverse-reverse list)) ∙ turned number (reverse list) parts.0 ∙ ap (blocked_in number) whole
    ∙ found-first k later earlier (bust-step number bust) legal rise ∙ unneeded number bust (later ++ k ∷ earlier)
