-- A busted chain that no allocation lists is one that nobody needs.
use Rattle.std.proofs.Common.{◌≡◌, ℕ, ◌+◌, ◌<◌, ◌≤◌, Bool, true, false, ◌&&◌, List, [], ◌∷◌, ◌++◌, map, reverse, length, get_or, take, drop, arith, Option, Some, None, refl, sym, ap, ◌∙◌, inl, inr, not, filter, find, is_none, is_some, nat_lt, All, IsTrue, option_map, option_and_then, ltb-true, take-append-drop}
use Rattle.std.proofs.lemmas.Bool.{cases_Bool, and_from, and_parts, not-true, not-false}
use Rattle.std.proofs.lemmas.List.{reverse-append, take_more}
use Rattle.std.proofs.lemmas.List.Elements.{All-nil, All-cons, filter-append}
use Rattle.std.proofs.lemmas.List.Folds.{list_all-append}
use Rattle.blot_types.specs.declared.{command.Command.Command, command.Entry.Entry, keys.AllocKey.AllocKey, keys.ExecKey.ExecKey, keys.OrderKey.OrderKey, TheConstants.EVENTS_MAX, link.Link.Link}
use Rattle.blot_types.specs.declared.command.Command.TheVariants.{Trade, Correct, Bust, AllocNew, AllocReplace, AllocCancel, Withdraw}
use Rattle.blot_types.specs.Chains.{is_root, bust_in}
use Rattle.blot_types.specs.Legal.{is_above_entries, rises_in, is_legal, is_book, entry_refusal}
use Rattle.blot_types.specs.Order.{order_of}
use Rattle.blot_types.specs.Position.{position_of}
use Rattle.blot_types.specs.Refusals.{alloc_key, listed_by}
use Rattle.blot_types.specs.Survivors.{link_by, links_of, root_of}
use Rattle.blot_types.proofs.AcceptLemmas.{unmapped}
use Rattle.blot_types.proofs.ChainLemmas.{clash, none_is}
use Rattle.blot_types.proofs.KeyLemmas.{same_exec-true}
use Rattle.blot_types.proofs.LawLemmas.{book_parts}
use Rattle.blot_types.proofs.LegalLemmas.{is_legal-front, is_legal-push}
use Rattle.blot_types.proofs.GeneralLemmas.{all-reversed, any-none}
use Rattle.blot_withdraw.specs.Erasure.{chained_by, is_of_chain, without_chain, lists_chain, first_listing}
use Rattle.blot_withdraw.proofs.LegalStayLemmas.{book-spared}
use Rattle.blot_withdraw.proofs.LineStayLemmas.{SparesLines, order-spared, position-spared}
use Rattle.blot_withdraw.proofs.SpareLemmas.{Spares}
use Rattle.blot_withdraw.proofs.Split.{Split, IsFree, chain_key, own_key}

-- ---- what goes with a chain

pub chained-link : (number : ℕ) (command : Command) (link : Link) → link_by number command ≡ Some link → chained_by command ≡ Some (chain_key link.key link.role)
chained-link number (Trade trade) link is = ap (option_map (λ l. chain_key l.key l.role)) is
chained-link number (Correct correct) link is = ap (option_map (λ l. chain_key l.key l.role)) is
chained-link number (Bust bust) link is = ap (option_map (λ l. chain_key l.key l.role)) is
chained-link number (AllocNew new) link is = cc
chained-link number (AllocReplace replace) link is = cc
chained-link number (AllocCancel cancel) link is = cc
chained-link number (Withdraw withdrawn) link is = cc

pub unchained : (command : Command) (key : AllocKey) → alloc_key command ≡ Some key → chained_by command ≡ None
unchained (Trade trade) key is = cc
unchained (Correct correct) key is = cc
unchained (Bust bust) key is = cc
unchained (AllocNew new) key is = refl
unchained (AllocReplace replace) key is = refl
unchained (AllocCancel cancel) key is = refl
unchained (Withdraw withdrawn) key is = refl

-- the chain of a root goes, and no allocation
abbrev pub chain_split : List Entry → ExecKey → Split
chain_split list root = record {
  roots = root_of list;
  goes = is_root root;
  drops = λ key. false;
  stays = λ entry. not (is_of_chain list root entry);
  keeps = λ link. not (is_root root (root_of list (chain_key link.key link.role)));
  linked = λ entry link is. ap (λ found. not (is_root root (option_and_then (root_of list) found))) (chained-link entry.number entry.command link is);
  kept = λ link stays. not-true _ stays;
  gone = λ link one goes. ap (λ key. is_root root (root_of list key)) (sym (own_key link.key link.role one)) ∙ not-false _ goes;
  allocated = λ entry key is. ap (λ found. not (is_root root (option_and_then (root_of list) found))) (unchained entry.command key is);
}

-- ---- nobody needs it

free_of : (list : List Entry) (root : ExecKey) (entries : List Entry) → find (lists_chain list root) entries ≡ None → All (IsFree (chain_split list root)) entries
free_of list root [] none = All-nil (IsFree (chain_split list root))
free_of list root (entry ∷ entries) none =
    elim (cases_Bool (lists_chain list root entry)) [
      | inl here ↦ absurd (clash (rw here at none))
      | inr passed ↦
          All-cons (IsFree (chain_split list root)) entry entries
          (record {
            lists = λ stays. any-none (λ key. is_root root (root_of list key)) (listed_by entry.command) passed;
            refers = λ key reference keyed referring. refl;
          })
          (free_of list root entries (rw passed at none))
    ]

pub chain_spares : (list : List Entry) (root : ExecKey) → IsTrue (is_book list) → first_listing list root ≡ None → Spares (chain_split list root) (reverse list)
chain_spares list root book none =
    let parts = book_parts list book in
    record {
      legal = parts.1;
      rises = parts.0;
      knows = record { known = λ key found is. is };
      free = all-reversed (IsFree (chain_split list root)) list (free_of list root list (unmapped (λ entry. entry.number) _ none));
    }

-- so the list without it is a book
pub without_chain-book : (list : List Entry) (root : ExecKey) → IsTrue (is_book list) → first_listing list root ≡ None → IsTrue (is_book (without_chain list root))
without_chain-book list root book none = book-spared (chain_split list root) list (chain_spares list root book none) book

-- and where the chain is busted, its orders and positions are those of the list
busted : (bust : Option ℕ) → is_some bust ≡ true → is_none bust ≡ false
busted None is = cc
busted (Some number) is = refl

spares_lines :
    (list : List Entry) (root : ExecKey) → IsTrue (is_book list) → is_some (bust_in (links_of list) root) ≡ true → first_listing list root ≡ None
    → SparesLines (chain_split list root) list
spares_lines list root book is none = record {
  spares = chain_spares list root book none;
  whole = λ link goes. not-false _ goes;
  busted = λ other same. ap (λ r. is_none (bust_in (links_of list) r)) (same_exec-true other root same) ∙ busted (bust_in (links_of list) root) is;
  allocations = λ key. refl;
}

pub without_chain-order :
    (list : List Entry) (root : ExecKey) (order : OrderKey) → IsTrue (is_book list) → is_some (bust_in (links_of list) root) ≡ true → first_listing list root ≡ None
    → order_of (without_chain list root) order ≡ order_of list order
without_chain-order list root order book is none = order-spared (chain_split list root) list order (spares_lines list root book is none)

pub without_chain-position :
    (list : List Entry) (root : ExecKey) (account symbol : List ℕ) → IsTrue (is_book list) → is_some (bust_in (links_of list) root) ≡ true → first_listing list root ≡ None
    → position_of (without_chain list root) account symbol ≡ position_of list account symbol
without_chain-position list root account symbol book is none = position-spared (chain_split list root) list account symbol (spares_lines list root book is none)

-- ---- a book, entry by entry

rises-older : (later earlier : List Entry) → rises_in (later ++ earlier) ≡ true → rises_in earlier ≡ true
rises-older [] earlier rise = rise
rises-older (entry ∷ later) earlier rise =
    let parts : (is_above_entries entry.number (later ++ earlier) ≡ true) × (rises_in (later ++ earlier) ≡ true) = and_parts _ _ rise in
    rises-older later earlier parts.1

-- the front of a book is a book
pub book-front : (front back : List Entry) → is_book (front ++ back) ≡ true → is_book front ≡ true
book-front front back book =
    let turned : reverse (front ++ back) ≡ reverse back ++ reverse front = reverse-append front back in
    let parts : ((rises_in (reverse (front ++ back)) && is_above_entries (EVENTS_MAX + 1) (reverse (front ++ back))) ≡ true) × (is_legal (front ++ back) ≡ true) = and_parts _ _ book in
    let numbered : (rises_in (reverse (front ++ back)) ≡ true) × (is_above_entries (EVENTS_MAX + 1) (reverse (front ++ back)) ≡ true) = and_parts _ _ parts.0 in
    let within : (is_above_entries (EVENTS_MAX + 1) (reverse back) ≡ true) × (is_above_entries (EVENTS_MAX + 1) (reverse front) ≡ true) =
    and_parts _ _ (sym (list_all-append (λ e. nat_lt e.number (EVENTS_MAX + 1)) (reverse back) (reverse front)) ∙ ap (is_above_entries (EVENTS_MAX + 1)) (sym turned) ∙ numbered.1) in
    and_from _ _ (and_from _ _ (rises-older (reverse back) (reverse front) (ap rises_in (sym turned) ∙ numbered.0)) within.1) (is_legal-front front back parts.1)

-- what is known of the last entry of a book
pub record IsLast (list : List Entry) (entry : Entry) : Type 0 where
  pub accepted : entry_refusal list entry.command ≡ None
  pub above : All (λ earlier. earlier < entry.number) (map (λ e. e.number) list)
  pub within : entry.number ≤ EVENTS_MAX

below_all : (number : ℕ) (list : List Entry) → is_above_entries number (reverse list) ≡ true → All (λ earlier. earlier < number) (map (λ e. e.number) list)
below_all number [] above = All-nil (λ earlier. earlier < number)
below_all number (entry ∷ list) above =
    let split : (is_above_entries number (reverse list) && (nat_lt entry.number number && true)) ≡ true =
    sym (list_all-append (λ e. nat_lt e.number number) (reverse list) (entry ∷ [])) ∙ ap (is_above_entries number) (sym (reverse-append (entry ∷ []) list)) ∙ above in
    let parts : (is_above_entries number (reverse list) ≡ true) × ((nat_lt entry.number number && true) ≡ true) = and_parts _ _ split in
    let own : (nat_lt entry.number number ≡ true) × (true ≡ true) = and_parts _ _ parts.1 in
    All-cons (λ earlier. earlier < number) entry.number (map (λ e. e.number) list) (ltb-true _ _ own.0) (below_all number list parts.0)

pub last_of : (list : List Entry) (entry : Entry) → is_book (list ++ entry ∷ []) ≡ true → IsLast list entry
last_of list entry book =
    let turned : reverse (list ++ entry ∷ []) ≡ entry ∷ reverse list = reverse-append list (entry ∷ []) in
    let parts : ((rises_in (reverse (list ++ entry ∷ [])) && is_above_entries (EVENTS_MAX + 1) (reverse (list ++ entry ∷ []))) ≡ true) × (is_legal (list ++ entry ∷ []) ≡ true) = and_parts _ _ book in
    let numbered : (rises_in (reverse (list ++ entry ∷ [])) ≡ true) × (is_above_entries (EVENTS_MAX + 1) (reverse (list ++ entry ∷ [])) ≡ true) = and_parts _ _ parts.0 in
    let rises : (is_above_entries entry.number (reverse list) ≡ true) × (rises_in (reverse list) ≡ true) = and_parts _ _ (ap rises_in (sym turned) ∙ numbered.0) in
    let within : (nat_lt entry.number (EVENTS_MAX + 1) ≡ true) × (is_above_entries (EVENTS_MAX + 1) (reverse list) ≡ true) = and_parts _ _ (ap (is_above_entries (EVENTS_MAX + 1)) (sym turned) ∙ numbered.1) in
    let legal : (is_none (entry_refusal list entry.command) ≡ true) × (is_legal list ≡ true) = and_parts _ _ (sym (is_legal-push list entry) ∙ parts.1) in
    let limited : entry.number < EVENTS_MAX + 1 = ltb-true _ _ within.0 in
    record { accepted = none_is (entry_refusal list entry.command) legal.0; above = below_all entry.number list rises.0; within = omega (arith, limited) }

-- the entries that stay of a list, up to one that stays, are the front of all that stay
pub next-book :
    (p : Entry → Bool) (list front : List Entry) (index : ℕ) (entry : Entry) → index < length list → entry ≡ get_or list index entry → front ≡ filter p (take index list)
    → p entry ≡ true → is_book (filter p list) ≡ true → is_book (front ++ entry ∷ []) ≡ true
next-book p list front index entry within is so_far stays book =
    let more : take (index + 1) list ≡ take index list ++ entry ∷ [] = rw is (take_more list index entry within) in
    let own : filter p (entry ∷ []) ≡ entry ∷ [] = rw stays refl in
    let begun : filter p (take (index + 1) list) ≡ front ++ entry ∷ [] =
    ap (filter p) more ∙ filter-append p (take index list) (entry ∷ []) ∙ ap (λ back. filter p (take index list) ++ back) own ∙ ap (λ l. l ++ entry ∷ []) (sym so_far) in
    let whole : filter p list ≡ filter p (take (index + 1) list) ++ filter p (drop (index + 1) list) =
    ap (filter p) (sym (take-append-drop (index + 1) list)) ∙ filter-append p (take (index + 1) list) (drop (index + 1) list) in
    ap is_book (sym begun) ∙ book-front (filter p (take (index + 1) list)) (filter p (drop (index + 1) list)) (ap is_book (sym whole) ∙ book)
