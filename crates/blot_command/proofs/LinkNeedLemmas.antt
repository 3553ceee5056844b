-- What needs an entry of an execution: the first link that refers to it, or an allocation. For a Trade the first that lists its chain.
use Rattle.std.proofs.Common.{◌≡◌, ℕ, ◌<◌, Bool, true, false, cond, ◌&&◌, ◌||◌, List, [], ◌∷◌, ◌++◌, Option, Some, None, refl, sym, ap, subst, ◌∙◌, inl, inr, arith, find, is_none, nat_eq, nat_lt, filter_map, option_and_then, eq-eqb, lt-ltb, ne_eqb}
use Rattle.std.specs.List.{cons_option, list_any}
use Rattle.std.specs.Option.{option_map_or}
use Rattle.std.proofs.lemmas.Bool.{and_parts, cases_Bool, or_parts}
use Rattle.std.proofs.lemmas.Option.{same_Some}
use Rattle.blot_types.specs.declared.{command.Command.Command, command.Entry.Entry, command.Trade.Trade as TradeCommand, keys.ExecKey.ExecKey, link.Link.Link, link.Role.Role}
use Rattle.blot_types.specs.declared.command.Command.TheVariants.{Trade, Correct, Bust, AllocNew, AllocReplace, AllocCancel, Withdraw}
use Rattle.blot_types.specs.declared.link.Role.TheVariants.{Begins, Corrects, Busts}
use Rattle.blot_types.specs.Allocations.{instruction_by, instructions_in}
use Rattle.blot_types.specs.Chains.{first_needing_link, first_referring, is_chained, is_root, link_refusal, own_root, refers_to, root_in, taker_in, takes_up}
use Rattle.blot_types.specs.Instructions.{first_naming, names}
use Rattle.blot_types.specs.Keys.{is_among, same_exec}
use Rattle.blot_types.specs.Legal.{is_above_entries, legal_in, refusal_in, rises_in}
use Rattle.blot_types.specs.Lesser.{lesser}
use Rattle.blot_types.specs.Refusals.{exec_references}
use Rattle.blot_types.specs.Survivors.{link_of, links_in}
use Rattle.blot_types.specs.Withdrawal.{needed_in}
use Rattle.blot_types.proofs.ChainLemmas.{accepted_key, none_is, root-fresh}
use Rattle.blot_types.proofs.ChainOutLemmas.{untaken}
use Rattle.blot_types.proofs.EntryLemmas.{chained-links, link-number}
use Rattle.blot_types.proofs.KeyLemmas.{same_exec-refl, same_exec-sym, same_exec-true}
use Rattle.blot_types.proofs.LinkOutLemmas.{links-whole}
use Rattle.blot_types.proofs.NeedLemmas.{member-below}
use Rattle.blot_types.proofs.VersionLemmas.{as_entry, as_link, trade-needs}
use Rattle.blot_types.proofs.GeneralLemmas.{none-both, any-same, and-either}
use Rattle.blot_command.proofs.AllocNeedLemmas.{any-mapped}
use Rattle.blot_command.proofs.FirstEntryLemmas.{IsTest, after, first_in, in-either, instruction_after, instructions-above, links-above, needed-by, needed-in}

-- ---- the link of an entry among those of all

link-of_cons : (entry : Entry) (found : Option Link) (n : ℕ) (rest : List Link) → link_of entry ≡ found → nat_eq entry.number n ≡ false
    → find (λ (link : Link). nat_eq link.number n) (cons_option found rest) ≡ find (λ (link : Link). nat_eq link.number n) rest
link-of_cons entry None n rest is other = refl
link-of_cons entry (Some link) n rest is other =
    ap (λ b. cond b (Some link) (find (λ (link : Link). nat_eq link.number n) rest)) (ap (λ m. nat_eq m n) (link-number entry link is) ∙ other)

-- it is found by its number
pub numbered-link :
    (k : Entry) (front : List Entry) (l : Link) (later : List Entry) → link_of k ≡ Some l → rises_in (later ++ k ∷ front) ≡ true
    → find (λ (link : Link). nat_eq link.number k.number) (links_in (later ++ k ∷ front)) ≡ Some l
numbered-link k front l [] is rise =
    let own : nat_eq l.number k.number ≡ true = eq-eqb l.number k.number (link-number k l is) in
    ap (λ found. find (λ (link : Link). nat_eq link.number k.number) (cons_option found (links_in front))) is
    ∙ ap (λ b. cond b (Some l) (find (λ (link : Link). nat_eq link.number k.number) (links_in front))) own
numbered-link k front l (entry ∷ later) is rise =
    let rises : (is_above_entries entry.number (later ++ k ∷ front) ≡ true) × (rises_in (later ++ k ∷ front) ≡ true) = and_parts _ _ rise in
    let less : k.number < entry.number = member-below entry.number later front k rises.0 in
    let other : nat_eq entry.number k.number ≡ false = ne_eqb entry.number k.number (λ same. absurd (omega (arith, same, less))) in
    link-of_cons entry (link_of entry) k.number (links_in (later ++ k ∷ front)) refl other ∙ numbered-link k front l later is rises.1

-- ---- the first link or allocation

abbrev pub referring : ExecKey → Entry → Bool
referring key entry = option_map_or (λ link. refers_to key link.role) (link_of entry) false

pub first-of_either :
    (k : Entry) (front : List Entry) (l : Link) (later : List Entry) (test : List Entry → Entry → Bool) → link_of k ≡ Some l → rises_in (later ++ k ∷ front) ≡ true
    → first_in (after k (λ before entry. referring l.key entry || test before entry)) (later ++ k ∷ front)
    ≡ lesser (first_needing_link (links_in (later ++ k ∷ front)) k.number) (first_in (after k test) (later ++ k ∷ front))
first-of_either k front l later test is rise =
    let all = later ++ k ∷ front in
    ap (λ test. first_in test all) (λ i before entry. and-either (nat_lt k.number entry.number) (referring l.key entry) (test before entry) i)
    ∙ in-either (after k (λ before entry. referring l.key entry)) (after k test) all rise
    ∙ ap (λ found. lesser found (first_in (after k test) all))
    (links-above k.number (λ link. refers_to l.key link.role) all
    ∙ sym (ap (option_and_then (λ (link : Link). first_referring (links_in all) k.number link.key)) (numbered-link k front l later is rise)))

-- ---- a Trade: before another link refers to it, its chain has no other key

-- no entry of these refers to the key
abbrev NoneRefer : ExecKey → List Entry → List Entry → Type 0
NoneRefer key [] base = Unit {0}
NoneRefer key (entry ∷ later) base = (referring key entry ≡ false) × NoneRefer key later base

none-refer :
    (k : Entry) (front : List Entry) (key : ExecKey) (test : List Entry → Entry → Bool) (later : List Entry) → rises_in (later ++ k ∷ front) ≡ true
    → first_in (after k (λ before entry. referring key entry || test before entry)) (later ++ k ∷ front) ≡ None → NoneRefer key later (k ∷ front)
none-refer k front key test [] rise none = tt
none-refer k front key test (entry ∷ later) rise none =
    let all = later ++ k ∷ front in
    let rises : (is_above_entries entry.number all ≡ true) × (rises_in all ≡ true) = and_parts _ _ rise in
    let parts = none-both (first_in (after k (λ before entry. referring key entry || test before entry)) all) (nat_lt k.number entry.number && (referring key entry || test all entry)) entry.number none in
    let over : nat_lt k.number entry.number ≡ true = lt-ltb _ _ (member-below entry.number later front k rises.0) in
    let fails : (referring key entry || test all entry) ≡ false = sym (ap (λ b. b && (referring key entry || test all entry)) over) ∙ parts.1 in
    ((or_parts (referring key entry) (test all entry) fails).0, none-refer k front key test later rises.1 parts.0)

-- the key of the entry isn't that of one that comes later
key-apart :
    (k : Entry) (front : List Entry) (l : Link) (later : List Entry) (other : ExecKey) → link_of k ≡ Some l → taker_in (links_in (later ++ k ∷ front)) other ≡ None
    → same_exec other l.key ≡ false
key-apart k front l later other is fresh =
    same_exec-sym other l.key ∙ untaken (links_in later) (links_in front) l other (ap (λ links. taker_in links other) (sym (links-whole later front k l is)) ∙ fresh)

-- a key has the root key exactly where it is that key
abbrev IsAlone : ExecKey → List Link → Type 0
IsAlone key links = (other : ExecKey) → is_root key (root_in links other) ≡ same_exec other key

own-alone :
    (key own other : ExecKey) (role : Role) (links : List Link) → IsAlone key links → same_exec own key ≡ false → refers_to key role ≡ false → same_exec own other ≡ true
    → is_root key (own_root (root_in links) own role) ≡ same_exec other key
own-alone key own other Begins links alone apart unreferred same = ap (λ k. same_exec k key) (same_exec-true own other same)
own-alone key own other (Corrects reference) links alone apart unreferred same = alone reference ∙ unreferred ∙ sym (ap (λ k. same_exec k key) (sym (same_exec-true own other same)) ∙ apart)
own-alone key own other (Busts reference) links alone apart unreferred same = sym (ap (λ k. same_exec k key) (sym (same_exec-true own other same)) ∙ apart)

alone-cons :
    (key : ExecKey) (found : Option Link) (links : List Link) → IsAlone key links → option_map_or (λ link. refers_to key link.role) found false ≡ false
    → ((link : Link) → found ≡ Some link → same_exec link.key key ≡ false) → IsAlone key (cons_option found links)
alone-cons key None links alone unreferred apart other = alone other
alone-cons key (Some link) links alone unreferred apart other =
    elim (cases_Bool (takes_up other link)) [
      | inl same ↦
          ap (λ b. is_root key (cond b (own_root (root_in links) link.key link.role) (root_in links other))) same
          ∙ own-alone key link.key other link.role links alone (apart link refl) unreferred same
      | inr passed ↦ ap (λ b. is_root key (cond b (own_root (root_in links) link.key link.role) (root_in links other))) passed ∙ alone other
    ]

-- an entry's link takes up a new key
fresh-link : (entry : Entry) (earlier : List Entry) (found : Option Link) → link_of entry ≡ found → is_chained (cons_option found (links_in earlier)) ≡ true → (link : Link) → found ≡ Some link → taker_in (links_in earlier) link.key ≡ None
fresh-link entry earlier None is chained link same = cc
fresh-link entry earlier (Some own) is chained link same =
    let parts : (is_none (link_refusal (links_in earlier) own.key own.role) ≡ true) × (is_chained (links_in earlier) ≡ true) = and_parts _ _ chained in
    subst (λ (link : Link). taker_in (links_in earlier) link.key ≡ None) (same_Some own link same) (accepted_key (links_in earlier) own.key own.role (none_is _ parts.0)).0

trade-alone :
    (number : ℕ) (trade : TradeCommand) (front later : List Entry) → legal_in (later ++ as_entry number trade ∷ front) ≡ true → NoneRefer trade.key later (as_entry number trade ∷ front)
    → IsAlone trade.key (links_in (later ++ as_entry number trade ∷ front))
trade-alone number trade front [] legal none other =
    let key = trade.key in
    let parts : (is_none (link_refusal (links_in front) key Begins) ≡ true) × (is_chained (links_in front) ≡ true) = and_parts _ _ (chained-links (as_entry number trade ∷ front) legal) in
    let fresh : taker_in (links_in front) key ≡ None = (accepted_key (links_in front) key Begins (none_is _ parts.0)).0 in
    elim (cases_Bool (same_exec key other)) [
      | inl same ↦
          ap (λ b. is_root key (cond b (Some key) (root_in (links_in front) other))) same ∙ same_exec-refl key ∙ sym (same_exec-sym other key ∙ same)
      | inr apart ↦
          ap (λ b. is_root key (cond b (Some key) (root_in (links_in front) other))) apart ∙ root-fresh (links_in front) key other fresh ∙ sym (same_exec-sym other key ∙ apart)
    ]
trade-alone number trade front (entry ∷ later) legal none other =
    let k = as_entry number trade in
    let all = later ++ k ∷ front in
    let legals : (is_none (refusal_in all entry.command) ≡ true) × (legal_in all ≡ true) = and_parts _ _ legal in
    alone-cons trade.key (link_of entry) (links_in all) (trade-alone number trade front later legals.1 none.1) none.0
    (λ link is. key-apart k front (as_link number trade) later link.key refl (fresh-link entry all (link_of entry) refl (chained-links (entry ∷ all) legal) link is)) other

-- so an allocation that lists its chain lists it
listed-alone : (key : ExecKey) (links : List Link) (keys : List ExecKey) → IsAlone key links → is_among keys key ≡ list_any (λ root. same_exec root key) (filter_map (root_in links) keys)
listed-alone key links keys alone =
    any-same (λ other. same_exec other key) (λ other. option_map_or (λ root. same_exec root key) (root_in links other) false) keys
    (λ other. sym (alone other) ∙ rooted (root_in links other)) ∙ any-mapped (root_in links) (λ root. same_exec root key) keys
  where
    rooted : (found : Option ExecKey) → is_root key found ≡ option_map_or (λ root. same_exec root key) found false
    rooted None = refl
    rooted (Some root) = refl

asks-trade :
    (key : ExecKey) (before : List Entry) (number : ℕ) (command : Command) → IsAlone key (links_in before)
    → is_among (exec_references command) key
    ≡ (referring key (record { number = number; command = command }) || option_map_or (names key) (instruction_by (links_in before) number command) false)
asks-trade key before number (Trade trade) alone = refl
asks-trade key before number (Correct correct) alone = refl
asks-trade key before number (Bust bust) alone = refl
asks-trade key before number (AllocNew new) alone = listed-alone key (links_in before) new.terms.execs alone
asks-trade key before number (AllocReplace replace) alone = listed-alone key (links_in before) replace.terms.execs alone
asks-trade key before number (AllocCancel cancel) alone = refl
asks-trade key before number (Withdraw withdrawn) alone = refl

pub trade-needed :
    (number : ℕ) (trade : TradeCommand) (front later : List Entry) → legal_in (later ++ as_entry number trade ∷ front) ≡ true → rises_in (later ++ as_entry number trade ∷ front) ≡ true
    → needed_in (as_entry number trade) (later ++ as_entry number trade ∷ front)
    ≡ lesser (first_needing_link (links_in (later ++ as_entry number trade ∷ front)) number) (first_naming (instructions_in (later ++ as_entry number trade ∷ front)) number trade.key)
trade-needed number trade front later legal rise =
    let k = as_entry number trade in
    let all = later ++ k ∷ front in
    let key = trade.key in
    let naming : List Entry → Entry → Bool = λ before entry. option_map_or (names key) (instruction_after before entry) false in
    let test : List Entry → Entry → Bool = λ before entry. referring key entry || naming before entry in
    let step : IsTest k front test = λ later entry next.
    trade-needs (later ++ k ∷ front) number trade entry.command
    ∙ asks-trade key (later ++ k ∷ front) entry.number entry.command (trade-alone number trade front later next.legal (none-refer k front key naming later next.rise next.none)) in
    needed-in k all ∙ needed-by k front test step later legal rise ∙ first-of_either k front (as_link number trade) later naming refl rise
    ∙ ap (lesser (first_needing_link (links_in all) number)) (instructions-above number (names key) all)
