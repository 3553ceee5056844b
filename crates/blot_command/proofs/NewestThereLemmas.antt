-- Of the slots of one execution none but the newest has its entry there: so it stays when an entry is taken out, and when it is put back.
use Rattle.std.proofs.Common.{◌≡◌, ℕ, true, false, ◌&&◌, List, [], ◌∷◌, Option, Some, None, refl, sym, ap, subst, ◌∙◌, inl, inr, find, is_none, nat_eq, nat_lt, not, IfSome, option_map, eqb-true}
use Rattle.std.specs.List.{cons_option, list_all}
use Rattle.std.specs.Option.{option_map_or}
use Rattle.std.proofs.lemmas.Bool.{cases_Bool, and_parts}
use Rattle.blot_types.specs.declared.{command.Command.Command, command.Entry.Entry, keys.ExecKey.ExecKey, link.Link.Link}
use Rattle.blot_types.specs.declared.command.Command.TheVariants.{Trade, Correct, Bust, AllocNew, AllocReplace, AllocCancel, Withdraw}
use Rattle.blot_types.specs.Chains.{is_chained, link_refusal, taker_in, takes_up}
use Rattle.blot_types.specs.Keys.{same_exec}
use Rattle.blot_types.specs.Refusals.{exec_key}
use Rattle.blot_types.specs.Survivors.{link_of, links_in}
use Rattle.blot_types.proofs.AcceptLemmas.{unmapped}
use Rattle.blot_types.proofs.ChainLemmas.{accepted_key, none_is}
use Rattle.blot_types.proofs.KeyLemmas.{same_exec-sym}
use Rattle.blot_types.proofs.GeneralLemmas.{and-not}
use Rattle.blot_places.specs.declared.slots.Slot.{Slot}
use Rattle.blot_places.specs.Shown.{item_at, with_item, with_some}
use Rattle.blot_places.specs.Slots.{items, is_above, lifted, live, mark, marked, numbers_fall}
use Rattle.blot_places.proofs.MarkLemmas.{above-side, at-apart, falling-side, mark-item, mark-same, marked-below, marked-into, marked-out, side_here, side_on}
use Rattle.blot_places.proofs.ShownLemmas.{at-number, none-with_some, none-without, at-on, falling-parts}
use Rattle.blot_chain.specs.Steps.{number_of as link_number}
use Rattle.blot_command.specs.Book.{entry_number}
use Rattle.blot_command.specs.Withdrawing.{shares_exec}
use Rattle.blot_command.specs.Slots.{NewestThere}
use Rattle.blot_command.proofs.LeftLemmas.{exec-key}
use Rattle.blot_command.proofs.HoldLemmas.{links-with, links-without}

-- ---- of the slots of one execution none but the newest has its entry there

if-some : {P Q : ExecKey → Type 0} (key : Option ExecKey) → ((k : ExecKey) → P k → Q k) → IfSome key P → IfSome key Q
if-some None each some = tt
if-some (Some k) each some = each k some

pub none-taken : (links : List Link) (key : ExecKey) → taker_in links key ≡ None → find (takes_up key) links ≡ None
none-taken links key none = unmapped (λ (link : Link). link.number) (find (takes_up key) links) none

pub newest-taken : (slots : List (Slot Entry)) (n : ℕ) → NewestThere slots → NewestThere (marked entry_number n false slots)
newest-taken [] n newest = tt
newest-taken (slot ∷ earlier) n newest = (
  subst (λ (item : Entry). IfSome (exec_key item.command) (λ key. taker_in (links_in (live (marked entry_number n false earlier))) key ≡ None)) (sym (mark-item entry_number n false slot))
      (if-some (exec_key slot.item.command) (λ key none.
      ap (λ found. option_map (λ (link : Link). link.number) found)
      (ap (λ entries. find (takes_up key) (links_in entries)) (marked-out entry_number n false earlier) ∙ ap (find (takes_up key)) (links-without n (live earlier))
      ∙ none-without (takes_up key) link_number n (links_in (live earlier)) (none-taken (links_in (live earlier)) key none))) newest.0),
  newest-taken earlier n newest.1,
)

-- an entry that is put back shares no execution with one that was taken out later
abbrev pub Untaken : Entry → List Entry → Type 0
Untaken entry entries = list_all (λ other. not (nat_lt entry.number other.number && shares_exec entry other)) entries ≡ true

-- the link of an entry takes up no execution that the entry doesn't share
unshared : (entry other : Entry) (key : ExecKey) (link : Link) → exec_key other.command ≡ Some key → shares_exec entry other ≡ false → link_of entry ≡ Some link → takes_up key link ≡ false
unshared entry other key link own apart linked =
    let own_key : exec_key entry.command ≡ Some link.key = exec-key entry link linked in
    same_exec-sym link.key key
    ∙ sym ((λ i. option_map_or (λ (k : ExecKey). option_map_or (λ (mine : ExecKey). same_exec mine k) (own i) false) (own_key i) false)) ∙ apart

accepted-taker : (item : Entry) (links : List Link) (key : ExecKey) → exec_key item.command ≡ Some key → is_chained (cons_option (link_of item) links) ≡ true → taker_in links key ≡ None
accepted-taker item links key own chained = by (link_of item) refl chained
  where
    linked-by : (command : Command) → exec_key command ≡ Some key → link_of (record { number = item.number; command = command }) ≡ None → ⊥
    linked-by (Trade trade) own none = cc
    linked-by (Correct correct) own none = cc
    linked-by (Bust bust) own none = cc
    linked-by (AllocNew new) own none = cc
    linked-by (AllocReplace replace) own none = cc
    linked-by (AllocCancel cancel) own none = cc
    linked-by (Withdraw withdrawn) own none = cc

    by : (found : Option Link) → link_of item ≡ found → is_chained (cons_option found links) ≡ true → taker_in links key ≡ None
    by None is chained = absurd (linked-by item.command own is)
    by (Some link) is chained =
        let parts : (is_none (link_refusal links link.key link.role) ≡ true) × (is_chained links ≡ true) = and_parts _ _ chained in
        let some : Some link.key ≡ Some key = sym (exec-key item link is) ∙ own in
        let same : link.key ≡ key = cc in
        ap (taker_in links) (sym same) ∙ (accepted_key links link.key link.role (none_is _ parts.0)).0

chained-rest : (found : Option Link) (links : List Link) → is_chained (cons_option found links) ≡ true → is_chained links ≡ true
chained-rest None links chained = chained
chained-rest (Some link) links chained = (and_parts _ _ chained).1

pub newest-put :
    (slots : List (Slot Entry)) (entry : Entry) → numbers_fall entry_number (items slots) ≡ true → item_at entry_number entry.number (lifted slots) ≡ Some entry → Untaken entry (lifted slots)
    → is_chained (links_in (live (marked entry_number entry.number true slots))) ≡ true → NewestThere slots → NewestThere (marked entry_number entry.number true slots)
newest-put [] entry fall left untaken chained newest = tt
newest-put (slot ∷ earlier) entry fall left untaken chained newest =
    let n = entry.number in
    let falling = falling-parts entry_number slot.item (items earlier) fall in
    elim (cases_Bool (nat_eq slot.item.number n)) [
      | inl here ↦
          let below : is_above entry_number n (items earlier) ≡ true = subst (λ k. is_above entry_number k (items earlier) ≡ true) (eqb-true _ _ here) falling.0 in
          let stays : marked entry_number n true earlier ≡ earlier = marked-below entry_number n true earlier below in
          subst (λ rest. NewestThere (mark entry_number n true slot ∷ rest)) (sym stays)
          (subst (λ (item : Entry). IfSome (exec_key item.command) (λ key. taker_in (links_in (live earlier)) key ≡ None)) (sym (mark-item entry_number n true slot)) newest.0, newest.1)
      | inr other ↦
          let same = mark-same entry_number n true slot other in
          subst (λ (s : Slot Entry). NewestThere (s ∷ marked entry_number n true earlier)) (sym same)
          (elim (cases_Bool slot.is_live) [
            | inl there ↦
                let whole : is_chained (cons_option (link_of slot.item) (links_in (live (marked entry_number n true earlier)))) ≡ true =
                ap (λ entries. is_chained (links_in entries)) (sym (ap (λ (s : Slot Entry). live (s ∷ marked entry_number n true earlier)) same ∙ side_here true slot (marked entry_number n true earlier) there)) ∙ chained in
                let left_on = ap (item_at entry_number n) (sym (side_on false slot earlier (ap not there))) ∙ left in
                let untaken_on = ap (list_all (λ (o : Entry). not (nat_lt n o.number && shares_exec entry o))) (sym (side_on false slot earlier (ap not there))) ∙ untaken in (
                  head (exec_key slot.item.command) refl (λ key own. accepted-taker slot.item (links_in (live (marked entry_number n true earlier))) key own whole),
                  newest-put earlier entry falling.1 left_on untaken_on (chained-rest (link_of slot.item) (links_in (live (marked entry_number n true earlier))) whole) newest.1,
                )
            | inr taken ↦
                let lifts = side_here false slot earlier (ap not taken) in
                let left_on : item_at entry_number n (lifted earlier) ≡ Some entry = sym (at-on entry_number n slot.item (lifted earlier) other) ∙ ap (item_at entry_number n) (sym lifts) ∙ left in
                let untakens : (not (nat_lt n slot.item.number && shares_exec entry slot.item) ≡ true) × Untaken entry (lifted earlier) =
                and_parts _ _ (ap (list_all (λ (o : Entry). not (nat_lt n o.number && shares_exec entry o))) (sym lifts) ∙ untaken) in
                let less : nat_lt n slot.item.number ≡ true = at-number entry_number n slot.item.number (lifted earlier) entry (above-side entry_number slot.item.number false earlier falling.0) left_on in
                let apart : shares_exec entry slot.item ≡ false = and-not _ _ less untakens.0 in
                let chains : is_chained (links_in (live (marked entry_number n true earlier))) ≡ true =
                ap (λ entries. is_chained (links_in entries)) (sym (ap (λ (s : Slot Entry). live (s ∷ marked entry_number n true earlier)) same ∙ side_on true slot (marked entry_number n true earlier) taken)) ∙ chained in
                let into : live (marked entry_number n true earlier) ≡ with_item entry_number entry (live earlier) =
                marked-into entry_number n true earlier falling.1 ∙ ap (λ f. with_some entry_number f (live earlier)) left_on in
                let none : item_at entry_number n (live earlier) ≡ None = at-apart entry_number n false earlier entry falling.1 left_on in
                let links : links_in (live (marked entry_number n true earlier)) ≡ with_some link_number (link_of entry) (links_in (live earlier)) =
                ap links_in into ∙ links-with entry (live earlier) (falling-side entry_number true earlier falling.1) none in (
                  head (exec_key slot.item.command) refl (λ key own.
                      ap (λ all. taker_in all key) links
                      ∙ ap (option_map (λ (link : Link). link.number))
                      (none-with_some (takes_up key) link_number (link_of entry) (links_in (live earlier)) (none-taken (links_in (live earlier)) key (subst (λ k. IfSome k (λ key. taker_in (links_in (live earlier)) key ≡ None)) own newest.0))
                      (λ link linked. unshared entry slot.item key link own apart linked))),
                  newest-put earlier entry falling.1 left_on untakens.1 chains newest.1,
                )
          ])
    ]
  where
    head : {P : ExecKey → Type 0} (key : Option ExecKey) → exec_key slot.item.command ≡ key → ((k : ExecKey) → exec_key slot.item.command ≡ Some k → P k) → IfSome key P
    head None own each = tt
    head (Some k) own each = each k own
