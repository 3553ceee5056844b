-- Legal entries without a Correct: the step.
use Rattle.std.proofs.Common.{◌≡◌, ℕ, ◌<◌, ◌==◌, arith, true, false, List, [], ◌∷◌, ◌++◌, pos, Option, Some, None, refl, sym, ap, ◌∙◌, inl, inr, Bool, ℤ, ◌+ℤ◌, ◌&&◌, ◌||◌, not, find, is_none, nat_lt, All, filter_map, option_map, option_and_then, int_eq, eqb-true, eq-eqb, ltb-true, ne_eqb}
use Rattle.std.specs.List.{cons_option, list_any}
use Rattle.std.specs.Option.{option_map_or}
use Rattle.std.specs.Cmp.Lexicographic.{same_text as text_told, nat_list_eq_equiv}
use Rattle.std.proofs.lemmas.Bool.{cases_Bool, and_parts, and_from, or_from, or_left, or_right, not-true, not-false}
use Rattle.std.proofs.lemmas.Bool.Decides.{Decides-int_eq}
use Rattle.std.proofs.lemmas.Int.{ints}
use Rattle.std.proofs.lemmas.List.Elements.{All-nil, All-cons, All-head, All-tail, All-weaker}
use Rattle.blot_types.specs.declared.{allocation.Terms.Terms, command.Command.Command, command.Command.TheVariants.Correct as CorrectCommand, command.Correct.Correct, command.Entry.Entry, fill.Fill.Fill, fill.Sign.Sign, keys.ExecKey.ExecKey, lines.Version.Version, link.Link.Link, link.Role.TheVariants.Corrects}
use Rattle.blot_types.specs.declared.fill.Sign.TheVariants.{Buy, Sell}
use Rattle.blot_types.specs.declared.refused.Refused.TheVariants.{Instrument, RepeatedExec, Quantity}
use Rattle.blot_types.specs.Chains.{takes_up, own_root, root_in, is_root, current_in}
use Rattle.blot_types.specs.Instructions.{are_apart}
use Rattle.blot_types.specs.Keys.{same_exec, same_text, is_among}
use Rattle.blot_types.specs.Legal.{is_above_entries, rises_in, refusal_in, legal_in}
use Rattle.blot_types.specs.Order.{cum_of}
use Rattle.blot_types.specs.Refusals.{exec_references, listed_by, terms_of, current_fill, same_sign, differs, booked, mismatch}
use Rattle.blot_types.specs.Survivors.{is_number, links_in, version_of, version_numbered}
use Rattle.blot_types.proofs.AcceptLemmas.{unmapped, unrepeated_roots}
use Rattle.blot_types.proofs.ChainLemmas.{clash, differing, none_is, current-below, accepted_key, accepted_root}
use Rattle.blot_types.proofs.EntryLemmas.{version-number, is_above_links-links, refusal-link}
use Rattle.blot_types.proofs.KeyLemmas.{same_exec-refl, same_exec-sym}
use Rattle.blot_types.proofs.SurvivorLemmas.{current-found, version_numbered-rising, is_root-some}
use Rattle.blot_types.specs.Withdrawal.{below, alike, changes_fill, is_last_of, needs_version, needs}
use Rattle.blot_types.proofs.AcceptOutLemmas.{accepts, accepted, accepts-out, shape, shaped, amount, amount-shaped, cum-cons, cum-shaped, listed, unfound}
use Rattle.blot_types.proofs.NeedLemmas.{IsStep}
use Rattle.blot_types.proofs.LinkOutLemmas.{GoneLink, links-rest, root-gone, answers-gone, uses-gone, IsOther, ShapeStays, AnyKey}
use Rattle.blot_types.proofs.VersionLemmas.{unnamed, fill-behind, last-of, refused-among}
use Rattle.blot_types.proofs.GeneralLemmas.{or-falses, any-none}

abbrev pub as_entry : ℕ → Correct → Entry
as_entry number correct = record { number = number; command = CorrectCommand correct }

abbrev pub as_link : ℕ → Correct → Link
as_link number correct = record { number = number; key = correct.key; role = Corrects correct.reference }

abbrev as_version : ℕ → Correct → Version
as_version number correct = record { number = number; key = correct.key; fill = correct.fill }

-- ---- the entries before it

not-above : (m n : ℕ) → m < n → nat_lt n m ≡ false
not-above m n less =
    elim (cases_Bool (nat_lt n m)) [
      | inl more ↦ (let is : n < m = ltb-true _ _ more in absurd (omega (arith, less, is)))
      | inr other ↦ other
    ]

same-not : (n : ℕ) → nat_lt n n ≡ false
same-not n =
    elim (cases_Bool (nat_lt n n)) [
      | inl less ↦ (let is : n < n = ltb-true _ _ less in absurd (omega (arith, is)))
      | inr other ↦ other
    ]

pub front-above : (n : ℕ) (later front : List Entry) (k : Entry) → is_above_entries n (later ++ k ∷ front) ≡ true → (k.number < n) × (is_above_entries n front ≡ true)
front-above n [] front k above =
    let parts : (nat_lt k.number n ≡ true) × (is_above_entries n front ≡ true) = and_parts _ _ above in
    (ltb-true _ _ parts.0, parts.1)
front-above n (entry ∷ later) front k above =
    let parts : (nat_lt entry.number n ≡ true) × (is_above_entries n (later ++ k ∷ front) ≡ true) = and_parts _ _ above in
    front-above n later front k parts.1

below-all : (n : ℕ) (entries : List Entry) → is_above_entries n entries ≡ true → below n entries ≡ entries
below-all n [] above = refl
below-all n (entry ∷ earlier) above =
    let parts : (nat_lt entry.number n ≡ true) × (is_above_entries n earlier ≡ true) = and_parts _ _ above in
    rw parts.0 (ap (λ xs. entry ∷ xs) (below-all n earlier parts.1))

pub below-front : (k : Entry) (later front : List Entry) → rises_in (later ++ k ∷ front) ≡ true → below k.number (later ++ k ∷ front) ≡ front
below-front k [] front rise =
    let parts : (is_above_entries k.number front ≡ true) × (rises_in front ≡ true) = and_parts _ _ rise in
    let self : nat_lt k.number k.number ≡ false = same-not k.number in
    rw self (below-all k.number front parts.0)
below-front k (entry ∷ later) front rise =
    let parts : (is_above_entries entry.number (later ++ k ∷ front) ≡ true) × (rises_in (later ++ k ∷ front) ≡ true) = and_parts _ _ rise in
    let over : nat_lt entry.number k.number ≡ false = not-above k.number entry.number (front-above entry.number later front k parts.0).0 in
    rw over (below-front k later front parts.1)

pub front-rises : (k : Entry) (later front : List Entry) → rises_in (later ++ k ∷ front) ≡ true → rises_in front ≡ true
front-rises k [] front rise =
    let parts : (is_above_entries k.number front ≡ true) × (rises_in front ≡ true) = and_parts _ _ rise in
    parts.1
front-rises k (entry ∷ later) front rise =
    let parts : (is_above_entries entry.number (later ++ k ∷ front) ≡ true) × (rises_in (later ++ k ∷ front) ≡ true) = and_parts _ _ rise in
    front-rises k later front parts.1

pub front-legal : (k : Entry) (later front : List Entry) → legal_in (later ++ k ∷ front) ≡ true → (refusal_in front k.command ≡ None) × (legal_in front ≡ true)
front-legal k [] front legal =
    let parts : (is_none (refusal_in front k.command) ≡ true) × (legal_in front ≡ true) = and_parts _ _ legal in
    (none_is _ parts.0, parts.1)
front-legal k (entry ∷ later) front legal =
    let parts : (is_none (refusal_in (later ++ k ∷ front) entry.command) ≡ true) × (legal_in (later ++ k ∷ front) ≡ true) = and_parts _ _ legal in
    front-legal k later front parts.1

-- ---- versions by their numbers

pub version-pass : (entry : Entry) (found : Option Version) (versions : List Version) (n : ℕ) → version_of entry ≡ found → (entry.number == n) ≡ false
    → find (λ v. v.number == n) (cons_option found versions) ≡ find (λ v. v.number == n) versions
version-pass entry None versions n is other = refl
version-pass entry (Some v) versions n is other =
    let passed : (v.number == n) ≡ false = ap (λ m. m == n) (version-number entry v is) ∙ other in
    rw passed refl

version-own : (k : Entry) (v : Version) (later front : List Entry) → version_of k ≡ Some v → rises_in (later ++ k ∷ front) ≡ true → version_numbered (later ++ k ∷ front) k.number ≡ Some v
version-own k v [] front is rise =
    let same : (v.number == k.number) ≡ true = eq-eqb _ _ (version-number k v is) in
    ap (λ found. find (λ w. w.number == k.number) (cons_option found (filter_map version_of front))) is ∙ rw same refl
version-own k v (entry ∷ later) front is rise =
    let parts : (is_above_entries entry.number (later ++ k ∷ front) ≡ true) × (rises_in (later ++ k ∷ front) ≡ true) = and_parts _ _ rise in
    let less = (front-above entry.number later front k parts.0).0 in
    version-pass entry (version_of entry) (filter_map version_of (later ++ k ∷ front)) k.number refl (ne_eqb _ _ (λ same. absurd (omega (arith, same, less)))) ∙ version-own k v later front is parts.1

-- the last version of a chain of the entries before k is found there
version-front : (k : Entry) (later front : List Entry) (r : ExecKey) (n : ℕ) → rises_in (later ++ k ∷ front) ≡ true → current_in (links_in front) r ≡ Some n → version_numbered (later ++ front) n ≡ version_numbered front n
version-front k [] front r n rise is = refl
version-front k (entry ∷ later) front r n rise is =
    let parts : (is_above_entries entry.number (later ++ k ∷ front) ≡ true) × (rises_in (later ++ k ∷ front) ≡ true) = and_parts _ _ rise in
    let above = (front-above entry.number later front k parts.0).1 in
    let other : (n == entry.number) ≡ false = ap (is_number entry.number) (sym is) ∙ current-below (links_in front) entry.number r (is_above_links-links entry.number front above) in
    version-pass entry (version_of entry) (filter_map version_of (later ++ front)) n refl
    (ne_eqb _ _ (λ same. absurd (differing (eq-eqb n entry.number (sym same)) other))) ∙ version-front k later front r n parts.1 is

-- ---- a chain that has a root has a last version

rooted-current : (links : List Link) (key r : ExecKey) → root_in links key ≡ Some r → current_in links r ≡ None → ⊥
rooted-current [] key r is none = absurd (clash (sym is))
rooted-current (link ∷ earlier) key r is none =
    elim (cases_Bool (is_root r (own_root (root_in earlier) link.key link.role))) [
      | inl own ↦ clash (rw own at none)
      | inr passed ↦
          elim (cases_Bool (takes_up key link)) [
            | inl here ↦
                let rooted : own_root (root_in earlier) link.key link.role ≡ Some r = rw here at is in
                let mine : is_root r (own_root (root_in earlier) link.key link.role) ≡ true = ap (is_root r) rooted ∙ same_exec-refl r in
                differing mine passed
            | inr other ↦ rooted-current earlier key r (rw other at is) (rw passed at none)
          ]
    ]

-- the fill of the last version of a chain
has-fill : (entries : List Entry) (r : ExecKey) (found : Option ℕ) → legal_in entries ≡ true → rises_in entries ≡ true → current_in (links_in entries) r ≡ found → (current_in (links_in entries) r ≡ None → ⊥)
    → (old : Fill) × (option_map (λ (v : Version). v.fill) (option_and_then (version_numbered entries) found) ≡ Some old)
has-fill entries r None legal rise is some = absurd (some is)
has-fill entries r (Some n) legal rise is some =
    let version = current-found entries r n legal rise is in
    (version.0.fill, ap (option_map (λ (v : Version). v.fill)) (version_numbered-rising entries n rise ∙ version.1.found))

-- ---- the fills of a chain of which k is the last version, with it and without it

number-is : (n : ℕ) (found : Option ℕ) → is_number n found ≡ true → found ≡ Some n
number-is n None is = cc
number-is n (Some m) is = ap Some (eqb-true m n is)

-- the version before k is found as it was
behind : (k : Entry) (later front : List Entry) (r : ExecKey) (found : Option ℕ) → rises_in (later ++ k ∷ front) ≡ true → current_in (links_in front) r ≡ found
    → option_and_then (version_numbered (later ++ front)) found ≡ option_and_then (version_numbered front) found
behind k later front r None rise is = refl
behind k later front r (Some n) rise is = version-front k later front r n rise is

record Fills (later front : List Entry) (number : ℕ) (correct : Correct) (key : ExecKey) : Type 0 where
  with_it : current_fill (later ++ as_entry number correct ∷ front) key ≡ Some correct.fill
  without_it : current_fill (later ++ front) key ≡ current_fill front correct.reference
  chain : root_in (links_in (later ++ as_entry number correct ∷ front)) key ≡ root_in (links_in front) correct.reference

last-fills :
    (later front : List Entry) (number : ℕ) (correct : Correct) (key : ExecKey) (found : Option ExecKey) → GoneLink later front (as_entry number correct) (as_link number correct)
    → rises_in (later ++ as_entry number correct ∷ front) ≡ true → IsOther (as_link number correct) key → root_in (links_in (later ++ as_entry number correct ∷ front)) key ≡ found
    → is_number number (option_and_then (current_in (links_in (later ++ as_entry number correct ∷ front))) found) ≡ true → Fills later front number correct key
last-fills later front number correct key None gone rise other rooted last = cc
last-fills later front number correct key (Some r) gone rise other rooted last =
    let k = as_entry number correct in
    let l = as_link number correct in
    let entries = later ++ k ∷ front in
    let others = later ++ front in
    let is = last-of later front k l r gone rise last in
    let referred : root_in (links_in front) correct.reference ≡ Some r = is_root-some r (root_in (links_in front) correct.reference) is.own in
    let current : current_in (links_in entries) r ≡ Some number = number-is number (current_in (links_in entries) r) last in
    let before : current_in (links_in others) r ≡ current_in (links_in front) r = ap (λ ls. current_in ls r) (links-rest later front) ∙ is.before in
    let there : root_in (links_in others) key ≡ Some r = root-gone later front k l gone key other ∙ rooted in
    record {
      with_it =
          ap (λ found. option_map (λ (v : Version). v.fill) (option_and_then (version_numbered entries) (option_and_then (current_in (links_in entries)) found))) rooted
          ∙ ap (λ n. option_map (λ (v : Version). v.fill) (option_and_then (version_numbered entries) n)) current
          ∙ ap (option_map (λ (v : Version). v.fill)) (version-own k (as_version number correct) later front refl rise);
      without_it =
          ap (λ found. option_map (λ (v : Version). v.fill) (option_and_then (version_numbered others) (option_and_then (current_in (links_in others)) found))) there
          ∙ ap (λ n. option_map (λ (v : Version). v.fill) (option_and_then (version_numbered others) n)) before
          ∙ ap (option_map (λ (v : Version). v.fill)) (behind k later front r (current_in (links_in front) r) rise refl)
          ∙ sym (ap (λ found. option_map (λ (v : Version). v.fill) (option_and_then (version_numbered front) (option_and_then (current_in (links_in front)) found))) referred);
      chain = rooted ∙ sym referred;
    }

-- what a Correct came in the place of
old-fill : (front : List Entry) (number : ℕ) (correct : Correct) → refusal_in front (CorrectCommand correct) ≡ None → legal_in front ≡ true → rises_in front ≡ true → (old : Fill) × (current_fill front correct.reference ≡ Some old)
old-fill front number correct is legal rise =
    let k = as_entry number correct in
    let chain = accepted_root (links_in front) correct.reference (root_in (links_in front) correct.reference)
    (accepted_key (links_in front) correct.key (Corrects correct.reference) (sym (refusal-link front k (as_link number correct) refl) ∙ is)).1 in
    let r = chain.0 in
    let fill = has-fill front r (current_in (links_in front) r) legal rise refl (rooted-current (links_in front) correct.reference r chain.1.root_is) in (
      fill.0,
      ap (λ found. option_map (λ (v : Version). v.fill) (option_and_then (version_numbered front) (option_and_then (current_in (links_in front)) found))) chain.1.root_is ∙ fill.1,
    )

-- ---- fills that are alike

sign-is : (a b : Sign) → same_sign a b ≡ true → a ≡ b
sign-is Buy Buy is = refl
sign-is Buy Sell is = cc
sign-is Sell Buy is = cc
sign-is Sell Sell is = refl

alike-shape : (a b : Fill) → alike a b ≡ true → shape a ≡ shape b
alike-shape a b is =
    let parts : ((same_text a.symbol b.symbol && same_sign a.sign b.sign) ≡ true) × ((a.qty == b.qty) ≡ true) = and_parts _ _ is in
    let both : (same_text a.symbol b.symbol ≡ true) × (same_sign a.sign b.sign ≡ true) = and_parts _ _ parts.0 in
    let symbols : a.symbol ≡ b.symbol = text_told a.symbol b.symbol (sym both.0) in
    let signs : a.sign ≡ b.sign = sign-is a.sign b.sign both.1 in
    let qtys : a.qty ≡ b.qty = eqb-true _ _ parts.1 in
    λ i. record { symbol = symbols i; sign = signs i; qty = qtys i }

-- two fills that fit the same terms, of the same quantity, are alike
fits : (terms : Terms) (fill : Fill) → differs terms fill ≡ false → (fill.symbol ≡ terms.symbol) × (fill.sign ≡ terms.sign)
fits terms fill none =
    let both : (same_text fill.symbol terms.symbol && same_sign fill.sign terms.sign) ≡ true = not-false _ none in
    let parts : (same_text fill.symbol terms.symbol ≡ true) × (same_sign fill.sign terms.sign ≡ true) = and_parts _ _ both in
    (text_told fill.symbol terms.symbol (sym parts.0), sign-is fill.sign terms.sign parts.1)

self-sign : (a : Sign) → same_sign a a ≡ true
self-sign Buy = refl
self-sign Sell = refl

alike-fitting : (terms : Terms) (a b : Fill) → differs terms a ≡ false → differs terms b ≡ false → a.qty ≡ b.qty → alike a b ≡ true
alike-fitting terms a b first second qty =
    let of_a = fits terms a first in
    let of_b = fits terms b second in
    let symbols : a.symbol ≡ b.symbol = of_a.0 ∙ sym of_b.0 in
    let signs : a.sign ≡ b.sign = of_a.1 ∙ sym of_b.1 in
    let one : same_text a.symbol b.symbol ≡ true = ap (same_text a.symbol) (sym symbols) ∙ nat_list_eq_equiv.refl a.symbol in
    let two : same_sign a.sign b.sign ≡ true = ap (same_sign a.sign) (sym signs) ∙ self-sign a.sign in
    and_from _ _ (and_from _ _ one two) (eq-eqb a.qty b.qty qty)

-- ---- sums that differ at one key

record AtKey (p : ExecKey → Bool) (root : ExecKey → Option ExecKey) (f g : ExecKey → Option Fill) (chain : ExecKey) (new old : Fill) (key : ExecKey) : Type 0 where
  beside : p key ≡ false → shaped (g key) ≡ shaped (f key)
  rooted : p key ≡ true → root key ≡ Some chain
  first : p key ≡ true → f key ≡ Some new
  second : p key ≡ true → g key ≡ Some old

-- whose root isn't among those of the others isn't one of them
among-cons : (found : Option ExecKey) (roots : List ExecKey) (chain : ExecKey) → is_among (cons_option found roots) chain ≡ false → is_among roots chain ≡ false
among-cons None roots chain apart = apart
among-cons (Some r) roots chain apart =
    elim (cases_Bool (same_exec r chain)) [
      | inl same ↦ (let clashing : true ≡ false = rw same at apart in cc)
      | inr other ↦ rw other at apart
    ]

none-rooted : (p : ExecKey → Bool) (root : ExecKey → Option ExecKey) (f g : ExecKey → Option Fill) (chain : ExecKey) (new old : Fill) (keys : List ExecKey) → All (AtKey p root f g chain new old) keys
    → is_among (filter_map root keys) chain ≡ false → All (λ key. p key ≡ false) keys
none-rooted p root f g chain new old [] all apart = All-nil (λ key. p key ≡ false)
none-rooted p root f g chain new old (key ∷ keys) all apart =
    let here = All-head (AtKey p root f g chain new old) key keys all in
    let rest = none-rooted p root f g chain new old keys (All-tail (AtKey p root f g chain new old) key keys all) (among-cons (root key) (filter_map root keys) chain apart) in
    elim (cases_Bool (p key)) [
      | inl is ↦
          let rooted : is_among (cons_option (Some chain) (filter_map root keys)) chain ≡ false = ap (λ found. is_among (cons_option found (filter_map root keys)) chain) (sym (here.rooted is)) ∙ apart in
          let clashing : true ≡ false = rw (same_exec-refl chain) at rooted in
          cc
      | inr other ↦ All-cons (λ key. p key ≡ false) key keys other rest
    ]

apart-tail : (found : Option ExecKey) (roots : List ExecKey) → are_apart (cons_option found roots) ≡ true → are_apart roots ≡ true
apart-tail None roots apart = apart
apart-tail (Some r) roots apart =
    let parts : (not (is_among roots r) ≡ true) × (are_apart roots ≡ true) = and_parts _ _ apart in
    parts.1

beside-all : (p : ExecKey → Bool) (root : ExecKey → Option ExecKey) (f g : ExecKey → Option Fill) (chain : ExecKey) (new old : Fill) (keys : List ExecKey) → All (AtKey p root f g chain new old) keys
    → All (λ key. p key ≡ false) keys → All (λ key. shaped (g key) ≡ shaped (f key)) keys
beside-all p root f g chain new old [] all none = All-nil (λ key. shaped (g key) ≡ shaped (f key))
beside-all p root f g chain new old (key ∷ keys) all none =
    All-cons (λ key. shaped (g key) ≡ shaped (f key)) key keys
    ((All-head (AtKey p root f g chain new old) key keys all).beside (All-head (λ key. p key ≡ false) key keys none))
    (beside-all p root f g chain new old keys (All-tail (AtKey p root f g chain new old) key keys all) (All-tail (λ key. p key ≡ false) key keys none))

one-last : (p : ExecKey → Bool) (root : ExecKey → Option ExecKey) (f g : ExecKey → Option Fill) (chain : ExecKey) (new old : Fill) (keys : List ExecKey) → All (AtKey p root f g chain new old) keys
    → are_apart (filter_map root keys) ≡ true → list_any p keys ≡ true → (cum_of (filter_map f keys) +ℤ pos old.qty) ≡ (cum_of (filter_map g keys) +ℤ pos new.qty)
one-last p root f g chain new old [] all apart some = cc
one-last p root f g chain new old (key ∷ keys) all apart some =
    let here = All-head (AtKey p root f g chain new old) key keys all in
    let later = All-tail (AtKey p root f g chain new old) key keys all in
    let sum_f = cum-cons (f key) (filter_map f keys) in
    let sum_g = cum-cons (g key) (filter_map g keys) in
    elim (cases_Bool (p key)) [
      | inl is ↦
          let mine : are_apart (cons_option (Some chain) (filter_map root keys)) ≡ true = ap (λ found. are_apart (cons_option found (filter_map root keys))) (sym (here.rooted is)) ∙ apart in
          let parts : (not (is_among (filter_map root keys) chain) ≡ true) × (are_apart (filter_map root keys) ≡ true) = and_parts _ _ mine in
          let none = none-rooted p root f g chain new old keys later (not-true _ parts.0) in
          let same : cum_of (filter_map g keys) ≡ cum_of (filter_map f keys) =
          cum-shaped g f keys (beside-all p root f g chain new old keys later none) in
          let of_f : amount (f key) ≡ pos new.qty = ap amount (here.first is) in
          let of_g : amount (g key) ≡ pos old.qty = ap amount (here.second is) in
          omega (arith, ints, sum_f, sum_g, of_f, of_g, same)
      | inr other ↦
          let rest = one-last p root f g chain new old keys later (apart-tail (root key) (filter_map root keys) apart) (rw other at some) in
          let same : amount (g key) ≡ amount (f key) = amount-shaped (g key) (f key) (here.beside other) in
          omega (arith, ints, sum_f, sum_g, same, rest)
    ]

pub any-All : {A : Type 0} (p : A → Bool) (q : A → Type 0) (xs : List A) → list_any p xs ≡ true → All q xs → (x : A) × ((p x ≡ true) × q x)
any-All p q [] some all = cc
any-All p q (x ∷ xs) some all =
    elim (cases_Bool (p x)) [
      | inl here ↦ (x, (here, All-head q x xs all))
      | inr passed ↦ any-All p q xs (rw passed at some) (All-tail q x xs all)
    ]

wanted-block : (wanted block lines : ℤ) → mismatch wanted block lines ≡ None → block ≡ wanted
wanted-block wanted block lines none =
    elim (cases_Bool (int_eq block wanted)) [
      | inl first ↦ (Decides-int_eq block wanted).0 first
      | inr other ↦ (let refused : Some (Quantity wanted block) ≡ None = rw other at none in cc)
    ]

one-qty : {m n : ℕ} → pos m ≡ pos n → m ≡ n
one-qty e = cc

pub All-pairs : {A : Type 0} (q r : A → Type 0) (xs : List A) → All q xs → All r xs → All (λ x. q x × r x) xs
All-pairs q r [] first second = All-nil (λ x. q x × r x)
All-pairs q r (x ∷ xs) first second =
    All-cons (λ y. q y × r y) x xs (All-head q x xs first, All-head r x xs second) (All-pairs q r xs (All-tail q x xs first) (All-tail r x xs second))

-- an allocation that is accepted both with the fill and with the one in whose place it came: they are alike
both-accepted :
    (p : ExecKey → Bool) (root : ExecKey → Option ExecKey) (f g : ExecKey → Option Fill) (chain : ExecKey) (new old : Fill) (found : Option Terms) → All (AtKey p root f g chain new old) (option_map_or (λ terms. terms.execs) found [])
    → are_apart (filter_map root (option_map_or (λ terms. terms.execs) found [])) ≡ true → list_any p (option_map_or (λ terms. terms.execs) found []) ≡ true
    → option_and_then (λ terms. option_map Instrument (find (λ key. option_map_or (differs terms) (f key) false) terms.execs)) found ≡ None
    → option_and_then (λ terms. option_map Instrument (find (λ key. option_map_or (differs terms) (g key) false) terms.execs)) found ≡ None
    → option_and_then (λ terms. mismatch (cum_of (filter_map f terms.execs)) (pos terms.block) (booked terms.lines)) found ≡ None
    → option_and_then (λ terms. mismatch (cum_of (filter_map g terms.execs)) (pos terms.block) (booked terms.lines)) found ≡ None → alike new old ≡ true
both-accepted p root f g chain new old None all apart some fit_f fit_g sum_f sum_g = cc
both-accepted p root f g chain new old (Some terms) all apart some fit_f fit_g sum_f sum_g =
    let wanted_f = wanted-block (cum_of (filter_map f terms.execs)) (pos terms.block) (booked terms.lines) sum_f in
    let wanted_g = wanted-block (cum_of (filter_map g terms.execs)) (pos terms.block) (booked terms.lines) sum_g in
    let sums = one-last p root f g chain new old terms.execs all apart some in
    let qtys : pos new.qty ≡ pos old.qty = omega (arith, ints, wanted_f, wanted_g, sums) in
    let qty : new.qty ≡ old.qty = one-qty qtys in
    let fit_new = any-All p (λ key. (option_map_or (differs terms) (f key) false ≡ false) × AtKey p root f g chain new old key) terms.execs some
    (All-pairs (λ key. option_map_or (differs terms) (f key) false ≡ false) (AtKey p root f g chain new old) terms.execs (unfound (λ key. option_map_or (differs terms) (f key) false) terms.execs (unmapped Instrument _ fit_f)) all) in
    let fit_old = any-All p (λ key. (option_map_or (differs terms) (g key) false ≡ false) × AtKey p root f g chain new old key) terms.execs some
    (All-pairs (λ key. option_map_or (differs terms) (g key) false ≡ false) (AtKey p root f g chain new old) terms.execs (unfound (λ key. option_map_or (differs terms) (g key) false) terms.execs (unmapped Instrument _ fit_g)) all) in
    let of_new : differs terms new ≡ false = ap (λ fill. option_map_or (differs terms) fill false) (sym (fit_new.1.1.1.first fit_new.1.0)) ∙ fit_new.1.1.0 in
    let of_old : differs terms old ≡ false = ap (λ fill. option_map_or (differs terms) fill false) (sym (fit_old.1.1.1.second fit_old.1.0)) ∙ fit_old.1.1.0 in
    alike-fitting terms new old of_new of_old qty

-- ---- the step

record Known (later front : List Entry) (number : ℕ) (correct : Correct) : Type 0 where
  gone : GoneLink later front (as_entry number correct) (as_link number correct)
  rise : rises_in (later ++ as_entry number correct ∷ front) ≡ true
  old : Fill
  old_is : current_fill front correct.reference ≡ Some old
  chain : ExecKey
  chain_is : root_in (links_in front) correct.reference ≡ Some chain

abbrev AtListed : (later front : List Entry) (number : ℕ) (correct : Correct) → Known later front number correct → ExecKey → Type 0
AtListed later front number correct known =
    let entries = later ++ as_entry number correct ∷ front in
    AtKey (is_last_of entries number) (root_in (links_in entries)) (current_fill entries) (current_fill (later ++ front)) known.chain correct.fill known.old

changes-is : (later front : List Entry) (number : ℕ) (correct : Correct) (known : Known later front number correct) → changes_fill (later ++ as_entry number correct ∷ front) (as_entry number correct) ≡ not (alike correct.fill known.old)
changes-is later front number correct known =
    ap (λ before. option_map_or (λ old. not (alike correct.fill old)) (current_fill before correct.reference) false) (below-front (as_entry number correct) later front known.rise)
    ∙ ap (λ fill. option_map_or (λ old. not (alike correct.fill old)) fill false) known.old_is

at-listed : (later front : List Entry) (number : ℕ) (correct : Correct) (known : Known later front number correct) (key : ExecKey) → IsOther (as_link number correct) key → AtListed later front number correct known key
at-listed later front number correct known key other =
    let k = as_entry number correct in
    let l = as_link number correct in
    let entries = later ++ k ∷ front in
    let fills : is_last_of entries number key ≡ true → Fills later front number correct key = λ last. last-fills later front number correct key (root_in (links_in entries) key) known.gone known.rise other refl last in
    record {
      beside = λ behind. ap shaped (fill-behind later front k l (as_version number correct) key known.gone refl other behind);
      rooted = λ last. (fills last).chain ∙ known.chain_is;
      first = λ last. (fills last).with_it;
      second = λ last. (fills last).without_it ∙ known.old_is;
    }

-- a listed execution whose chain shows another fill without k refuses
changed-refused : (later front : List Entry) (number : ℕ) (correct : Correct) (known : Known later front number correct) (command : Command) → All (IsOther (as_link number correct)) (exec_references command)
    → alike correct.fill known.old ≡ false → list_any (is_last_of (later ++ as_entry number correct ∷ front) number) (listed_by command) ≡ true
    → refusal_in (later ++ as_entry number correct ∷ front) command ≡ None → refusal_in (later ++ front) command ≡ None → ⊥
changed-refused later front number correct known command refers unlike some is without_it =
    let entries = later ++ as_entry number correct ∷ front in
    let others = later ++ front in
    let whole = accepts entries command is in
    let rest = accepts others command without_it in
    let all = All-weaker (IsOther (as_link number correct)) (AtListed later front number correct known) (at-listed later front number correct known) (listed_by command) (listed (IsOther (as_link number correct)) command refers) in
    let apart = (unrepeated_roots (links_in entries) [] (listed_by command) (unmapped RepeatedExec _ whole.different)).0 in
    differing
    (both-accepted (is_last_of entries number) (root_in (links_in entries)) (current_fill entries) (current_fill others) known.chain correct.fill known.old (terms_of command) all apart some
    whole.fitting rest.fitting whole.adding rest.adding) unlike

shape-kept : (later front : List Entry) (number : ℕ) (correct : Correct) (known : Known later front number correct) (key : ExecKey) → alike correct.fill known.old ≡ true → AtListed later front number correct known key
    → ShapeStays (later ++ as_entry number correct ∷ front) (later ++ front) key
shape-kept later front number correct known key same here =
    elim (cases_Bool (is_last_of (later ++ as_entry number correct ∷ front) number key)) [
      | inl last ↦ ap shaped (here.second last) ∙ ap Some (sym (alike-shape correct.fill known.old same)) ∙ sym (ap shaped (here.first last))
      | inr behind ↦ here.beside behind
    ]

unchanged-accepted : (later front : List Entry) (number : ℕ) (correct : Correct) (known : Known later front number correct) (command : Command) → All (IsOther (as_link number correct)) (exec_references command)
    → (not (alike correct.fill known.old) && list_any (is_last_of (later ++ as_entry number correct ∷ front) number) (listed_by command)) ≡ false
    → refusal_in (later ++ as_entry number correct ∷ front) command ≡ None → refusal_in (later ++ front) command ≡ None
unchanged-accepted later front number correct known command refers none is =
    let k = as_entry number correct in
    let l = as_link number correct in
    let entries = later ++ k ∷ front in
    let others = later ++ front in
    let all = All-weaker (IsOther l) (AtListed later front number correct known) (at-listed later front number correct known) (listed_by command) (listed (IsOther l) command refers) in
    let shapes : All (ShapeStays entries others) (listed_by command) =
    elim (cases_Bool (alike correct.fill known.old)) [
      | inl same ↦ All-weaker (AtListed later front number correct known) (ShapeStays entries others) (λ key here. shape-kept later front number correct known key same here) (listed_by command) all
      | inr unlike ↦
          let passed : list_any (is_last_of entries number) (listed_by command) ≡ false = rw unlike at none in
          beside-all (is_last_of entries number) (root_in (links_in entries)) (current_fill entries) (current_fill others) known.chain correct.fill known.old (listed_by command) all (any-none (is_last_of entries number) (listed_by command) passed)
    ] in
    accepted others command
    (accepts-out (IsOther l) (ShapeStays entries others) AnyKey entries others command (answers-gone later front k l known.gone)
    (uses-gone later front k l known.gone command refers shapes) (accepts entries command is))

known-of : (later front : List Entry) (number : ℕ) (correct : Correct) → legal_in (later ++ as_entry number correct ∷ front) ≡ true → rises_in (later ++ as_entry number correct ∷ front) ≡ true → legal_in (later ++ front) ≡ true → Known later front number correct
known-of later front number correct legal rise out =
    let k = as_entry number correct in
    let before = front-legal k later front legal in
    let old = old-fill front number correct before.0 before.1 (front-rises k later front rise) in
    let chain = accepted_root (links_in front) correct.reference (root_in (links_in front) correct.reference)
    (accepted_key (links_in front) correct.key (Corrects correct.reference) (sym (refusal-link front k (as_link number correct) refl) ∙ before.0)).1 in
    record {
      gone = record { link = refl; legal = legal; out = out };
      rise = rise;
      old = old.0;
      old_is = old.1;
      chain = chain.0;
      chain_is = chain.1.root_is;
    }

-- what can need a Correct: a reference to it, or its fill
correct-needs : (later front : List Entry) (number : ℕ) (correct : Correct) (command : Command) (known : Known later front number correct)
    → needs (later ++ as_entry number correct ∷ front) (as_entry number correct) command
    ≡ (is_among (exec_references command) correct.key || (not (alike correct.fill known.old) && list_any (is_last_of (later ++ as_entry number correct ∷ front) number) (listed_by command)))
correct-needs later front number correct command known =
    let entries = later ++ as_entry number correct ∷ front in
    or-falses (is_among (exec_references command) correct.key || needs_version entries (as_entry number correct) command)
    ∙ ap (λ changes. is_among (exec_references command) correct.key || (changes && list_any (is_last_of entries number) (listed_by command))) (changes-is later front number correct known)

pub correct-step : (number : ℕ) (correct : Correct) → IsStep (as_entry number correct)
correct-step number correct = λ later front command legal rise out is.
    let k = as_entry number correct in
    let l = as_link number correct in
    let entries = later ++ k ∷ front in
    let known = known-of later front number correct legal rise out in
    let told = correct-needs later front number correct command known in
    elim (cases_Bool (is_among (exec_references command) correct.key)) [
      | inl among ↦
          let needed : needs entries k command ≡ true = told ∙ or_left _ _ among in
          unnamed (refusal_in (later ++ front) command) (refused-among later front k l command known.gone among) ∙ ap not (sym needed)
      | inr apart ↦
          let refers : All (IsOther l) (exec_references command) =
          All-weaker (λ key. same_exec key correct.key ≡ false) (IsOther l) (λ key other. same_exec-sym correct.key key ∙ other) (exec_references command) (any-none (λ key. same_exec key correct.key) (exec_references command) apart) in
          elim (cases_Bool (not (alike correct.fill known.old) && list_any (is_last_of entries number) (listed_by command))) [
            | inl changed ↦
                let parts : (not (alike correct.fill known.old) ≡ true) × (list_any (is_last_of entries number) (listed_by command) ≡ true) = and_parts _ _ changed in
                let needed : needs entries k command ≡ true = told ∙ or_right _ _ changed in
                unnamed (refusal_in (later ++ front) command) (changed-refused later front number correct known command refers (not-true _ parts.0) parts.1 is) ∙ ap not (sym needed)
            | inr unchanged ↦
                let unneeded : needs entries k command ≡ false = told ∙ or_from _ _ apart unchanged in
                ap is_none (unchanged-accepted later front number correct known command refers unchanged is) ∙ ap not (sym unneeded)
          ]
    ]
