-- The least number at which a list fails without one entry, found along the list.
use Rattle.std.proofs.Common.{◌≡◌, ℕ, ◌<◌, ◌≤◌, ◌==◌, Bool, true, false, ◌&&◌, List, [], ◌∷◌, ◌++◌, reverse, map, Option, Some, None, refl, sym, ap, ◌∙◌, arith, inl, inr, not, find, All, is_none, nat_lt, if◌then◌else◌, ltb-true, lt-ltb, eq-eqb, ne_eqb, append-nil}
use Rattle.std.specs.Option.{option_or}
use Rattle.std.proofs.lemmas.Bool.{cases_Bool, and_from, and_parts}
use Rattle.std.proofs.lemmas.List.{reverse-append, reverse-reverse, map-append}
use Rattle.std.proofs.lemmas.List.Elements.{All-nil, All-cons, All-append, All-weaker, filter-append}
use Rattle.std.proofs.lemmas.List.Folds.{find-append}
use Rattle.blot_types.specs.declared.{command.Command.Command, command.Entry.Entry}
use Rattle.blot_types.specs.Legal.{is_above_entries, rises_in, refusal_in, legal_in, is_legal, without, up_to, fails_at, least_needing}
use Rattle.blot_types.proofs.ChainLemmas.{none_is}
use Rattle.blot_types.specs.Withdrawal.{needs, needed_in}
use Rattle.blot_types.proofs.StayLemmas.{filter-reverse, find-agree}
use Rattle.blot_types.proofs.GeneralLemmas.{not-not, and-true}

-- ---- newest first

abbrev pub blocked_in : ℕ → List Entry → Option ℕ
blocked_in k [] = None
blocked_in k (entry ∷ earlier) =
    option_or (blocked_in k earlier) (if nat_lt k entry.number && not (legal_in (without k (entry ∷ earlier))) then Some entry.number else None)

-- ---- tests

some-none : {m : ℕ} → Some m ≡ None → ⊥
some-none e = cc

none-if : (b : Bool) (m : ℕ) → (if b then Some m else None) ≡ None → b ≡ false
none-if true m none = cc
none-if false m none = refl

-- ---- numbers

pub not-below : (m n : ℕ) → n ≤ m → nat_lt m n ≡ false
not-below m n more =
    elim (cases_Bool (nat_lt m n)) [
      | inl less ↦ (let is : m < n = ltb-true _ _ less in absurd (omega (arith, more, is)))
      | inr other ↦ other
    ]

numbers_below : (n : ℕ) (entries : List Entry) → is_above_entries n entries ≡ true → All (λ m. m < n) (map (λ (e : Entry). e.number) (reverse entries))
numbers_below n [] above = All-nil (λ m. m < n)
numbers_below n (entry ∷ earlier) above =
    let parts : (nat_lt entry.number n ≡ true) × (is_above_entries n earlier ≡ true) = and_parts _ _ above in
    let turned : map (λ (e : Entry). e.number) (reverse (entry ∷ earlier)) ≡ map (λ (e : Entry). e.number) (reverse earlier) ++ entry.number ∷ [] =
    ap (map (λ (e : Entry). e.number)) (reverse-append (entry ∷ []) earlier) ∙ map-append (λ (e : Entry). e.number) (reverse earlier) (entry ∷ []) in
    rw turned (All-append (λ m. m < n) _ (entry.number ∷ []) (numbers_below n earlier parts.1)
    (All-cons (λ m. m < n) entry.number [] (ltb-true _ _ parts.0) (All-nil (λ m. m < n))))

-- all entries below a number are numbered up to it
up_to-all : (n : ℕ) (entries : List Entry) → is_above_entries n entries ≡ true → up_to n entries ≡ entries
up_to-all n [] above = refl
up_to-all n (entry ∷ earlier) above =
    let parts : (nat_lt entry.number n ≡ true) × (is_above_entries n earlier ≡ true) = and_parts _ _ above in
    let less : entry.number < n = ltb-true _ _ parts.0 in
    let passes : nat_lt n entry.number ≡ false = not-below n entry.number (omega (arith, less)) in
    rw passes (ap (λ xs. entry ∷ xs) (up_to-all n earlier parts.1))

up_to-newest : (entry : Entry) (earlier : List Entry) → is_above_entries entry.number earlier ≡ true → up_to entry.number (entry ∷ earlier) ≡ entry ∷ earlier
up_to-newest entry earlier above =
    let passes : nat_lt entry.number entry.number ≡ false = not-below entry.number entry.number (omega arith) in
    rw passes (ap (λ xs. entry ∷ xs) (up_to-all entry.number earlier above))

up_to-older : (m : ℕ) (list : List Entry) (entry : Entry) → m < entry.number → up_to m (list ++ entry ∷ []) ≡ up_to m list
up_to-older m list entry less =
    let above : nat_lt m entry.number ≡ true = lt-ltb _ _ less in
    let last : up_to m (entry ∷ []) ≡ [] = rw above refl in
    filter-append (λ (e : Entry). not (nat_lt m e.number)) list (entry ∷ []) ∙ ap (λ back. up_to m list ++ back) last ∙ append-nil (up_to m list)

-- what is asked at the newest entry
fails-newest : (k : ℕ) (entry : Entry) (earlier : List Entry) → is_above_entries entry.number earlier ≡ true
    → fails_at (reverse (entry ∷ earlier)) k entry.number ≡ (nat_lt k entry.number && not (legal_in (without k (entry ∷ earlier))))
fails-newest k entry earlier above =
    let all : up_to entry.number (reverse (entry ∷ earlier)) ≡ reverse (entry ∷ earlier) =
    filter-reverse (λ (e : Entry). not (nat_lt entry.number e.number)) (entry ∷ earlier) ∙ ap reverse (up_to-newest entry earlier above) in
    let out : reverse (without k (reverse (entry ∷ earlier))) ≡ without k (entry ∷ earlier) =
    sym (filter-reverse (λ (e : Entry). not (e.number == k)) (reverse (entry ∷ earlier))) ∙ ap (without k) (reverse-reverse (entry ∷ earlier)) in
    ap (λ l. nat_lt k entry.number && not (is_legal (without k l))) all ∙ ap (λ l. nat_lt k entry.number && not (legal_in l)) out

pub turned : (k : ℕ) (entries : List Entry) → rises_in entries ≡ true → least_needing (reverse entries) k ≡ blocked_in k entries
turned k [] rise = refl
turned k (entry ∷ earlier) rise =
    let parts : (is_above_entries entry.number earlier ≡ true) × (rises_in earlier ≡ true) = and_parts _ _ rise in
    let list = reverse earlier in
    let all = reverse (entry ∷ earlier) in
    let whole : all ≡ list ++ entry ∷ [] = reverse-append (entry ∷ []) earlier in
    let numbers : map (λ (e : Entry). e.number) all ≡ map (λ (e : Entry). e.number) list ++ entry.number ∷ [] =
    ap (map (λ (e : Entry). e.number)) whole ∙ map-append (λ (e : Entry). e.number) list (entry ∷ []) in
    let before : find (fails_at all k) (map (λ (e : Entry). e.number) list) ≡ find (fails_at list k) (map (λ (e : Entry). e.number) list) =
    find-agree (fails_at all k) (fails_at list k) (map (λ (e : Entry). e.number) list)
    (All-weaker (λ m. m < entry.number) (λ m. fails_at all k m ≡ fails_at list k m)
    (λ m less. ap (λ l. nat_lt k m && not (is_legal (without k l))) (ap (up_to m) whole ∙ up_to-older m list entry less))
    (map (λ (e : Entry). e.number) list) (numbers_below entry.number earlier parts.0)) in
    ap (find (fails_at all k)) numbers ∙ find-append (fails_at all k) (map (λ (e : Entry). e.number) list) (entry.number ∷ [])
    ∙ ap (λ o. option_or o (find (fails_at all k) (entry.number ∷ []))) (before ∙ turned k earlier parts.1)
    ∙ ap (λ b. option_or (blocked_in k earlier) (if b then Some entry.number else None)) (fails-newest k entry earlier parts.0)

-- ---- the list without k

pub member-below : (n : ℕ) (later front : List Entry) (k : Entry) → is_above_entries n (later ++ k ∷ front) ≡ true → k.number < n
member-below n [] front k above =
    let parts : (nat_lt k.number n ≡ true) × (is_above_entries n front ≡ true) = and_parts _ _ above in
    ltb-true _ _ parts.0
member-below n (entry ∷ later) front k above =
    let parts : (nat_lt entry.number n ≡ true) × (is_above_entries n (later ++ k ∷ front) ≡ true) = and_parts _ _ above in
    member-below n later front k parts.1

without-below : (n : ℕ) (entries : List Entry) → is_above_entries n entries ≡ true → without n entries ≡ entries
without-below n [] above = refl
without-below n (entry ∷ earlier) above =
    let parts : (nat_lt entry.number n ≡ true) × (is_above_entries n earlier ≡ true) = and_parts _ _ above in
    let less : entry.number < n = ltb-true _ _ parts.0 in
    let other : (entry.number == n) ≡ false = ne_eqb _ _ (λ same. absurd (omega (arith, same, less))) in
    rw other (ap (λ xs. entry ∷ xs) (without-below n earlier parts.1))

pub without-out : (k : Entry) (later front : List Entry) → rises_in (later ++ k ∷ front) ≡ true → without k.number (later ++ k ∷ front) ≡ later ++ front
without-out k [] front rise =
    let parts : (is_above_entries k.number front ≡ true) × (rises_in front ≡ true) = and_parts _ _ rise in
    let self : (k.number == k.number) ≡ true = eq-eqb k.number k.number refl in
    rw self (without-below k.number front parts.0)
without-out k (entry ∷ later) front rise =
    let parts : (is_above_entries entry.number (later ++ k ∷ front) ≡ true) × (rises_in (later ++ k ∷ front) ≡ true) = and_parts _ _ rise in
    let less : k.number < entry.number = member-below entry.number later front k parts.0 in
    let other : (entry.number == k.number) ≡ false = ne_eqb _ _ (λ same. absurd (omega (arith, same, less))) in
    rw other (ap (λ xs. entry ∷ xs) (without-out k later front parts.1))

-- ---- the frame of the theorem

-- where the entries after k, without k, are legal, a command that they and k accept is accepted without k exactly where it doesn't need k
abbrev pub IsStep : Entry → Type 0
IsStep k =
    (later front : List Entry) (command : Command) → legal_in (later ++ k ∷ front) ≡ true → rises_in (later ++ k ∷ front) ≡ true → legal_in (later ++ front) ≡ true
    → refusal_in (later ++ k ∷ front) command ≡ None → is_none (refusal_in (later ++ front) command) ≡ not (needs (later ++ k ∷ front) k command)

none-below : (k : ℕ) (entries : List Entry) → is_above_entries k entries ≡ true → blocked_in k entries ≡ None
none-below k [] above = refl
none-below k (entry ∷ earlier) above =
    let parts : (nat_lt entry.number k ≡ true) × (is_above_entries k earlier ≡ true) = and_parts _ _ above in
    let less : entry.number < k = ltb-true _ _ parts.0 in
    let under : nat_lt k entry.number ≡ false = not-below k entry.number (omega (arith, less)) in
    rw (none-below k earlier parts.1, under) refl

unneeded-below : (k : Entry) (entries : List Entry) → is_above_entries k.number entries ≡ true → needed_in k entries ≡ None
unneeded-below k [] above = refl
unneeded-below k (entry ∷ earlier) above =
    let parts : (nat_lt entry.number k.number ≡ true) × (is_above_entries k.number earlier ≡ true) = and_parts _ _ above in
    let less : entry.number < k.number = ltb-true _ _ parts.0 in
    let under : nat_lt k.number entry.number ≡ false = not-below k.number entry.number (omega (arith, less)) in
    rw (unneeded-below k earlier parts.1, under) refl

record Found (k : Entry) (later front : List Entry) : Type 0 where
  same : blocked_in k.number (later ++ k ∷ front) ≡ needed_in k (later ++ k ∷ front)
  legal : blocked_in k.number (later ++ k ∷ front) ≡ None → legal_in (later ++ front) ≡ true

-- one more entry
more : (k entry : Entry) (later front : List Entry) (found : Option ℕ) → IsStep k → legal_in (entry ∷ later ++ k ∷ front) ≡ true → rises_in (entry ∷ later ++ k ∷ front) ≡ true
    → blocked_in k.number (later ++ k ∷ front) ≡ found → Found k later front → Found k (entry ∷ later) front
more k entry later front (Some m) step legal rise is found =
    let also : needed_in k (later ++ k ∷ front) ≡ Some m = sym found.same ∙ is in
    record { same = rw (is, also) refl; legal = λ none. absurd (some-none (rw is at none)) }
more k entry later front None step legal rise is found =
    let all = later ++ k ∷ front in
    let legals : (is_none (refusal_in all entry.command) ≡ true) × (legal_in all ≡ true) = and_parts _ _ legal in
    let rises : (is_above_entries entry.number all ≡ true) × (rises_in all ≡ true) = and_parts _ _ rise in
    let also : needed_in k all ≡ None = sym found.same ∙ is in
    let out : legal_in (later ++ front) ≡ true = found.legal is in
    let above : nat_lt k.number entry.number ≡ true = lt-ltb _ _ (member-below entry.number later front k rises.0) in
    let stepped = step later front entry.command legals.1 rises.1 out (none_is _ legals.0) in
    let whole : legal_in (without k.number (entry ∷ all)) ≡ not (needs all k entry.command) =
    ap legal_in (without-out k (entry ∷ later) front rise) ∙ ap (λ b. b && legal_in (later ++ front)) stepped ∙ ap (λ b. not (needs all k entry.command) && b) out ∙ and-true (not (needs all k entry.command)) in
    let here : blocked_in k.number (entry ∷ all) ≡ (if needs all k entry.command then Some entry.number else None) =
    rw (is, above, whole) (ap (λ b. if b then Some entry.number else None) (not-not (needs all k entry.command))) in
    let there : needed_in k (entry ∷ all) ≡ (if needs all k entry.command then Some entry.number else None) = rw (also, above) refl in
    record {
      same = here ∙ sym there;
      legal = λ none.
          let unneeded : needs all k entry.command ≡ false = none-if (needs all k entry.command) entry.number (sym here ∙ none) in
          and_from _ _ (stepped ∙ ap not unneeded) out;
    }

found-all : (k : Entry) (later front : List Entry) → IsStep k → legal_in (later ++ k ∷ front) ≡ true → rises_in (later ++ k ∷ front) ≡ true → Found k later front
found-all k [] front step legal rise =
    let legals : (is_none (refusal_in front k.command) ≡ true) × (legal_in front ≡ true) = and_parts _ _ legal in
    let rises : (is_above_entries k.number front ≡ true) × (rises_in front ≡ true) = and_parts _ _ rise in
    let own : nat_lt k.number k.number ≡ false = not-below k.number k.number (omega arith) in
    let none : blocked_in k.number (k ∷ front) ≡ None = rw (none-below k.number front rises.0, own) refl in
    let unneeded : needed_in k (k ∷ front) ≡ None = rw (unneeded-below k front rises.0, own) refl in
    record { same = none ∙ sym unneeded; legal = λ is. legals.1 }
found-all k (entry ∷ later) front step legal rise =
    let legals : (is_none (refusal_in (later ++ k ∷ front) entry.command) ≡ true) × (legal_in (later ++ k ∷ front) ≡ true) = and_parts _ _ legal in
    let rises : (is_above_entries entry.number (later ++ k ∷ front) ≡ true) × (rises_in (later ++ k ∷ front) ≡ true) = and_parts _ _ rise in
    more k entry later front (blocked_in k.number (later ++ k ∷ front)) step legal rise refl (found-all k later front step legals.1 rises.1)

-- in entries newest first, the least number at which they fail without k is that of the first that needs k
pub found-first : (k : Entry) (later front : List Entry) → IsStep k → legal_in (later ++ k ∷ front) ≡ true → rises_in (later ++ k ∷ front) ≡ true
    → blocked_in k.number (later ++ k ∷ front) ≡ needed_in k (later ++ k ∷ front)
found-first k later front step legal rise = (found-all k later front step legal rise).same

pub found-legal : (k : Entry) (later front : List Entry) → IsStep k → legal_in (later ++ k ∷ front) ≡ true → rises_in (later ++ k ∷ front) ≡ true
    → blocked_in k.number (later ++ k ∷ front) ≡ None → legal_in (later ++ front) ≡ true
found-legal k later front step legal rise = (found-all k later front step legal rise).legal

pub unblocked-base : (k : Entry) (front : List Entry) → rises_in (k ∷ front) ≡ true → blocked_in k.number (k ∷ front) ≡ None
unblocked-base k front rise =
    let rises : (is_above_entries k.number front ≡ true) × (rises_in front ≡ true) = and_parts _ _ rise in
    let own : nat_lt k.number k.number ≡ false = not-below k.number k.number (omega arith) in
    rw (none-below k.number front rises.0, own) refl
