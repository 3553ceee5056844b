-- Rule by rule: what some entries accept, others accept, where they answer what the rules ask as these do.
use Rattle.std.proofs.Common.{◌≡◌, ℕ, arith, false, List, [], ◌∷◌, ◌++◌, pos, Option, Some, None, refl, sym, ap, ◌∙◌, inl, inr, Bool, ℤ, not, find, is_none, All, if◌then◌else◌, ◌+ℤ◌, ◌&&◌, filter_map, option_map, option_and_then}
use Rattle.std.specs.List.{cons_option, list_any}
use Rattle.std.specs.Option.{option_map_or}
use Rattle.std.proofs.lemmas.Bool.{cases_Bool}
use Rattle.std.proofs.lemmas.Int.{ints}
use Rattle.std.proofs.lemmas.List.Elements.{All-nil, All-cons, All-head, All-tail, All-append, All-weaker}
use Rattle.blot_types.specs.declared.{allocation.Terms.Terms, command.Command.Command, command.Entry.Entry, fill.Fill.Fill, fill.Sign.Sign, keys.AllocKey.AllocKey, keys.ExecKey.ExecKey, link.Link.Link}
use Rattle.blot_types.specs.declared.command.Command.TheVariants.{Trade, Correct, Bust, AllocNew, AllocReplace, AllocCancel, Withdraw}
use Rattle.blot_types.specs.declared.refused.Refused.TheVariants.{DuplicateExec, DuplicateAlloc, UnknownAlloc, DeadAlloc, UnknownExec, BustedExec, RepeatedExec, ExecTaken, Instrument}
use Rattle.blot_types.specs.Allocations.{instructions_in}
use Rattle.blot_types.specs.Chains.{taker_in, root_in, is_root}
use Rattle.blot_types.specs.Instructions.{alloc_taker_in, is_allocation_in, ended_in}
use Rattle.blot_types.specs.Keys.{same_exec, same_text}
use Rattle.blot_types.specs.Legal.{refusal_in}
use Rattle.blot_types.specs.Order.{cum_of}
use Rattle.blot_types.specs.Refusals.{exec_key, alloc_key, alloc_reference, terms_of, listed_by, exec_references, bust_of_key, same_chain, repeated_in, other_holder, current_fill, same_sign, differs, booked, mismatch, never_entry, duplicate_exec, duplicate_alloc, unknown_alloc, dead_alloc, unknown_exec, busted_exec, repeated_exec, exec_taken, instrument, quantity}
use Rattle.blot_types.specs.Survivors.{links_in}
use Rattle.blot_types.proofs.AcceptLemmas.{or_parts, unmapped}
use Rattle.blot_types.proofs.ChainLemmas.{clash, differing, rootless}
use Rattle.blot_types.proofs.KeyLemmas.{same_exec-true}
use Rattle.blot_types.proofs.SumLemmas.{total-cons}
use Rattle.blot_types.proofs.StayLemmas.{mapped-none, or-none, then-none, find-agree, first-none}
use Rattle.blot_types.proofs.GeneralLemmas.{any-agree}

-- ---- acceptance, rule by rule

pub record Accepts (entries : List Entry) (command : Command) : Type 0 where
  pub enters : never_entry command ≡ None
  pub new_exec : duplicate_exec entries command ≡ None
  pub new_alloc : duplicate_alloc entries command ≡ None
  pub known : unknown_alloc entries command ≡ None
  pub live : dead_alloc entries command ≡ None
  pub rooted : unknown_exec entries command ≡ None
  pub unbusted : busted_exec entries command ≡ None
  pub different : repeated_exec entries command ≡ None
  pub untaken : exec_taken entries command ≡ None
  pub fitting : instrument entries command ≡ None
  pub adding : quantity entries command ≡ None

pub accepts : (entries : List Entry) (command : Command) → refusal_in entries command ≡ None → Accepts entries command
accepts entries command accepted =
    let zero = or_parts (never_entry command) _ accepted in
    let one = or_parts (duplicate_exec entries command) _ zero.1 in
    let two = or_parts (duplicate_alloc entries command) _ one.1 in
    let three = or_parts (unknown_alloc entries command) _ two.1 in
    let four = or_parts (dead_alloc entries command) _ three.1 in
    let five = or_parts (unknown_exec entries command) _ four.1 in
    let six = or_parts (busted_exec entries command) _ five.1 in
    let seven = or_parts (repeated_exec entries command) _ six.1 in
    let eight = or_parts (exec_taken entries command) _ seven.1 in
    let nine = or_parts (instrument entries command) _ eight.1 in
    record {
      enters = zero.0;
      new_exec = one.0;
      new_alloc = two.0;
      known = three.0;
      live = four.0;
      rooted = five.0;
      unbusted = six.0;
      different = seven.0;
      untaken = eight.0;
      fitting = nine.0;
      adding = nine.1;
    }

pub accepted : (entries : List Entry) (command : Command) → Accepts entries command → refusal_in entries command ≡ None
accepted entries command all =
    or-none (never_entry command) _ all.enters
    (or-none (duplicate_exec entries command) _ all.new_exec
    (or-none (duplicate_alloc entries command) _ all.new_alloc
    (or-none (unknown_alloc entries command) _ all.known
    (or-none (dead_alloc entries command) _ all.live
    (or-none (unknown_exec entries command) _ all.rooted
    (or-none (busted_exec entries command) _ all.unbusted
    (or-none (repeated_exec entries command) _ all.different
    (or-none (exec_taken entries command) _ all.untaken
    (or-none (instrument entries command) _ all.fitting all.adding)))))))))

-- ---- what the rules ask of a fill

pub record Shape : Type 0 where
  pub symbol : List ℕ
  pub sign : Sign
  pub qty : ℕ

abbrev pub shape : Fill → Shape
shape fill = record { symbol = fill.symbol; sign = fill.sign; qty = fill.qty }

abbrev pub shaped : Option Fill → Option Shape
shaped fill = option_map shape fill

abbrev differing_shape : Terms → Shape → Bool
differing_shape terms s = not (same_text s.symbol terms.symbol && same_sign s.sign terms.sign)

by_shape : (terms : Terms) (fill : Option Fill) → option_map_or (differs terms) fill false ≡ option_map_or (differing_shape terms) (shaped fill) false
by_shape terms None = refl
by_shape terms (Some fill) = refl

pub differs-shaped : (terms : Terms) (a b : Option Fill) → shaped a ≡ shaped b → option_map_or (differs terms) a false ≡ option_map_or (differs terms) b false
differs-shaped terms a b same = by_shape terms a ∙ ap (λ s. option_map_or (differing_shape terms) s false) same ∙ sym (by_shape terms b)

abbrev pub amount : Option Fill → ℤ
amount fill = option_map_or (λ f. pos f.qty) fill (pos 0)

amount_shape : (fill : Option Fill) → amount fill ≡ option_map_or (λ s. pos s.qty) (shaped fill) (pos 0)
amount_shape None = refl
amount_shape (Some fill) = refl

pub amount-shaped : (a b : Option Fill) → shaped a ≡ shaped b → amount a ≡ amount b
amount-shaped a b same = amount_shape a ∙ ap (λ s. option_map_or (λ t. pos t.qty) s (pos 0)) same ∙ sym (amount_shape b)

pub cum-cons : (fill : Option Fill) (fills : List Fill) → cum_of (cons_option fill fills) ≡ (amount fill +ℤ cum_of fills)
cum-cons None fills = omega (arith, ints)
cum-cons (Some fill) fills = total-cons (λ f. pos f.qty) fill fills

pub cum-shaped : (f g : ExecKey → Option Fill) (keys : List ExecKey) → All (λ key. shaped (f key) ≡ shaped (g key)) keys → cum_of (filter_map f keys) ≡ cum_of (filter_map g keys)
cum-shaped f g [] same = refl
cum-shaped f g (key ∷ keys) same =
    let here = amount-shaped (f key) (g key) (All-head (λ k. shaped (f k) ≡ shaped (g k)) key keys same) in
    let rest = cum-shaped f g keys (All-tail (λ k. shaped (f k) ≡ shaped (g k)) key keys same) in
    cum-cons (f key) (filter_map f keys) ∙ ap (λ a. a +ℤ cum_of (filter_map f keys)) here ∙ ap (λ c. amount (g key) +ℤ c) rest ∙ sym (cum-cons (g key) (filter_map g keys))

-- ---- what is asked of others

pub record Answers (kept listable : ExecKey → Type 0) (there : AllocKey → Type 0) (entries others : List Entry) : Type 0 where
  pub taker : (key : ExecKey) → taker_in (links_in entries) key ≡ None → taker_in (links_in others) key ≡ None
  pub root : (key : ExecKey) → kept key → root_in (links_in others) key ≡ root_in (links_in entries) key
  pub bust : (key : ExecKey) → kept key → bust_of_key (links_in entries) key ≡ None → bust_of_key (links_in others) key ≡ None
  pub fill : (key : ExecKey) → listable key → shaped (current_fill others key) ≡ shaped (current_fill entries key)
  pub alloc_taker : (key : AllocKey) → alloc_taker_in (instructions_in entries) key ≡ None → alloc_taker_in (instructions_in others) key ≡ None
  pub allocation : (key : AllocKey) → there key → is_allocation_in (instructions_in others) key ≡ is_allocation_in (instructions_in entries) key
  pub ended : (key : AllocKey) → ended_in (instructions_in entries) key ≡ None → ended_in (instructions_in others) key ≡ None

pub record Uses (kept listable : ExecKey → Type 0) (there : AllocKey → Type 0) (entries others : List Entry) (command : Command) : Type 0 where
  pub refers : All kept (exec_references command)
  pub lists : All kept (listed_by command)
  pub shows : All listable (listed_by command)
  pub allocation : (reference : AllocKey) → alloc_reference command ≡ Some reference → there reference
  pub holder : All (λ key. other_holder (links_in entries) (instructions_in entries) (alloc_reference command) key ≡ None → other_holder (links_in others) (instructions_in others) (alloc_reference command) key ≡ None) (listed_by command)

known_there :
    (entries others : List Entry) (there : AllocKey → Type 0) (reference : Option AllocKey)
    → ((key : AllocKey) → there key → is_allocation_in (instructions_in others) key ≡ is_allocation_in (instructions_in entries) key) → ((key : AllocKey) → reference ≡ Some key → there key)
    → option_and_then (λ key. if is_allocation_in (instructions_in others) key then None else Some UnknownAlloc) reference
    ≡ option_and_then (λ key. if is_allocation_in (instructions_in entries) key then None else Some UnknownAlloc) reference
known_there entries others there None same stays = refl
known_there entries others there (Some key) same stays = ap (λ b. if b then None else Some UnknownAlloc) (same key (stays key refl))

same-chain :
    (links others : List Link) (key other : ExecKey) → root_in others key ≡ root_in links key → root_in others other ≡ root_in links other
    → same_chain others key other ≡ same_chain links key other
same-chain links others key other here there =
    ap (λ found. option_map_or (λ root. is_root root (root_in others other)) found false) here
    ∙ ap (λ found. option_map_or (λ root. is_root root found) (root_in links key) false) there

repeated-same :
    (links others : List Link) (before keys : List ExecKey) → All (λ key. root_in others key ≡ root_in links key) before → All (λ key. root_in others key ≡ root_in links key) keys
    → repeated_in others before keys ≡ repeated_in links before keys
repeated-same links others before [] earlier later = refl
repeated-same links others before (key ∷ keys) earlier later =
    let here : root_in others key ≡ root_in links key = All-head (λ k. root_in others k ≡ root_in links k) key keys later in
    let test : list_any (same_chain others key) before ≡ list_any (same_chain links key) before =
    any-agree (same_chain others key) (same_chain links key) before
    (All-weaker (λ k. root_in others k ≡ root_in links k) (λ k. same_chain others key k ≡ same_chain links key k) (λ k there. same-chain links others key k here there) before earlier) in
    let rest : repeated_in others (before ++ key ∷ []) keys ≡ repeated_in links (before ++ key ∷ []) keys =
    repeated-same links others (before ++ key ∷ []) keys
    (All-append (λ k. root_in others k ≡ root_in links k) before (key ∷ []) earlier (All-cons (λ k. root_in others k ≡ root_in links k) key [] here (All-nil (λ k. root_in others k ≡ root_in links k))))
    (All-tail (λ k. root_in others k ≡ root_in links k) key keys later) in
    ap (λ b. if b then Some key else repeated_in others (before ++ key ∷ []) keys) test
    ∙ ap (λ o. if list_any (same_chain links key) before then Some key else o) rest

of-terms :
    (entries others : List Entry) (found : Option Terms) → All (λ key. shaped (current_fill others key) ≡ shaped (current_fill entries key)) (option_map_or (λ terms. terms.execs) found [])
    → (option_and_then (λ terms. option_map Instrument (find (λ key. option_map_or (differs terms) (current_fill others key) false) terms.execs)) found
    ≡ option_and_then (λ terms. option_map Instrument (find (λ key. option_map_or (differs terms) (current_fill entries key) false) terms.execs)) found)
    × (option_and_then (λ terms. mismatch (cum_of (filter_map (current_fill others) terms.execs)) (pos terms.block) (booked terms.lines)) found
    ≡ option_and_then (λ terms. mismatch (cum_of (filter_map (current_fill entries) terms.execs)) (pos terms.block) (booked terms.lines)) found)
of-terms entries others None fills = (refl, refl)
of-terms entries others (Some terms) fills = (
  ap (option_map Instrument)
      (find-agree (λ key. option_map_or (differs terms) (current_fill others key) false) (λ key. option_map_or (differs terms) (current_fill entries key) false) terms.execs
      (All-weaker (λ key. shaped (current_fill others key) ≡ shaped (current_fill entries key))
      (λ key. option_map_or (differs terms) (current_fill others key) false ≡ option_map_or (differs terms) (current_fill entries key) false)
      (λ key is. differs-shaped terms (current_fill others key) (current_fill entries key) is) terms.execs fills)),
  ap (λ cum. mismatch cum (pos terms.block) (booked terms.lines)) (cum-shaped (current_fill others) (current_fill entries) terms.execs fills),
)

-- a command that some entries accept is accepted by others, where they answer the same on all that it uses
pub accepts-out :
    (kept listable : ExecKey → Type 0) (there : AllocKey → Type 0) (entries others : List Entry) (command : Command) → Answers kept listable there entries others
    → Uses kept listable there entries others command → Accepts entries command → Accepts others command
accepts-out kept listable there entries others command same uses is =
    let refers = exec_references command in
    let fills = All-weaker listable (λ key. shaped (current_fill others key) ≡ shaped (current_fill entries key)) same.fill (listed_by command) uses.shows in
    let terms = of-terms entries others (terms_of command) fills in
    let roots : All (λ key. root_in (links_in others) key ≡ root_in (links_in entries) key) refers =
    All-weaker kept (λ key. root_in (links_in others) key ≡ root_in (links_in entries) key) same.root refers uses.refers in
    record {
      enters = is.enters;
      new_exec = mapped-none DuplicateExec _ (then-none (taker_in (links_in entries)) (taker_in (links_in others)) (exec_key command) same.taker (unmapped DuplicateExec _ is.new_exec));
      new_alloc = mapped-none DuplicateAlloc _ (then-none (alloc_taker_in (instructions_in entries)) (alloc_taker_in (instructions_in others)) (alloc_key command) same.alloc_taker (unmapped DuplicateAlloc _ is.new_alloc));
      known = known_there entries others there (alloc_reference command) same.allocation uses.allocation ∙ is.known;
      live = mapped-none DeadAlloc _ (then-none (ended_in (instructions_in entries)) (ended_in (instructions_in others)) (alloc_reference command) same.ended (unmapped DeadAlloc _ is.live));
      rooted =
          ap (option_map UnknownExec)
          (find-agree (λ key. is_none (root_in (links_in others) key)) (λ key. is_none (root_in (links_in entries) key)) refers
          (All-weaker (λ key. root_in (links_in others) key ≡ root_in (links_in entries) key) (λ key. is_none (root_in (links_in others) key) ≡ is_none (root_in (links_in entries) key)) (λ key one. ap is_none one) refers roots))
          ∙ is.rooted;
      unbusted =
          mapped-none BustedExec _
          (first-none (bust_of_key (links_in entries)) (bust_of_key (links_in others)) refers
          (All-weaker kept (λ key. bust_of_key (links_in entries) key ≡ None → bust_of_key (links_in others) key ≡ None) same.bust refers uses.refers)
          (unmapped BustedExec _ is.unbusted));
      different =
          ap (option_map RepeatedExec)
          (repeated-same (links_in entries) (links_in others) [] (listed_by command) (All-nil (λ key. root_in (links_in others) key ≡ root_in (links_in entries) key))
          (All-weaker kept (λ key. root_in (links_in others) key ≡ root_in (links_in entries) key) same.root (listed_by command) uses.lists))
          ∙ is.different;
      untaken =
          mapped-none ExecTaken _
          (first-none (other_holder (links_in entries) (instructions_in entries) (alloc_reference command)) (other_holder (links_in others) (instructions_in others) (alloc_reference command)) (listed_by command)
          uses.holder (unmapped ExecTaken _ is.untaken));
      fitting = terms.0 ∙ is.fitting;
      adding = terms.1 ∙ is.adding;
    }

-- ---- what acceptance says of the executions that a command refers to

-- what is found nowhere
pub unfound : {A : Type 0} (p : A → Bool) (xs : List A) → find p xs ≡ None → All (λ x. p x ≡ false) xs
unfound p [] none = All-nil (λ x. p x ≡ false)
unfound p (x ∷ xs) none =
    elim (cases_Bool (p x)) [
      | inl here ↦ absurd (clash (rw here at none))
      | inr passed ↦ All-cons (λ y. p y ≡ false) x xs passed (unfound p xs (rw passed at none))
    ]

-- each has a root, so none is one that has none
pub rootless-other : (others : List Entry) (gone : ExecKey) (command : Command) → root_in (links_in others) gone ≡ None → unknown_exec others command ≡ None
    → All (λ key. same_exec gone key ≡ false) (exec_references command)
rootless-other others gone command rootless rooted =
    All-weaker (λ key. is_none (root_in (links_in others) key) ≡ false) (λ key. same_exec gone key ≡ false)
    (λ key some.
    elim (cases_Bool (same_exec gone key)) [
      | inl same ↦
          let none : root_in (links_in others) key ≡ None = ap (root_in (links_in others)) (sym (same_exec-true gone key same)) ∙ rootless in
          absurd (differing (ap is_none none) some)
      | inr other ↦ other
    ]) (exec_references command) (unfound (λ key. is_none (root_in (links_in others) key)) (exec_references command) (unmapped UnknownExec _ rooted))

-- so none is one that no entry takes up
pub references-other : (others : List Entry) (gone : ExecKey) (command : Command) → taker_in (links_in others) gone ≡ None → unknown_exec others command ≡ None
    → All (λ key. same_exec gone key ≡ false) (exec_references command)
references-other others gone command fresh rooted = rootless-other others gone command (rootless (links_in others) gone fresh) rooted

-- what is so of all that a command refers to, is so of all that it lists
pub listed : (p : ExecKey → Type 0) (command : Command) → All p (exec_references command) → All p (listed_by command)
listed p (Trade trade) refers = All-nil p
listed p (Correct correct) refers = All-nil p
listed p (Bust bust) refers = All-nil p
listed p (AllocNew new) refers = refers
listed p (AllocReplace replace) refers = refers
listed p (AllocCancel cancel) refers = All-nil p
listed p (Withdraw withdrawn) refers = All-nil p
