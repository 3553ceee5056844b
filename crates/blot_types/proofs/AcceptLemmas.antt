-- An accepted instruction may follow those before it, so the instructions of a legal list follow one another.
use Rattle.std.proofs.Common.{◌≡◌, ℕ, Bool, true, false, List, [], ◌∷◌, ◌++◌, reverse, Option, Some, None, refl, sym, ap, subst, ◌∙◌, inl, inr, ◌||◌, not, is_none, if◌then◌else◌, filter_map, option_map, option_and_then, append-nil}
use Rattle.std.specs.List.{cons_option, list_any, list_all}
use Rattle.std.specs.Option.{option_map_or, option_or}
use Rattle.std.proofs.lemmas.Bool.{cases_Bool, and_from, and_parts, or_parts as or-false, not-true, not_from_false}
use Rattle.std.proofs.lemmas.List.{reverse-append}
use Rattle.std.proofs.lemmas.List.Elements.{filter_map-append}
use Rattle.blot_types.specs.declared.{allocation.AllocRole.AllocRole, allocation.Instruction.Instruction, command.Command.Command, command.Entry.Entry, keys.AllocKey.AllocKey, keys.ExecKey.ExecKey, link.Link.Link}
use Rattle.blot_types.specs.declared.allocation.AllocRole.TheVariants.{Allocates, Replaces, Cancels}
use Rattle.blot_types.specs.declared.command.Command.TheVariants.{Trade, Correct, Bust, AllocNew, AllocReplace, AllocCancel, Withdraw}
use Rattle.blot_types.specs.declared.refused.Refused.TheVariants.{DuplicateAlloc, UnknownAlloc, DeadAlloc, RepeatedExec, ExecTaken, NotLive}
use Rattle.blot_types.specs.Allocations.{instruction_by, instructions_in, instructions_of}
use Rattle.blot_types.specs.Chains.{root_in, is_root}
use Rattle.blot_types.specs.Instructions.{alloc_taker_in, is_allocation_in, ended_in, other_holder_in, reference_of, is_live_key, are_apart, may_follow, is_instructed}
use Rattle.blot_types.specs.Keys.{is_among, same_exec}
use Rattle.blot_types.specs.Legal.{refusal_in, legal_in, entry_refusal, refusal_of, withdrawal_refusal}
use Rattle.blot_types.specs.Refusals.{first_of, same_chain, repeated_in, other_holder, unknown_alloc, dead_alloc, unknown_exec, busted_exec, repeated_exec, exec_taken, withdrawn_by, never_entry}
use Rattle.blot_types.specs.Survivors.{links_in}
use Rattle.blot_types.proofs.ChainLemmas.{none_is}
use Rattle.blot_types.proofs.KeyLemmas.{same_exec-sym}

-- ---- the rules, one by one

pub or_parts : {A : Type 0} (a b : Option A) → option_or a b ≡ None → (a ≡ None) × (b ≡ None)
or_parts None b none = (refl, none)
or_parts (Some x) b none = cc

pub unmapped : {A B : Type 0} (f : A → B) (o : Option A) → option_map f o ≡ None → o ≡ None
unmapped f None none = refl
unmapped f (Some x) none = cc

-- the chains that are listed are all different
same_root : (found : Option ExecKey) (root : ExecKey) (others : List ExecKey) → is_among (cons_option found others) root ≡ (is_root root found || is_among others root)
same_root None root others = refl
same_root (Some other) root others = refl

abbrev roots_in : List Link → List ExecKey → List ExecKey
roots_in links keys = filter_map (root_in links) keys

-- none of some roots is among these
abbrev are_beside : List ExecKey → List ExecKey → Bool
are_beside others roots = list_all (λ root. not (is_among others root)) roots

unrepeated : (links : List Link) (root : ExecKey) (before : List ExecKey) → list_any (λ other. is_root root (root_in links other)) before ≡ false → is_among (roots_in links before) root ≡ false
unrepeated links root [] none = refl
unrepeated links root (other ∷ before) none =
    let parts = or-false (is_root root (root_in links other)) (list_any (λ o. is_root root (root_in links o)) before) none in
    same_root (root_in links other) root (roots_in links before) ∙ rw parts.0 (unrepeated links root before parts.1)

among-append : (front back : List ExecKey) (root : ExecKey) → is_among (front ++ back) root ≡ (is_among front root || is_among back root)
among-append [] back root = refl
among-append (key ∷ front) back root =
    elim (cases_Bool (same_exec key root)) [
      | inl here ↦ rw here refl
      | inr other ↦ rw other (among-append front back root)
    ]

roots-append : (links : List Link) (front back : List ExecKey) → roots_in links (front ++ back) ≡ roots_in links front ++ roots_in links back
roots-append links front back = filter_map-append (root_in links) front back

-- what is beside a list and one root more, is beside the list, and is apart from the root
beside-more :
    (before : List ExecKey) (root : ExecKey) (roots : List ExecKey) → are_beside (before ++ root ∷ []) roots ≡ true
    → (are_beside before roots ≡ true) × (is_among roots root ≡ false)
beside-more before root [] beside = (refl, refl)
beside-more before root (first ∷ roots) beside =
    let parts : (not (is_among (before ++ root ∷ []) first) ≡ true) × (are_beside (before ++ root ∷ []) roots ≡ true) = and_parts _ _ beside in
    let apart = or-false (is_among before first) (is_among (root ∷ []) first) (sym (among-append before (root ∷ []) first) ∙ not-true _ parts.0) in
    let other = or-false (same_exec root first) false apart.1 in
    let rest = beside-more before root roots parts.1 in
    (and_from _ _ (not_from_false _ apart.0) rest.0, rw (same_exec-sym first root ∙ other.0) rest.1)

unrepeated_key :
    (links : List Link) (key : ExecKey) (found : Option ExecKey) (before later : List ExecKey) → root_in links key ≡ found
    → option_map_or (λ root. list_any (λ other. is_root root (root_in links other)) before) found false ≡ false
    → (are_apart (roots_in links later) ≡ true) × (are_beside (roots_in links (before ++ key ∷ [])) (roots_in links later) ≡ true)
    → (are_apart (cons_option found (roots_in links later)) ≡ true) × (are_beside (roots_in links before) (cons_option found (roots_in links later)) ≡ true)
unrepeated_key links key None before later is none rest =
    let more : roots_in links (before ++ key ∷ []) ≡ roots_in links before ++ [] = roots-append links before (key ∷ []) ∙ ap (λ root. roots_in links before ++ cons_option root []) is in
    (rest.0, ap (λ others. are_beside others (roots_in links later)) (sym (append-nil (roots_in links before)) ∙ sym more) ∙ rest.1)
unrepeated_key links key (Some root) before later is none rest =
    let more : roots_in links (before ++ key ∷ []) ≡ roots_in links before ++ root ∷ [] = roots-append links before (key ∷ []) ∙ ap (λ found. roots_in links before ++ cons_option found []) is in
    let beside = beside-more (roots_in links before) root (roots_in links later) (ap (λ others. are_beside others (roots_in links later)) (sym more) ∙ rest.1) in
    (and_from _ _ (not_from_false _ beside.1) rest.0, and_from _ _ (not_from_false _ (unrepeated links root before none)) beside.0)

apart_by :
    (links : List Link) (before : List ExecKey) (found : Option ExecKey) → list_any (λ other. option_map_or (λ root. is_root root (root_in links other)) found false) before ≡ false
    → option_map_or (λ root. list_any (λ other. is_root root (root_in links other)) before) found false ≡ false
apart_by links before None none = refl
apart_by links before (Some root) none = none

pub unrepeated_roots :
    (links : List Link) (before keys : List ExecKey) → repeated_in links before keys ≡ None
    → (are_apart (roots_in links keys) ≡ true) × (are_beside (roots_in links before) (roots_in links keys) ≡ true)
unrepeated_roots links before [] none = (refl, refl)
unrepeated_roots links before (key ∷ later) none =
    elim (cases_Bool (list_any (same_chain links key) before)) [
      | inl repeated ↦ (let clash : Some key ≡ None = rw repeated at none in cc)
      | inr apart ↦
          unrepeated_key links key (root_in links key) before later refl (apart_by links before (root_in links key) apart)
          (unrepeated_roots links (before ++ key ∷ []) later (rw apart at none))
    ]

-- the chains that are listed are named by no other live allocation
untaken_key :
    (instructions : List Instruction) (reference : Option AllocKey) (found : Option ExecKey) (roots : List ExecKey)
    → option_and_then (other_holder_in instructions reference) found ≡ None → list_all (λ root. is_none (other_holder_in instructions reference root)) roots ≡ true
    → list_all (λ root. is_none (other_holder_in instructions reference root)) (cons_option found roots) ≡ true
untaken_key instructions reference None roots none rest = rest
untaken_key instructions reference (Some root) roots none rest = and_from _ _ (ap is_none none) rest

pub untaken_roots :
    (links : List Link) (instructions : List Instruction) (reference : Option AllocKey) (keys : List ExecKey)
    → first_of (other_holder links instructions reference) keys ≡ None
    → list_all (λ root. is_none (other_holder_in instructions reference root)) (roots_in links keys) ≡ true
untaken_roots links instructions reference [] none = refl
untaken_roots links instructions reference (key ∷ later) none =
    let parts = or_parts (other_holder links instructions reference key) (first_of (other_holder links instructions reference) later) none in
    untaken_key instructions reference (root_in links key) (roots_in links later) parts.0 (untaken_roots links instructions reference later parts.1)

-- ---- an accepted instruction

-- what rules 2 to 8 leave of an allocation
pub record IsAcceptedAlloc (links : List Link) (instructions : List Instruction) (key : AllocKey) (reference : Option AllocKey) (keys : List ExecKey) : Type 0 where
  pub fresh : alloc_taker_in instructions key ≡ None
  pub known : option_and_then (λ k. if is_allocation_in instructions k then None else Some UnknownAlloc) reference ≡ None
  pub live : option_and_then (ended_in instructions) reference ≡ None
  pub different : repeated_in links [] keys ≡ None
  pub untaken : first_of (other_holder links instructions reference) keys ≡ None

live_reference :
    (instructions : List Instruction) (reference : Option AllocKey) → option_and_then (λ k. if is_allocation_in instructions k then None else Some UnknownAlloc) reference ≡ None
    → option_and_then (ended_in instructions) reference ≡ None → option_map_or (is_live_key instructions) reference true ≡ true
live_reference instructions None known live = refl
live_reference instructions (Some key) known live =
    elim (cases_Bool (is_allocation_in instructions key)) [
      | inl here ↦ and_from _ _ here (ap is_none live)
      | inr none ↦ (let clash : Some UnknownAlloc ≡ None = rw none at known in cc)
    ]

follows-accepted :
    (links : List Link) (instructions : List Instruction) (key : AllocKey) (role : AllocRole) (keys : List ExecKey) → IsAcceptedAlloc links instructions key (reference_of role) keys
    → may_follow instructions key role (roots_in links keys) ≡ true
follows-accepted links instructions key role keys accepted =
    and_from _ _
    (and_from _ _ (and_from _ _ (ap is_none accepted.fresh) (live_reference instructions (reference_of role) accepted.known accepted.live))
    (unrepeated_roots links [] keys accepted.different).0)
    (untaken_roots links instructions (reference_of role) keys accepted.untaken)

abbrev FollowsAccepted : List Entry → Option Instruction → Type 0
FollowsAccepted entries None = Unit {0}
FollowsAccepted entries (Some i) = may_follow (instructions_in entries) i.key i.role i.roots ≡ true

accepted_by : (entries : List Entry) (number : ℕ) (command : Command) → refusal_in entries command ≡ None → FollowsAccepted entries (instruction_by (links_in entries) number command)
accepted_by entries number (Trade trade) accepted = tt
accepted_by entries number (Correct correct) accepted = tt
accepted_by entries number (Bust bust) accepted = tt
accepted_by entries number (AllocNew new) accepted =
    let command = AllocNew new in
    let two = or_parts _ _ accepted in
    let five = or_parts (unknown_exec entries command) _ two.1 in
    let six = or_parts (busted_exec entries command) _ five.1 in
    let seven = or_parts (repeated_exec entries command) _ six.1 in
    let eight = or_parts (exec_taken entries command) _ seven.1 in
    follows-accepted (links_in entries) (instructions_in entries) new.key Allocates new.terms.execs (record {
      fresh = unmapped DuplicateAlloc (alloc_taker_in (instructions_in entries) new.key) two.0;
      known = refl;
      live = refl;
      different = unmapped RepeatedExec _ seven.0;
      untaken = unmapped ExecTaken _ eight.0;
    })
accepted_by entries number (AllocReplace replace) accepted =
    let command = AllocReplace replace in
    let two = or_parts _ _ accepted in
    let three = or_parts (unknown_alloc entries command) _ two.1 in
    let four = or_parts (dead_alloc entries command) _ three.1 in
    let five = or_parts (unknown_exec entries command) _ four.1 in
    let six = or_parts (busted_exec entries command) _ five.1 in
    let seven = or_parts (repeated_exec entries command) _ six.1 in
    let eight = or_parts (exec_taken entries command) _ seven.1 in
    follows-accepted (links_in entries) (instructions_in entries) replace.key (Replaces replace.reference) replace.terms.execs (record {
      fresh = unmapped DuplicateAlloc (alloc_taker_in (instructions_in entries) replace.key) two.0;
      known = three.0;
      live = unmapped DeadAlloc _ four.0;
      different = unmapped RepeatedExec _ seven.0;
      untaken = unmapped ExecTaken _ eight.0;
    })
accepted_by entries number (AllocCancel cancel) accepted =
    let command = AllocCancel cancel in
    let two = or_parts _ _ accepted in
    let three = or_parts (unknown_alloc entries command) _ two.1 in
    let four = or_parts (dead_alloc entries command) _ three.1 in
    follows-accepted (links_in entries) (instructions_in entries) cancel.key (Cancels cancel.reference) [] (record {
      fresh = unmapped DuplicateAlloc (alloc_taker_in (instructions_in entries) cancel.key) two.0;
      known = three.0;
      live = unmapped DeadAlloc _ four.0;
      different = refl;
      untaken = refl;
    })
accepted_by entries number (Withdraw withdrawn) accepted = tt

pub accepted-instruction :
    (entries : List Entry) (entry : Entry) (i : Instruction) → refusal_in entries entry.command ≡ None
    → instruction_by (links_in entries) entry.number entry.command ≡ Some i → may_follow (instructions_in entries) i.key i.role i.roots ≡ true
accepted-instruction entries entry i accepted is = subst (FollowsAccepted entries) is (accepted_by entries entry.number entry.command accepted)

-- ---- a legal list

instructed-more :
    (entries : List Entry) (found : Option Instruction) → FollowsAccepted entries found → is_instructed (instructions_in entries) ≡ true
    → is_instructed (cons_option found (instructions_in entries)) ≡ true
instructed-more entries None follows instructed = instructed
instructed-more entries (Some i) follows instructed = and_from _ _ follows instructed

pub instructed : (entries : List Entry) → legal_in entries ≡ true → is_instructed (instructions_in entries) ≡ true
instructed [] legal = refl
instructed (entry ∷ earlier) legal =
    let parts : (is_none (refusal_in earlier entry.command) ≡ true) × (legal_in earlier ≡ true) = and_parts _ _ legal in
    instructed-more earlier (instruction_by (links_in earlier) entry.number entry.command)
    (accepted_by earlier entry.number entry.command (none_is (refusal_in earlier entry.command) parts.0)) (instructed earlier parts.1)

-- one more entry is one more instruction, if it is one
pub instructions_of-push :
    (list : List Entry) (entry : Entry)
    → instructions_of (list ++ entry ∷ []) ≡ cons_option (instruction_by (links_in (reverse list)) entry.number entry.command) (instructions_of list)
instructions_of-push list entry = ap instructions_in (reverse-append list (entry ∷ []))

-- ---- a command that is accepted as an entry takes none out, so it is accepted

pub record Enters (list : List Entry) (command : Command) : Type 0 where
  pub stays : withdrawn_by command ≡ None
  pub accepted : refusal_of list command ≡ None

pub enters : (list : List Entry) (command : Command) → entry_refusal list command ≡ None → Enters list command
enters list command accepted =
    let stays : withdrawn_by command ≡ None = unmapped NotLive (withdrawn_by command) (or_parts (never_entry command) _ accepted).0 in
    record { stays = stays; accepted = ap (λ k. option_map_or (withdrawal_refusal list) k (entry_refusal list command)) stays ∙ accepted }
