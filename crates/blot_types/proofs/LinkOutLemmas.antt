-- Legal entries without one of an execution, where they are still legal.
use Rattle.std.proofs.Common.{◌≡◌, ℕ, true, false, List, [], ◌∷◌, ◌++◌, Some, None, refl, sym, ap, ◌∙◌, is_none, All, option_and_then}
use Rattle.std.specs.List.{cons_option}
use Rattle.std.proofs.lemmas.Bool.{and_parts}
use Rattle.std.proofs.lemmas.List.Elements.{All-weaker, filter_map-append}
use Rattle.blot_types.specs.declared.allocation.AllocRole.TheVariants.{Allocates, Replaces}
use Rattle.blot_types.specs.declared.{command.Command.Command, command.Entry.Entry, keys.AllocKey.AllocKey, keys.ExecKey.ExecKey, link.Link.Link}
use Rattle.blot_types.specs.declared.command.Command.TheVariants.{Trade, Correct, Bust, AllocNew, AllocReplace, AllocCancel, Withdraw}
use Rattle.blot_types.specs.Allocations.{instruction_by, instructions_in}
use Rattle.blot_types.specs.Chains.{taker_in, own_root, root_in, is_root, bust_in, current_in, is_chained}
use Rattle.blot_types.specs.Instructions.{alloc_taker_in, is_allocation_in, ended_in, other_holder_in}
use Rattle.blot_types.specs.Keys.{same_exec}
use Rattle.blot_types.specs.Legal.{refusal_in, legal_in}
use Rattle.blot_types.specs.Refusals.{alloc_reference, listed_by, exec_references, other_holder, current_fill}
use Rattle.blot_types.specs.Survivors.{link_by, link_of, links_in}
use Rattle.blot_types.proofs.ChainLemmas.{none_is}
use Rattle.blot_types.proofs.EntryLemmas.{chained-links}
use Rattle.blot_types.proofs.AcceptOutLemmas.{accepts, Answers, Uses, shaped, references-other, listed}
use Rattle.blot_types.proofs.ChainOutLemmas.{taker-out, key-out, root-out, bust-out, current-beside}
use Rattle.blot_types.proofs.StayLemmas.{filter_map-agree, then-none}

-- an entry of an execution that is taken out
pub record GoneLink (later front : List Entry) (k : Entry) (l : Link) : Type 0 where
  pub link : link_of k ≡ Some l
  pub legal : legal_in (later ++ k ∷ front) ≡ true
  pub out : legal_in (later ++ front) ≡ true

pub gone-older : (entry : Entry) (later front : List Entry) (k : Entry) (l : Link) → GoneLink (entry ∷ later) front k l → GoneLink later front k l
gone-older entry later front k l gone =
    let legals : (is_none (refusal_in (later ++ k ∷ front) entry.command) ≡ true) × (legal_in (later ++ k ∷ front) ≡ true) = and_parts _ _ gone.legal in
    let outs : (is_none (refusal_in (later ++ front) entry.command) ≡ true) × (legal_in (later ++ front) ≡ true) = and_parts _ _ gone.out in
    record { link = gone.link; legal = legals.1; out = outs.1 }

-- ---- links

pub links-whole : (later front : List Entry) (k : Entry) (l : Link) → link_of k ≡ Some l → links_in (later ++ k ∷ front) ≡ links_in later ++ l ∷ links_in front
links-whole later front k l is = filter_map-append link_of later (k ∷ front) ∙ ap (λ found. links_in later ++ cons_option found (links_in front)) is

pub links-rest : (later front : List Entry) → links_in (later ++ front) ≡ links_in later ++ links_in front
links-rest later front = filter_map-append link_of later front

pub chained-whole : (later front : List Entry) (k : Entry) (l : Link) → GoneLink later front k l → is_chained (links_in later ++ l ∷ links_in front) ≡ true
chained-whole later front k l gone = ap is_chained (sym (links-whole later front k l gone.link)) ∙ chained-links (later ++ k ∷ front) gone.legal

pub chained-rest : (later front : List Entry) (k : Entry) (l : Link) → GoneLink later front k l → is_chained (links_in later ++ links_in front) ≡ true
chained-rest later front k l gone = ap is_chained (sym (links-rest later front)) ∙ chained-links (later ++ front) gone.out

pub key-gone : (later front : List Entry) (k : Entry) (l : Link) → GoneLink later front k l → taker_in (links_in (later ++ front)) l.key ≡ None
key-gone later front k l gone = ap (λ ls. taker_in ls l.key) (links-rest later front) ∙ key-out (links_in later) (links_in front) l (chained-whole later front k l gone)

taker-gone : (later front : List Entry) (k : Entry) (l : Link) → GoneLink later front k l → (key : ExecKey) → taker_in (links_in (later ++ k ∷ front)) key ≡ None → taker_in (links_in (later ++ front)) key ≡ None
taker-gone later front k l gone key fresh =
    ap (λ ls. taker_in ls key) (links-rest later front)
    ∙ taker-out (links_in later) (links_in front) l key (ap (λ ls. taker_in ls key) (sym (links-whole later front k l gone.link)) ∙ fresh)

pub root-gone : (later front : List Entry) (k : Entry) (l : Link) → GoneLink later front k l → (key : ExecKey) → same_exec l.key key ≡ false → root_in (links_in (later ++ front)) key ≡ root_in (links_in (later ++ k ∷ front)) key
root-gone later front k l gone key other =
    ap (λ ls. root_in ls key) (links-rest later front)
    ∙ root-out (links_in later) (links_in front) l (chained-whole later front k l gone) (chained-rest later front k l gone) key other
    ∙ ap (λ ls. root_in ls key) (sym (links-whole later front k l gone.link))

unbusted-gone : (later front : List Entry) (k : Entry) (l : Link) → GoneLink later front k l → (root : ExecKey) → bust_in (links_in (later ++ k ∷ front)) root ≡ None → bust_in (links_in (later ++ front)) root ≡ None
unbusted-gone later front k l gone root none =
    ap (λ ls. bust_in ls root) (links-rest later front)
    ∙ bust-out (links_in later) (links_in front) l root (chained-whole later front k l gone) (chained-rest later front k l gone) (ap (λ ls. bust_in ls root) (sym (links-whole later front k l gone.link)) ∙ none)

pub current-gone : (later front : List Entry) (k : Entry) (l : Link) → GoneLink later front k l → (root : ExecKey) → is_root root (own_root (root_in (links_in front)) l.key l.role) ≡ false
    → current_in (links_in (later ++ front)) root ≡ current_in (links_in (later ++ k ∷ front)) root
current-gone later front k l gone root other =
    ap (λ ls. current_in ls root) (links-rest later front)
    ∙ current-beside (links_in later) (links_in front) l root (chained-whole later front k l gone) (chained-rest later front k l gone) other
    ∙ ap (λ ls. current_in ls root) (sym (links-whole later front k l gone.link))

-- ---- instructions

uninstructed : (links : List Link) (number : ℕ) (command : Command) (l : Link) → link_by number command ≡ Some l → instruction_by links number command ≡ None
uninstructed links number (Trade trade) l is = refl
uninstructed links number (Correct correct) l is = refl
uninstructed links number (Bust bust) l is = refl
uninstructed links number (AllocNew new) l is = cc
uninstructed links number (AllocReplace replace) l is = cc
uninstructed links number (AllocCancel cancel) l is = cc
uninstructed links number (Withdraw withdrawn) l is = cc

-- the same instruction, where the executions that it lists have the same roots
pub same-instruction :
    (links others : List Link) (number : ℕ) (command : Command) → All (λ key. root_in others key ≡ root_in links key) (listed_by command)
    → instruction_by others number command ≡ instruction_by links number command
same-instruction links others number (Trade trade) same = refl
same-instruction links others number (Correct correct) same = refl
same-instruction links others number (Bust bust) same = refl
same-instruction links others number (AllocNew new) same =
    ap (λ roots. Some (record { number = number; key = new.key; role = Allocates; roots = roots })) (filter_map-agree (root_in others) (root_in links) new.terms.execs same)
same-instruction links others number (AllocReplace replace) same =
    ap (λ roots. Some (record { number = number; key = replace.key; role = Replaces replace.reference; roots = roots }))
    (filter_map-agree (root_in others) (root_in links) replace.terms.execs same)
same-instruction links others number (AllocCancel cancel) same = refl
same-instruction links others number (Withdraw withdrawn) same = refl

pub instructions-gone : (later front : List Entry) (k : Entry) (l : Link) → GoneLink later front k l → instructions_in (later ++ front) ≡ instructions_in (later ++ k ∷ front)
instructions-gone [] front k l gone = ap (λ found. cons_option found (instructions_in front)) (sym (uninstructed (links_in front) k.number k.command l gone.link))
instructions-gone (entry ∷ later) front k l gone =
    let older = gone-older entry later front k l gone in
    let outs : (is_none (refusal_in (later ++ front) entry.command) ≡ true) × (legal_in (later ++ front) ≡ true) = and_parts _ _ gone.out in
    let is = accepts (later ++ front) entry.command (none_is _ outs.0) in
    let others = references-other (later ++ front) l.key entry.command (key-gone later front k l older) is.rooted in
    let roots = All-weaker (λ key. same_exec l.key key ≡ false) (λ key. root_in (links_in (later ++ front)) key ≡ root_in (links_in (later ++ k ∷ front)) key)
    (root-gone later front k l older) (listed_by entry.command) (listed (λ key. same_exec l.key key ≡ false) entry.command others) in
    ap (λ found. cons_option found (instructions_in (later ++ front))) (same-instruction (links_in (later ++ k ∷ front)) (links_in (later ++ front)) entry.number entry.command roots)
    ∙ ap (λ is. cons_option (instruction_by (links_in (later ++ k ∷ front)) entry.number entry.command) is) (instructions-gone later front k l older)

-- ---- what the others answer

-- the last version of its chain has the shape that it had
abbrev pub ShapeStays : List Entry → List Entry → ExecKey → Type 0
ShapeStays entries others key = shaped (current_fill others key) ≡ shaped (current_fill entries key)

abbrev pub IsOther : Link → ExecKey → Type 0
IsOther l key = same_exec l.key key ≡ false

abbrev pub AnyKey : AllocKey → Type 0
AnyKey key = Unit {0}

pub answers-gone : (later front : List Entry) (k : Entry) (l : Link) → GoneLink later front k l
    → Answers (IsOther l) (ShapeStays (later ++ k ∷ front) (later ++ front)) AnyKey (later ++ k ∷ front) (later ++ front)
answers-gone later front k l gone =
    let entries = later ++ k ∷ front in
    let others = later ++ front in
    let same = instructions-gone later front k l gone in
    record {
      taker = taker-gone later front k l gone;
      root = root-gone later front k l gone;
      bust = λ key other none.
          ap (option_and_then (bust_in (links_in others))) (root-gone later front k l gone key other)
          ∙ then-none (bust_in (links_in entries)) (bust_in (links_in others)) (root_in (links_in entries) key) (unbusted-gone later front k l gone) none;
      fill = λ key shown. shown;
      alloc_taker = λ key fresh. ap (λ is. alloc_taker_in is key) same ∙ fresh;
      allocation = λ key here. ap (λ is. is_allocation_in is key) same;
      ended = λ key none. ap (λ is. ended_in is key) same ∙ none;
    }

-- what doesn't use its key, nor a last version that changes, needs nothing of it
pub uses-gone : (later front : List Entry) (k : Entry) (l : Link) → GoneLink later front k l → (command : Command) → All (IsOther l) (exec_references command)
    → All (ShapeStays (later ++ k ∷ front) (later ++ front)) (listed_by command)
    → Uses (IsOther l) (ShapeStays (later ++ k ∷ front) (later ++ front)) AnyKey (later ++ k ∷ front) (later ++ front) command
uses-gone later front k l gone command others shapes =
    let entries = later ++ k ∷ front in
    let rest = later ++ front in
    let lists = listed (IsOther l) command others in
    record {
      refers = others;
      lists = lists;
      shows = shapes;
      allocation = λ reference is. tt;
      holder =
          All-weaker (IsOther l)
          (λ key. other_holder (links_in entries) (instructions_in entries) (alloc_reference command) key ≡ None → other_holder (links_in rest) (instructions_in rest) (alloc_reference command) key ≡ None)
          (λ key other none.
          ap (option_and_then (other_holder_in (instructions_in rest) (alloc_reference command))) (root-gone later front k l gone key other)
          ∙ ap (λ is. option_and_then (other_holder_in is (alloc_reference command)) (root_in (links_in entries) key)) (instructions-gone later front k l gone) ∙ none) (listed_by command) lists;
    }
