-- Rule by rule: what the entries accepted, those that stay accept.
use Rattle.std.proofs.Common.{◌≡◌, ℕ, ◌==◌, true, false, List, Option, Some, None, refl, sym, ap, ◌∙◌, not, find, filter, All, filter_map, option_map, option_and_then}
use Rattle.std.proofs.lemmas.List.{reverse-reverse}
use Rattle.std.proofs.lemmas.List.Elements.{All-weaker}
use Rattle.blot_types.specs.declared.{command.Command.Command, command.Entry.Entry, keys.AllocKey.AllocKey, keys.ExecKey.ExecKey}
use Rattle.blot_types.specs.Allocations.{instructions_in}
use Rattle.blot_types.specs.Chains.{takes_up, taker_in, root_in, bust_in, current_in}
use Rattle.blot_types.specs.Instructions.{alloc_taker_in, is_allocation_in, ended_in, other_holder_in}
use Rattle.blot_types.specs.Legal.{refusal_in}
use Rattle.blot_types.specs.Refusals.{alloc_reference, listed_by, exec_references, bust_of_key, other_holder, current_fill}
use Rattle.blot_types.specs.Survivors.{links_in, version_of, version_numbered}
use Rattle.blot_types.proofs.AcceptLemmas.{unmapped}
use Rattle.blot_types.proofs.AcceptOutLemmas.{accepts, accepted as accepted_by, accepts-out, listed, shaped}
use Rattle.blot_types.proofs.SurvivorLemmas.{current-found, version_numbered-rising}
use Rattle.blot_types.proofs.StayLemmas.{mapped-none, then-none, unfound-among}
use Rattle.blot_types.proofs.GeneralLemmas.{found-stays}
use Rattle.blot_withdraw.proofs.InstructionStayLemmas.{instruction_stays, instructions-split, tied, taker-stays, allocation-stays, unended-stays, holder-stays}
use Rattle.blot_withdraw.proofs.SpareLemmas.{Spares, roots-spared, unbusted-spared, current-spared}
use Rattle.blot_withdraw.proofs.Split.{Split, links-split, version_stays, versions-split}

-- the chain of a key stays
abbrev pub KeyStays : Split → ExecKey → Type 0
KeyStays split key = split.goes (split.roots key) ≡ false

-- so does that of its root
abbrev pub RootStays : Split → Option ExecKey → Type 0
RootStays split None = Unit {0}
RootStays split (Some root) = split.goes (Some root) ≡ false

pub root-known : (split : Split) (entries : List Entry) (key : ExecKey) (found : Option ExecKey) → Spares split entries → root_in (links_in entries) key ≡ found → KeyStays split key → RootStays split found
root-known split entries key None spares is stays = tt
root-known split entries key (Some root) spares is stays = ap split.goes (sym (spares.knows.known key root is)) ∙ stays

-- ---- the fill of a last version

version-spared :
    (split : Split) (entries : List Entry) (root : ExecKey) (number : ℕ) → Spares split entries → current_in (links_in entries) root ≡ Some number → split.goes (Some root) ≡ false
    → version_numbered (filter split.stays entries) number ≡ version_numbered entries number
version-spared split entries root number spares current stays =
    let last = current-found entries root number spares.legal spares.rises current in
    let rooted : root_in (links_in entries) last.0.key ≡ Some root = ap (λ l. root_in (links_in l) last.0.key) (sym (reverse-reverse entries)) ∙ last.1.root_is in
    let kept : version_stays split last.0 ≡ true = ap (λ found. not (split.goes found)) (spares.knows.known last.0.key root rooted) ∙ ap not stays in
    let found : version_numbered entries number ≡ Some last.0 = version_numbered-rising entries number spares.rises ∙ last.1.found in
    ap (find (λ v. v.number == number)) (versions-split split entries)
    ∙ found-stays (λ v. v.number == number) (version_stays split) (filter_map version_of entries) last.0 found kept ∙ sym found

numbered-spared :
    (split : Split) (entries : List Entry) (root : ExecKey) (found : Option ℕ) → Spares split entries → current_in (links_in entries) root ≡ found → split.goes (Some root) ≡ false
    → option_and_then (version_numbered (filter split.stays entries)) found ≡ option_and_then (version_numbered entries) found
numbered-spared split entries root None spares is stays = refl
numbered-spared split entries root (Some number) spares is stays = version-spared split entries root number spares is stays

rooted-spared :
    (split : Split) (entries : List Entry) (found : Option ExecKey) → Spares split entries → RootStays split found
    → option_and_then (version_numbered (filter split.stays entries)) (option_and_then (current_in (links_in (filter split.stays entries))) found)
    ≡ option_and_then (version_numbered entries) (option_and_then (current_in (links_in entries)) found)
rooted-spared split entries None spares stays = refl
rooted-spared split entries (Some root) spares stays =
    ap (option_and_then (version_numbered (filter split.stays entries))) (current-spared split entries root spares stays)
    ∙ numbered-spared split entries root (current_in (links_in entries) root) spares refl stays

pub fill-spared : (split : Split) (entries : List Entry) (key : ExecKey) → Spares split entries → KeyStays split key → current_fill (filter split.stays entries) key ≡ current_fill entries key
fill-spared split entries key spares stays =
    let others = filter split.stays entries in
    ap (λ found. option_map (λ version. version.fill) (option_and_then (version_numbered others) (option_and_then (current_in (links_in others)) found))) (roots-spared split entries spares key stays)
    ∙ ap (option_map (λ version. version.fill)) (rooted-spared split entries (root_in (links_in entries) key) spares (root-known split entries key (root_in (links_in entries) key) spares refl stays))

-- ---- what the entries that stay answer

-- of these others, what some entries accept of a chain or an allocation that stays, is accepted too
pub record Answers (split : Split) (entries others : List Entry) : Type 0 where
  pub taker : (key : ExecKey) → taker_in (links_in entries) key ≡ None → taker_in (links_in others) key ≡ None
  pub root : (key : ExecKey) → KeyStays split key → root_in (links_in others) key ≡ root_in (links_in entries) key
  pub bust : (key : ExecKey) → KeyStays split key → bust_of_key (links_in entries) key ≡ None → bust_of_key (links_in others) key ≡ None
  pub fill : (key : ExecKey) → KeyStays split key → current_fill others key ≡ current_fill entries key
  pub alloc_taker : (key : AllocKey) → alloc_taker_in (instructions_in entries) key ≡ None → alloc_taker_in (instructions_in others) key ≡ None
  pub allocation : (key : AllocKey) → split.drops key ≡ false → is_allocation_in (instructions_in others) key ≡ is_allocation_in (instructions_in entries) key
  pub ended : (key : AllocKey) → ended_in (instructions_in entries) key ≡ None → ended_in (instructions_in others) key ≡ None
  pub holder :
      (reference : Option AllocKey) (root : ExecKey) → other_holder_in (instructions_in entries) reference root ≡ None
      → other_holder_in (instructions_in others) reference root ≡ None

taker-spared : (split : Split) (entries : List Entry) (key : ExecKey) → taker_in (links_in entries) key ≡ None → taker_in (links_in (filter split.stays entries)) key ≡ None
taker-spared split entries key fresh =
    ap (λ links. taker_in links key) (links-split split entries)
    ∙ mapped-none (λ link. link.number) _ (unfound-among (takes_up key) (takes_up key) split.keeps (links_in entries) (λ link stays is. is) (unmapped (λ link. link.number) _ fresh))

pub answers : (split : Split) (entries : List Entry) → Spares split entries → Answers split entries (filter split.stays entries)
answers split entries spares =
    let others = filter split.stays entries in
    let all = instructions_in entries in
    let same : instructions_in others ≡ filter (instruction_stays split) all = instructions-split split entries spares in
    record {
      taker = taker-spared split entries;
      root = roots-spared split entries spares;
      bust = λ key stays none.
          ap (option_and_then (bust_in (links_in others))) (roots-spared split entries spares key stays)
          ∙ then-none (bust_in (links_in entries)) (bust_in (links_in others)) (root_in (links_in entries) key) (λ root unbusted. unbusted-spared split entries root spares unbusted) none;
      fill = λ key stays. fill-spared split entries key spares stays;
      alloc_taker = λ key fresh. ap (λ is. alloc_taker_in is key) same ∙ taker-stays split all key fresh;
      allocation = λ key stays. ap (λ is. is_allocation_in is key) same ∙ allocation-stays split all key stays;
      ended = λ key none. ap (λ is. ended_in is key) same ∙ unended-stays split all key none;
      holder = λ reference root none. ap (λ is. other_holder_in is reference root) same ∙ holder-stays split all reference root (tied split entries spares.free) none;
    }

-- ---- what a command needs

-- a command needs nothing that goes: the chains to which it refers stay, and so does the allocation
pub record NeedsNone (split : Split) (command : Command) : Type 0 where
  pub chains : All (KeyStays split) (exec_references command)
  pub allocation : (reference : AllocKey) → alloc_reference command ≡ Some reference → split.drops reference ≡ false

-- a chain that no other live allocation names is named by none of those that stay
untaken :
    (split : Split) (entries others : List Entry) (reference : Option AllocKey) (key : ExecKey) → Answers split entries others → KeyStays split key
    → other_holder (links_in entries) (instructions_in entries) reference key ≡ None → other_holder (links_in others) (instructions_in others) reference key ≡ None
untaken split entries others reference key same stays none =
    ap (option_and_then (other_holder_in (instructions_in others) reference)) (same.root key stays)
    ∙ then-none (other_holder_in (instructions_in entries) reference) (other_holder_in (instructions_in others) reference) (root_in (links_in entries) key) (same.holder reference) none

-- a command that some entries accept, and that needs nothing that goes, is accepted by those that stay
pub accepted-spared :
    (split : Split) (entries others : List Entry) (command : Command) → Answers split entries others → NeedsNone split command → refusal_in entries command ≡ None
    → refusal_in others command ≡ None
accepted-spared split entries others command same needs accepted =
    let lists = listed (KeyStays split) command needs.chains in
    accepted_by others command
    (accepts-out (KeyStays split) (KeyStays split) (λ key. split.drops key ≡ false) entries others command
    (record {
      taker = same.taker;
      root = same.root;
      bust = same.bust;
      fill = λ key stays. ap shaped (same.fill key stays);
      alloc_taker = same.alloc_taker;
      allocation = same.allocation;
      ended = same.ended;
    })
    (record {
      refers = needs.chains;
      lists = lists;
      shows = lists;
      allocation = needs.allocation;
      holder = All-weaker (KeyStays split)
          (λ key. other_holder (links_in entries) (instructions_in entries) (alloc_reference command) key ≡ None → other_holder (links_in others) (instructions_in others) (alloc_reference command) key ≡ None)
          (λ key stays none. untaken split entries others (alloc_reference command) key same stays none) (listed_by command) lists;
    })
    (accepts entries command accepted))
