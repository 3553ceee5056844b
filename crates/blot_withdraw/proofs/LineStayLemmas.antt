-- Where only whole busted chains go that nobody needs, the lines of orders and positions are as before.
use Rattle.std.proofs.Common.{◌≡◌, ℕ, true, false, ◌&&◌, List, [], ◌∷◌, ◌++◌, map, reverse, Option, Some, None, refl, sym, ap, ◌∙◌, inl, inr, not, filter, is_none, if◌then◌else◌, All, filter_map, flat_map}
use Rattle.std.specs.Option.{option_map_or}
use Rattle.std.proofs.lemmas.Bool.{cases_Bool, and_parts, not-true}
use Rattle.std.proofs.lemmas.List.Elements.{All-head, All-tail, All-weaker, filter_agree, filter_passes}
use Rattle.blot_types.specs.declared.{command.Command.Command, command.Entry.Entry, keys.AllocKey.AllocKey, keys.ExecKey.ExecKey, keys.OrderKey.OrderKey, lines.Version.Version}
use Rattle.blot_types.specs.declared.command.Command.TheVariants.{Trade, Correct, Bust, AllocNew, AllocReplace, AllocCancel, Withdraw}
use Rattle.blot_types.specs.Allocations.{Allocation, allocation_of, instructions_in, instructions_of, live_allocations, named_roots}
use Rattle.blot_types.specs.Chains.{root_in, bust_in, current_in}
use Rattle.blot_types.specs.Instructions.{ended_in, named_in}
use Rattle.blot_types.specs.Keys.{is_among}
use Rattle.blot_types.specs.Order.{order_of, line_of, fills_of}
use Rattle.blot_types.specs.Position.{moves_of, is_at, part_of, part_of_fill, parts_of, position_of, position_by}
use Rattle.blot_types.specs.Refusals.{alloc_key}
use Rattle.blot_types.specs.Survivors.{links_in, links_of, root_of, versions_of, is_number, stands_under, stands_in, survivors}
use Rattle.blot_types.proofs.SurvivorLemmas.{filter-and}
use Rattle.blot_types.proofs.StayLemmas.{filter_map-filter, filter-reverse}
use Rattle.blot_types.proofs.GeneralLemmas.{filter-all}
use Rattle.blot_withdraw.proofs.ChainStayLemmas.{GoWhole}
use Rattle.blot_withdraw.proofs.InstructionStayLemmas.{instruction_stays, instructions-split}
use Rattle.blot_withdraw.proofs.RuleLemmas.{KeyStays, RootStays, root-known}
use Rattle.blot_withdraw.proofs.SpareLemmas.{Spares, roots-spared, bust-spared, current-spared}
use Rattle.blot_withdraw.proofs.Split.{Split, version_stays, versions-split}

-- nobody needs what goes of a list: whole busted chains, and no allocation
pub record SparesLines (split : Split) (list : List Entry) : Type 0 where
  pub spares : Spares split (reverse list)
  pub whole : GoWhole split
  pub busted : (root : ExecKey) → split.goes (Some root) ≡ true → is_none (bust_in (links_of list) root) ≡ false
  pub allocations : (key : AllocKey) → split.drops key ≡ false

-- the list of those that stay, newest first
turned : (split : Split) (list : List Entry) → links_of (filter split.stays list) ≡ links_in (filter split.stays (reverse list))
turned split list = ap links_in (sym (filter-reverse split.stays list))

-- ---- survivors

same-stands :
    (split : Split) (list : List Entry) (number : ℕ) (found : Option ExecKey) → SparesLines split list → RootStays split found
    → stands_under (links_in (filter split.stays (reverse list))) number found ≡ stands_under (links_of list) number found
same-stands split list number None it stays = refl
same-stands split list number (Some root) it stays =
    ap (λ bust. is_number number (if is_none bust then current_in (links_in (filter split.stays (reverse list))) root else None)) (bust-spared split (reverse list) root it.spares it.whole stays)
    ∙ ap (λ current. is_number number (if is_none (bust_in (links_of list) root) then current else None)) (current-spared split (reverse list) root it.spares stays)

-- nothing of a chain that goes stands
gone-fallen :
    (split : Split) (list : List Entry) (key : ExecKey) (number : ℕ) (found : Option ExecKey) → SparesLines split list → root_of list key ≡ found → split.goes (split.roots key) ≡ true
    → stands_under (links_of list) number found ≡ false
gone-fallen split list key number None it is goes = refl
gone-fallen split list key number (Some root) it is goes =
    rw (it.busted root (ap split.goes (sym (it.spares.knows.known key root is)) ∙ goes)) refl

-- what stands of the versions that stay is what stood
stands-spared :
    (split : Split) (list : List Entry) (version : Version) → SparesLines split list
    → (version_stays split version && stands_in (links_in (filter split.stays (reverse list))) version) ≡ stands_in (links_of list) version
stands-spared split list version it =
    let kept = links_in (filter split.stays (reverse list)) in
    elim (cases_Bool (split.goes (split.roots version.key))) [
      | inl goes ↦ rw goes (sym (gone-fallen split list version.key version.number (root_of list version.key) it refl goes))
      | inr stays ↦
          let known = root-known split (reverse list) version.key (root_of list version.key) it.spares refl stays in
          rw stays
          (ap (stands_under kept version.number) (roots-spared split (reverse list) it.spares version.key stays)
          ∙ same-stands split list version.number (root_of list version.key) it known)
    ]

pub survivors-spared : (split : Split) (list : List Entry) → SparesLines split list → survivors (filter split.stays list) ≡ survivors list
survivors-spared split list it =
    let kept = links_in (filter split.stays (reverse list)) in
    ap (λ links. filter (stands_in links) (versions_of (filter split.stays list))) (turned split list)
    ∙ ap (filter (stands_in kept)) (versions-split split list)
    ∙ sym (filter-and (version_stays split) (stands_in kept) (versions_of list))
    ∙ filter_agree (λ version. version_stays split version && stands_in kept version) (stands_in (links_of list)) (λ version. stands-spared split list version it) (versions_of list)

pub order-spared : (split : Split) (list : List Entry) (order : OrderKey) → SparesLines split list → order_of (filter split.stays list) order ≡ order_of list order
order-spared split list order it = ap (λ versions. line_of (fills_of (map (λ (v : Version). v.fill) versions) order)) (survivors-spared split list it)

-- ---- positions

instructions-spared : (split : Split) (list : List Entry) → SparesLines split list → instructions_of (filter split.stays list) ≡ instructions_of list
instructions-spared split list it =
    ap instructions_in (sym (filter-reverse split.stays list)) ∙ instructions-split split (reverse list) it.spares
    ∙ filter-all (instruction_stays split) (instructions_of list) (λ i. ap not (it.allocations i.key))

allocation-key : (command : Command) (allocation : Allocation) → allocation_of command ≡ Some allocation → (key : AllocKey) × (alloc_key command ≡ Some key)
allocation-key (Trade trade) allocation is = cc
allocation-key (Correct correct) allocation is = cc
allocation-key (Bust bust) allocation is = cc
allocation-key (AllocNew new) allocation is = (new.key, refl)
allocation-key (AllocReplace replace) allocation is = (replace.key, refl)
allocation-key (AllocCancel cancel) allocation is = cc
allocation-key (Withdraw withdrawn) allocation is = cc

allocations-spared :
    (split : Split) (list : List Entry) → SparesLines split list
    → filter_map (λ entry. allocation_of entry.command) (filter split.stays list) ≡ filter_map (λ entry. allocation_of entry.command) list
allocations-spared split list it =
    filter_map-filter (λ entry. allocation_of entry.command) split.stays (λ allocation. true) list
    (λ entry allocation is.
    let keyed = allocation-key entry.command allocation is in
    split.allocated entry keyed.0 keyed.1 ∙ ap not (it.allocations keyed.0))
    ∙ filter-all (λ allocation. true) (filter_map (λ entry. allocation_of entry.command) list) (λ allocation. refl)

live-spared : (split : Split) (list : List Entry) → SparesLines split list → live_allocations (filter split.stays list) ≡ live_allocations list
live-spared split list it =
    ap (λ is. filter (λ allocation. is_none (ended_in is allocation.key)) (filter_map (λ entry. allocation_of entry.command) (filter split.stays list))) (instructions-spared split list it)
    ∙ ap (filter (λ allocation. is_none (ended_in (instructions_of list) allocation.key))) (allocations-spared split list it)

part-spared : (split : Split) (list : List Entry) (version : Version) → SparesLines split list → KeyStays split version.key → part_of (filter split.stays list) version ≡ part_of list version
part-spared split list version it stays =
    ap (λ is. part_of_fill (option_map_or (is_among (named_in is)) (root_of (filter split.stays list) version.key) false) version.fill) (instructions-spared split list it)
    ∙ ap (λ root. part_of_fill (option_map_or (is_among (named_roots list)) root false) version.fill)
    (ap (λ links. root_in links version.key) (turned split list) ∙ roots-spared split (reverse list) it.spares version.key stays)

map-agree : {A B : Type 0} (f g : A → B) (xs : List A) → All (λ x. f x ≡ g x) xs → map f xs ≡ map g xs
map-agree f g [] agree = refl
map-agree f g (x ∷ xs) agree =
    let here : f x ≡ g x = All-head (λ y. f y ≡ g y) x xs agree in
    ap (λ y. y ∷ map f xs) here ∙ ap (λ ys. g x ∷ ys) (map-agree f g xs (All-tail (λ y. f y ≡ g y) x xs agree))

-- a survivor is of a chain that stays
survivor-stays : (split : Split) (list : List Entry) (version : Version) → SparesLines split list → stands_in (links_of list) version ≡ true → KeyStays split version.key
survivor-stays split list version it stands =
    let both = stands-spared split list version it ∙ stands in
    let parts : (version_stays split version ≡ true) × (stands_in (links_in (filter split.stays (reverse list))) version ≡ true) = and_parts _ _ both in
    not-true _ parts.0

parts-spared : (split : Split) (list : List Entry) → SparesLines split list → parts_of (filter split.stays list) ≡ parts_of list
parts-spared split list it =
    let kept = filter split.stays list in
    let same : All (λ version. part_of kept version ≡ part_of list version) (survivors list) =
    All-weaker (λ version. stands_in (links_of list) version ≡ true) (λ version. part_of kept version ≡ part_of list version)
    (λ version stands. part-spared split list version it (survivor-stays split list version it stands)) (survivors list)
    (filter_passes (stands_in (links_of list)) (versions_of list)) in
    ap (λ versions. map (part_of kept) versions ++ flat_map (λ allocation. moves_of allocation.terms) (live_allocations kept)) (survivors-spared split list it)
    ∙ ap (λ parts. parts ++ flat_map (λ allocation. moves_of allocation.terms) (live_allocations kept)) (map-agree (part_of kept) (part_of list) (survivors list) same)
    ∙ ap (λ allocations. map (part_of list) (survivors list) ++ flat_map (λ allocation. moves_of allocation.terms) allocations) (live-spared split list it)

pub position-spared :
    (split : Split) (list : List Entry) (account symbol : List ℕ) → SparesLines split list → position_of (filter split.stays list) account symbol ≡ position_of list account symbol
position-spared split list account symbol it = ap (λ parts. position_by (filter (is_at account symbol) parts)) (parts-spared split list it)
