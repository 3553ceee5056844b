-- A book with and without an entry: what of it the accounts and the orders ask.
use Rattle.std.proofs.Common.{◌≡◌, true, List, ◌∷◌, ◌++◌, Some, None, ◌==◌, find, All, IfSome, option_map}
use Rattle.blot_types.specs.declared.{command.Entry.Entry, link.Link.Link}
use Rattle.blot_types.specs.Allocations.{allocation_of, live_allocations}
use Rattle.blot_types.specs.Legal.{is_book}
use Rattle.blot_types.specs.Position.{is_named}
use Rattle.blot_types.specs.Refusals.{alloc_reference, withdrawn_by}
use Rattle.blot_types.specs.StandingVersion.{chain_of, stood}
use Rattle.blot_types.specs.Survivors.{link_of, links_of, survivors}
use Rattle.blot_types.proofs.ApartLemmas.{link-apart as whole-link, number_of}
use Rattle.blot_types.proofs.BetweenLemmas.{instruction-apart as whole-instruction}
use Rattle.blot_types.proofs.BringLemmas.{BringsIf, named_beside, live_beside}
use Rattle.blot_types.proofs.ChangeLemmas.{is_named_root}
use Rattle.blot_types.proofs.SurvivorLemmas.{without}

pub record LinkApart (list rest : List Entry) (entry : Entry) : Type 0 where
  pub chain : chain_of list entry ≡ chain_of rest entry
  pub survivors_are : without (number_of (stood list entry)) (survivors list) ≡ without (number_of (stood rest entry)) (survivors rest)
  pub gone : IfSome (stood list entry) (λ v. find (λ w. w.number == v.number) (survivors list) ≡ Some v)
  pub come : IfSome (stood rest entry) (λ v. find (λ w. w.number == v.number) (survivors rest) ≡ Some v)
  pub named : All (λ v. is_named list v.key ≡ is_named rest v.key) (without (number_of (stood list entry)) (survivors list))
  pub live : live_allocations list ≡ live_allocations rest

pub link-apart :
    (front back : List Entry) (entry : Entry) (link : Link) → link_of entry ≡ Some link → is_book (front ++ entry ∷ back) ≡ true → is_book (front ++ back) ≡ true
    → LinkApart (front ++ entry ∷ back) (front ++ back) entry
link-apart front back entry link linked book rest_book =
    let apart = whole-link front back entry link linked book rest_book in
    record {
      chain = apart.chain;
      survivors_are = apart.survivors_are;
      gone = apart.gone;
      come = apart.come;
      named = apart.named;
      live = apart.live;
    }

pub record InstructionApart (list rest : List Entry) (entry : Entry) : Type 0 where
  pub ended :
      BringsIf list (alloc_reference entry.command) (named_beside rest (alloc_reference entry.command)) (is_named_root rest)
      (live_beside rest (alloc_reference entry.command)) (live_allocations rest)
  pub brought :
      BringsIf list (option_map (λ a. a.key) (allocation_of entry.command)) (named_beside rest (alloc_reference entry.command)) (is_named_root list)
      (live_beside rest (alloc_reference entry.command)) (live_allocations list)
  pub links : links_of list ≡ links_of rest
  pub survivors_are : survivors list ≡ survivors rest

pub instruction-apart :
    (front back : List Entry) (entry : Entry) → link_of entry ≡ None → withdrawn_by entry.command ≡ None → is_book (front ++ entry ∷ back) ≡ true → is_book (front ++ back) ≡ true
    → InstructionApart (front ++ entry ∷ back) (front ++ back) entry
instruction-apart front back entry unlinked stays book rest_book =
    let apart = whole-instruction front back entry unlinked stays book rest_book in
    record {
      ended = apart.ended;
      brought = apart.brought;
      links = apart.links;
      survivors_are = apart.survivors_are;
    }
