-- The key of a Trade is new, so no allocation before it lists the chain that it begins.
use Rattle.std.proofs.Common.{◌≡◌, ℕ, true, false, ◌&&◌, List, [], ◌∷◌, ◌++◌, reverse, Option, Some, None, refl, sym, ap, ◌∙◌, All, filter_map}
use Rattle.std.specs.List.{cons_option, last_or, list_any}
use Rattle.std.specs.Option.{option_map_or}
use Rattle.std.proofs.lemmas.List.Elements.{All-nil, All-cons, All-head, All-tail}
use Rattle.blot_types.specs.declared.{allocation.Instruction.Instruction, command.Command.Command, command.Entry.Entry, command.Trade.Trade as TradeCommand, keys.ExecKey.ExecKey, link.Link.Link, link.Role.TheVariants.Begins}
use Rattle.blot_types.specs.declared.command.Command.TheVariants.{Trade, Correct, Bust, AllocNew, AllocReplace, AllocCancel, Withdraw}
use Rattle.blot_types.specs.Allocations.{instruction_by, instructions_in, instructions_of}
use Rattle.blot_types.specs.Chains.{is_root, root_in, taker_in}
use Rattle.blot_types.specs.Instructions.{holds_in, is_live_in, named_in, names}
use Rattle.blot_types.specs.Keys.{is_among}
use Rattle.blot_types.specs.Legal.{is_book}
use Rattle.blot_types.specs.Position.{is_named}
use Rattle.blot_types.specs.Survivors.{link_of, links_in, links_of}
use Rattle.blot_types.proofs.AcceptLemmas.{instructions_of-push}
use Rattle.blot_types.proofs.ChainLemmas.{accepted_key, fresh-parts, root-fresh}
use Rattle.blot_types.proofs.ChangeLemmas.{named-held}
use Rattle.blot_types.proofs.EntryLemmas.{links_of-push, refusal-link}
use Rattle.blot_types.proofs.KeyLemmas.{same_exec-refl}
use Rattle.blot_types.proofs.GeneralLemmas.{and-false}
use Rattle.blot_command.proofs.AccountLemmas.{last-split}
use Rattle.blot_command.proofs.LiveLemmas.{next-entry}

-- ---- no instruction lists a chain of a key that isn't taken up

fresh-before : (link : Option Link) (links : List Link) (key : ExecKey) → taker_in (cons_option link links) key ≡ None → taker_in links key ≡ None
fresh-before None links key fresh = fresh
fresh-before (Some link) links key fresh = (fresh-parts link links key fresh).1

root-more :
    (key : ExecKey) (found : Option ExecKey) (roots : List ExecKey) → is_root key found ≡ false → is_among roots key ≡ false
    → is_among (cons_option found roots) key ≡ false
root-more key None roots other rest = rest
root-more key (Some root) roots other rest = rw other rest

unlisted : (links : List Link) (execs : List ExecKey) (key : ExecKey) → taker_in links key ≡ None → is_among (filter_map (root_in links) execs) key ≡ false
unlisted links [] key fresh = refl
unlisted links (exec ∷ execs) key fresh =
    root-more key (root_in links exec) (filter_map (root_in links) execs) (root-fresh links key exec fresh) (unlisted links execs key fresh)

unnamed-more :
    (links : List Link) (number : ℕ) (command : Command) (instructions : List Instruction) (key : ExecKey) → taker_in links key ≡ None
    → All (λ i. names key i ≡ false) instructions → All (λ i. names key i ≡ false) (cons_option (instruction_by links number command) instructions)
unnamed-more links number (Trade trade) instructions key fresh rest = rest
unnamed-more links number (Correct correct) instructions key fresh rest = rest
unnamed-more links number (Bust bust) instructions key fresh rest = rest
unnamed-more links number (AllocNew new) instructions key fresh rest =
    All-cons (λ i. names key i ≡ false) _ instructions (unlisted links new.terms.execs key fresh) rest
unnamed-more links number (AllocReplace replace) instructions key fresh rest =
    All-cons (λ i. names key i ≡ false) _ instructions (unlisted links replace.terms.execs key fresh) rest
unnamed-more links number (AllocCancel cancel) instructions key fresh rest = All-cons (λ i. names key i ≡ false) _ instructions refl rest
unnamed-more links number (Withdraw withdrawn) instructions key fresh rest = rest

all-unnamed : (entries : List Entry) (key : ExecKey) → taker_in (links_in entries) key ≡ None → All (λ i. names key i ≡ false) (instructions_in entries)
all-unnamed [] key fresh = All-nil (λ i. names key i ≡ false)
all-unnamed (entry ∷ earlier) key fresh =
    let before = fresh-before (link_of entry) (links_in earlier) key fresh in
    unnamed-more (links_in earlier) entry.number entry.command (instructions_in earlier) key before (all-unnamed earlier key before)

none-holds :
    (instructions all : List Instruction) (key : ExecKey) → All (λ i. names key i ≡ false) instructions → list_any (holds_in all key) instructions ≡ false
none-holds [] all key unnamed = refl
none-holds (i ∷ instructions) all key unnamed =
    let here : holds_in all key i ≡ false =
    ap (λ named. is_live_in all i && named) (All-head (λ i. names key i ≡ false) i instructions unnamed) ∙ and-false (is_live_in all i) in
    rw here (none-holds instructions all key (All-tail (λ i. names key i ≡ false) i instructions unnamed))

-- ---- the last entry

-- the chain that a Trade begins, at the end of a book, is named by no allocation
pub unnamed-trade :
    (list : List Entry) (number : ℕ) (trade : TradeCommand) → is_book (list ++ record { number = number; command = Trade trade } ∷ []) ≡ true
    → is_named (list ++ record { number = number; command = Trade trade } ∷ []) trade.key ≡ false
unnamed-trade list number trade book =
    let entry : Entry = record { number = number; command = Trade trade } in
    let link : Link = record { number = number; key = trade.key; role = Begins } in
    let next = next-entry list entry book in
    let fresh : taker_in (links_of list) trade.key ≡ None =
    (accepted_key (links_of list) trade.key Begins (sym (refusal-link (reverse list) entry link refl) ∙ next.accepted)).0 in
    let root : root_in (links_of (list ++ entry ∷ [])) trade.key ≡ Some trade.key =
    ap (λ links. root_in links trade.key) (links_of-push list entry) ∙ rw (same_exec-refl trade.key) refl in
    ap (λ root. option_map_or (is_among (named_in (instructions_of (list ++ entry ∷ [])))) root false) root
    ∙ ap (λ instructions. is_among (named_in instructions) trade.key) (instructions_of-push list entry)
    ∙ named-held (instructions_of list) trade.key
    ∙ none-holds (instructions_of list) (instructions_of list) trade.key (all-unnamed (reverse list) trade.key fresh)

-- the same, where the last entry of the list is known
pub unnamed-last :
    (list : List Entry) (last : Entry) (trade : TradeCommand) → last_or None list ≡ Some last → last.command ≡ Trade trade → is_book list ≡ true
    → is_named list trade.key ≡ false
unnamed-last list last trade is kind book =
    let front = last-split list last is in
    let one : last ≡ record { number = last.number; command = Trade trade } = λ i. record { number = last.number; command = kind i } in
    let whole : list ≡ front.0 ++ record { number = last.number; command = Trade trade } ∷ [] = front.1 ∙ ap (λ entry. front.0 ++ entry ∷ []) one in
    ap (λ list. is_named list trade.key) whole ∙ unnamed-trade front.0 last.number trade (sym (ap is_book whole) ∙ book)
