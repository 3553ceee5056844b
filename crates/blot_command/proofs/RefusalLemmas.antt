-- The fill of the last version of a chain, as the code finds it; and sums of such fills.
use Rattle.std.proofs.Common.{◌≡◌, ℕ, ◌+◌, ◌<◌, pos, ◌+ℤ◌, arith, true, false, List, [], ◌∷◌, ◌++◌, take, get_or, length, reverse, Option, Some, None, refl, sym, ap, ◌∙◌, ℤ, filter_map, option_map, option_and_then}
use Rattle.std.specs.List.{cons_option, list_any}
use Rattle.std.specs.Option.{option_or}
use Rattle.std.proofs.lemmas.Int.{ints}
use Rattle.std.proofs.lemmas.List.{reverse-reverse, take_more}
use Rattle.std.proofs.lemmas.List.Elements.{filter_map-append}
use Rattle.blot_types.specs.declared.{command.AllocNew.AllocNew, command.AllocReplace.AllocReplace, command.Entry.Entry, fill.Fill.Fill, keys.ExecKey.ExecKey, lines.Version.Version, link.Link.Link, refused.Refused.TheVariants.DuplicateAlloc}
use Rattle.blot_types.specs.declared.command.Command.TheVariants.{AllocNew as NewCommand, AllocReplace as ReplaceCommand}
use Rattle.blot_types.specs.Chains.{root_in, current_in}
use Rattle.blot_types.specs.Legal.{numbers_rise, entry_refusal}
use Rattle.blot_types.specs.Allocations.{instructions_of}
use Rattle.blot_types.specs.Instructions.{alloc_taker_in}
use Rattle.blot_types.proofs.AcceptLemmas.{or_parts}
use Rattle.blot_types.specs.Order.{cum_of}
use Rattle.blot_types.specs.Refusals.{current_fill, mismatch, same_chain}
use Rattle.blot_types.specs.Survivors.{links_of, versions_of, version_numbered}
use Rattle.blot_types.proofs.SumLemmas.{total-append}
use Rattle.blot_types.proofs.SurvivorLemmas.{version_numbered-rising}
use Rattle.blot_command.specs.Refusing.{terms_refusal, reference_refusal}
use Rattle.blot_command.specs.Shown.{fill_numbered}

pub same_version : (entries : List Entry) (number : ℕ) → numbers_rise entries ≡ true → version_numbered (reverse entries) number ≡ version_numbered entries number
same_version entries number rise = version_numbered-rising (reverse entries) number rise ∙ ap (λ l. version_numbered l number) (reverse-reverse entries)

same_found : (entries : List Entry) (number : Option ℕ) → numbers_rise entries ≡ true → option_and_then (version_numbered (reverse entries)) number ≡ option_and_then (version_numbered entries) number
same_found entries None rise = refl
same_found entries (Some n) rise = same_version entries n rise

fill_by : (entries : List Entry) (number : Option ℕ) → option_and_then (λ n. fill_numbered n (versions_of entries)) number ≡ option_map (λ version. version.fill) (option_and_then (version_numbered entries) number)
fill_by entries None = refl
fill_by entries (Some n) = refl

pub fill_found :
    (links : List Link) (entries : List Entry) (key : ExecKey) (number : Option ℕ) → number ≡ option_and_then (current_in links) (root_in links key) → links ≡ links_of entries → numbers_rise entries ≡ true
    → option_and_then (λ n. fill_numbered n (versions_of entries)) number ≡ current_fill (reverse entries) key
fill_found links entries key number found are rise =
    fill_by entries number
    ∙ ap (λ n. option_map (λ (version : Version). version.fill) (option_and_then (version_numbered entries) n)) (found ∙ ap (λ all. option_and_then (current_in all) (root_in all key)) are)
    ∙ ap (option_map (λ (version : Version). version.fill)) (sym (same_found entries (option_and_then (current_in (links_of entries)) (root_in (links_of entries) key)) rise))

-- the sum of listed fills with one key more
sum_one : (sum : ℤ) (fills : List Fill) (found : Option Fill) → sum ≡ cum_of fills → cum_of (fills ++ cons_option found []) ≡ (sum +ℤ cum_of (cons_option found []))
sum_one sum fills found is = total-append (λ fill. pos fill.qty) fills (cons_option found []) ∙ ap (λ s. s +ℤ cum_of (cons_option found [])) (sym is)

pub wanted-more :
    (entries : List Entry) (execs : List ExecKey) (index : ℕ) (key : ExecKey) (sum : ℤ) → index < length execs → key ≡ get_or execs index key
    → sum ≡ cum_of (filter_map (current_fill (reverse entries)) (take index execs))
    → cum_of (filter_map (current_fill (reverse entries)) (take (index + 1) execs)) ≡ (sum +ℤ cum_of (cons_option (current_fill (reverse entries) key) []))
wanted-more entries execs index key sum within is so_far =
    let f = current_fill (reverse entries) in
    let more : take (index + 1) execs ≡ take index execs ++ key ∷ [] = rw is (take_more execs index key within) in
    ap (λ keys. cum_of (filter_map f keys)) more
    ∙ ap cum_of (filter_map-append f (take index execs) (key ∷ []))
    ∙ sum_one sum (filter_map f (take index execs)) (f key) so_far

pub one_fill : (fill : Fill) → cum_of (fill ∷ []) ≡ pos fill.qty
one_fill fill = omega (arith, ints)

-- a rule that applies is the refusal, and one that doesn't leaves it to those after it
pub rule_passed : {A B : Type 0} (name : A → B) (found : Option A) (rest : Option B) → found ≡ None → option_or (option_map name found) rest ≡ rest
rule_passed name found rest none = rw none refl

pub rule_applies : {A B : Type 0} (name : A → B) (found : Option A) (rest : Option B) (value : A) → found ≡ Some value → option_or (option_map name found) rest ≡ Some (name value)
rule_applies name found rest value is = rw is refl

pub or_passed : {A : Type 0} (first rest : Option A) → first ≡ None → option_or first rest ≡ rest
or_passed first rest none = rw none refl

-- why an allocation with a new key is refused
pub refusal-new :
    (entries : List Entry) (new : AllocNew) → option_map DuplicateAlloc (alloc_taker_in (instructions_of entries) new.key) ≡ None
    → entry_refusal entries (NewCommand new) ≡ terms_refusal entries None new.terms
refusal-new entries new fresh = or_passed (option_map DuplicateAlloc (alloc_taker_in (instructions_of entries) new.key)) (terms_refusal entries None new.terms) fresh

-- and one in the place of another, where the reference is known and live
pub refusal-replace :
    (entries : List Entry) (replace : AllocReplace) → option_map DuplicateAlloc (alloc_taker_in (instructions_of entries) replace.key) ≡ None
    → reference_refusal (instructions_of entries) replace.reference ≡ None
    → entry_refusal entries (ReplaceCommand replace) ≡ terms_refusal entries (Some replace.reference) replace.terms
refusal-replace entries replace fresh known =
    let parts = or_parts _ _ known in
    or_passed (option_map DuplicateAlloc (alloc_taker_in (instructions_of entries) replace.key)) _ fresh
    ∙ or_passed _ _ parts.0 ∙ or_passed _ _ parts.1

-- equal quantities are found equal
pub same_mismatch : (wanted found wanted' found' block : ℤ) → wanted ≡ wanted' → found ≡ found' → mismatch wanted block found ≡ mismatch wanted' block found'
same_mismatch wanted found wanted' found' block a b = rw (a, b) refl

-- a key without a root is of no chain
pub rootless-alone : (links : List Link) (key : ExecKey) (others : List ExecKey) → root_in links key ≡ None → list_any (same_chain links key) others ≡ false
rootless-alone links key [] none = refl
rootless-alone links key (other ∷ others) none =
    let apart : same_chain links key other ≡ false = rw none refl in
    rw apart (rootless-alone links key others none)
