-- A step of any kind of command on the book: as an entry, or as an entry taken out of the middle.
use Rattle.std.proofs.Common.{◌≡◌, ℕ, ◌<◌, ◌≤◌, ◌+◌, Bool, true, false, List, [], ◌∷◌, ◌++◌, reverse, Option, Some, None, ◌⊎◌, refl, sym, ap, subst, ◌∙◌, arith, inl, inr, All, Contains, find, not, nat_eq, nat_lt, ◌&&◌, option_map, eq-eqb, le-ltb}
use Rattle.std.specs.List.{cons_option, list_all}
use Rattle.std.specs.Option.{option_map_or}
use Rattle.std.proofs.lemmas.Bool.{cases_Bool, and_parts, and_from}
use Rattle.std.proofs.lemmas.List.{reverse-append}
use Rattle.std.proofs.lemmas.List.Elements.{All-nil, All-cons, All-head, All-tail, All-append, All-same, All-weaker, All-contains, All-contains_itself, Contains-append_right}
use Rattle.blot_types.specs.declared.{command.Command.Command, command.Entry.Entry, keys.ExecKey.ExecKey, link.Link.Link, TheConstants.EVENTS_MAX}
use Rattle.blot_types.specs.declared.command.Command.TheVariants.{Trade, Correct, Bust, AllocNew, AllocReplace, AllocCancel, Withdraw}
use Rattle.blot_types.specs.Chains.{taker_in, is_chained}
use Rattle.blot_types.specs.Keys.{same_exec}
use Rattle.blot_types.specs.Legal.{is_book, legal_in, entry_refusal, withdrawal_refusal, without}
use Rattle.blot_types.specs.Refusals.{exec_key, withdrawn_by}
use Rattle.blot_types.specs.Survivors.{link_by, link_of, links_in}
use Rattle.blot_types.specs.Withdrawal.{put_back}
use Rattle.blot_types.proofs.BustLemmas.{reverse-middle}
use Rattle.blot_types.proofs.ChainLemmas.{fresh-parts}
use Rattle.blot_types.proofs.ChainOutLemmas.{key-out}
use Rattle.blot_types.proofs.EntryLemmas.{chained-links}
use Rattle.blot_types.proofs.LawLemmas.{book_parts}
use Rattle.blot_types.proofs.LinkOutLemmas.{links-whole, links-rest}
use Rattle.blot_types.proofs.GeneralLemmas.{all-of}
use Rattle.blot_places.specs.Shown.{item_at, with_item, without as without_item}
use Rattle.blot_places.proofs.ShownLemmas.{with_item-here, with_item-on, without-here, without-on}
use Rattle.blot_command.specs.declared.fault.ApplyFault.TheVariants.{Refused as RefusedBy}
use Rattle.blot_command.specs.declared.inverse.Inverse.TheVariants.{Number, Taken}
use Rattle.blot_command.specs.Book.{Shown, entry_number, has_number, numbers_of, after, inverse_of}
use Rattle.blot_command.specs.Law.{enters_or_takes, entry_lawful, has_entry}
use Rattle.blot_command.specs.Meanings.{entry_meaning, command_meaning}
use Rattle.blot_command.specs.Undoable.{AllBelow, IsStep, Adds, UndoesStep, Undoes, TakesOut, numbers_in}
use Rattle.blot_command.specs.Withdrawing.{with_entry, lifted, returned, takes_exec, shares_exec, CanReturn, Keeps}
use Rattle.blot_command.proofs.WithinLemmas.{mapped, within_turned}
use Rattle.blot_command.proofs.KeepsLemmas.{Carries, carries_numbers, carries_push, carries_pop, carries_out, carries_in, within-out, within-in, keeps_earlier, listed_in, entries_within, numbers_within, number_within, numbers_from, Parted, parted, own_within}
use Rattle.blot_command.proofs.NewestThereLemmas.{Untaken}

-- ---- a command that is an entry

pub adds_as :
    (old new : Shown) (command : Command) (number inverse : ℕ) → new ≡ with_entry (record { number = number; command = command }) old → Adds entry_meaning number inverse old new
    → Adds command_meaning number (Number inverse) old new
adds_as old new command number inverse is adds = record {
  brings = adds.brings;
  own = adds.own;
  earlier = keeps_earlier number old new (subst (Carries number old) (sym is) (carries_push old (record { number = number; command = command })));
  stays = adds.stays;
}

-- an inverse that is a number undoes the step of an entry
number_is : (list : List Entry) (command : Command) (inverse number : ℕ) → withdrawn_by command ≡ None → Number inverse ≡ inverse_of list command number → inverse ≡ number
number_is list command inverse number none is = (let own : Number inverse ≡ Number number = rw none at is in cc)

not_taken : (list : List Entry) (k inverse number : ℕ) (entry : Entry) → find (has_number k) list ≡ Some entry → Number inverse ≡ inverse_of list (Withdraw k) number → ⊥
not_taken list k inverse number entry found is = (let clash : Number inverse ≡ Taken entry = rw found at is in cc)

undoes_step :
    (list : List Entry) (command : Command) (number inverse : ℕ) (state : Shown) → UndoesStep command_meaning list command number (Number inverse) state
    → UndoesStep entry_meaning list command number inverse state
undoes_step list command number inverse state undoes =
    let step = undoes.step in
    elim (enters_or_takes list command number step.valid step.is_next) [
      | inl enters ↦ record {
        step = record {
          valid = step.valid;
          within = step.within;
          is_next = enters.1;
          inverse_is = number_is list command inverse number enters.0 step.inverse_is;
          list_is = rw enters.0 at step.list_is;
        };
        kept = undoes.kept;
        latest = undoes.latest;
      }
      | inr takes ↦ absurd (not_taken list takes.0 inverse number takes.2.entry takes.2.found (subst (λ c. Number inverse ≡ inverse_of list c number) takes.1 step.inverse_is))
    ]

pub takes_out_as :
    (old new : Shown) (inverse : ℕ) → new.list ≡ without inverse old.list → new.kept ≡ old.kept → TakesOut entry_meaning inverse old new
    → TakesOut command_meaning (Number inverse) old new
takes_out_as old new inverse list kept takes earlier command number given =
    let undoes = undoes_step earlier command number inverse old given in
    let leaves = takes earlier command number undoes in
    let entry : Entry = record { number = number; command = command } in
    let rest : new.list ≡ earlier =
    list ∙ ap (λ l. without inverse l) undoes.step.list_is ∙ ap (λ n. without n (earlier ++ entry ∷ [])) undoes.step.inverse_is ∙ entry_lawful.before_after earlier command number undoes.step.valid undoes.step.is_next in
    let whole : old.list ≡ new.list ++ entry ∷ [] = undoes.step.list_is ∙ ap (λ l. l ++ entry ∷ []) (sym rest) in
    let is : with_entry entry new ≡ old = λ i. record { list = sym whole i; kept = kept i } in
    record {
      brings_none = leaves.brings_none;
      gone = leaves.gone;
      earlier = keeps_earlier number old new (subst (λ shown. Carries number shown new) is (carries_pop new entry));
      stays = kept;
    }

-- ---- an entry taken out of the middle

pub withdraw_step :
    (list next : List Entry) (command : Command) (taken number : ℕ) (entry : Entry)
    → withdrawn_by command ≡ Some taken → is_book list ≡ true → withdrawal_refusal list taken ≡ None → find (has_number taken) list ≡ Some entry
    → number ≤ EVENTS_MAX → AllBelow number (numbers_of list) → next ≡ without entry.number list
    → IsStep command_meaning list command number (Taken entry) next
withdraw_step list next command taken number entry is book accepted found within above next_is = record {
  valid = book;
  within = within;
  is_next = record {
    accepted = ap (λ withdrawn. option_map RefusedBy (option_map_or (withdrawal_refusal list) withdrawn (entry_refusal list command))) is ∙ ap (option_map RefusedBy) accepted;
    above = above;
  };
  inverse_is = sym (ap (λ withdrawn. option_map_or (λ (k : ℕ). option_map_or Taken (find (has_number k) list) (Number k)) withdrawn (Number number)) is ∙ own_inverse);
  list_is = next_is ∙ ap (λ k. without k list) (has_entry list taken entry found).own ∙ sym (ap (λ withdrawn. option_map_or (λ k. without k list) withdrawn (list ++ record { number = number; command = command } ∷ [])) is);
}
  where
    own_inverse : option_map_or Taken (find (has_number taken) list) (Number taken) ≡ Taken entry
    own_inverse = ap (λ o. option_map_or Taken o (Number taken)) found

-- the key of an entry's link is that of its execution
key-link : (number : ℕ) (command : Command) → exec_key command ≡ option_map (λ (link : Link). link.key) (link_by number command)
key-link number (Trade trade) = refl
key-link number (Correct correct) = refl
key-link number (Bust bust) = refl
key-link number (AllocNew new) = refl
key-link number (AllocReplace replace) = refl
key-link number (AllocCancel cancel) = refl
key-link number (Withdraw withdrawn) = refl

key-of : (entry : Entry) (found : Option Link) → link_of entry ≡ found → exec_key entry.command ≡ option_map (λ (link : Link). link.key) found
key-of entry found is = key-link entry.number entry.command ∙ ap (option_map (λ (link : Link). link.key)) is

-- where none of their links takes up a key, none of the entries takes up that execution
untaken-one :
    (key : ExecKey) (entry : Entry) (found : Option Link) (links : List Link) → link_of entry ≡ found → taker_in (cons_option found links) key ≡ None
    → (takes_exec key entry ≡ false) × (taker_in links key ≡ None)
untaken-one key entry None links is none = (ap (λ own. option_map_or (λ (k : ExecKey). same_exec k key) own false) (key-of entry None is), none)
untaken-one key entry (Some link) links is none =
    let parts = fresh-parts link links key none in
    (ap (λ own. option_map_or (λ (k : ExecKey). same_exec k key) own false) (key-of entry (Some link) is) ∙ parts.0, parts.1)

untaken-all : (key : ExecKey) (entries : List Entry) → taker_in (links_in entries) key ≡ None → All (λ other. takes_exec key other ≡ false) entries
untaken-all key [] none = All-nil (λ other. takes_exec key other ≡ false)
untaken-all key (entry ∷ entries) none =
    let parts = untaken-one key entry (link_of entry) (links_in entries) refl none in
    All-cons (λ other. takes_exec key other ≡ false) entry entries parts.0 (untaken-all key entries parts.1)

-- an entry that shares its execution with none
abbrev IsAlone : Entry → Entry → Type 0
IsAlone entry other = shares_exec entry other ≡ false

-- the entries of a book share no execution. Here they stand newest first
alone-in :
    (later earlier : List Entry) (entry : Entry) (found : Option Link) → link_of entry ≡ found → legal_in (later ++ entry ∷ earlier) ≡ true → All (IsAlone entry) (later ++ earlier)
alone-in later earlier entry None is legal =
    all-of (IsAlone entry) (later ++ earlier) (λ other. ap (λ own. option_map_or (λ key. takes_exec key other) own false) (key-of entry None is))
alone-in later earlier entry (Some link) is legal =
    let chained : is_chained (links_in later ++ link ∷ links_in earlier) ≡ true =
    ap is_chained (sym (links-whole later earlier entry link is)) ∙ chained-links (later ++ entry ∷ earlier) legal in
    All-weaker (λ other. takes_exec link.key other ≡ false) (IsAlone entry)
    (λ other untaken. ap (λ own. option_map_or (λ key. takes_exec key other) own false) (key-of entry (Some link) is) ∙ untaken)
    (later ++ earlier)
    (untaken-all link.key (later ++ earlier) (ap (λ links. taker_in links link.key) (links-rest later earlier) ∙ key-out (links_in later) (links_in earlier) link chained))

all-turned : (P : Entry → Type 0) (list : List Entry) → All P (reverse list) → All P list
all-turned P list each =
    All-weaker (Contains list) P (λ entry within. All-contains P (reverse list) entry each (within_turned list entry within)) list (All-contains_itself list)

alone : (list rest : List Entry) (entry : Entry) → is_book list ≡ true → Parted entry list rest → All (IsAlone entry) rest
alone list rest entry book it =
    let whole : reverse list ≡ reverse it.back ++ entry ∷ reverse it.front = ap reverse it.full_is ∙ reverse-middle it.front it.back entry in
    All-same (IsAlone entry) rest (it.front ++ it.back) it.rest_is
    (all-turned (IsAlone entry) (it.front ++ it.back)
    (All-same (IsAlone entry) (reverse (it.front ++ it.back)) (reverse it.back ++ reverse it.front) (reverse-append it.front it.back)
    (alone-in (reverse it.back) (reverse it.front) entry (link_of entry) refl (ap legal_in (sym whole) ∙ (book_parts list book).1))))

-- an entry's execution is free above the entry, among entries that came up to a number
abbrev IsFree : Entry → ℕ → Entry → Type 0
IsFree entry number other = shares_exec entry other ≡ true → (other.number ≤ entry.number) ⊎ (number < other.number)

free-alone : (entry : Entry) (number : ℕ) (entries : List Entry) → All (IsAlone entry) entries → All (IsFree entry number) entries
free-alone entry number entries each = All-weaker (IsAlone entry) (IsFree entry number) (λ other alone shares. absurd (differ (sym shares ∙ alone))) entries each
  where
    differ : true ≡ false → ⊥
    differ same = cc

free-above : (entry : Entry) (number : ℕ) (entries : List Entry) → Untaken entry entries → All (IsFree entry number) entries
free-above entry number [] untaken = All-nil (IsFree entry number)
free-above entry number (other ∷ entries) untaken =
    let parts : (not (nat_lt entry.number other.number && shares_exec entry other) ≡ true) × Untaken entry entries = and_parts _ _ untaken in
    All-cons (IsFree entry number) other entries
    (λ shares. elim (cases_Bool (nat_lt entry.number other.number)) [
      | inl above ↦ (let clash : false ≡ true = rw (above, shares) at parts.0 in absurd (differ clash))
      | inr most ↦ inl (not_less entry.number other.number most)
    ])
    (free-above entry number entries parts.1)
  where
    differ : false ≡ true → ⊥
    differ same = cc

    not_less : (a b : ℕ) → nat_lt a b ≡ false → b ≤ a
    not_less a b most = grind (arith, most)

untaken-above : (entry : Entry) (number : ℕ) (entries : List Entry) → All (IsFree entry number) entries → All (λ (other : Entry). other.number < number + 1) entries → Untaken entry entries
untaken-above entry number [] free latest = refl
untaken-above entry number (other ∷ entries) free latest =
    let rest = untaken-above entry number entries (All-tail (IsFree entry number) other entries free) (All-tail (λ (e : Entry). e.number < number + 1) other entries latest) in
    let most : other.number < number + 1 = All-head (λ (e : Entry). e.number < number + 1) other entries latest in
    and_from (not (nat_lt entry.number other.number && shares_exec entry other)) (list_all (λ e. not (nat_lt entry.number e.number && shares_exec entry e)) entries)
    (elim (cases_Bool (shares_exec entry other)) [
      | inl shares ↦ elim (All-head (IsFree entry number) other entries free shares) [
        | inl below ↦ rw (le-ltb entry.number other.number below) refl
        | inr above ↦ absurd (omega (arith, most, above))
      ]
      | inr apart ↦ rw apart (not_and (nat_lt entry.number other.number))
    ])
    rest
  where
    not_and : (b : Bool) → not (b && false) ≡ true
    not_and true = refl
    not_and false = refl

-- the entries without one, behind one more
without_behind :
    (n : ℕ) (first : Entry) (entries kept : List Entry) → without_item entry_number n entries ≡ without_item entry_number n kept
    → without_item entry_number n (first ∷ entries) ≡ without_item entry_number n (first ∷ kept)
without_behind n first entries kept same =
    elim (cases_Bool (nat_eq first.number n)) [
      | inl here ↦ without-here entry_number n first entries here ∙ same ∙ sym (without-here entry_number n first kept here)
      | inr other ↦ without-on entry_number n first entries other ∙ ap (λ rest. first ∷ rest) same ∙ sym (without-on entry_number n first kept other)
    ]

-- the entries without one are the same where it was put in among them, and where it was taken out of them
without_with : (entry : Entry) (kept : List Entry) → without_item entry_number entry.number (with_item entry_number entry kept) ≡ without_item entry_number entry.number kept
without_with entry [] = without-here entry_number entry.number entry [] (eq-eqb entry.number entry.number refl)
without_with entry (first ∷ kept) =
    let n = entry.number in
    elim (cases_Bool (nat_lt n first.number)) [
      | inl less ↦
          ap (without_item entry_number n) (with_item-on entry_number entry first kept less)
          ∙ without_behind n first (with_item entry_number entry kept) kept (without_with entry kept)
      | inr more ↦
          ap (without_item entry_number n) (with_item-here entry_number entry first kept more)
          ∙ without-here entry_number n entry (first ∷ kept) (eq-eqb n n refl)
    ]

without_twice : (n : ℕ) (kept : List Entry) → without_item entry_number n (without_item entry_number n kept) ≡ without_item entry_number n kept
without_twice n [] = refl
without_twice n (first ∷ kept) =
    elim (cases_Bool (nat_eq first.number n)) [
      | inl here ↦ ap (without_item entry_number n) (without-here entry_number n first kept here) ∙ without_twice n kept ∙ sym (without-here entry_number n first kept here)
      | inr other ↦
          ap (without_item entry_number n) (without-on entry_number n first kept other)
          ∙ without-on entry_number n first (without_item entry_number n kept) other ∙ ap (λ rest. first ∷ rest) (without_twice n kept) ∙ sym (without-on entry_number n first kept other)
    ]

-- what the state keeps for a step that took an entry out, and for the earlier ones
pub withdraw_adds :
    (old new : Shown) (taken number : ℕ) (entry : Entry) → is_book old.list ≡ true → find (has_number taken) old.list ≡ Some entry
    → new ≡ lifted entry old → CanReturn entry new → AllBelow number (numbers_in command_meaning old)
    → Adds command_meaning number (Taken entry) old new
withdraw_adds old new taken number entry book found is can above =
    let rest = without entry.number old.list in
    let it = parted old.list taken entry book found in
    let list : new.list ≡ rest = ap (λ (shown : Shown). shown.list) is in
    let carries : Carries number old new = subst (Carries number old) (sym is) (carries_out entry old.list rest it number old.kept) in
    let was : (n : ℕ) → Contains (numbers_within new) n → Contains (numbers_within old) n =
    numbers_from old new (λ other within. within-out entry old.list rest it old.kept other (subst (λ shown. Contains (entries_within shown) other) is within)) in
    let less : (n : ℕ) → Contains (numbers_within old) n → n < number = λ n within. All-contains (λ k. k < number) (numbers_within old) n above within in
    record {
      brings = carries_numbers number old new carries;
      own = record {
        earlier = less entry.number (Contains-append_right (numbers_of old.kept) (numbers_of old.list) entry.number (mapped entry_number old.list entry (own_within entry old.list rest it)));
        once = λ kept listed. it.gone (subst (λ l. Contains (numbers_of l) entry.number) list listed);
        there = inr can.kept;
        untaken = All-append (IsFree entry number) new.list new.kept
            (free-alone entry number new.list (All-same (IsAlone entry) new.list rest list (alone old.list rest entry book it)))
            (free-above entry number new.kept can.untaken);
        free = λ within. (let below : number < number = less number (was number within) in omega (arith, below));
      };
      earlier = keeps_earlier number old new carries;
      stays = ap (λ (shown : Shown). without_item entry_number entry.number shown.kept) is ∙ without_with entry old.kept;
    }

-- ---- an entry put back

-- what a step that took an entry out led to
record TookOut (list : List Entry) (number : ℕ) (entry : Entry) (state : Shown) : Type 0 where
  keeps : Keeps state number entry
  back : put_back entry state.list ≡ list
  book : is_book list ≡ true
  parts : Parted entry list state.list
  latest : AllBelow (number + 1) (numbers_within state)

taken_is : (list : List Entry) (k number : ℕ) (entry found : Entry) → find (has_number k) list ≡ Some found → Taken entry ≡ inverse_of list (Withdraw k) number → entry ≡ found
taken_is list k number entry found there is = (let own : Taken entry ≡ Taken found = rw there at is in cc)

not_number : (list : List Entry) (command : Command) (entry : Entry) (number : ℕ) → withdrawn_by command ≡ None → Taken entry ≡ inverse_of list command number → ⊥
not_number list command entry number none is = (let clash : Taken entry ≡ Number number = rw none at is in cc)

took_out : (list : List Entry) (command : Command) (number : ℕ) (entry : Entry) (state : Shown) → UndoesStep command_meaning list command number (Taken entry) state → TookOut list number entry state
took_out list command number entry state undoes =
    let step = undoes.step in
    elim (enters_or_takes list command number step.valid step.is_next) [
      | inl enters ↦ absurd (not_number list command entry number enters.0 step.inverse_is)
      | inr takes ↦
          let has = takes.2 in
          let same : entry ≡ has.entry = taken_is list takes.0 number entry has.entry has.found (subst (λ c. Taken entry ≡ inverse_of list c number) takes.1 step.inverse_is) in
          let own : takes.0 ≡ entry.number = sym has.own ∙ ap entry_number (sym same) in
          let out : state.list ≡ without takes.0 list = step.list_is ∙ ap (λ c. after list c number) takes.1 in
          record {
            keeps = undoes.kept;
            back = ap (put_back entry) out ∙ ap (λ e. put_back e (without takes.0 list)) same ∙ has.back;
            book = step.valid;
            parts = subst (Parted entry list) (sym (out ∙ ap (λ n. without n list) own)) (parted list takes.0 entry step.valid (has.found ∙ ap (λ e. Some e) (sym same)));
            latest = undoes.latest;
          }
    ]

kept_there : (list : List Entry) (number : ℕ) (entry : Entry) (state : Shown) → TookOut list number entry state → item_at entry_number entry.number state.kept ≡ Some entry
kept_there list number entry state took =
    elim took.keeps.there [
      | inl listed ↦ absurd (took.parts.gone (mapped entry_number state.list entry listed))
      | inr kept ↦ kept
    ]

can_return : (list : List Entry) (number : ℕ) (entry : Entry) (state : Shown) → TookOut list number entry state → CanReturn entry state
can_return list number entry state took =
    let within_kept : (other : Entry) → Contains state.kept other → Contains (entries_within state) other = λ other within. Contains-append_right state.list state.kept other within in
    record {
      kept = kept_there list number entry state took;
      untaken = untaken-above entry number state.kept
          (All-weaker (Contains state.kept) (IsFree entry number)
          (λ other within. All-contains (IsFree entry number) (entries_within state) other took.keeps.untaken (within_kept other within)) state.kept (All-contains_itself state.kept))
          (All-weaker (Contains state.kept) (λ (other : Entry). other.number < number + 1)
          (λ other within. All-contains (λ k. k < number + 1) (numbers_within state) other.number took.latest (number_within state other (within_kept other within)))
          state.kept (All-contains_itself state.kept));
      book = ap is_book took.back ∙ took.book;
    }

pub puts_back : (old new : Shown) (entry : Entry) → new ≡ returned entry old → TakesOut command_meaning (Taken entry) old new
puts_back old new entry is list command number undoes =
    let took = took_out list command number entry old undoes in
    let kept = kept_there list number entry old took in
    let whole : new ≡ listed_in list (without_item entry_number entry.number old.kept) = is ∙ ap (λ l. listed_in l (without_item entry_number entry.number old.kept)) took.back in
    let was : (n : ℕ) → Contains (numbers_within new) n → Contains (numbers_within old) n =
    numbers_from old new (λ other within. within-in entry list old.list took.parts old.kept kept other (subst (λ shown. Contains (entries_within shown) other) whole within)) in
    record {
      brings_none = was;
      gone = λ within. took.keeps.free (was number within);
      earlier = keeps_earlier number old new (subst (Carries number old) (sym whole) (carries_in entry list old.list took.parts old.kept kept number));
      stays = ap (λ (shown : Shown). without_item entry_number entry.number shown.kept) is ∙ without_twice entry.number old.kept;
    }

-- whatever step it was
pub returns_taken : (entry : Entry) (state : Shown) → Undoes command_meaning (Taken entry) state → CanReturn entry state
returns_taken entry state (list, command, number, undoes) = can_return list number entry state (took_out list command number entry state undoes)
