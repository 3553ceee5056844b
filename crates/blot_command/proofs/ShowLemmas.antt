-- The fills put and held, after a version's fill is put or kept.
use Rattle.std.proofs.Common.{◌≡◌, ℕ, ◌==◌, Bool, true, false, List, [], ◌∷◌, Option, Some, None, refl, sym, ap, subst, ◌∙◌, inl, inr, find, All, IfSome, if◌then◌else◌, option_map, ne_eqb, eq-eqb, eqb-true}
use Rattle.std.proofs.lemmas.Bool.{cases_Bool, eqb-false}
use Rattle.std.specs.FinMap as finite
use Rattle.std.proofs.lemmas.List.Elements.{All-nil, All-weaker, All-filter}
use Rattle.blot_types.specs.declared.{fill.Fill.Fill, lines.Version.Version, command.Entry.Entry}
use Rattle.blot_types.specs.Legal.{is_book}
use Rattle.blot_types.specs.Survivors.{links_of, versions_of, is_number, stands_in, survivors}
use Rattle.blot_types.proofs.SurvivorLemmas.{without, without-none}
use Rattle.blot_types.proofs.ApartLemmas.{number_of}
use Rattle.blot_types.proofs.GeneralLemmas.{found-All}
use Rattle.blot_order.specs.Fills.{Fills, put_at, held_at}
use Rattle.blot_order.proofs.FillLemmas.{put_at-empty, put_at-with_put, put_at-with_kept, held_at-with_put, held_at-with_kept, held_at-put, held_at-kept, kept_at-held}
use Rattle.blot_command.specs.Book.{Shown}
use Rattle.blot_command.specs.Shown.{Shows, HoldsFills, fill_numbered, with_put, with_kept, IsPut, IsKept}

cond-same : (test : Bool) → fill_numbered 0 [] ≡ (if test then None else None)
cond-same true = refl
cond-same false = refl

-- the fills put are those of these versions
abbrev pub Puts : Fills → List Version → Type 0
Puts fills versions = (k : ℕ) → put_at fills k ≡ fill_numbered k versions

-- the fill of the version of a number, where the place of one is taken
find-without :
    (k : ℕ) (replaced : Option ℕ) (versions : List Version)
    → fill_numbered k (without replaced versions) ≡ (if is_number k replaced then None else fill_numbered k versions)
find-without k replaced [] = cond-same (is_number k replaced)
find-without k replaced (version ∷ versions) =
    elim (cases_Bool (version.number == k)) [
      | inl same ↦
          let is : version.number ≡ k = eqb-true version.number k same in
          elim (cases_Bool (is_number k replaced)) [
            | inl gone ↦
                let goes : is_number version.number replaced ≡ true = ap (λ n. is_number n replaced) is ∙ gone in
                rw (goes, gone) (find-without k replaced versions ∙ rw gone refl)
            | inr stays ↦
                let kept : is_number version.number replaced ≡ false = ap (λ n. is_number n replaced) is ∙ stays in
                rw (kept, stays, same) refl
          ]
      | inr other ↦
          elim (cases_Bool (is_number version.number replaced)) [
            | inl goes ↦ rw (goes, other) (find-without k replaced versions)
            | inr kept ↦ rw (kept, other) (find-without k replaced versions)
          ]
    ]

-- ---- what is put

-- no version of a list has this number
abbrev pub IsUnused : ℕ → List Version → Type 0
IsUnused number versions = find (λ v. v.number == number) versions ≡ None

-- a version is among these, the first of its number
abbrev pub IsAmong : List Version → Version → Type 0
IsAmong versions version = find (λ v. v.number == version.number) versions ≡ Some version

-- a version's fill is held
abbrev pub IsHeld : Fills → Version → Type 0
IsHeld fills version = held_at fills version.number ≡ Some version.fill

-- a version's fill kept: that number is gone
Puts-kept : (fills : Fills) (versions : List Version) (version : Version) → Puts fills versions → Puts (with_kept (Some version) fills) (without (Some version.number) versions)
Puts-kept fills versions version puts k =
    put_at-with_kept version.number k version.fill fills
    ∙ elim (cases_Bool (version.number == k)) [
      | inl same ↦ rw (eq-eqb k version.number (sym (eqb-true version.number k same))) (sym (find-without k (Some version.number) versions ∙ rw same refl))
      | inr other ↦
          rw (ne_eqb k version.number (λ e. eqb-false version.number k other (sym e)))
          (puts k ∙ sym (find-without k (Some version.number) versions ∙ rw other refl))
    ]

-- a version's fill put again, where it is one of them
Puts-again :
    (fills : Fills) (versions : List Version) (version : Version) → Puts fills (without (Some version.number) versions)
    → find (λ v. v.number == version.number) versions ≡ Some version → Puts (with_put (Some version) fills) versions
Puts-again fills versions version puts found k =
    put_at-with_put version.number k version.fill fills
    ∙ elim (cases_Bool (version.number == k)) [
      | inl same ↦
          let is : version.number ≡ k = eqb-true version.number k same in
          let here : fill_numbered k versions ≡ Some version.fill = ap (λ n. fill_numbered n versions) (sym is) ∙ ap (option_map (λ v. v.fill)) found in
          rw (eq-eqb k version.number (sym is)) (sym here)
      | inr other ↦
          rw (ne_eqb k version.number (λ e. eqb-false version.number k other (sym e)))
          (puts k ∙ find-without k (Some version.number) versions ∙ rw other refl)
    ]

-- ---- what is held

-- the same fill under a number is no change
same_held : (n k : ℕ) (fill : Fill) (fills : Fills) (changed : Option Fill) → changed ≡ (if k == n then Some fill else held_at fills k) → held_at fills n ≡ Some fill → changed ≡ held_at fills k
same_held n k fill fills changed is same =
    is ∙ elim (cases_Bool (k == n)) [
      | inl here ↦ rw here (sym same ∙ ap (held_at fills) (sym (eqb-true k n here)))
      | inr other ↦ rw other refl
    ]

-- keeping a fill that is put, and putting one that is kept, changes nothing that is held
held-kept : (fills : Fills) (version : Version) (k : ℕ) → IsPut version fills → held_at (with_kept (Some version) fills) k ≡ held_at fills k
held-kept fills version k put = same_held version.number k version.fill fills _ (held_at-with_kept version.number k version.fill fills) (held_at-put fills version.number version.fill put)

held-again : (fills : Fills) (version : Version) (k : ℕ) → IsKept version fills → held_at (with_put (Some version) fills) k ≡ held_at fills k
held-again fills version k kept = same_held version.number k version.fill fills _ (held_at-with_put version.number k version.fill fills) (held_at-kept fills version.number version.fill kept)

-- a fill that is held and not put is kept
kept-from_held : (fills : Fills) (version : Version) → put_at fills version.number ≡ None → held_at fills version.number ≡ Some version.fill → IsKept version fills
kept-from_held fills version unput held = kept_at-held fills version.number version.fill unput held

-- ---- one version goes, and another comes

pub puts_kept : (fills : Fills) (kept : Option Version) (versions : List Version) → Puts fills versions → Puts (with_kept kept fills) (without (number_of kept) versions)
puts_kept fills None versions puts = subst (Puts fills) (sym (without-none versions)) puts
puts_kept fills (Some w) versions puts = Puts-kept fills versions w puts

puts_again :
    (fills : Fills) (again : Option Version) (versions : List Version) → IfSome again (IsAmong versions) → Puts fills (without (number_of again) versions) → Puts (with_put again fills) versions
puts_again fills None versions among puts = subst (Puts fills) (without-none versions) puts
puts_again fills (Some w) versions among puts = Puts-again fills versions w puts among

-- the fill of a version that is there is put
put_among : (fills : Fills) (versions : List Version) (found : Option Version) → Puts fills versions → IfSome found (IsAmong versions) → IfSome found (λ version. IsPut version fills)
put_among fills versions None puts among = tt
put_among fills versions (Some w) puts among = puts w.number ∙ ap (option_map (λ v. v.fill)) among

-- that of one that is out is kept
kept_beside :
    (fills : Fills) (versions : List Version) (found : Option Version) → Puts fills (without (number_of found) versions) → IfSome found (IsAmong versions) → All (IsHeld fills) versions
    → IfSome found (λ version. IsKept version fills)
kept_beside fills versions None puts among held = tt
kept_beside fills versions (Some w) puts among held =
    kept-from_held fills w
    (puts w.number ∙ find-without w.number (Some w.number) versions ∙ rw (eq-eqb w.number w.number refl) refl)
    (found-All (IsHeld fills) (λ v. v.number == w.number) versions w held among)

held_kept : (fills : Fills) (kept : Option Version) (versions : List Version) → IfSome kept (λ v. IsPut v fills) → All (IsHeld fills) versions → All (IsHeld (with_kept kept fills)) versions
held_kept fills None versions put held = held
held_kept fills (Some w) versions put held = All-weaker (IsHeld fills) (IsHeld (with_kept (Some w) fills)) (λ v here. held-kept fills w v.number put ∙ here) versions held

held_again : (fills : Fills) (again : Option Version) (versions : List Version) → IfSome again (λ v. IsKept v fills) → All (IsHeld fills) versions → All (IsHeld (with_put again fills)) versions
held_again fills None versions kept held = held
held_again fills (Some w) versions kept held = All-weaker (IsHeld fills) (IsHeld (with_put (Some w) fills)) (λ v here. held-again fills w v.number kept ∙ here) versions held

-- the same versions stand of two lists, but for one that goes and one that comes
pub record Trades (list rest : List Entry) (gone come : Option Version) : Type 0 where
  pub same : without (number_of gone) (survivors list) ≡ without (number_of come) (survivors rest)
  pub stood : IfSome gone (IsAmong (survivors list))
  pub stands : IfSome come (IsAmong (survivors rest))

pub trades-back : (list rest : List Entry) (gone come : Option Version) → Trades list rest gone come → Trades rest list come gone
trades-back list rest lost gained trades = record { same = sym trades.same; stood = trades.stands; stands = trades.stood }

-- the fill of the one that goes is taken, and that of the one that comes is put again
pub record IsTraded (shown : Shown) (gone come : Option Version) (fills : Fills) : Type 0 where
  pub taken : IfSome gone (λ version. IsPut version fills)
  pub un_taken : IfSome come (λ version. IsKept version (with_kept gone fills))
  pub shows : Shows shown (with_put come (with_kept gone fills))

pub traded :
    (list : List Entry) (shown : Shown) (gone come : Option Version) (fills : Fills) → Trades list shown.list gone come → is_book shown.list ≡ true → Puts fills (survivors list)
    → HoldsFills shown.list fills → HoldsFills shown.kept fills → IsTraded shown gone come fills
traded list shown lost gained fills trades book puts held held_kept_ones =
    let versions = survivors shown.list in
    let between = with_kept lost fills in
    let taken = put_among fills (survivors list) lost puts trades.stood in
    let left : Puts between (without (number_of gained) versions) = subst (Puts between) trades.same (puts_kept fills lost (survivors list) puts) in
    let there = held_kept fills lost (versions_of shown.list) taken held in
    let un_taken = kept_beside between versions gained left trades.stands (All-filter (stands_in (links_of shown.list)) (IsHeld between) (versions_of shown.list) there) in
    record {
      taken = taken;
      un_taken = un_taken;
      shows = record {
        book = book;
        put = puts_again between gained versions trades.stands left;
        held = held_again between gained (versions_of shown.list) un_taken there;
        held_kept = held_again between gained (versions_of shown.kept) un_taken (held_kept fills lost (versions_of shown.kept) taken held_kept_ones);
      };
    }

-- an empty book shows nothing
pub shows-empty : (shown : Shown) (fills : Fills) → shown ≡ record { list = []; kept = [] } → fills ≡ finite.empty → Shows shown fills
shows-empty shown fills none empty =
    rw (none, empty) (record { book = refl; put = put_at-empty; held = All-nil _; held_kept = All-nil _ })
