-- Steps undone and redone, on books.
use Rattle.std.proofs.Common.{◌≡◌, ℕ, zero, suc, ◌≤◌, List, [], ◌∷◌, ◌++◌, length, map, take, reverse, Some, refl, sym, ap, subst, ◌∙◌, arith, append_assoc}
use Rattle.std.proofs.lemmas.List.{reverse-append}
use Rattle.blot_command.specs.Undoable.{Meaning, IsStep, IsLawful}
use Rattle.blot_undo.specs.declared.{step.Done.Done, step.Undone.Undone}
use Rattle.blot_undo.specs.Book.{Book, undo_of, redo_of, rewound, redone, done_number}
use Rattle.blot_undo.specs.Laws.{LeadTo, GoesBack}

-- ---- one step

-- what stands before what a step led to is the list that it was taken on
pub back_again :
    {S L C I R : Type 0} (m : Meaning S L C I R) → IsLawful m → (list next : L) (command : C) (number : ℕ) (inverse : I)
    → IsStep m list command number inverse next → m.before next inverse ≡ list
back_again m lawful list next command number inverse step = rw (step.list_is, step.inverse_is) (lawful.before_after list command number step.valid step.is_next)

-- and its inverse gives the command back
pub given_back :
    {S L C I R : Type 0} (m : Meaning S L C I R) → IsLawful m → (list next : L) (command : C) (number : ℕ) (inverse : I)
    → IsStep m list command number inverse next → m.command_of next inverse ≡ Some command
given_back m lawful list next command number inverse step = rw (step.list_is, step.inverse_is) (lawful.command_back list command number step.valid step.is_next)

-- the book of a list, done and undone steps and the next number
abbrev pub book : {L C I : Type 0} → L → List (Done I) → List (Undone C) → ℕ → Book L C I
book list done undone next = record { list = list; done = done; undone = undone; next = next }

-- the newest step undone: its command stands in front of the undone steps
pub undone_one :
    {S L C I R : Type 0} (m : Meaning S L C I R) → IsLawful m → (list : L) (step : Done I) (earlier : List (Done I)) (undone : List (Undone C)) (next : ℕ)
    → (lead : LeadTo m (step ∷ earlier) list)
    → undo_of m (book list (step ∷ earlier) undone next)
    ≡ book (m.before list step.inverse) earlier (record { number = step.number; command = lead.0.0 } ∷ undone) next
undone_one m lawful list step earlier undone next lead =
    rw (given_back m lawful (m.before list step.inverse) list lead.0.0 step.number step.inverse lead.0.1) refl

-- what stands after the newest step was undone, and after the step that was undone last was redone
pub undone_book :
    {S L C I R : Type 0} (m : Meaning S L C I R) (list next_list : L) (step : Done I) (earlier done : List (Done I)) (undone : List (Undone C)) (next : ℕ) (command : C)
    → next_list ≡ m.before list step.inverse → m.command_of list step.inverse ≡ Some command → done ≡ step ∷ earlier
    → book next_list earlier (record { number = step.number; command = command } ∷ undone) next ≡ undo_of m (book list done undone next)
undone_book {C = C} m list next_list step earlier done undone next command list_is back done_is =
    let after : undo_of m (book list (step ∷ earlier) undone next) ≡ book (m.before list step.inverse) earlier (record { number = step.number; command = command } ∷ undone) next = rw back refl in
    ap (λ l. book l earlier (record { number = step.number; command = command } ∷ undone) next) list_is
    ∙ sym after ∙ ap (λ d. undo_of m (book list d undone next)) (sym done_is)

pub redone_book :
    {S L C I R : Type 0} (m : Meaning S L C I R) (list next_list : L) (step : Undone C) (later : List (Undone C)) (done : List (Done I)) (undone : List (Undone C)) (next : ℕ) (inverse : I)
    → IsStep m list step.command step.number inverse next_list → undone ≡ step ∷ later
    → book next_list (record { number = step.number; inverse = inverse } ∷ done) later next ≡ redo_of m (book list done undone next)
redone_book m list next_list step later done undone next inverse taken undone_is =
    ap (λ l. book l (record { number = step.number; inverse = inverse } ∷ done) later next) taken.list_is
    ∙ ap (λ i. book (m.after list step.command step.number) (record { number = step.number; inverse = i } ∷ done) later next) taken.inverse_is
    ∙ ap (λ u. redo_of m (book list done u next)) (sym undone_is)

-- and redone, it gives the book
redone_one :
    {S L C I R : Type 0} (m : Meaning S L C I R) → IsLawful m → (list : L) (step : Done I) (earlier : List (Done I)) (undone : List (Undone C)) (next : ℕ)
    → LeadTo m (step ∷ earlier) list → redo_of m (undo_of m (book list (step ∷ earlier) undone next)) ≡ book list (step ∷ earlier) undone next
redone_one m lawful list step earlier undone next lead =
    let taken = lead.0.1 in
    ap (redo_of m) (undone_one m lawful list step earlier undone next lead)
    ∙ ap (λ l. book l (record { number = step.number; inverse = m.inverse_of (m.before list step.inverse) lead.0.0 step.number } ∷ earlier) undone next) (sym taken.list_is)
    ∙ ap (λ i. book list (record { number = step.number; inverse = i } ∷ earlier) undone next) (sym taken.inverse_is)

-- ---- any count of steps

-- the newest step is undone first
undo_first : {S L C I R : Type 0} (m : Meaning S L C I R) (count : ℕ) (b : Book L C I) → rewound m (suc count) b ≡ rewound m count (undo_of m b)
undo_first m zero b = refl
undo_first m (suc count) b = ap (undo_of m) (undo_first m count b)

pub round_trip :
    {S L C I R : Type 0} (m : Meaning S L C I R) → IsLawful m → (count : ℕ) (list : L) (done : List (Done I)) (undone : List (Undone C)) (next : ℕ)
    → LeadTo m done list → count ≤ length done → redone m count (rewound m count (book list done undone next)) ≡ book list done undone next
round_trip m lawful zero list done undone next lead few = refl
round_trip m lawful (suc count) list [] undone next lead few = absurd (omega (arith, few))
round_trip m lawful (suc count) list (step ∷ earlier) undone next lead few =
    ap (λ b. redo_of m (redone m count b)) (undo_first m count (book list (step ∷ earlier) undone next) ∙ ap (rewound m count) (undone_one m lawful list step earlier undone next lead))
    ∙ ap (redo_of m) (round_trip m lawful count (m.before list step.inverse) earlier (record { number = step.number; command = lead.0.0 } ∷ undone) next lead.1 (omega (arith, few)))
    ∙ ap (redo_of m) (sym (undone_one m lawful list step earlier undone next lead))
    ∙ redone_one m lawful list step earlier undone next lead

pub goes_back :
    {S L C I R : Type 0} (m : Meaning S L C I R) → IsLawful m → (count : ℕ) (list : L) (done : List (Done I)) (undone : List (Undone C)) (next : ℕ)
    → LeadTo m done list → count ≤ length done → GoesBack m count (book list done undone next) (rewound m count (book list done undone next))
goes_back m lawful zero list done undone next lead few = record { list = refl; done = refl; undone = refl; next = refl }
goes_back m lawful (suc count) list [] undone next lead few = absurd (omega (arith, few))
goes_back {C = C} m lawful (suc count) list (step ∷ earlier) undone next lead few =
    let undone2 : List (Undone C) = record { number = step.number; command = lead.0.0 } ∷ undone in
    let first = undo_first m count (book list (step ∷ earlier) undone next) ∙ ap (rewound m count) (undone_one m lawful list step earlier undone next lead) in
    let rest = goes_back m lawful count (m.before list step.inverse) earlier undone2 next lead.1 (omega (arith, few)) in
    let numbers = map done_number earlier in
    let told : List (Undone C) → List ℕ = map (λ u. u.number) in
    let oldest : reverse (take (suc count) (step.number ∷ numbers)) ≡ reverse (take count numbers) ++ step.number ∷ [] = reverse-append (step.number ∷ []) (take count numbers) in
    record {
      list = ap (λ b. b.list) first ∙ rest.list;
      done = ap (λ b. b.done) first ∙ rest.done;
      undone = ap (λ b. told b.undone) first ∙ rest.undone
          ∙ sym (ap (λ front. front ++ told undone) oldest ∙ append_assoc (reverse (take count numbers)) (step.number ∷ []) (told undone));
      next = ap (λ b. b.next) first ∙ rest.next;
    }

-- a loop that undid a count of steps
pub rewinds :
    {S L C I R : Type 0} (m : Meaning S L C I R) → IsLawful m → (count counter : ℕ) (old new : Book L C I)
    → LeadTo m old.done old.list → count ≤ length old.done → counter ≤ count → count ≤ counter → new ≡ rewound m counter old → GoesBack m count old new
rewinds m lawful count counter old new lead few most least is =
    let whole : counter ≡ count = omega arith in
    subst (GoesBack m count old) (sym (is ∙ ap (λ n. rewound m n old) whole)) (goes_back m lawful count old.list old.done old.undone old.next lead few)
