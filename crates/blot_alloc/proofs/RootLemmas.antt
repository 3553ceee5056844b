-- One place more, or one less, under each of some roots.
use Rattle.std.proofs.Common.{◌≡◌, ℕ, ◌<◌, ◌+◌, true, false, List, [], ◌∷◌, ◌++◌, drop, take, length, get_or, sym, ap, subst, ◌∙◌, inl, inr, if◌then◌else◌, not, All}
use Rattle.std.proofs.lemmas.Bool.{cases_Bool, and_parts, or_parts}
use Rattle.std.proofs.Math.Seq.{take-length}
use Rattle.std.proofs.lemmas.List.{at_drop_more, take_more}
use Rattle.std.proofs.lemmas.List.Elements.{All-nil, All-cons, All-head, All-push, All-tail}
use Rattle.blot_types.specs.declared.keys.ExecKey.{ExecKey}
use Rattle.blot_types.specs.Instructions.{are_apart}
use Rattle.blot_types.specs.Keys.{is_among, same_exec}
use Rattle.blot_types.proofs.KeyLemmas.{same_exec-true, same_exec-sym}
use Rattle.blot_places.specs.Places.{Stacks, HasRoom}

-- what was done, with the change under each of the rest, is the change under each of the roots
abbrev pub ChangeEach : (List ℕ → List ℕ) → List ExecKey → List ExecKey → (ExecKey → List ℕ) → (ExecKey → List ℕ) → Type 0
ChangeEach change rest roots now before =
    (other : ExecKey)
    → (if is_among rest other then change (now other) else now other)
    ≡ (if is_among roots other then change (before other) else before other)

-- the first of roots that are apart is not among the others, and those are apart
pub first_apart : (root : ExecKey) (rest : List ExecKey) → are_apart (root ∷ rest) ≡ true → (is_among rest root ≡ false) × (are_apart rest ≡ true)
first_apart root rest apart =
    let parts : (not (is_among rest root) ≡ true) × (are_apart rest ≡ true) = and_parts _ _ apart in
    elim (cases_Bool (is_among rest root)) [
      | inl is ↦ let clash : false ≡ true = rw is at parts.0 in cc
      | inr not ↦ (not, parts.1)
    ]

-- one root changed, and the rest to be
pub change-first :
    (change : List ℕ → List ℕ) (root : ExecKey) (rest roots : List ExecKey) (now next before : ExecKey → List ℕ)
    → are_apart (root ∷ rest) ≡ true
    → ChangeEach change (root ∷ rest) roots now before
    → ((other : ExecKey) → next other ≡ (if same_exec root other then change (now other) else now other))
    → ChangeEach change rest roots next before
change-first change root rest roots now next before apart is changed other =
    elim (cases_Bool (same_exec root other)) [
      | inl same ↦
          let absent : is_among rest other ≡ false = subst (λ key. is_among rest key ≡ false) (same_exec-true root other same) (first_apart root rest apart).0 in
          let here : next other ≡ change (now other) = rw same at (changed other) in
          let all : change (now other) ≡ (if is_among roots other then change (before other) else before other) = rw same at (is other) in
          rw absent (here ∙ all)
      | inr apart_from ↦
          let here : next other ≡ now other = rw apart_from at (changed other) in
          let all : (if is_among rest other then change (now other) else now other) ≡ (if is_among roots other then change (before other) else before other) = rw apart_from at (is other) in
          ap (λ places. if is_among rest other then change places else places) here ∙ all
    ]

-- room under the rest stays, where only a root is changed that is none of them
pub room-rest :
    (root : ExecKey) (rest : List ExecKey) (now next : Stacks ExecKey)
    → is_among rest root ≡ false
    → ((other : ExecKey) → same_exec root other ≡ false → HasRoom same_exec now other → HasRoom same_exec next other)
    → All (HasRoom same_exec now) (root ∷ rest)
    → All (HasRoom same_exec next) rest
room-rest root [] now next absent kept room = All-nil (HasRoom same_exec next)
room-rest root (first ∷ rest) now next absent kept room =
    let tests : (same_exec first root ≡ false) × (is_among rest root ≡ false) = or_parts (same_exec first root) (is_among rest root) absent in
    let Roomy = HasRoom same_exec now in
    let others = All-tail Roomy root (first ∷ rest) room in
    All-cons (HasRoom same_exec next) first rest (kept first (same_exec-sym root first ∙ tests.0) (All-head Roomy first rest others))
    (room-rest root rest now next tests.1 kept (All-cons Roomy root rest (All-head Roomy root (first ∷ rest) room) (All-tail Roomy first rest others)))

-- ---- one step of a loop over roots

pub drop_step : (roots : List ExecKey) (index : ℕ) (root : ExecKey) → index < length roots → root ≡ get_or roots index root → drop index roots ≡ root ∷ drop (index + 1) roots
drop_step roots index root within is = at_drop_more (λ rest. rest) roots index root within ∙ ap (λ first. first ∷ drop (index + 1) roots) (sym is)

pub step-change :
    (change : List ℕ → List ℕ) (root : ExecKey) (all rest roots : List ExecKey) (now next before : ExecKey → List ℕ)
    → all ≡ root ∷ rest
    → are_apart all ≡ true
    → ChangeEach change all roots now before
    → ((other : ExecKey) → next other ≡ (if same_exec root other then change (now other) else now other))
    → ChangeEach change rest roots next before × (are_apart rest ≡ true)
step-change change root all rest roots now next before is apart holds changed =
    let parted : are_apart (root ∷ rest) ≡ true = ap are_apart (sym is) ∙ apart in
    (change-first change root rest roots now next before parted (subst (λ all. ChangeEach change all roots now before) is holds) changed, (first_apart root rest parted).1)

pub step-room :
    (root : ExecKey) (all rest : List ExecKey) (now next : Stacks ExecKey)
    → all ≡ root ∷ rest
    → are_apart all ≡ true
    → All (HasRoom same_exec now) all
    → ((other : ExecKey) → same_exec root other ≡ false → HasRoom same_exec now other → HasRoom same_exec next other)
    → All (HasRoom same_exec next) rest
step-room root all rest now next is apart room kept =
    room-rest root rest now next (first_apart root rest (ap are_apart (sym is) ∙ apart)).0 kept (subst (All (HasRoom same_exec now)) is room)

pub step-more :
    (roots : List ExecKey) (index : ℕ) (root : ExecKey) (now next : Stacks ExecKey)
    → index < length roots
    → root ≡ get_or roots index root
    → ((other : ExecKey) → HasRoom same_exec now other → HasRoom same_exec next other)
    → HasRoom same_exec next root
    → All (HasRoom same_exec now) (take index roots)
    → All (HasRoom same_exec next) (take (index + 1) roots)
step-more roots index root now next within is kept here room =
    let more : take (index + 1) roots ≡ take index roots ++ root ∷ [] = take_more roots index root within ∙ ap (λ first. take index roots ++ first ∷ []) (sym is) in
    subst (All (HasRoom same_exec next)) (sym more)
    (All-push (HasRoom same_exec next) (take index roots) root (λ k default before. kept _ (room k default before)) here)

pub room-all : (roots : List ExecKey) (index : ℕ) (now : Stacks ExecKey) → index ≡ length roots → All (HasRoom same_exec now) (take index roots) → All (HasRoom same_exec now) roots
room-all roots index now ended room = subst (All (HasRoom same_exec now)) (ap (λ n. take n roots) ended ∙ take-length roots) room
