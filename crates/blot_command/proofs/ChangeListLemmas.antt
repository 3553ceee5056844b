-- Parts put and taken one after the other: some and then others, and what is left to make.
use Rattle.std.proofs.Common.{◌≡◌, true, false, List, [], ◌∷◌, ◌++◌, Option, Some, refl, sym, ap, subst, ◌∙◌}
use Rattle.blot_types.specs.declared.{allocation.Terms.Terms, command.Entry.Entry, keys.AllocKey.AllocKey, keys.ExecKey.ExecKey}
use Rattle.blot_position.specs.Positions.{Cells}
use Rattle.blot_command.specs.Booking.{Change, changed, changed_all, CanChangeAll, lines_put, lines_taken, chains_moved, allocated, allocated_by, released, released_by}
use Rattle.blot_command.specs.Shown.{terms_keyed, roots_keyed}

-- ---- some changes, and then others

pub changed_all-append : (first last : List Change) (cells : Cells) → changed_all (first ++ last) cells ≡ changed_all last (changed_all first cells)
changed_all-append [] last cells = refl
changed_all-append (change ∷ later) last cells = changed_all-append later last (changed change cells)

-- both parts can be made
pub record CanBoth (one two : List Change) (cells : Cells) : Type 0 where
  pub first : CanChangeAll one cells
  pub second : CanChangeAll two (changed_all one cells)

pub can-append : (first last : List Change) (cells : Cells) → CanChangeAll (first ++ last) cells → CanBoth first last cells
can-append [] last cells can = record { first = tt; second = can }
can-append (change ∷ later) last cells can =
    let rest = can-append later last (changed change cells) can.1 in
    record { first = (can.0, rest.first); second = rest.second }

pub can-joined : (first last : List Change) (cells : Cells) → CanChangeAll first cells → CanChangeAll last (changed_all first cells) → CanChangeAll (first ++ last) cells
can-joined [] last cells one two = two
can-joined (change ∷ later) last cells one two = (one.0, can-joined later last (changed change cells) one.1 two)

-- ---- what is left to make

-- these changes can be made, and lead to the last cells
pub record Leads (changes : List Change) (cells last : Cells) : Type 0 where
  pub can : CanChangeAll changes cells
  pub leads : changed_all changes cells ≡ last

-- ---- changes that are made in two steps

pub first-step : (all one two : List Change) (cells : Cells) → all ≡ one ++ two → CanChangeAll all cells → CanChangeAll one cells
first-step all one two cells is can = (can-append one two cells (subst (λ changes. CanChangeAll changes cells) is can)).first

pub second-step :
    (all one two : List Change) (cells between : Cells) → all ≡ one ++ two → CanChangeAll all cells → between ≡ changed_all one cells → CanChangeAll two between
second-step all one two cells between is can made =
    subst (CanChangeAll two) (sym made) (can-append one two cells (subst (λ changes. CanChangeAll changes cells) is can)).second

pub both-steps :
    (all one two : List Change) (cells between last : Cells) → all ≡ one ++ two → between ≡ changed_all one cells → last ≡ changed_all two between
    → last ≡ changed_all all cells
both-steps all one two cells between last is made more =
    more ∙ ap (changed_all two) made ∙ sym (changed_all-append one two cells) ∙ sym (ap (λ changes. changed_all changes cells) is)

-- ---- an allocation comes, and goes

pub allocated-some :
    (list : List Entry) (found : Option AllocKey) (key : AllocKey) (terms : Terms) (roots : List ExecKey) → found ≡ Some key
    → Some terms ≡ terms_keyed list key → Some roots ≡ roots_keyed list key → allocated list found ≡ chains_moved true list roots ++ lines_put terms terms.lines
allocated-some list found key terms roots is brought named = ap (allocated list) is ∙ sym (λ i. allocated_by list (brought i) (named i))

pub released-some :
    (list : List Entry) (found : Option AllocKey) (key : AllocKey) (terms : Terms) (roots : List ExecKey) → found ≡ Some key
    → Some terms ≡ terms_keyed list key → Some roots ≡ roots_keyed list key
    → released list found ≡ lines_taken terms terms.lines ++ chains_moved false list roots
released-some list found key terms roots is brought named = ap (released list) is ∙ sym (λ i. released_by list (brought i) (named i))
