-- Parts put to the positions and taken from them, one after the other.
use Rattle.std.specs.Prelude.{Bool, true, false, not, List, [], ◌∷◌, ◌++◌, map, Option, Some, None, IsTrue, ⊤, flat_map}
use Rattle.std.specs.List.{cons_option}
use Rattle.blot_types.specs.declared.{allocation.Line.Line, allocation.Terms.Terms, command.Entry.Entry, fill.Fill.Fill, keys.AllocKey.AllocKey, keys.ExecKey.ExecKey, part.Part.Part}
use Rattle.blot_types.specs.Position.{part_of_fill, part_of_line, from_house, moves_of_line}
use Rattle.blot_position.specs.Positions.{Cells, sums_at, has_cell, with_part, without_part}
use Rattle.blot_position.specs.Sums.{HasRoom, HasPart}
use Rattle.blot_command.specs.Shown.{standing_fill, terms_keyed, roots_keyed}

-- a part is put, or taken
pub record Change : Type 0 where
  pub is_put : Bool
  pub part : Part

-- the change that puts a part
abbrev pub put_in : Part → Change
put_in part = record { is_put = true; part = part }

-- the change that takes a part
abbrev pub taken_out : Part → Change
taken_out part = record { is_put = false; part = part }

-- the cells after a change
abbrev pub changed_by : Bool → Part → Cells → Cells
changed_by true part cells = with_part part.account part.symbol part.qty part.value cells
changed_by false part cells = without_part part.account part.symbol part.qty part.value cells

abbrev pub changed : Change → Cells → Cells
changed change cells = changed_by change.is_put change.part cells

-- and after some, one after the other
abbrev pub changed_all : List Change → Cells → Cells
changed_all [] cells = cells
changed_all (change ∷ later) cells = changed_all later (changed change cells)

-- a change can be made: a part that is put finds a cell and room, one that is taken is there
abbrev pub CanChangeBy : Bool → Part → Cells → Type 0
CanChangeBy true part cells =
    IsTrue (has_cell cells part.account part.symbol) × HasRoom (sums_at cells part.account part.symbol) part.qty part.value
CanChangeBy false part cells = HasPart (sums_at cells part.account part.symbol) part.qty part.value

abbrev pub CanChange : Change → Cells → Type 0
CanChange change cells = CanChangeBy change.is_put change.part cells

abbrev pub CanChangeAll : List Change → Cells → Type 0
CanChangeAll [] cells = ⊤
CanChangeAll (change ∷ later) cells = CanChange change cells × CanChangeAll later (changed change cells)

-- a line's move as it is put: it leaves the house account, and then it comes to its own
abbrev pub moved_in : Terms → Line → List Part
moved_in terms line = from_house (part_of_line terms line) ∷ part_of_line terms line ∷ []

-- the moves of lines, put and taken; taken, each leaves its own account first
abbrev pub lines_put : Terms → List Line → List Change
lines_put terms lines = map put_in (flat_map (moved_in terms) lines)

abbrev pub lines_taken : Terms → List Line → List Change
lines_taken terms lines = map taken_out (flat_map (moves_of_line terms) lines)

-- a fill leaves its own account for the house account, where it is named now, or else comes back
abbrev pub moved_by : Bool → Fill → List Change
moved_by named fill = taken_out (part_of_fill (not named) fill) ∷ put_in (part_of_fill named fill) ∷ []

-- so do the fills of the versions that stand of some chains
abbrev pub chains_moved : Bool → List Entry → List ExecKey → List Change
chains_moved named list roots = flat_map (λ root. flat_map (moved_by named) (cons_option (standing_fill list root) [])) roots

-- the part that goes, if one does, and then the one that comes
abbrev pub rebooked : Option Part → Option Part → List Change
rebooked gone come = map taken_out (cons_option gone []) ++ map put_in (cons_option come [])

-- an allocation comes: the versions that stand of its chains go to the house account, and its lines are put
abbrev pub allocated_by : List Entry → Option Terms → Option (List ExecKey) → List Change
allocated_by list (Some terms) (Some roots) = chains_moved true list roots ++ lines_put terms terms.lines
allocated_by list _ _ = []

abbrev pub allocated : List Entry → Option AllocKey → List Change
allocated list None = []
allocated list (Some key) = allocated_by list (terms_keyed list key) (roots_keyed list key)

-- an allocation goes: its lines are taken, and the versions that stand of its chains come back from the house account
abbrev pub released_by : List Entry → Option Terms → Option (List ExecKey) → List Change
released_by list (Some terms) (Some roots) = lines_taken terms terms.lines ++ chains_moved false list roots
released_by list _ _ = []

abbrev pub released : List Entry → Option AllocKey → List Change
released list None = []
released list (Some key) = released_by list (terms_keyed list key) (roots_keyed list key)
