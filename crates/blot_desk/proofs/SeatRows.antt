-- The newest number of a seat, computed on what it was told.
use Rattle.std.proofs.Common.{◌≡◌, ℕ, [], ◌∷◌, Some, None, refl}
use Rattle.blot_types.specs.declared.command.Command.TheVariants.{Bust, Withdraw}
use Rattle.blot_types.specs.declared.refused.Refused.TheVariants.{NothingToUndo}
use Rattle.blot_desk.specs.declared.{event.Event.Event, event.Reply.Reply, receipt.Receipt.Receipt}
use Rattle.blot_desk.specs.declared.event.Event.TheVariants.{Submit, Undo, Redo}
use Rattle.blot_desk.specs.declared.event.Reply.TheVariants.{Accepted, Refused, Undone, Redone}
use Rattle.blot_desk.specs.Receipts.{newest_of}

abbrev told : Event → Reply → Receipt
told event reply = record { place = 0; event = event; reply = reply }

-- a bust is taken under a number, or refused
abbrev busts : ℕ → Receipt
busts number = told (Submit (Bust (record { key = record { peer = 66 ∷ []; id = 69 ∷ number ∷ [] }; reference = record { peer = 66 ∷ []; id = 69 ∷ [] } }))) (Accepted number)

abbrev withdraws : ℕ → ℕ → Receipt
withdraws withdrawn number = told (Submit (Withdraw withdrawn)) (Accepted number)

abbrev undoes : ℕ → Receipt
undoes number = told (Undo number) (Undone number)

abbrev redoes : ℕ → Receipt
redoes number = told Redo (Redone number)

-- a number that is accepted
accepted : newest_of (busts 1 ∷ []) ≡ Some 1
accepted = refl

-- undone, and redone
undone : newest_of (busts 1 ∷ undoes 1 ∷ []) ≡ None
undone = refl

redone : newest_of (busts 1 ∷ undoes 1 ∷ redoes 1 ∷ []) ≡ Some 1
redone = refl

-- withdrawn; and the number of the withdrawal itself is none
withdrawn : newest_of (busts 1 ∷ withdraws 1 2 ∷ []) ≡ None
withdrawn = refl

-- the one before it is the newest then
before : newest_of (busts 1 ∷ busts 2 ∷ withdraws 2 3 ∷ []) ≡ Some 1
before = refl

-- the withdrawal is undone: it still counts
withdrawal_undone : newest_of (busts 1 ∷ withdraws 1 2 ∷ undoes 2 ∷ []) ≡ None
withdrawal_undone = refl

-- then the number is undone and redone: it counts again
back : newest_of (busts 1 ∷ withdraws 1 2 ∷ undoes 2 ∷ undoes 1 ∷ redoes 1 ∷ []) ≡ Some 1
back = refl

-- and then the withdrawal is redone: withdrawn again
again : newest_of (busts 1 ∷ withdraws 1 2 ∷ undoes 2 ∷ undoes 1 ∷ redoes 1 ∷ redoes 2 ∷ []) ≡ None
again = refl

-- another seat's number that this seat withdraws, undoes or redoes is none of its own
others : newest_of (busts 2 ∷ withdraws 1 3 ∷ undoes 3 ∷ undoes 2 ∷ redoes 1 ∷ redoes 2 ∷ redoes 3 ∷ []) ≡ Some 2
others = refl

-- a withdrawal that another seat made, undone and redone here, is none of this seat's
anothers : newest_of (busts 1 ∷ undoes 2 ∷ redoes 2 ∷ []) ≡ Some 1
anothers = refl

-- a refused undo changes nothing
refused : newest_of (busts 1 ∷ told (Undo 1) (Refused NothingToUndo) ∷ []) ≡ Some 1
refused = refl
