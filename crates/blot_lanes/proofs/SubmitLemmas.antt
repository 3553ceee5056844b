-- Receipts of submits.
use Rattle.std.proofs.Common.{◌≡◌, true, List, [], ◌∷◌, Result, Ok, Err, OnErr, IfOk, ap, ◌∙◌, ◌&&◌}
use Rattle.std.proofs.lemmas.List.Folds.{list_all-append}
use Rattle.blot_types.specs.declared.command.Command.{Command}
use Rattle.blot_desk.specs.declared.{event.Event.TheVariants.Submit, event.Reply.Reply, fault.DeskFault.DeskFault, receipt.Receipt.Receipt}
use Rattle.blot_desk.specs.Receipts.{IsOneMore}
use Rattle.blot_gateway.specs.AtOnce.{Keeps, are_submits, is_submit}

one-more : (before after : List Receipt) (command : Command) (reply : Reply) → are_submits before ≡ true → IsOneMore before after (Submit command) reply → are_submits after ≡ true
one-more before after command reply submits more =
    ap are_submits more.more ∙ list_all-append (λ receipt. is_submit receipt.event) before (record { place = more.place; event = Submit command; reply = reply } ∷ [])
    ∙ ap (λ found. found && true) submits

-- what is kept of a submit
pub keeps : (before after : List Receipt) (command : Command) (answer : Result Reply DeskFault) → IfOk answer (λ reply. IsOneMore before after (Submit command) reply) → OnErr answer (after ≡ before)
    → Keeps before command answer after
keeps before after command (Ok reply) ok err = ok
keeps before after command (Err fault) ok err = err

-- and all are of submits
pub submits : (before after : List Receipt) (command : Command) (answer : Result Reply DeskFault) → are_submits before ≡ true
    → IfOk answer (λ reply. IsOneMore before after (Submit command) reply) → OnErr answer (after ≡ before) → are_submits after ≡ true
submits before after command (Ok reply) were ok err = one-more before after command reply were ok
submits before after command (Err fault) were ok err = ap are_submits err ∙ were

pub ruleset submits_kept = (keeps, submits)
