-- The kinds of command, each read back from the command that it is.
use Rattle.std.specs.Prelude.{ℕ, Option, Some, None, refl}
use Rattle.blot_types.specs.declared.{command.Command.Command, command.AllocCancel.AllocCancel, command.AllocNew.AllocNew, command.AllocReplace.AllocReplace, command.Bust.Bust, command.Correct.Correct, command.Trade.Trade}
use Rattle.blot_types.specs.declared.command.Command.TheVariants.{Trade as TradeCommand, Correct as CorrectCommand, Bust as BustCommand, AllocNew as NewCommand, AllocReplace as ReplaceCommand, AllocCancel as CancelCommand}
use Rattle.blot_command.specs.Meanings.{BookMeaning, meaning_by}
use Rattle.blot_command.specs.Law.{lawful_by}
use Rattle.blot_command.specs.Undoable.{IsLawful}

-- a Trade, where the command is one
abbrev pub trade_of : Command → Option Trade
trade_of (TradeCommand trade) = Some trade
trade_of _ = None

-- what a Trade means on the book
abbrev pub trade_meaning : BookMeaning Trade ℕ
trade_meaning = meaning_by TradeCommand trade_of

-- and that it is lawful
pub trade_lawful : IsLawful trade_meaning
trade_lawful = lawful_by TradeCommand trade_of (λ trade. refl)

-- a Correct, where the command is one
abbrev pub correct_of : Command → Option Correct
correct_of (CorrectCommand correct) = Some correct
correct_of _ = None

-- what a Correct means on the book
abbrev pub correct_meaning : BookMeaning Correct ℕ
correct_meaning = meaning_by CorrectCommand correct_of

-- and that it is lawful
pub correct_lawful : IsLawful correct_meaning
correct_lawful = lawful_by CorrectCommand correct_of (λ correct. refl)

-- a Bust, where the command is one
abbrev pub bust_of : Command → Option Bust
bust_of (BustCommand bust) = Some bust
bust_of _ = None

-- what a Bust means on the book
abbrev pub bust_meaning : BookMeaning Bust ℕ
bust_meaning = meaning_by BustCommand bust_of

-- and that it is lawful
pub bust_lawful : IsLawful bust_meaning
bust_lawful = lawful_by BustCommand bust_of (λ bust. refl)

-- an AllocNew, where the command is one
abbrev pub alloc_new_of : Command → Option AllocNew
alloc_new_of (NewCommand command) = Some command
alloc_new_of _ = None

-- what an AllocNew means on the book
abbrev pub alloc_new_meaning : BookMeaning AllocNew ℕ
alloc_new_meaning = meaning_by NewCommand alloc_new_of

-- and that it is lawful
pub alloc_new_lawful : IsLawful alloc_new_meaning
alloc_new_lawful = lawful_by NewCommand alloc_new_of (λ command. refl)

-- an AllocReplace, where the command is one
abbrev pub alloc_replace_of : Command → Option AllocReplace
alloc_replace_of (ReplaceCommand command) = Some command
alloc_replace_of _ = None

-- what an AllocReplace means on the book
abbrev pub alloc_replace_meaning : BookMeaning AllocReplace ℕ
alloc_replace_meaning = meaning_by ReplaceCommand alloc_replace_of

-- and that it is lawful
pub alloc_replace_lawful : IsLawful alloc_replace_meaning
alloc_replace_lawful = lawful_by ReplaceCommand alloc_replace_of (λ command. refl)

-- an AllocCancel, where the command is one
abbrev pub alloc_cancel_of : Command → Option AllocCancel
alloc_cancel_of (CancelCommand command) = Some command
alloc_cancel_of _ = None

-- what an AllocCancel means on the book
abbrev pub alloc_cancel_meaning : BookMeaning AllocCancel ℕ
alloc_cancel_meaning = meaning_by CancelCommand alloc_cancel_of

-- and that it is lawful
pub alloc_cancel_lawful : IsLawful alloc_cancel_meaning
alloc_cancel_lawful = lawful_by CancelCommand alloc_cancel_of (λ command. refl)
