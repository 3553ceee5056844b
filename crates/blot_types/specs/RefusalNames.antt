-- How a refusal is told: by its number and its name. Source: this project's rule.
use Rattle.std.specs.Prelude.{ℕ, ◌==◌, ◌||◌, List, codes, if◌then◌else◌}
use Rattle.blot_types.specs.declared.refused.Refused.{Refused}
use Rattle.blot_types.specs.declared.refused.Refused.TheVariants.{DuplicateExec, DuplicateAlloc, UnknownAlloc, DeadAlloc, UnknownExec, BustedExec, RepeatedExec, ExecTaken, Instrument, Quantity, NotLive, Needed, NothingToUndo, Moved, NothingToRedo}

-- the number of a refusal: of those that apply to a command, the least is answered
abbrev pub refused_number : Refused → ℕ
refused_number (DuplicateExec number) = 1
refused_number (DuplicateAlloc number) = 2
refused_number UnknownAlloc = 3
refused_number (DeadAlloc number) = 4
refused_number (UnknownExec key) = 5
refused_number (BustedExec number) = 6
refused_number (RepeatedExec key) = 7
refused_number (ExecTaken number) = 8
refused_number (Instrument key) = 9
refused_number (Quantity wanted found) = 10
refused_number (NotLive number) = 11
refused_number (Needed number) = 12
refused_number NothingToUndo = 13
refused_number (Moved newest) = 14
refused_number NothingToRedo = 15

-- the name of a refusal
abbrev pub refused_name : Refused → List ℕ
refused_name (DuplicateExec number) = codes "DuplicateExec"
refused_name (DuplicateAlloc number) = codes "DuplicateAlloc"
refused_name UnknownAlloc = codes "UnknownAlloc"
refused_name (DeadAlloc number) = codes "DeadAlloc"
refused_name (UnknownExec key) = codes "UnknownExec"
refused_name (BustedExec number) = codes "BustedExec"
refused_name (RepeatedExec key) = codes "RepeatedExec"
refused_name (ExecTaken number) = codes "ExecTaken"
refused_name (Instrument key) = codes "Instrument"
refused_name (Quantity wanted found) = codes "Quantity"
refused_name (NotLive number) = codes "NotLive"
refused_name (Needed number) = codes "Needed"
refused_name NothingToUndo = codes "NothingToUndo"
refused_name (Moved newest) = codes "Moved"
refused_name NothingToRedo = codes "NothingToRedo"

-- the code of a refusal, by the number under which it is told: 10 where an execution isn't there to be allocated (5
-- UnknownExec, 6 BustedExec, 8 ExecTaken), 1 where quantities differ (10 Quantity), and 7 for any other (FIX 4.4 volume 5,
-- AllocRejCode; which refusal has which code is this project's rule)
abbrev pub reject_code : ℕ → ℕ
reject_code refusal =
    if refusal == 5 || refusal == 6 || refusal == 8 then 10
    else (if refusal == 10 then 1 else 7)
