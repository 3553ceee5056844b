mod AskingLemmas
mod DialogueLemmas
mod LineLemmas
mod OpenDayLemmas
mod OperatingLemmas
