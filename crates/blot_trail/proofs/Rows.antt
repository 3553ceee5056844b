-- A trail's texts, computed as far as its numbers, which are written by `number_text`.
use Rattle.std.proofs.Common.{◌≡◌, [], ◌∷◌, ◌++◌, None, refl, codes}
use Rattle.blot_session.specs.declared.action.Action.TheVariants.{Close, Send}
use Rattle.blot_session.specs.declared.action.CloseReason.TheVariants.{TooLow}
use Rattle.blot_session.specs.declared.met.Met.TheVariants as met
use Rattle.blot_desk.specs.declared.event.Reply.TheVariants.{Accepted}
use Rattle.blot_console.specs.Replies.{number_line, number_text}
use Rattle.blot_capture.specs.declared.became.Became.TheVariants as became
use Rattle.blot_capture.specs.Trace.{Turn}
use Rattle.blot_trail.specs.declared.word.Word.TheVariants as words
use Rattle.blot_trail.specs.Audit.{end_of, lines_of, tail_of, words_of}
use Rattle.blot_trail.specs.TrailText.{action_text, became_text, bytes_text, head_text, last_text, message_text, sum_text, times, word_sums}

-- what became of a message
accepted : became_text (became.Replied (Accepted 7)) ≡ codes "accepted" ++ number_text 7 ++ codes "\n"
accepted = refl

closed : became_text (became.Met (met.Closed TooLow)) ≡ codes "closed" ++ number_text 2 ++ codes "\tTooLow" ++ codes "\n"
closed = refl

rejected : became_text (became.Met (met.Rejected 0 9)) ≡ codes "rejected" ++ number_text 0 ++ number_text 9 ++ codes "\n"
rejected = refl

early : became_text (became.Met (met.Early 3)) ≡ codes "early" ++ number_text 3 ++ codes "\n"
early = refl

no_head : head_text None [] ≡ codes "\t-\t-\t-"
no_head = refl

-- what would be sent, with bars; the end of a connection has no line
sent : action_text (Send (codes "35=0" ++ 1 ∷ [])) ≡ codes "sent\t35=0|\n"
sent = refl

not_sent : action_text (Close TooLow) ≡ []
not_sent = refl

-- messages of a stranger: 3 bytes after two that are no message, and then 2 bytes
abbrev first : Turn
first = record { placed = record { passed = 2; text = codes "abc" }; commands = []; became = became.Passed; actions = [] }

abbrev second : Turn
second = record { placed = record { passed = 0; text = codes "de" }; commands = []; became = became.Passed; actions = [] }

two_lines : lines_of 1 0 (first ∷ second ∷ [])
    ≡ (codes "skipped" ++ number_text 0 ++ number_text 2 ++ codes "\n") ++ message_text 1 2 (tail_of first) ++ (message_text 2 5 (tail_of second) ++ [])
unfolding bytes_text
two_lines = refl

two_ends : end_of (first ∷ second ∷ []) ≡ 7
two_ends = refl

-- and what is told at the end, where one byte more is passed over and three are left
last_lines : last_text (words_of (first ∷ second ∷ [])) 7 1 3 3
    ≡ (codes "skipped" ++ number_text 7 ++ number_text 1 ++ codes "\n") ++ (codes "rest" ++ number_text 8 ++ number_text 3 ++ codes "\n")
    ++ word_sums (words.Passed ∷ words.Passed ∷ []) ++ sum_text (codes "skipped") 3 ++ sum_text (codes "rest") 3 ++ number_line (codes "end") 2
unfolding bytes_text
last_lines = refl

two_passed : times words.Passed (words.Passed ∷ words.Early ∷ words.Passed ∷ []) ≡ 2
two_passed = refl

one_sum : sum_text (codes "early") 1 ≡ codes "sum\tearly" ++ number_text 1 ++ codes "\n"
unfolding sum_text
one_sum = refl
