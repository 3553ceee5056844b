use Rattle.blotter_main.proofs.asking.ask_server.Goals as goal

pub returns-in-Ok-ask-clause-asked : goal.returns-in-Ok-ask-clause-asked
returns-in-Ok-ask-clause-asked g c =
    let asked = c.in-Ok-ask.ensures.asked in (asked.turns, asked.lines, asked.answered, asked.shows)
