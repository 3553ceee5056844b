use Rattle.blotter_main.proofs.keeping.desk_in.Given as goal

abbrev pub ghosts-journal_desk : goal.ghosts-journal_desk
ghosts-journal_desk a = record { name = a.blank.name; parts = a.blank.parts }
