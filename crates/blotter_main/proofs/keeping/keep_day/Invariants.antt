use Rattle.blotter_main.proofs.keeping.keep_day.Given as goal

abbrev pub ghosts-serve_kept_day : goal.ghosts-serve_kept_day
ghosts-serve_kept_day g a = record { name = a.blank.name; parts = a.blank.parts }
