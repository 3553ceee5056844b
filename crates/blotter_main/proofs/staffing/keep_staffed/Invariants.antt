use Rattle.blotter_main.proofs.staffing.keep_staffed.Given as goal

abbrev pub ghosts-serve_kept_staffed_day : goal.ghosts-serve_kept_staffed_day
ghosts-serve_kept_staffed_day g a = record { name = a.blank.name; parts = a.blank.parts }
