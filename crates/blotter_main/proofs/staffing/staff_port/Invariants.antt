use Rattle.blotter_main.proofs.staffing.staff_port.Given as goal

abbrev pub ghosts-serve_staffed_day : goal.ghosts-serve_staffed_day
ghosts-serve_staffed_day g a = record { name = a.blank.name; parts = a.blank.parts }
