use Rattle.blotter_main.proofs.running.open_port.Given as goal

abbrev pub ghosts-serve_open_day : goal.ghosts-serve_open_day
ghosts-serve_open_day g a = record { name = a.blank.name; parts = a.blank.parts }
