use Rattle.blotter_main.proofs.running.serve_port.Given as goal

abbrev pub ghosts-serve_day : goal.ghosts-serve_day
ghosts-serve_day g a = record { name = a.blank.name; parts = a.blank.parts }
