use Rattle.whole_runs.proofs.watches.watches_beside_a_worker_find_one_witness.Given as goal

abbrev pub ghosts-watch_beside_a_door : goal.ghosts-watch_beside_a_door
ghosts-watch_beside_a_door g a = record { name = a.blank.name; parts = a.blank.parts }
