use Rattle.run_report.proofs.replay.replay_over.Given as goal

abbrev pub ghosts-take_turns : goal.ghosts-take_turns
ghosts-take_turns g a = record { name = a.blank.name; parts = a.blank.parts }
