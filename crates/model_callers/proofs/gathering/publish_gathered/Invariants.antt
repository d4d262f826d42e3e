use Rattle.model_callers.proofs.gathering.publish_gathered.Given as goal

abbrev pub ghosts-gather_counted : goal.ghosts-gather_counted
ghosts-gather_counted a = record { name = a.blank.name; parts = a.blank.parts }
