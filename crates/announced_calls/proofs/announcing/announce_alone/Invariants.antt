use Rattle.announced_calls.proofs.announcing.announce_alone.Given as goal

abbrev pub ghosts-announce_counted : goal.ghosts-announce_counted
ghosts-announce_counted a = record { name = a.blank.name; parts = a.blank.parts }
