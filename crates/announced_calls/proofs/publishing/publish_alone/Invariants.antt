use Rattle.announced_calls.proofs.publishing.publish_alone.Given as goal

abbrev pub ghosts-publish_counted : goal.ghosts-publish_counted
ghosts-publish_counted a = record { name = a.blank.name; parts = a.blank.parts }
