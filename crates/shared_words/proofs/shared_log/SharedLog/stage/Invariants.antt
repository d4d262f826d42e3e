use Rattle.shared_words.proofs.shared_log.SharedLog.stage.Given as goal

abbrev pub ghosts-stage_as : goal.ghosts-stage_as
ghosts-stage_as a =
    record { callers = a.self.now.callers; cap = a.self.now.cap; who = a.seat.now.who }
