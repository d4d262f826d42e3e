use Rattle.shared_words.proofs.shared_log.SharedLog.operation.Given as goal

abbrev pub ghosts-read_as : goal.ghosts-read_as
ghosts-read_as a =
    record { callers = a.self.now.callers; cap = a.self.now.cap; who = a.seat.now.who }
