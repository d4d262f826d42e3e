use Rattle.shared_words.proofs.shared_log.SharedLog.ticket_at.Given as goal

abbrev pub ghosts-look_as : goal.ghosts-look_as
ghosts-look_as a =
    record { callers = a.self.now.callers; cap = a.self.now.cap; who = a.seat.now.who }

abbrev pub ghosts-place_as : goal.ghosts-place_as
ghosts-place_as a =
    record { callers = a.self.now.callers; cap = a.self.now.cap; who = a.seat.now.who }
