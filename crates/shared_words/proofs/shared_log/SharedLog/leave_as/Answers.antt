use Rattle.std.proofs.Common.{sym, subst, ◌<◌}
use Rattle.shared_words.proofs.Numbers.{some_words}
use Rattle.shared_words.proofs.LogStepping.{leaves}
use Rattle.shared_words.proofs.shared_log.SharedLog.leave_as.Goals as goal

pub split_seat-seat-requires : goal.split_seat-seat-requires
split_seat-seat-requires g c =
    let l = c.args.self.now in (
      c.requires.seat,
      subst (λ n. 0 < n) (sym l.sized.0) (some_words l.callers l.cap l.few.0 l.few.2),
      leaves _ _ _ _ _ _ _ c.requires.who c.requires.here,
    )
