use Rattle.std.proofs.Common.{arith}
use Rattle.shared_words.specs.Seats.{hand_with}
use Rattle.shared_words.proofs.Asking.{place_asks}
use Rattle.shared_words.proofs.shared_log.SharedLog.place_as.Goals as goal

pub compare_exchange-requires : goal.compare_exchange-requires
compare_exchange-requires g c =
    let l = c.args.self.now in
    let p = c.requires.part in
    let room = c.requires.place in
    let is = c.requires.index in
    let all = l.sized.0 in (
      c.requires.seat.table,
      omega arith,
      place_asks l.callers l.cap c.args.seat.now.who _ _ _ _ _ l.sized.2 l.sized.3 p.0 p.1 p.2 _ _ _
          (hand_with c.args.seat.now) c.args.seat.now.alone _ _ _ c.requires.call c.requires.staged
          room is c.requires.ticket,
    )
