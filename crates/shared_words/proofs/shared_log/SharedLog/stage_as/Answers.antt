use Rattle.std.proofs.Common.{◌<◌, ◌*◌, arith}
use Rattle.shared_words.specs.Hands.{next_number}
use Rattle.shared_words.specs.Seats.{hand_with}
use Rattle.shared_words.proofs.Numbers.{number_low}
use Rattle.shared_words.proofs.Asking.{stage_asks, turned}
use Rattle.shared_words.proofs.shared_log.SharedLog.stage_as.Goals as goal

pub store-requires : goal.store-requires
store-requires g c =
    let l = c.args.self.now in
    let p = c.requires.part in
    let number : next_number l.cap c.args.seat.now.who (hand_with c.args.seat.now)
    < l.callers * l.cap = number_low l.callers l.cap _ _ c.requires.seat.caller c.requires.call in
    let few = c.requires.few in
    let is = c.requires.index in
    let all = l.sized.0 in (
      c.requires.seat.table,
      omega arith,
      stage_asks l.callers l.cap c.args.seat.now.who _ _ _ _ _ l.sized.2 l.sized.3 p.0 p.1 p.2 _ _ _
          (hand_with c.args.seat.now) c.args.seat.now.alone _ _ c.requires.call few is,
    )

pub invariant_of-seat : goal.invariant_of-seat
invariant_of-seat g c = record {
  alone = (turned c.args.seat.now.who _ _ _
      (hand_with c.args.seat.now) _ c.requires.part.2 c.args.seat.now.alone
      c.store.ensures.2).alone;
}

pub returns-clause-hand : goal.returns-clause-hand
returns-clause-hand g c = (turned c.args.seat.now.who _ _ _
    (hand_with c.args.seat.now) _ c.requires.part.2 c.args.seat.now.alone c.store.ensures.2).told
