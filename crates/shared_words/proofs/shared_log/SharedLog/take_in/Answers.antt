use Rattle.std.proofs.Common.{◌<◌, ap, sym, subst, rules}
use Rattle.row_table.proofs.Holders.{joined_with}
use Rattle.shared_words.specs.Seats.{hand_with}
use Rattle.shared_words.proofs.Numbers.{some_words}
use Rattle.shared_words.proofs.LogStepping.{returns}
use Rattle.shared_words.proofs.shared_log.SharedLog.take_in.Goals as goal

pub join_seat-requires : goal.join_seat-requires
join_seat-requires c =
    let l = c.args.self.now in
    let s = c.args.seat.seat in (
      c.requires.keeper,
      c.requires.seat.placed.table,
      search rules,
      subst (λ n. 0 < n) (sym l.sized.0) (some_words l.callers l.cap l.few.0 l.few.2),
      returns _ _ _ _ _ _ s.who (hand_with s) (ap (λ m. m.0) s.alone) c.requires.gone
          c.requires.wide,
    )

pub returns-clause-keeper : goal.returns-clause-keeper
returns-clause-keeper c =
    let s = c.args.seat.seat in (
      c.join_seat.ensures.0,
      joined_with _ s.seat.me.0 _ s.who (hand_with s) (ap (λ m. m.0) c.join_seat.ensures.2)
          (ap (λ m. m.0) s.alone) c.requires.gone c.requires.wide,
    )
