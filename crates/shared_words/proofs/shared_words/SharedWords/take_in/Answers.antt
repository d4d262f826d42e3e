use Rattle.std.proofs.Common.{ap}
use Rattle.atomic_table.specs.Table.{Me}
use Rattle.row_table.proofs.Holders.{joined_with}
use Rattle.shared_words.specs.Histories.{View}
use Rattle.shared_words.specs.Passes.{history_in}
use Rattle.shared_words.proofs.Parting.{returns}
use Rattle.shared_words.proofs.shared_words.SharedWords.take_in.Goals as goal

pub join_seat-requires : goal.join_seat-requires
join_seat-requires g c =
    let s = c.args.pass.seat in (
      c.requires.keeper,
      c.requires.seat.table,
      ap (λ (m : Me (Unit {0}) View). m.1) s.alone,
      c.args.self.now.sized.0,
      returns g.U.Usage.may _ _ _ _ _ _ s.who (history_in c.args.pass) (ap (λ (m : Me (Unit {0}) View). m.0) s.alone)
          c.requires.gone c.requires.wide,
    )

pub returns-clause-keeper : goal.returns-clause-keeper
returns-clause-keeper g c =
    let s = c.args.pass.seat in
    joined_with _ s.seat.me.0 _ s.who (history_in c.args.pass)
    (ap (λ (m : Me (Unit {0}) View). m.0) c.join_seat.ensures.2) (ap (λ (m : Me (Unit {0}) View). m.0) s.alone) c.requires.gone c.requires.wide
