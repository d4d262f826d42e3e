use Rattle.std.proofs.Common.{rules, refl}
use Rattle.row_table.proofs.Holders.{alone_here}
use Rattle.row_table.proofs.Deeds.{key_told, does_as, told_as}
use Rattle.row_table.proofs.rows.Rows.exchange_as.Goals as goal

pub compare_exchange-requires : goal.compare_exchange-requires
compare_exchange-requires g c =
    let d = c.requires.deed in (
      search rules,
      search rules,
      does_as g.P.Program.meaning _ _ _ (key_told c.args.self.now) d.0 _ _ _ _ _ _ _ d.1 d.2 _ _
          (alone_here _ _ _ c.args.seat.now.alone) _ c.requires.makes,
    )

pub returns-clause-seat : goal.returns-clause-seat
returns-clause-seat g c =
    let d = c.requires.deed in
    let told = told_as _ _ _ _ _ _ _ _ _ d.0 d.1 d.2 c.args.seat.now.alone c.requires.seat.who
    c.compare_exchange.ensures.2 in
    (record { table = search rules; who = c.requires.seat.who; local = told.reached }, refl)
