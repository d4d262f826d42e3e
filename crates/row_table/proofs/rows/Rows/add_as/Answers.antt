use Rattle.std.proofs.Common.{rules, refl}
use Rattle.row_table.proofs.Holders.{alone_here}
use Rattle.row_table.proofs.Deeds.{key_told, does_as, told_as}
use Rattle.row_table.proofs.rows.Rows.add_as.Goals as goal

pub fetch_add-requires : goal.fetch_add-requires
fetch_add-requires g c =
    let d = c.requires.deed in (
      search rules,
      search rules,
      does_as g.P.Program.meaning _ _ _ (key_told c.args.self.now) d.0 _ _ _ _ _ _ _ d.1 d.2 _ _
          (alone_here _ _ _ c.args.seat.now.alone) _ c.requires.makes,
    )

pub returns-clause-seat : goal.returns-clause-seat
returns-clause-seat g c =
    let d = c.requires.deed in
    let told = told_as _ _ _ _ _ _ _ _ _ d.0 d.1 d.2 c.args.seat.now.alone c.requires.seat.who
    c.fetch_add.ensures.2 in
    (record { table = search rules; who = c.requires.seat.who; local = told.reached }, refl)
