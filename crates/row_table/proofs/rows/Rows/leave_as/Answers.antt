use Rattle.std.proofs.Common.{rules}
use Rattle.row_table.proofs.Parting.{leaves}
use Rattle.row_table.proofs.rows.Rows.leave_as.Goals as goal

pub split_seat-seat-requires : goal.split_seat-seat-requires
split_seat-seat-requires g c = (
  search rules,
  search rules,
  leaves _ _ _ _ _ _ _ c.requires.who c.requires.here,
)
