use Rattle.std.proofs.Common.{rules}
use Rattle.row_table.proofs.Deeds.{key_told, learns_as}
use Rattle.row_table.proofs.rows.Rows.learn_as.Goals as goal

pub load-requires : goal.load-requires
load-requires g c = (
  search rules,
  search rules,
  learns_as g.P.Program.meaning _ _ _ (key_told c.args.self.now) c.requires.shape _ _ _ _,
)
