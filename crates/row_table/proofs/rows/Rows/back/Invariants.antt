use Rattle.world_core.specs.Event.{Announce}
use Rattle.row_table.specs.Callers.{shape_of}
use Rattle.row_table.proofs.rows.Rows.back.Given as goal

abbrev pub ghosts-learn_as : goal.ghosts-learn_as
ghosts-learn_as g a =
    record { shape = shape_of g.P.Program.meaning a.self.now; who = 0; event = λ _. Announce }
