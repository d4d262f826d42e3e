use Rattle.row_table.specs.Actions.{event_of}
use Rattle.row_table.specs.Callers.{shape_of}
use Rattle.row_table.proofs.rows.Rows.peek.Given as goal

abbrev pub ghosts-load_as : goal.ghosts-load_as
ghosts-load_as g a = record {
  shape = shape_of g.P.Program.meaning a.self.now;
  who = a.seat.now.who;
  event = event_of a.action;
}
