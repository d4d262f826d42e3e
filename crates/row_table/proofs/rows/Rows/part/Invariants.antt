use Rattle.row_table.proofs.rows.Rows.part.Given as goal

abbrev pub ghosts-leave_as : goal.ghosts-leave_as
ghosts-leave_as g a = record { who = a.who }
