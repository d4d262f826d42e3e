use Rattle.std.proofs.Common.{take}
use Rattle.model_text.specs.Told.{TellsAlike, told_table}
use Rattle.model_text.proofs.table.table_of.Given as goal

abbrev pub invariant-loop-line : goal.invariant-loop-line
invariant-loop-line l = TellsAlike (told_table (take l.line-index l.told)) l.table
