use Rattle.std.proofs.Common.{[], length}
use Rattle.book_base.specs.Book.{Page}
use Rattle.std.specs.Prelude.{List}
use Rattle.model_text.specs.ModelRules.{InSteps}
use Rattle.model_text.specs.Reading.{Goes}
use Rattle.model_text.proofs.steps.read_told.Given as goal

abbrev pub invariant-loop-told : goal.invariant-loop-told
invariant-loop-told l = (pages : List Page)
    → Goes (InSteps pages []) l.fn.lines (InSteps pages l.told.items) l.lines

abbrev pub decreases-loop-told : goal.decreases-loop-told
decreases-loop-told l = length l.lines.bytes
