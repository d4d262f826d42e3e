-- What a client that judges its calls leaves.
use Rattle.std.specs.Prelude.{ℕ, List}
use Rattle.book_base.specs.SeqSpec.{SeqSpec}
use Rattle.world_core.specs.Local.{Local}
use Rattle.report_lines.specs.declared.line.Line.{Line}
use Rattle.report_lines.specs.Workers.{HasWorked}
use Rattle.client_calls.specs.Ends.{SaysJudged, HasLeft}

-- What a client with a judging ending leaves is what a worker may leave: a line for each call, all
-- phases of its allotment up to an error, and verdicts by books that its caller gathered.
abbrev pub JudgingClientsHaveWorked : Type 0
JudgingClientsHaveWorked =
    (object : SeqSpec) (n : ℕ) (operations : List ℕ) (allotment : ℕ) (l : Local)
    (own : List Line)
    → HasLeft (SaysJudged object) n operations allotment l own
    → HasWorked object n operations allotment l own
