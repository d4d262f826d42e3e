-- What every run over an object inside the world says of the calls of its callers.
use Rattle.std.specs.Prelude.{ℕ, ◌<◌, List}
use Rattle.book_base.specs.SeqSpec.{SeqSpec}
use Rattle.world_core.specs.Shape.{Shape}
use Rattle.world_core.specs.Local.{Local}
use Rattle.world_core.specs.Calls.{AreTogether, calls_in, local_at}
use Rattle.report_lines.specs.Phases.{HasMade}
use Rattle.client_calls.specs.Finishing.{KeepsAsked}
use Rattle.world_objects.specs.OneWord.{one_word_shape}
use Rattle.world_objects.specs.TallyAndCell.{tally, cell}
use Rattle.world_objects.specs.LogProgram.{log_shape}
use Rattle.test_objects.specs.Replays.{last_reply}
use Rattle.test_objects.specs.Forms.{IsTallyReply, IsCellReply}
use Rattle.core_runs.specs.Logged.{IsLoggedBy, AreFormed}

-- These are the locals of one reachable world, and each caller has made exactly its number of
-- phases, with its operations.
pub record HaveMadePhases (s : Shape) (operations : ℕ → List ℕ) (phases : ℕ → ℕ)
    (locals : List Local) : Type 0 where
  pub together : AreTogether s locals
  pub made : (i : ℕ) → i < s.callers → HasMade (operations i) (phases i) (local_at locals i)

-- Of each caller: a call under way that was announced and not asked has no object step yet, and for
-- one that was asked and has no view the program allows the caller some reply.
abbrev pub HaveAskedInTurn : Shape → (ℕ → ℕ) → List Local → Type 0
HaveAskedInTurn s phases locals = (i : ℕ) → i < s.callers
    → KeepsAsked s.program i (phases i) (local_at locals i)

-- The calls of every run over the log of a sequential object are in one log, whose answers are that
-- object's, whatever the first list, the transition function, the number of callers and the cap.
abbrev pub RunsOfLogsAreLogged : Type 0
RunsOfLogsAreLogged =
    (spec : SeqSpec) (n cap : ℕ) (operations : ℕ → List ℕ)
    (phases : ℕ → ℕ) (locals : List Local)
    → HaveMadePhases (log_shape spec n cap) operations phases locals
    → HaveAskedInTurn (log_shape spec n cap) phases locals
    → IsLoggedBy (last_reply spec.next spec.init) n phases (λ i. calls_in (local_at locals i))

-- In every run over a tally the reply to an answered call is a value for an increment, and bad for
-- anything else.
abbrev pub RunsOfTalliesAreFormed : Type 0
RunsOfTalliesAreFormed =
    (n cap : ℕ) (operations : ℕ → List ℕ) (phases : ℕ → ℕ) (locals : List Local)
    → HaveMadePhases (one_word_shape n cap tally) operations phases locals
    → AreFormed IsTallyReply n (λ i. calls_in (local_at locals i))

-- In every run over a cell the reply to an answered call is done for a write, a value for the read,
-- and bad for anything else.
abbrev pub RunsOfCellsAreFormed : Type 0
RunsOfCellsAreFormed =
    (n cap : ℕ) (operations : ℕ → List ℕ) (phases : ℕ → ℕ) (locals : List Local)
    → HaveMadePhases (one_word_shape n cap cell) operations phases locals
    → AreFormed IsCellReply n (λ i. calls_in (local_at locals i))
