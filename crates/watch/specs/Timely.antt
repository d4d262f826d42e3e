-- What is told in time.
use Rattle.std.specs.Prelude.{◌≡◌, ◌≢◌, ◌⊎◌, ℕ, ◌+◌, ◌-◌, ◌*◌, ◌<◌, ◌≤◌, max, List, length, take, Option, None, Some}
use Rattle.seq_objects.specs.declared.kind.Kind.{Kind}
use Rattle.seq_objects.specs.Objects.{kind_spec}
use Rattle.streams.specs.Stream.{StreamEvent}
use Rattle.streams.specs.StreamOrder.{HasLegalStreamOrder}
use Rattle.stream_text.specs.Stream.{Said, Due, ReadsAs, events_of}
use Rattle.watch.specs.declared.settings.Settings.{Settings}
use Rattle.watch.specs.Output.{OutputLine, Legal}
use Rattle.watch.specs.Lines.{head_lines}
use Rattle.watch.specs.Account.{Has, IsUnsureTold}

-- all events of a stream but the last ones, as many as may be held back, have a legal order
abbrev pub IsLegalBefore : Settings → Kind → List StreamEvent → Type 0
IsLegalBefore asked kind stream =
    HasLegalStreamOrder (kind_spec kind) (take (length stream - max 1 asked.window) stream)

-- An object is legal but for the last events, as many as may be held back, or told to be unsure.
abbrev pub IsTimely : Settings → Said → List OutputLine → ℕ → Type 0
IsTimely asked said output object = IsLegalBefore asked said.kind (events_of object said.events)
    ⊎ IsUnsureTold said output object

-- it is to be told of all lines up to this one, which is that of an event, whether they are legal
abbrev pub IsDue : Settings → ℕ → Type 0
IsDue asked line = (head_lines < line) × ((every : ℕ) × (count : ℕ) × (asked.every ≡ Some every)
    × (line ≡ count * every))

-- all lines up to this one are told to be legal, or some object is told to be unsure
abbrev pub IsReported : Said → List OutputLine → ℕ → Type 0
IsReported said output line = Has output (Legal line)
    ⊎ ((object : ℕ) × IsUnsureTold said output object)

-- All that is to be told of a stream so far is told: of each object all events but the last ones
-- are known to be legal, and what is due after the lines of events is reported.
pub record IsPunctual (asked : Settings) (said : Said) (output : List OutputLine) : Type 0 where
  pub timely : (object : ℕ) → object < length said.names → IsTimely asked said output object
  pub reported : (line : ℕ) → line ≤ length said.events + head_lines → IsDue asked line
      → IsReported said output line

-- All that is to be told of a stream so far is told, but of the last event, which is one of this
-- object.
pub record IsPunctualBut (asked : Settings) (said : Said) (output : List OutputLine) (last : ℕ)
    : Type 0 where
  pub timely : (object : ℕ) → object < length said.names → object ≢ last
      → IsTimely asked said output object
  pub reported : (line : ℕ) → line < length said.events + head_lines → IsDue asked line
      → IsReported said output line
