-- The moments of events, and between which moments an event may have happened.
use Rattle.std.specs.Prelude.{ℕ, ◌+◌, ◌-◌, ◌^◌, min, Option, Some}
use Rattle.history_text.specs.declared.clock.Clock.{Clock}
use Rattle.history_text.specs.declared.clock.Clock.TheVariants.{Lines, Times}

-- how much a moment may be wrong by
abbrev pub error_of : Clock → ℕ
error_of Lines = 0
error_of (Times error) = error

-- the moment of an event: its line, or its time where it has one
abbrev pub moment_of : Clock → ℕ → Option ℕ → Option ℕ
moment_of Lines line time = Some line
moment_of (Times error) line time = time

-- the earliest moment at which an event of this moment may have happened
abbrev pub earliest : Clock → ℕ → ℕ
earliest clock moment = moment - error_of clock

-- the latest moment at which an event of this moment may have happened, which is no later than the
-- last one that a number of 64 bits says
abbrev pub latest : Clock → ℕ → ℕ
latest clock moment = min (moment + error_of clock) (2 ^ 64 - 1)
