-- Laws of the lines of streams.
use Rattle.std.specs.Prelude.{◌≡◌, ℕ, List}
use Rattle.stream_text.specs.declared.fault.Wrong.{Wrong}
use Rattle.stream_text.specs.Stream.{Due, Passes, Fails, ReadsAs}

-- a line that is right fails no test
abbrev pub RightLinesFailNoTest : Type 0
RightLinesFailNoTest = (due after : Due) (line : List ℕ) (what : Wrong) → Passes due line after
    → Fails due line what → ⊥

-- the lines of a beginning of a stream say one thing
abbrev pub LinesSayOneThing : Type 0
LinesSayOneThing = (lines : List (List ℕ)) (a b : Due) → ReadsAs lines a → ReadsAs lines b → a ≡ b
