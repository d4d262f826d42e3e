use Rattle.std.proofs.Common.{ℕ, List}
use Rattle.stream_text.specs.Stream.{Said, Due}
use Rattle.watch.specs.Output.{OutputLine}
use Rattle.watch.specs.Watching.{Holds, Tells}
use Rattle.watch.proofs.Settling.{AreSettledBelow}
use Rattle.watch.proofs.watching.Watching.settle.Given as goal
use Rattle.watch.specs.declared.settings.Settings.{Settings}

-- the objects so far are settled
abbrev pub invariant-loop-object : goal.invariant-loop-object
invariant-loop-object l =
    (asked : Settings) (lines : List (List ℕ)) (due : Due) (said : Said) (output : List OutputLine)
    → Holds asked l.fn.self lines due said output
    → Tells asked l.fn.self l.self lines due said output (AreSettledBelow asked said l.found l.object)
