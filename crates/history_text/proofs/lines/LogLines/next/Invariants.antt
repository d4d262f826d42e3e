use Rattle.std.proofs.Common.{◌≡◌, ◌≤◌, ◌+◌, ◌<◌, ◌^◌, [], length}
use Rattle.history_text.specs.Lines.{lines_from}
use Rattle.history_text.proofs.lines.LogLines.next.Given as goal

-- the lines that are left are those that were, and only blank ones were taken
abbrev pub invariant-loop-self : goal.invariant-loop-self
invariant-loop-self l = record {
  fits : l.self.number + length l.self.rest.now < 2 ^ 64;
  lines : lines_from (l.self.number + 1) [] l.self.rest.now
      ≡ lines_from (l.initial.self.number + 1) [] l.initial.self.rest.now;
  left : length l.self.rest.now ≤ length l.initial.self.rest.now;
}

-- what is left grows shorter
abbrev pub decreases-loop-self : goal.decreases-loop-self
decreases-loop-self l = length l.self.rest.now
