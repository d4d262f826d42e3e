use Rattle.std.proofs.Common.{◌≡◌, ℕ, ◌+◌, ◌<◌, ◌^◌, List, [], ◌++◌, length, map, bytes_eq}
use Rattle.std.specs.HashMap as hash
use Rattle.history_text.specs.Lines.{Line, lines_from, lines_of}
use Rattle.history_text.specs.Pairing.{last_event}
use Rattle.history_text.specs.Log.{HasHeader, AreRead}
use Rattle.history_text.proofs.log.read_log.Given as goal

-- the lines so far are read as the entries so far
abbrev pub invariant-loop-line : goal.invariant-loop-line
invariant-loop-line l = record {
  fits : l.lines.number + length l.lines.rest.now < 2 ^ 64;
  last : (process : List ℕ) → hash.get_by (λ key. bytes_eq process key.now) l.read.last.events
      ≡ last_event process l.read.entries.items;
  read : (before : List Line)
      × HasHeader l.format (lines_of l.bytes) (map (λ name. name.now) l.names.items)
      (before ++ lines_from (l.lines.number + 1) [] l.lines.rest.now)
      × AreRead l.format l.layout l.clock (map (λ name. name.now) l.names.items) before
      l.read.entries.items;
}

-- what is left grows shorter
abbrev pub decreases-loop-line : goal.decreases-loop-line
decreases-loop-line l = length l.lines.rest.now
