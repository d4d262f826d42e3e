use Rattle.std.proofs.Common.{◌≡◌, ◌+◌, ◌-◌, ◌++◌, List, ℕ, true, length}
use Rattle.std.specs.Io.KnownBytes.{Consumes}
use Rattle.stream_text.specs.declared.TheConstants.{LINE_LIMIT}
use Rattle.stream_text.specs.Source.{has_no_feed}
use Rattle.stream_text.proofs.line_source.LineSource.next.Given as goal

-- the bytes that were held and read so far are those of the line and those that are held
abbrev pub invariant-loop-self : goal.invariant-loop-self
invariant-loop-self g l = record {
  given : (given : List ℕ)
      × Consumes (g.S.Source.left l.initial.source) (g.S.Source.left l.source) given
      × (l.initial.self.bytes ++ given ≡ l.self.line ++ l.self.bytes);
  feedless : has_no_feed l.self.line ≡ true;
  calm : g.S.Source.faults l.source ≡ g.S.Source.faults l.initial.source;
}

abbrev pub decreases-loop-self : goal.decreases-loop-self
decreases-loop-self g l = LINE_LIMIT + 1 - length l.self.line
