use Rattle.std.proofs.Common.{◌≡◌, ◌≤◌, ◌-◌, List, length, IfSome, IfNone}
use Rattle.streams.specs.Stream.{StreamEvent}
use Rattle.windowed_watch.specs.Ahead.{IsWithin, IsRunning, IsFinal}
use Rattle.windowed_watch.proofs.lookahead.Lookahead.let_go.Given as goal

abbrev pub invariant-loop-self : goal.invariant-loop-self
invariant-loop-self l = record {
  within : IsWithin l.self;
  count : length l.self.log.items ≤ l.received;
  running : (stream : List StreamEvent) → IsRunning l.fn.self stream → IsRunning l.self stream;
  last : IfSome l.found (λ verdict. (stream : List StreamEvent) → IsRunning l.fn.self stream
      → l.received ≡ length stream
      → IsFinal l.fn.self.watch.kind l.fn.self.watch.limit stream verdict);
  legal : IfNone l.found (l.self.legal ≡ l.self.taken);
  kind : (l.self.watch.kind ≡ l.fn.self.watch.kind) × (l.self.watch.limit ≡ l.fn.self.watch.limit);
}

abbrev pub decreases-loop-self : goal.decreases-loop-self
decreases-loop-self l = length l.self.log.items - l.self.taken
