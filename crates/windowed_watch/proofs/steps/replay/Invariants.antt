use Rattle.std.proofs.Common.{◌≡◌, List, ◌++◌, take, drop}
use Rattle.streams.specs.Stream.{StreamEvent}
use Rattle.watch_core.specs.Watch.{HasTaken}
use Rattle.windowed_watch.specs.Ahead.{events_of}
use Rattle.windowed_watch.proofs.steps.replay.Given as goal

abbrev pub invariant-loop-event : goal.invariant-loop-event
invariant-loop-event l = record {
  taken : (stream : List StreamEvent) → HasTaken l.watch stream (events_of l.coming)
      → HasTaken l.copy stream (events_of l.coming);
  kind : (l.copy.kind ≡ l.watch.kind) × (l.copy.limit ≡ l.watch.limit);
}

abbrev pub invariant-loop-k : goal.invariant-loop-k
invariant-loop-k l = record {
  taken : (stream : List StreamEvent) → HasTaken l.watch stream (events_of l.coming)
      → HasTaken l.copy (stream ++ take l.k (events_of l.coming)) (drop l.k (events_of l.coming));
  kind : (l.copy.kind ≡ l.watch.kind) × (l.copy.limit ≡ l.watch.limit);
}
