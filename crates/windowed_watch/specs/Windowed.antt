-- Watches that hold events back, as clauses see them.
use Rattle.std.specs.Prelude.{◌≡◌, ℕ, ◌+◌, ◌-◌, ◌≤◌, List, [], length, take, Option, None, IfSome}
use Rattle.seq_objects.specs.declared.kind.Kind.{Kind}
use Rattle.seq_objects.specs.Objects.{kind_spec}
use Rattle.streams.specs.Stream.{StreamEvent}
use Rattle.streams.specs.StreamOrder.{HasLegalStreamOrder}
use Rattle.watch_core.specs.declared.TheConstants.{MAX_OPEN}
use Rattle.watch_core.specs.declared.verdict.Verdict.{Verdict}
use Rattle.watch_core.specs.declared.verdict.Verdict.TheVariants.{Legal, Illegal, Unsure}
use Rattle.watch_core.specs.Watch.{Watched, HasTaken}
use Rattle.windowed_watch.specs.declared.lookahead.Lookahead.{Lookahead}
use Rattle.windowed_watch.specs.Ahead.{IsTakable, IsRunning, IsFinal}

-- A watch that holds events back: how many at most, the watch with the events that it will take,
-- another watch that has taken all events, and the verdict once it is final.
pub record Windowed : Type 0 where
  pub window : ℕ
  pub ahead : Lookahead
  pub front : Watched
  pub last : Option Verdict

-- how many events aren't known to have a legal order with those before
abbrev pub held_back : Windowed → ℕ
held_back w = length w.ahead.log.items - w.ahead.legal

-- A verdict is right for a stream of which the last `held` events may not be taken into account. It
-- is legal, and the number is that of the events before those, which have a legal order; or it is
-- final.
abbrev pub IsWindowVerdict : Kind → ℕ → ℕ → List StreamEvent → Verdict → Type 0
IsWindowVerdict kind limit held stream (Legal number) = (number + held ≡ length stream)
    × HasLegalStreamOrder (kind_spec kind) (take number stream)
IsWindowVerdict kind limit held stream (Illegal first last) =
    IsFinal kind limit stream (Illegal first last)
IsWindowVerdict kind limit held stream (Unsure number) = IsFinal kind limit stream (Unsure number)

-- A watch has received the events of a stream, which is valid, in this order and no others.
pub record HasReceived (w : Windowed) (stream : List StreamEvent) : Type 0 where
  pub front : HasTaken w.front stream []
  pub takable : IsTakable stream
  pub few : length w.front.calls ≤ MAX_OPEN
  pub running : w.last ≡ None → IsRunning w.ahead stream
  pub final : IfSome w.last (IsFinal w.ahead.watch.kind w.ahead.watch.limit stream)
