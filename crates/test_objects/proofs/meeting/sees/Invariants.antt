use Rattle.std.proofs.Common.{◌≡◌}
use mathlib.Core.List.{IsPrefix}
use Rattle.shared_words.specs.Passes.{caller_of_seat, history_of, deeds_of, IsSeatOf}
use Rattle.test_objects.specs.FaultyForms.{meeting_may, IsMissed}
use Rattle.test_objects.proofs.meeting.sees.Given as goal

abbrev pub invariant-loop-turn : goal.invariant-loop-turn
invariant-loop-turn l =
    record {
      seat : IsSeatOf meeting_may l.words l.seat;
      caller : caller_of_seat l.seat ≡ caller_of_seat l.initial.seat;
      missed : IsMissed l.flag l._turn (deeds_of l.initial.seat) (deeds_of l.seat);
      history : IsPrefix (history_of l.initial.seat) (history_of l.seat);
    }
