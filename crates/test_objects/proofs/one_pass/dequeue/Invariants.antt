use Rattle.std.proofs.Common.{◌≡◌, ◌++◌}
use mathlib.Core.List.{IsPrefix}
use Rattle.shared_words.specs.Passes.{caller_of_seat, history_of, deeds_of, IsSeatOf}
use Rattle.test_objects.specs.FaultyForms.{queue_may, empty_places}
use Rattle.test_objects.proofs.one_pass.dequeue.Given as goal

abbrev pub invariant-loop-place : goal.invariant-loop-place
invariant-loop-place l =
    record {
      seat : IsSeatOf queue_may l.words l.seat;
      caller : caller_of_seat l.seat ≡ caller_of_seat l.initial.seat;
      passed : deeds_of l.seat ≡ deeds_of l.initial.seat ++ empty_places l.place;
      history : IsPrefix (history_of l.initial.seat) (history_of l.seat);
    }
