use Rattle.std.proofs.Common.{◌∙◌, refl}
use Rattle.shared_words.proofs.Histories.{prefix_itself, prefix_through, prefix_after}
use Rattle.test_objects.proofs.FaultyForming.{none_missed, one_missed}
use Rattle.test_objects.proofs.Raising.{found_up, loads_may}
use Rattle.test_objects.proofs.meeting.sees.Goals as goal

pub loop-turn-init : goal.loop-turn-init
loop-turn-init c = record {
  seat = c.requires.seat;
  caller = refl;
  missed = none_missed _ _;
  history = prefix_itself _;
}

pub load-found-requires-clause-may : goal.load-found-requires-clause-may
load-found-requires-clause-may c found = loads_may _ _ found

pub loop-turn-preserved : goal.loop-turn-preserved
loop-turn-preserved c =
    record {
      seat = c.load-found.ensures.seat;
      caller = c.load-found.ensures.caller ∙ c.loop-turn.invariant.caller;
      missed = one_missed _ _ _ _ _ _ c.loop-turn.invariant.missed c.load-found.ensures.step
          c.if-found-eq-UP.false;
      history = prefix_through _ _ _ c.loop-turn.invariant.history
          (prefix_after _ _ _ _ c.load-found.ensures.history);
    }

pub returns-then-found-eq-UP-clause-raised : goal.returns-then-found-eq-UP-clause-raised
returns-then-found-eq-UP-clause-raised c = found_up _ _ _ _ _ c.load-found.ensures.seat.lawful
    c.load-found.ensures.history c.if-found-eq-UP.true
