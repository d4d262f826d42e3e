use Rattle.std.proofs.Common.{◌≡◌, ◌≤◌, length, take, vec_capacity}
use Rattle.core_objects.specs.LogCalls.{HasMade, KnowsPlaces, KnowsLog}
use Rattle.core_objects.proofs.LogCalls.{meaning}
use Rattle.core_objects.proofs.log_steps.load_operations.Given as goal

abbrev pub invariant-loop-place : goal.invariant-loop-place
invariant-loop-place g l =
    record {
      made : HasMade (meaning g.S.SeqObject.spec) l.rows l.fn.announced l.announced;
      tickets : KnowsPlaces l.rows l.announced l.tickets;
      log : KnowsLog l.rows l.announced l.log.items;
      before : take (length l.fn.log.items) l.log.items ≡ l.fn.log.items;
      place : l.place ≡ length l.log.items;
      capacity : vec_capacity l.fn.log ≤ vec_capacity l.log;
    }
