use Rattle.std.proofs.Common.{◌≡◌, ◌≤◌, length, None, vec_capacity}
use Rattle.core_objects.specs.LogCalls.{HasMade, HasStored, place_on, KnowsPlaces}
use Rattle.core_objects.proofs.LogCalls.{meaning}
use Rattle.core_objects.proofs.log_steps.place_ticket.Given as goal

abbrev pub invariant-loop-place : goal.invariant-loop-place
invariant-loop-place g l =
    record {
      made : HasMade (meaning g.S.SeqObject.spec) l.rows l.fn.announced l.announced;
      stored : HasStored l.rows l.announced;
      unplaced : place_on l.rows l.announced ≡ None;
      known : KnowsPlaces l.rows l.announced l.tickets.items;
      place : l._place ≡ length l.tickets.items;
      more : length l.fn.tickets.items ≤ length l.tickets.items;
      capacity : vec_capacity l.fn.tickets ≤ vec_capacity l.tickets;
    }
