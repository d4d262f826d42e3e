use Rattle.std.proofs.Common.{◌≡◌, ◌+◌, ◌≤◌, ◌++◌, map, vec_len, vec_capacity}
use Rattle.std.specs.List.{All}
use Rattle.std.specs.Vec.Iter.{into_iter_items, into_iter_len}
use Rattle.test_objects.specs.Passes.{seat_in, callers_in, cap_in}
use Rattle.test_objects.specs.Equipment.{AreReady}
use Rattle.test_objects.proofs.log_box.LogBox.equip.Given as goal

abbrev pub invariant-loop-seat : goal.invariant-loop-seat
invariant-loop-seat g l =
    record {
      seats : map seat_in l.passes.items ++ into_iter_items l.rest ≡ l.fn.seats.items;
      ready : All (λ p. AreReady (callers_in l.self) (cap_in l.self) p.tools) l.passes.items;
      tools : All (AreReady (callers_in l.self) (cap_in l.self)) l.all_tools.items;
      left : vec_len l.all_tools ≡ into_iter_len l.rest;
      count : vec_len l.passes + into_iter_len l.rest ≡ callers_in l.self;
      room : callers_in l.self ≤ vec_capacity l.passes;
    }

abbrev pub decreases-loop-seat : goal.decreases-loop-seat
decreases-loop-seat g l = into_iter_len l.rest
