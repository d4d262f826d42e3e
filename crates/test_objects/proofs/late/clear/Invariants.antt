use Rattle.std.proofs.Common.{◌≡◌, vec_len, take, replicate}
use Rattle.std.specs.Prelude.{None}
use Rattle.test_objects.proofs.late.clear.Given as goal

abbrev pub invariant-loop-place : goal.invariant-loop-place
invariant-loop-place l =
    record {
      long : vec_len l.waiting ≡ vec_len l.fn.waiting;
      clear : take l.place l.waiting.items ≡ replicate l.place None;
    }
