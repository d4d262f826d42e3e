use Rattle.std.proofs.Common.{◌≡◌, ℕ, ◌≤◌, drop, map, take}
use Rattle.selfcheck_c.specs.Models.{named_call}
use Rattle.selfcheck_c.proofs.placed.put_calls.Given as goal

abbrev pub invariant-loop-k : goal.invariant-loop-k
invariant-loop-k l = record {
  put : map named_call (take l.k l.buffer) ≡ take l.k l.calls;
  rest : (n : ℕ) → l.k ≤ n → drop n l.buffer ≡ drop n l.fn.buffer;
}
