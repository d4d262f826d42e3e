use Rattle.std.proofs.Common.{◌≡◌, ℕ, ◌<◌, ◌≤◌, length, get_or}
use Rattle.std.specs.Prelude.{max}
use Rattle.report_text.proofs.draft.join.Given as goal

abbrev pub invariant-loop-j : goal.invariant-loop-j
invariant-loop-j l = record {
  wide : length l.seen ≡ length l.fn.seen;
  done : (k : ℕ) → k < l.j → get_or l.seen k 0 ≡ max (get_or l.fn.seen k 0) (get_or l.cut k 0);
  left : (k : ℕ) → l.j ≤ k → get_or l.seen k 0 ≡ get_or l.fn.seen k 0;
}
