use Rattle.std.proofs.Common.{ℕ, ◌≤◌, ◌<◌, true}
use Rattle.frontier_check.specs.Replies.{IsTested}
use Rattle.frontier_check.proofs.impossible.has_denied_reply_of.Given as goal

abbrev pub invariant-loop-number : goal.invariant-loop-number
invariant-loop-number g l = (number : ℕ) → l.first ≤ number → number < l.number
    → IsTested (λ (op, reply) answer. goal.F-post g l.test op reply answer) l.book
    (record { caller = l.caller; number = number }) true
