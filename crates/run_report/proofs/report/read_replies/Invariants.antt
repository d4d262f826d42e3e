use Rattle.std.proofs.Common.{ℕ, ◌<◌, get_or}
use Rattle.std.specs.List.{All}
use Rattle.reports.specs.declared.report.Own.{Own}
use Rattle.run_report.specs.Replies.{HasWord}
use Rattle.run_report.proofs.report.read_replies.Given as goal

abbrev pub invariant-loop-own : goal.invariant-loop-own
invariant-loop-own l = (k : ℕ) (d : Own) → k < l.own-index
    → All (λ line. HasWord line.end) (get_or l.lines k d).lines.items
