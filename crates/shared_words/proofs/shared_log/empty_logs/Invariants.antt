use Rattle.std.proofs.Common.{◌≡◌, ◌≤◌, [], vec_len, vec_capacity}
use Rattle.std.specs.List.{All}
use Rattle.shared_words.proofs.shared_log.empty_logs.Given as goal

abbrev pub invariant-loop-caller : goal.invariant-loop-caller
invariant-loop-caller l = (vec_len l.logs ≡ l._caller)
    × All (λ log. (log.items ≡ []) × (l.places ≤ vec_capacity log)) l.logs.items
