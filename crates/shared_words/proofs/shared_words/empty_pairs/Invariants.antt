use Rattle.std.proofs.Common.{◌≡◌, ◌≤◌, [], vec_len, vec_capacity}
use Rattle.std.specs.List.{All}
use Rattle.shared_words.proofs.shared_words.empty_pairs.Given as goal

abbrev pub invariant-loop-caller : goal.invariant-loop-caller
invariant-loop-caller l = (vec_len l.all ≡ l._caller)
    × All (λ pairs. (pairs.items ≡ []) × (l.cap ≤ vec_capacity pairs)) l.all.items
