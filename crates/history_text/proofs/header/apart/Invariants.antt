use Rattle.std.proofs.Common.{◌≡◌, drop, map}
use Rattle.history_text.specs.Words.{plain_of}
use Rattle.history_text.specs.Log.{are_apart}
use Rattle.history_text.proofs.header.apart.Given as goal

-- the names are apart where those that are left are
abbrev pub invariant-loop-at : goal.invariant-loop-at
invariant-loop-at l =
    are_apart (map plain_of (map (λ name. name.now) (drop l.at l.names)))
    ≡ are_apart (map plain_of (map (λ name. name.now) l.names))
