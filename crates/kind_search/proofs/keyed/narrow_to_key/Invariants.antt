use Rattle.std.proofs.Common.{◌≡◌, Some}
use Rattle.kind_search.specs.Keys.{next_word}
use Rattle.kind_search.proofs.Narrowing.{KeptBelow}
use Rattle.kind_search.proofs.keyed.narrow_to_key.Given as goal

abbrev pub invariant-loop-caller : goal.invariant-loop-caller
invariant-loop-caller g l = KeptBelow
    (λ i. g.K.Keyed.key_of l.object (next_word l.book l.cut i) ≡ Some l.key) l.marks l.caller l.kept
