use Rattle.std.proofs.Common.{◌≡◌, take}
use Rattle.legal_prefixes.proofs.layer.load.Given as goal

abbrev pub invariant-loop-word : goal.invariant-loop-word
invariant-loop-word l = (l.state.words ≡ take l.word-index l.words)
    × (l.state.room ≡ l.fn.state.room)
