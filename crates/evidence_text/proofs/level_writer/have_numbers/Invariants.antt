use Rattle.std.proofs.Common.{take}
use Rattle.std.specs.List.{AllByRecursion}
use Rattle.level_refutations.specs.Said.{entries_said}
use Rattle.evidence_text.specs.Written.{HasNumbers}
use Rattle.evidence_text.proofs.level_writer.have_numbers.Given as goal

abbrev pub invariant-loop-k : goal.invariant-loop-k
invariant-loop-k l = AllByRecursion HasNumbers (entries_said (take l.k l.entries))
