use Rattle.std.proofs.Common.{map, take}
use Rattle.refutation_text.specs.Said.{MoveLine}
use Rattle.evidence_text.specs.Written.{IsWritten}
use Rattle.evidence_text.proofs.writer.put_pair_list.Given as goal

abbrev pub invariant-loop-entry : goal.invariant-loop-entry
invariant-loop-entry l = IsWritten l.initial.out.items
    (map MoveLine (take l.entry-index l.entries)) l.out.items
