use Rattle.std.proofs.Common.{map, take}
use Rattle.level_refutations.specs.Said.{entry_said}
use Rattle.refutation_text.specs.Said.{TableLine}
use Rattle.evidence_text.specs.Written.{IsWritten}
use Rattle.evidence_text.proofs.level_writer.put_table.Given as goal

abbrev pub invariant-loop-entry : goal.invariant-loop-entry
invariant-loop-entry l = IsWritten l.initial.out.items
    (map (λ entry. TableLine (entry_said entry)) (take l.entry-index l.entries)) l.out.items
