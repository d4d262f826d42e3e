use Rattle.std.proofs.Common.{Err}
use Rattle.evidence_text.specs.Found.{IsFinding}
use Rattle.evidence_text.proofs.finding.of_parts.Given as goal

abbrev pub invariant-loop-k : goal.invariant-loop-k
invariant-loop-k l = IsFinding l.kind l.book l.limits (Err l.met)
