use Rattle.std.proofs.Common.{ℕ, ◌∙◌, arith}
use Rattle.row_gather.proofs.Counting.{greatest_of-more}
use Rattle.row_gather.proofs.held.raise_to_all.Goals as goal

pub loop-answer-preserved : goal.loop-answer-preserved
loop-answer-preserved c = record {
  wide = c.raise.ensures.wide ∙ c.loop-answer.invariant.wide;
  counts = λ (i : ℕ).
      omega (
        arith,
        greatest_of-more c.args.records.now i c.loop-answer.answer-index c.answer-item.result
            (omega arith) c.answer-item.is,
        c.raise.ensures.counts i,
        c.loop-answer.invariant.counts i,
      );
}
