use Rattle.std.proofs.Common.{◌≡◌, vec_len}
use Rattle.shared_words.specs.Passes.{caller_of_pass, history_in}
use Rattle.shared_words.proofs.Coming.{IsComing}
use Rattle.shared_words.proofs.shared_words.SharedWords.close.Given as goal

abbrev pub invariant-loop-pass : goal.invariant-loop-pass
invariant-loop-pass g l =
    record {
      table : l.keeper.table_id ≡ l.fn.self.table.shared.table_id;
      coming : IsComing caller_of_pass history_in l.fn.self.callers l.fn.passes.items
          l.passes.items l.keeper.me.0;
    }

abbrev pub decreases-loop-pass : goal.decreases-loop-pass
decreases-loop-pass g l = vec_len l.passes
