use Rattle.std.proofs.Common.{◌≡◌, take}
use Rattle.row_table.specs.Callers.{local_with, stance_of, IsStill}
use Rattle.row_table.specs.Staging.{staged_from, with_staged}
use Rattle.row_table.proofs.staged_words.stage_from.Given as goal

abbrev pub invariant-loop-k : goal.invariant-loop-k
invariant-loop-k g l =
    record {
      still : IsStill g.P.Program.meaning l.rows l.initial.caller l.caller;
      stance : stance_of l.caller ≡ stance_of l.initial.caller;
      staged : local_with l.caller ≡ with_staged (local_with l.initial.caller)
          (staged_from l.first (take l.k l.words) (local_with l.initial.caller).staged);
    }
