use Rattle.std.proofs.Common.{◌≡◌, ℕ, ◌+◌, ◌<◌, ◌≤◌, [], Some, vec_len, vec_capacity}
use Rattle.std.specs.List.{All}
use Rattle.row_table.specs.Holders.{has}
use Rattle.shared_words.specs.Passes.{caller_of_pass, IsNewPass}
use Rattle.shared_words.proofs.Dealing.{AreDealt}
use Rattle.shared_words.proofs.shared_words.SharedWords.deal.Given as goal

abbrev pub ghosts-leave_as : goal.ghosts-leave_as
ghosts-leave_as g a = record { who = a.who }

abbrev pub invariant-loop-caller : goal.invariant-loop-caller
invariant-loop-caller g l =
    record {
      table : l.seat.table_id ≡ l.self.table.shared.table_id;
      left : (i : ℕ) → l.caller ≤ i → i < l.self.callers → has l.seat.me.0 i ≡ Some [];
      rooms : vec_len l.rooms + l.caller ≡ l.self.callers;
      clear : All (λ pairs. (pairs.items ≡ []) × (l.self.cap ≤ vec_capacity pairs)) l.rooms.items;
      count : vec_len l.passes ≡ l.caller;
      dealt : AreDealt caller_of_pass (IsNewPass l.self) l.caller l.passes.items;
      room : l.self.callers ≤ vec_capacity l.passes;
    }
