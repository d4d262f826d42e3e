use Rattle.std.proofs.Common.{◌≡◌, ℕ, ◌+◌, ◌<◌, ◌≤◌, [], length, take, None, vec_len, slice_index_or}
use Rattle.test_objects.specs.Scratches.{KeepsCapacity}
use Rattle.test_objects.specs.Replays.{list_after}
use Rattle.test_objects.specs.Changes.{waiting_count}
use Rattle.test_objects.specs.Late.{waiting_of, late_changes}
use Rattle.test_objects.proofs.late.Late.replay.Given as goal

abbrev pub invariant-loop-entry : goal.invariant-loop-entry
invariant-loop-entry g l =
    record {
      list : l.scratch.state.words ≡ list_after (g.S.SeqObject.spec l.self.object).next
          l.fn.scratch.state.words (late_changes [] (take l.entry-index l.log));
      waiting : (i : ℕ) → i < vec_len l.fn.scratch.waiting
          → slice_index_or l.scratch.waiting.items i None ≡ waiting_of i (take l.entry-index l.log);
      count : length l.scratch.state.words + waiting_count l.scratch.waiting.items
          ≤ length l.fn.scratch.state.words + l.entry-index;
      room : KeepsCapacity l.fn.scratch l.scratch;
    }
