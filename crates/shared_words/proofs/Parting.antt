-- What is left in the first seat when a caller leaves it, and what comes back to it.
use Rattle.std.proofs.Common.{◌≡◌, ℕ, ◌<◌, List, [], length, slice_set, Some, None}
use Rattle.atomic_table.specs.Table.{Splits, Joins}
use Rattle.row_table.specs.Holders.{has, only, union_of}
use Rattle.row_table.proofs.Holders.{held_left, held_joined}
use Rattle.shared_words.specs.Deeds.{Deed}
use Rattle.shared_words.specs.Histories.{Access, View, known}
use Rattle.shared_words.specs.Rule.{Knows, Ruled}

-- a caller that the seat has leaves this seat
pub leaves : (may : ℕ → Deed → Type 0) (n count id : ℕ) (v : View) (who jw : ℕ) (h : List Access)
    → jw ≡ who → has v who ≡ Some h
    → Splits (Ruled may n count) id v (slice_set v jw None) (only jw (known (has v jw)))
leaves may n count id v who jw h is here t r at =
    record {
      history = r.history;
      long = r.long;
      left = r.left;
      callers = r.callers;
      lawful = r.lawful;
      hands = held_left (Knows n r.history) [] t.views id v who jw h r.hands at is here;
    }

-- a caller comes to a seat that lacks it
pub returns : (may : ℕ → Deed → Type 0) (n count id other : ℕ) (v w : View) (who : ℕ)
    (h : List Access) → w ≡ only who h → has v who ≡ None → who < length v
    → Joins (Ruled may n count) id v other w (union_of v w) []
returns may n count id other v w who h is gone low t r at apart there =
    record {
      history = r.history;
      long = r.long;
      left = r.left;
      callers = r.callers;
      lawful = r.lawful;
      hands = held_joined (Knows n r.history) t.views id other v w who h r.hands at apart there is
          gone low;
    }
