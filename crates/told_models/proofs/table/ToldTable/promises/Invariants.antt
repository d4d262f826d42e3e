use Rattle.std.proofs.Common.{◌≡◌, ℕ, take}
use Rattle.std.specs.List.{list_any}
use Rattle.std.specs.BTreeSet.{contains}
use Rattle.told_models.specs.Table.{pair_order, is_same_pair}
use Rattle.told_models.proofs.table.ToldTable.promises.Given as goal

abbrev pub invariant-loop-k : goal.invariant-loop-k
invariant-loop-k l = (pair : ℕ × ℕ) → contains pair_order l.promises pair
    ≡ list_any (is_same_pair pair) (take l.k l.self-inside.promises.keys)
