use Rattle.std.proofs.Common.{ℕ, ◌<◌}
use Rattle.level_refutations.specs.Closed.{LeadsInside, table_of}
use Rattle.level_refutations.proofs.table.StoredTable.first_open_at.Given as goal

abbrev pub invariant-loop-caller : goal.invariant-loop-caller
invariant-loop-caller l = (i : ℕ) → i < l.caller
    → LeadsInside l.book (table_of l.book l.entries) l.node i
