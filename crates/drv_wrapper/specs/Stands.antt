-- The stances of a caller between its steps, and callers that have stayed the same.
use Rattle.std.specs.Prelude.{◌≡◌, ℕ, Some, false}
use Rattle.row_table.specs.declared.stance.Stance.{Stance}
use Rattle.row_table.specs.declared.caller.Caller.{Caller}
use Rattle.row_table.specs.Benches.{fresh_stance}
use Rattle.row_table.specs.Callers.{who_of, local_with, stance_of, StaysWith}

-- The stance of a caller that makes calls, means to begin no scan, and keeps no reply.
abbrev pub ready : Stance
ready = fresh_stance

-- The stance of a caller that makes calls, means to begin no scan, and keeps this reply of the
-- object.
abbrev pub replied : ℕ → Stance
replied reply = record fresh_stance { reply = Some reply }

module _ {P : Type 0} where
  -- Caller `d` has the number and the local of caller `c`, and belongs to each table to which `c`
  -- belongs.
  pub record IsSame (c d : Caller P) : Type 0 where
    pub who : who_of d ≡ who_of c
    pub local : local_with d ≡ local_with c
    pub rows : StaysWith c d

  -- Caller `d` is caller `c` after it was halted: it makes no more calls; its number, its local and
  -- the rest of its stance are those of `c`; and it belongs to each table to which `c` belongs.
  pub record IsStopped (c d : Caller P) : Type 0 where
    pub same : IsSame c d
    pub stance : stance_of d ≡ record (stance_of c) { live = false }
