-- What peeks change in a caller, in its local and in the counter of steps, where no scan is under
-- way.
use Rattle.std.specs.Prelude.{◌≡◌, ℕ, ◌+◌, List, ◌++◌, None, length}
use Rattle.world_core.specs.Shape.{Meaning}
use Rattle.world_core.specs.Local.{Local, Peeked}
use Rattle.row_table.specs.declared.caller.Caller.{Caller}
use Rattle.row_table.specs.declared.rows.Rows.{Rows}
use Rattle.row_table.specs.Callers.{IsCallerOf, IsStill, local_with, stance_of}

-- The local with these further peeked words, before those that it had, since peeked words are
-- listed newest first.
abbrev pub with_peeked : Local → List Peeked → Local
with_peeked l more = record l { peeked = more ++ l.peeked }

-- The local `m` is the local `l` with further peeked words and no other change, and the counter of
-- steps has risen from `before` to `after` by the number of these words.
pub record HasOnlyPeeked (l m : Local) (before after : ℕ) : Type 0 where
  pub more : List Peeked
  pub local : m ≡ with_peeked l more
  pub ticks : after ≡ before + length more

module _ {P : Type 0} where
  -- The caller belongs to these rows and has no scan under way. (A scan under way might take a word
  -- that its caller peeks.)
  pub record IsReady (meaning : P → ℕ → ℕ → Meaning) (r : Rows P) (c : Caller P) : Type 0 where
    pub caller : IsCallerOf meaning r c
    pub unscanned : (local_with c).scan ≡ None

  -- The caller `d` is the caller `c`, changed by peeks and no other event. It belongs to these rows
  -- and has the number and the stance of `c`, and the counter of steps has risen by 1 for each of
  -- these peeks.
  pub record PeeksAlone (meaning : P → ℕ → ℕ → Meaning) (r : Rows P) (c d : Caller P)
      (before after : ℕ) : Type 0 where
    pub still : IsStill meaning r c d
    pub stance : stance_of d ≡ stance_of c
    pub peeks : HasOnlyPeeked (local_with c) (local_with d) before after

  -- The local of caller `d` is that of caller `c`, changed by peeks and no other event, and the
  -- counter of steps has risen by 1 for each of these peeks.
  abbrev pub OnlyPeeks : Caller P → Caller P → ℕ → ℕ → Type 0
  OnlyPeeks c d before after = HasOnlyPeeked (local_with c) (local_with d) before after
