-- When a caller may make a step on an object word.
use Rattle.std.specs.Prelude.{◌≡◌, ℕ, ◌<◌, ◌^◌, IsTrue, None}
use Rattle.world_core.specs.Shape.{Meaning}
use Rattle.world_core.specs.Local.{Asking}
use Rattle.row_table.specs.declared.caller.Caller.{Caller}
use Rattle.row_table.specs.declared.rows.Rows.{Rows}
use Rattle.row_table.specs.Callers.{shape_of, who_of, local_with, stance_of}

module _ {P : Type 0} where
  -- The caller has announced its call, and keeps no reply of the object yet.
  pub record IsAsking (c : Caller P) : Type 0 where
    pub asking : (local_with c).phase ≡ Asking
    pub unreplied : (stance_of c).reply ≡ None

  -- The program allows the caller a step on the object word at a place that makes `g x` of the word
  -- `x` found there, for each word `x`.
  abbrev pub MayStep : (P → ℕ → ℕ → Meaning) → Rows P → Caller P → ℕ → (ℕ → ℕ) → Type 0
  MayStep meaning r c place g =
      (x : ℕ) → x < 2 ^ 64 → IsTrue ((shape_of meaning r).program.may_step (who_of c) (local_with c)
      (record { place = place; old = x; new = g x }))
