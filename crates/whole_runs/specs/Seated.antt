-- Callers at a table, each with its pass of a log object.
use Rattle.std.specs.Prelude.{◌≡◌, ℕ, ◌<◌, List, Option, None, Some}
use Rattle.world_core.specs.Shape.{Meaning}
use Rattle.world_core.specs.Local.{fresh}
use Rattle.row_table.specs.declared.caller.Caller.{Caller}
use Rattle.row_table.specs.declared.rows.Rows.{Rows}
use Rattle.row_table.specs.Callers.{who_of, local_with, stance_of, IsCallerOf}
use Rattle.drv_wrapper.specs.Stands.{ready}
use Rattle.shared_words.specs.declared.entry.Entry.{Entry}
use Rattle.test_objects.specs.declared.scratch.Scratch.{Scratch}
use Rattle.test_objects.specs.declared.log_pass.LogPass.{LogPass}
use Rattle.test_objects.specs.declared.log_box.LogBox.{LogBox}
use Rattle.test_objects.specs.Passes.{caller_of_pass, made_with, cap_of_pass, IsPassOf}

module _ {P : Type 0} where
  -- A caller belongs to a table, and has the number `i` there.
  pub record IsAt (meaning : P → ℕ → ℕ → Meaning) (r : Rows P) (i : ℕ) (c : Caller P) : Type 0 where
    pub caller : IsCallerOf meaning r c
    pub who : who_of c ≡ i

  -- A caller has made no step, and is free for its first call.
  pub record IsNew (c : Caller P) : Type 0 where
    pub local : local_with c ≡ fresh
    pub stance : stance_of c ≡ ready

  -- There is a caller, and it has the number `i` at a table.
  abbrev pub IsThere : (P → ℕ → ℕ → Meaning) → Rows P → ℕ → Option (Caller P) → Type 0
  IsThere meaning r i None = ⊥
  IsThere meaning r i (Some c) = IsAt meaning r i c

  -- There is a caller, it has the number `i` at a table, and it has made no step.
  abbrev pub IsNewAt : (P → ℕ → ℕ → Meaning) → Rows P → ℕ → Option (Caller P) → Type 0
  IsNewAt meaning r i None = ⊥
  IsNewAt meaning r i (Some c) = IsAt meaning r i c × IsNew c

-- A pass is that of the caller `i` of a log object.
pub record IsFor {M : Type 0} (reply_to : M → List Entry → ℕ)
    (has_seen : M → List Entry → Scratch → Type 0) (b : LogBox M) (i : ℕ)
    (p : LogPass) : Type 0 where
  pub own : IsPassOf reply_to has_seen b p
  pub caller : caller_of_pass p ≡ i

-- A pass has made no call, and may make some.
pub record IsUnused (p : LogPass) : Type 0 where
  pub made : made_with p ≡ 0
  pub some : 0 < cap_of_pass p
