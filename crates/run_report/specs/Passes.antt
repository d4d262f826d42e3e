-- The passes by which the callers of a run ask the object.
use Rattle.std.specs.Prelude.{◌≡◌, ℕ, ◌≤◌, List, length}
use Rattle.report_lines.specs.Allotments.{operations_at}
use Rattle.run_report.specs.Places.{AreInOrder}

-- A pass is the object's own, and the one of caller i.
pub record IsOwnPass {T : Type 0} (is_own : T → Type 0) (caller : T → ℕ) (i : ℕ)
    (pass : T) : Type 0 where
  pub own : is_own pass
  pub of : caller pass ≡ i

-- A pass is unused: it is the object's own and the one of caller i, no call was made with it, and
-- one may be made for each operation of that caller.
pub record IsUnusedPass {T : Type 0} (is_own : T → Type 0) (caller made cap : T → ℕ)
    (operations : List (List ℕ)) (i : ℕ) (pass : T) : Type 0 where
  pub own : is_own pass
  pub of : caller pass ≡ i
  pub none : made pass ≡ 0
  pub enough : length (operations_at operations i) ≤ cap pass

-- There is an unused pass for each caller, in order.
pub record AreUnusedPasses {T : Type 0} (is_own : T → Type 0) (caller made cap : T → ℕ)
    (operations : List (List ℕ)) (passes : List T) : Type 0 where
  pub as_many : length passes ≡ length operations
  pub each : AreInOrder (IsUnusedPass is_own caller made cap operations) passes
