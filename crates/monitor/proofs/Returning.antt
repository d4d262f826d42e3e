-- The two monitors of a bench, from before the run to after it.
use Rattle.std.proofs.Common.{◌≡◌, ◌∙◌, refl, sym, subst, inl, inr, ℕ, ◌+◌, ◌≤◌, Some, length, arith}
use Rattle.std.proofs.lemmas.Bool.{cases_lt}
use Rattle.book_base.specs.SeqSpec.{SeqSpec}
use Rattle.world_core.specs.Shape.{Meaning}
use Rattle.world_core.specs.Local.{Local}
use Rattle.row_table.specs.declared.rows.Rows.{Rows}
use Rattle.row_table.specs.declared.bench.Bench.{Bench}
use Rattle.row_table.specs.Callers.{on_bench, HoldsFree}
use Rattle.client_scripts.specs.Plans.{Plan}
use Rattle.run_report.specs.Starts.{AreAlikeFrom, IsUnused, MayBegin}
use Rattle.monitor.specs.declared.beside.Left.{Left}
use Rattle.monitor.specs.Beside.{IsBackFrom}
use Rattle.monitor.specs.Monitoring.{IsMonitor, HasWatched}

-- a monitor is the first or the second
pub each_monitor : (Is : ℕ → Type 0) (plan : Plan) → Is (length plan.operations)
    → Is (length plan.operations + 1) → (i : ℕ) → IsMonitor plan i → Is i
each_monitor Is plan one other i monitor =
    elim (cases_lt i (length plan.operations + 1)) [
      | inl low ↦ let same : length plan.operations ≡ i = omega (arith, low, monitor.after) in
          subst Is same one
      | inr high ↦ let same : length plan.operations + 1 ≡ i =
          omega (arith, high, monitor.before) in subst Is same other
    ]

-- where a run with two monitors may begin, they are unused
pub begins_unused : {P : Type 0} (meaning : P → ℕ → ℕ → Meaning) (plan : Plan) (r : Rows P)
    (b : Bench P) → MayBegin meaning plan 2 r b → (i : ℕ) → IsMonitor plan i → IsUnused b i
begins_unused meaning plan r b begins i monitor =
    begins.others i monitor.after (omega (arith, monitor.before, begins.callers))

-- once the script's callers have begun, a monitor is still free on the bench
pub free_on : {P : Type 0} (n : ℕ) (b s : Bench P) → AreAlikeFrom n b s → (i : ℕ) → n ≤ i
    → IsUnused b i → HoldsFree s i
free_on n b s started i high unused = record {
  local = unused.local;
  here = (started i high).0 ∙ unused.here;
  idle = unused.idle;
  stance = (started i high).1 ∙ unused.stance;
}

module _ {P : Type 0} (spec : SeqSpec) (callers n most : ℕ) (b s w e : Bench P)
    (started : AreAlikeFrom n b s) (ended : AreAlikeFrom n w e) (left : Left) (i k : ℕ)
    (same : k ≡ i) (high : n ≤ i)
    (back : (l : Local) → on_bench s k ≡ Some l → IsBackFrom spec callers w k l most left) where
  here_back : (l : Local) → on_bench s i ≡ Some l → IsBackFrom spec callers w i l most left
  here_back = subst (λ (j : ℕ). (l : Local) → on_bench s j ≡ Some l
      → IsBackFrom spec callers w j l most left) same back

  -- a monitor comes back as it was, without calls
  pub back_unused : IsUnused b i → IsUnused e i
  back_unused unused =
      let h = here_back unused.local ((started i high).0 ∙ unused.here) in
      record {
        local = h.local;
        here = (ended i high).0 ∙ h.here.here;
        stance = (ended i high).1 ∙ h.here.stance;
        idle = h.here.idle;
        none = h.progress ∙ unused.none;
      }

  -- a monitor that comes back has made its rounds, or was cut short in one
  pub back_watched : (l : Local) → on_bench b i ≡ Some l → HasWatched spec callers e i l most left
  back_watched l here =
      let h = here_back l ((started i high).0 ∙ here) in
      record { local = h.local; here = (ended i high).0 ∙ h.here.here; rounds = h.rounds }

-- both monitors come back as they were, without calls
pub monitors_back : {P : Type 0} (spec : SeqSpec) (callers most : ℕ) (plan : Plan)
    (meaning : P → ℕ → ℕ → Meaning) (r : Rows P) (b s w e : Bench P) → MayBegin meaning plan 2 r b
    → AreAlikeFrom (length plan.operations) b s → AreAlikeFrom (length plan.operations) w e
    → (one other : Left) (k : ℕ) → k ≡ length plan.operations
    → ((l : Local) → on_bench s k ≡ Some l → IsBackFrom spec callers w k l most one)
    → ((l : Local) → on_bench s (k + 1) ≡ Some l → IsBackFrom spec callers w (k + 1) l most other)
    → (i : ℕ) → IsMonitor plan i → IsUnused e i
monitors_back spec callers most plan meaning r b s w e begins started ended one other k count
    back back_too =
    let n : ℕ = length plan.operations in
    each_monitor (λ i. IsUnused e i) plan
    (back_unused spec callers n most b s w e started ended one n k count (omega arith) back
    (begins_unused meaning plan r b begins n
    (record { after = omega arith; before = omega arith })))
    (back_unused spec callers n most b s w e started ended other (n + 1) (k + 1)
    (omega (arith, count)) (omega arith) back_too
    (begins_unused meaning plan r b begins (n + 1)
    (record { after = omega arith; before = omega arith })))
