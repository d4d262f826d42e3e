-- What holds of a run that was made.
use Rattle.std.proofs.Common.{◌≡◌, ℕ, ◌+◌, ◌<◌, List, Option, length, inl, inr, sym, subst, arith}
use Rattle.std.proofs.lemmas.Bool.{cases_eq}
use Rattle.book_base.specs.Book.{Page}
use Rattle.book_base.specs.Order.{HasLegalOrder}
use Rattle.seq_objects.specs.declared.kind.Kind.{Kind}
use Rattle.seq_objects.specs.Objects.{kind_spec}
use Rattle.client_scripts.specs.Plans.{Plan}
use Rattle.world_core.specs.Shape.{Shape}
use Rattle.world_core.specs.Local.{Local}
use Rattle.report_lines.specs.Lawful.{IsLawful}
use Rattle.reports.specs.Findings.{Findings, IsWitness}
use Rattle.reports.proofs.LawfulErrors.{witnesses_have_no_order}
use Rattle.client_calls.specs.Asking.{own_count}
use Rattle.run_report.specs.Places.{AreInOrder}
use Rattle.run_report.specs.Starts.{run_allotments}
use Rattle.run_report.specs.Reporting.{outside_shape, IsReportOf, IsCountedIn}
use Rattle.run_report.proofs.Workers.{counted_told}
use Rattle.hunts.specs.Hunting.{IsRun, IsMade}

-- a report of the locals of a bench, with passes that count, over rows of the greatest cap
pub told_report : {T : Type 0} (made cap : T → ℕ) (told : T → Option (List (ℕ × ℕ))) (plan : Plan)
    (kind : Kind) (s : Shape) (locals : List Local) (passes : List T) (findings : Findings)
    → kind ≡ plan.kind → s ≡ outside_shape (length plan.operations)
    → IsReportOf (kind_spec kind) s locals plan (run_allotments plan) findings
    → AreInOrder (IsCountedIn (own_count made cap told) (run_allotments plan) findings) passes
    → IsRun made told plan passes findings
told_report made cap told plan kind s locals passes findings same shape is counted =
    let allotments = run_allotments plan in
    let by_kind : IsLawful (kind_spec plan.kind) s plan.operations allotments findings.lines
    = subst (λ (k : Kind). IsLawful (kind_spec k) s plan.operations allotments findings.lines) same
    is.lawful in
    record {
      kind = is.kind;
      lawful = subst (λ (t : Shape).
          IsLawful (kind_spec plan.kind) t plan.operations allotments findings.lines) shape by_kind;
      told_in = counted_told made cap told allotments findings passes counted;
    }

-- the witness of a run that was made has no legal order
pub made_no_order : {T : Type 0} (made : T → ℕ) (told : T → Option (List (ℕ × ℕ))) (plan : Plan)
    (findings : Findings) (book : List Page) → IsMade made told plan findings
    → IsWitness findings.lines book → ¬ HasLegalOrder (kind_spec plan.kind) book
made_no_order made told plan findings book is witness =
    witnesses_have_no_order (kind_spec plan.kind)
    (outside_shape (length plan.operations)) plan.operations
    (run_allotments plan) findings.lines book is.1.lawful witness

-- what holds of each number below one, and of that one, holds of each number below the next
pub below_next : (P : ℕ → Type 0) (n : ℕ) → ((k : ℕ) → k < n → P k) → P n → (k : ℕ)
    → k < n + 1 → P k
below_next P n below this k low =
    elim (cases_eq k n) [
      | inl same ↦ subst P (sym same) this
      | inr other ↦ below k (omega (arith, low, other))
    ]
