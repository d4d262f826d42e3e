-- What is written of runs that two monitors watch, over rows that were opened for them.
use Rattle.std.proofs.Common.{◌≡◌, subst, ℕ, ◌+◌, List, length, Option, arith}
use Rattle.world_core.specs.Shape.{Shape, Meaning}
use Rattle.world_core.specs.Local.{Local}
use Rattle.world_core.specs.Calls.{AreTogether}
use Rattle.seq_objects.specs.declared.kind.Kind.{Kind}
use Rattle.seq_objects.specs.Objects.{kind_spec}
use Rattle.client_scripts.specs.Plans.{Plan}
use Rattle.row_table.specs.declared.rows.Rows.{Rows}
use Rattle.row_table.specs.declared.bench.Bench.{Bench}
use Rattle.row_table.specs.Callers.{shape_of, locals_on, IsBenchOf, HoldsAll}
use Rattle.client_calls.specs.Asking.{own_count}
use Rattle.row_table.proofs.Parting.{whole_is_together}
use Rattle.byte_streams.specs.declared.status.Status.{Status}
use Rattle.byte_streams.specs.declared.status.Status.TheVariants.{Fine, Found, Usage, Refused, ReadFault, WriteFault, NoMemory}
use Rattle.byte_streams.specs.Writing.{EndsWriting}
use Rattle.byte_streams.proofs.WritingLemmas.{EndsWriting-weaker}
use Rattle.monitor.specs.Monitoring.{HaveBeenWatched}
use Rattle.monitor.specs.MonitorTexts.{IsMonitorText}
use Rattle.run_report.specs.Reporting.{outside_shape}
use Rattle.named_runs.specs.Shown.{Ended, Sees}
use Rattle.named_runs.specs.Monitored.{AreToldMonitored, IsMonitorOutput}

-- what holds of a status and a text, unless memory was wanted, holds of what is written
ends_where : (A B : Status → List ℕ → Type 0) (result : Status) (taken taken' : Option (List ℕ))
    → (¬ (result ≡ NoMemory) → (status : Status) (text : List ℕ) → A status text → B status text)
    → EndsWriting A result taken taken' → EndsWriting B result taken taken'
ends_where A B ReadFault taken taken' weaker ends = ends
ends_where A B NoMemory taken taken' weaker ends = ends
ends_where A B WriteFault taken taken' weaker ends =
    EndsWriting-weaker A B WriteFault taken taken' (weaker (λ e. absurd cc)) ends
ends_where A B Fine taken taken' weaker ends =
    EndsWriting-weaker A B Fine taken taken' (weaker (λ e. absurd cc)) ends
ends_where A B Found taken taken' weaker ends =
    EndsWriting-weaker A B Found taken taken' (weaker (λ e. absurd cc)) ends
ends_where A B Usage taken taken' weaker ends =
    EndsWriting-weaker A B Usage taken taken' (weaker (λ e. absurd cc)) ends
ends_where A B Refused taken taken' weaker ends =
    EndsWriting-weaker A B Refused taken taken' (weaker (λ e. absurd cc)) ends

-- what is written of some locals is written of any locals that include these
pub monitored-weaker : (A B : List Local → Type 0) (kind : Kind) (result : Status)
    (taken taken' : Option (List ℕ)) → ((locals : List Local) → A locals → B locals)
    → EndsWriting (IsMonitorOutput A kind) result taken taken'
    → EndsWriting (IsMonitorOutput B kind) result taken taken'
monitored-weaker A B kind result taken taken' weaker ends =
    EndsWriting-weaker (IsMonitorOutput A kind) (IsMonitorOutput B kind) result taken taken'
    (λ status text output. (output.0, weaker output.0 output.1, output.2)) ends

module _ {P T : Type 0} (meaning : P → ℕ → ℕ → Meaning) (r : Rows P) (b : Bench P) (first : Bench P)
    (made cap : T → ℕ) (told : T → Option (List (ℕ × ℕ))) (passes : List T) (plan : Plan)
    (shape : shape_of meaning r ≡ outside_shape (length plan.operations + 2))
    (bench : IsBenchOf meaning r b) (holds : HoldsAll b) where
  -- the locals on the bench are those of one reachable world
  together : AreTogether (outside_shape (length plan.operations + 2)) (locals_on b)
  together =
      subst (λ (s : Shape). AreTogether s (locals_on b)) shape
      (whole_is_together (shape_of meaning r) b.seat.me.0 bench.wide
      (λ i low. holds i (omega (arith, low, bench.callers))) bench.together)

  -- what is written of a bench that was opened for the run is written of locals of one reachable
  -- world
  pub told_ends : (shown shown' : Option (List Ended))
      → Sees shown (record { shape = shape_of meaning r; locals = locals_on b }) shown'
      → (result : Status) (taken taken' : Option (List ℕ))
      → (¬ (result ≡ NoMemory) → HaveBeenWatched (kind_spec plan.kind) (own_count made cap told)
      plan first b passes)
      → EndsWriting (IsMonitorText plan.kind (locals_on b)) result taken taken' → EndsWriting
      (IsMonitorOutput (AreToldMonitored told passes plan shown shown') plan.kind) result taken
      taken'
  told_ends shown shown' seen result taken taken' watched ends =
      ends_where (IsMonitorText plan.kind (locals_on b))
      (IsMonitorOutput (AreToldMonitored told passes plan shown shown') plan.kind) result taken
      taken'
      (λ some status text output. (
        locals_on b,
        record {
          monitored = record { together = together; made = (watched some).made };
          told_in = λ i pass there. ((watched some).counted i pass there).told_is;
          seen = subst (λ (s : Shape).
              Sees shown (record { shape = s; locals = locals_on b }) shown') shape seen;
        },
        output,
      ))
      ends
