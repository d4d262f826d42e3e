-- A bench has one report, and this can be shown in each form.
use Rattle.std.proofs.Common.{◌≡◌, ◌∙◌, refl, ap, subst, inr, ◌⊎◌, List, ℕ, ◌<◌, length, true, false}
use Rattle.std.specs.List.{list_any}
use Rattle.book_base.specs.SeqSpec.{SeqSpec}
use Rattle.world_core.specs.Shape.{Meaning, Shape}
use Rattle.world_core.specs.Local.{Local}
use Rattle.report_lines.specs.declared.line.Line.{Line}
use Rattle.report_lines.specs.Lines.{any_error}
use Rattle.report_lines.specs.Lawful.{IsLawful}
use Rattle.report_lines.proofs.Determined.{locals_determine_lines}
use Rattle.seq_objects.specs.declared.kind.Kind.{Kind}
use Rattle.seq_objects.specs.Objects.{kind_spec}
use Rattle.client_scripts.specs.Plans.{Plan}
use Rattle.reports.specs.Findings.{Findings}
use Rattle.row_table.specs.declared.rows.Rows.{Rows}
use Rattle.row_table.specs.declared.bench.Bench.{Bench}
use Rattle.row_table.specs.Callers.{shape_of, locals_on}
use Rattle.run_report.specs.Reporting.{IsReportOf, IsFreeAgain}
use Rattle.named_runs.proofs.CertificateLaws.{lawful_reports_have_an_order}
use Rattle.named_runs.specs.declared.form.Form.{Form}
use Rattle.named_runs.specs.declared.form.Form.TheVariants.{Report, Counts, Certificate}
use Rattle.byte_streams.specs.declared.status.Status.{Status}
use Rattle.byte_streams.specs.declared.status.Status.TheVariants.{Fine, Found, WriteFault, NoMemory}
use Rattle.named_runs.specs.Running.{IsBenchReport, EndsByReport}
use Rattle.named_runs.specs.Runs.{HasForm}

module _ (s : Shape) (locals : List Local) (plan : Plan) (allotments : List ℕ) where
  -- a report by the object of a kind that is the script's is one by the object of the script's kind
  pub by_its_kind : (kind : Kind) (f : Findings) → kind ≡ plan.kind
      → IsReportOf (kind_spec kind) s locals plan allotments f
      → IsReportOf (kind_spec plan.kind) s locals plan allotments f
  by_its_kind kind f same is = subst
      (λ (k : Kind). IsReportOf (kind_spec k) s locals plan allotments f) same is

  -- one report determines whether a line is an error in each report of the bench
  pub one_report : (spec : SeqSpec) (f g : Findings) → IsReportOf spec s locals plan allotments f
      → IsReportOf spec s locals plan allotments g
      → list_any any_error f.lines ≡ list_any any_error g.lines
  one_report spec f g a b =
      ap (λ (lines : List (List Line)). list_any any_error lines)
      (locals_determine_lines spec locals f.lines g.lines a.lines b.lines)

  -- one report determines which callers are free for their next calls
  pub one_standing : {P : Type 0} (b : Bench P) (spec : SeqSpec) (f g : Findings)
      → IsReportOf spec s locals plan allotments f → IsReportOf spec s locals plan allotments g
      → ((i : ℕ) → i < length plan.operations → IsFreeAgain b allotments f i) → (i : ℕ)
      → i < length plan.operations → IsFreeAgain b allotments g i
  one_standing b spec f g a other free i low =
      subst (λ (lines : List (List Line)).
      IsFreeAgain b allotments (record { kind = g.kind; lines = lines }) i)
      (locals_determine_lines spec locals f.lines g.lines a.lines other.lines) (free i low)

-- a lawful report can be shown in each form, by an equal object
pub has_form : {s : Shape} {operations : List (List ℕ)} {allotments : List ℕ}
    (object other : SeqSpec) (form : Form) (f : Findings) → object ≡ other
    → IsLawful object s operations allotments f.lines → HasForm other form f
has_form object other Report f same lawful = tt
has_form object other Counts f same lawful = tt
has_form object other Certificate f same lawful =
    subst (λ (o : SeqSpec). HasForm o Certificate f) same
    (lawful_reports_have_an_order object _ _ _ f.lines lawful)

-- where memory was wanted, no report determines the status
pub no_memory_ends : {P : Type 0} (object : SeqSpec) (meaning : P → ℕ → ℕ → Meaning) (rows : Rows P)
    (bench : Bench P) (plan : Plan) (allotments : List ℕ)
    → EndsByReport object meaning rows bench plan allotments NoMemory
no_memory_ends object meaning rows bench plan allotments =
    record {
      found = λ report is error. inr (inr refl);
      fine = λ report is none. inr (inr refl);
      free = λ some. absurd (some refl);
    }

-- a run ends by its report where it ends by one report of its bench
pub ends_by_one : {P : Type 0} (object : SeqSpec) (meaning : P → ℕ → ℕ → Meaning) (rows : Rows P)
    (bench : Bench P) (plan : Plan) (allotments : List ℕ) (status : Status) (one : Findings)
    → IsBenchReport object meaning rows bench plan allotments one
    → ((i : ℕ) → i < length plan.operations → IsFreeAgain bench allotments one i)
    → (list_any any_error one.lines ≡ true → (status ≡ Found) ⊎ (status ≡ WriteFault)
    ⊎ (status ≡ NoMemory)) → (list_any any_error one.lines ≡ false → (status ≡ Fine)
    ⊎ (status ≡ WriteFault) ⊎ (status ≡ NoMemory))
    → EndsByReport object meaning rows bench plan allotments status
ends_by_one object meaning rows bench plan allotments status one is free found fine =
    let same =
    λ (report : Findings) (of : IsBenchReport object meaning rows bench plan allotments report).
    one_report (shape_of meaning rows)
    (locals_on bench) plan allotments object one report is of in
    record {
      found = λ report of error. found (same report of ∙ error);
      fine = λ report of none. fine (same report of ∙ none);
      free = λ some report of. one_standing (shape_of meaning rows)
          (locals_on bench) plan allotments bench object one report is of free;
    }
