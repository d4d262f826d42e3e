-- What the callers of a plan that are back have left is their report.
use Rattle.std.proofs.Common.{◌≡◌, sym, subst, refl, ℕ, false, List, length, arith}
use Rattle.std.specs.Prelude.{Option}
use Rattle.std.specs.List.{All}
use Rattle.std.proofs.lemmas.List.{length-map}
use Rattle.std.proofs.lemmas.Option.{slice_get_within}
use Rattle.book_base.specs.SeqSpec.{SeqSpec}
use Rattle.world_core.specs.Shape.{Shape, Meaning}
use Rattle.world_core.specs.Programs.{outside}
use Rattle.world_core.specs.Calls.{AreTogether}
use Rattle.text_fields.specs.declared.version.Version.TheVariants.{Second}
use Rattle.report_lines.specs.declared.line.Line.{Line}
use Rattle.report_lines.specs.Lines.{AreLinesOf}
use Rattle.report_lines.specs.Lawful.{IsLawful}
use Rattle.report_lines.specs.Working.{HaveWorked}
use Rattle.report_lines.proofs.Workers.{workers_leave_the_lines, workers_are_lawful}
use Rattle.row_table.specs.declared.rows.Rows.{Rows}
use Rattle.row_table.specs.declared.bench.Bench.{Bench}
use Rattle.row_table.specs.Callers.{shape_of, locals_on, IsBenchOf}
use Rattle.row_table.proofs.Parting.{whole_is_together}
use Rattle.client_scripts.specs.Plans.{Plan, IsPlan}
use Rattle.client_calls.specs.Asking.{Fits, PassCount}
use Rattle.client_calls.specs.Ends.{SaysJudged}
use Rattle.run_report.specs.Starts.{course_of}
use Rattle.run_report.specs.Returns.{AreBack}
use Rattle.reports.specs.declared.report.Own.{Own}
use Rattle.reports.specs.ReportLayout.{lines_in, findings_in}
use Rattle.reports.specs.Findings.{Findings, IsReport}
use Rattle.run_report.specs.Replies.{HasWord}
use Rattle.run_report.specs.Reporting.{outside_shape, IsRunReport}
use Rattle.run_report.proofs.Workers.{have_worked, keeps_asked, free_again, told_in}
use Rattle.run_report.proofs.Reports.{words_of_all, is_report}

module _ {P T : Type 0} (meaning : P → ℕ → ℕ → Meaning) (r : Rows P) (b : Bench P) (plan : Plan)
    (allotments : List ℕ) (object : SeqSpec) (fit : Fits T) (count : T → Option PassCount)
    (passes : List T) (items : List Own) (valid : IsPlan Second plan)
    (callers : r.callers ≡ length plan.operations) (bench : IsBenchOf meaning r b)
    (back : AreBack meaning r SaysJudged fit count (length plan.operations) (length plan.operations)
    (course_of plan allotments object) b passes (lines_in items) false)
    (all_lines : length items ≡ length plan.operations) where
  abbrev lines : List (List Line)
  lines = lines_in items

  long : length lines ≡ length plan.operations
  long = omega (arith, all_lines, length-map items (λ (o : Own). o.lines.items))

  together : AreTogether (shape_of meaning r) (locals_on b)
  together = whole_is_together (shape_of meaning r) b.seat.me.0 bench.wide
      (λ i low. let h = back.back i (omega (arith, low, callers)) in (h.on.local, h.on.here))
      bench.together

  have : HaveWorked object (shape_of meaning r) plan.operations allotments (locals_on b) lines
  have = have_worked meaning r fit count (course_of plan allotments object) b passes lines
      (length plan.operations) callers long back

  of : AreLinesOf object (locals_on b) lines
  of = workers_leave_the_lines object
      (shape_of meaning r) plan.operations allotments (locals_on b) lines together have

  lawful : IsLawful object (shape_of meaning r) plan.operations allotments lines
  lawful = workers_are_lawful object
      (shape_of meaning r) plan.operations allotments (locals_on b) lines together have

  pub fits : All (λ (own : Own). All (λ (line : Line). HasWord line.end) own.lines.items) items
      → IsReport (findings_in plan.kind items)
  fits words = is_report object (shape_of meaning r) (locals_on b) plan allotments
      lines valid callers together of lawful (words_of_all items words)

  -- the findings that are made of these lines are the report of the run
  pub reported : (f : Findings) → f ≡ findings_in plan.kind items
      → length passes ≡ length plan.operations
      → IsRunReport object meaning r count plan allotments b passes f
  reported f same all =
      let course = course_of plan allotments object in
      subst (λ (x : Findings). IsRunReport object meaning r count plan allotments b passes x)
      (sym same) (record {
        report = record {
          kind = refl;
          together = together;
          lines = of;
          made = λ i low. (have.worked i low).made;
          asked = λ i low. keeps_asked meaning r fit count course b passes lines i
              (back.back i (omega (arith, low, callers)));
          lawful = lawful;
        };
        free = λ i low. free_again meaning r fit count course b passes lines plan.kind i
            (back.back i low);
        counted = λ i pass there. told_in meaning r fit count course b passes lines plan.kind i pass
            there (back.back i (omega (arith, all, slice_get_within passes i pass there)));
      })

-- rows with the greatest cap are those of a world with the shape for this many callers
pub outside_shapes : (callers cap n : ℕ) → callers ≡ n → cap ≡ 256
    → ◌≡◌ {A = Shape} (record { callers = callers; cap = cap; program = outside }) (outside_shape n)
outside_shapes callers cap n all most =
    λ i. record { callers = all i; cap = most i; program = outside }
