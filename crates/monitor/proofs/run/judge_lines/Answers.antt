use Rattle.std.proofs.Common.{◌∙◌, ap, List, length, arith}
use Rattle.std.proofs.lemmas.List.{length-map}
use Rattle.book_base.specs.Book.{Page}
use Rattle.report_lines.specs.Lines.{book_of_lines}
use Rattle.reports.specs.declared.report.Own.{Own}
use Rattle.reports.specs.ReportLayout.{lines_in}
use Rattle.monitor.proofs.Monitoring.{book_with_monitors, published_long}
use Rattle.monitor.proofs.run.judge_lines.Goals as goal

pub judge_at-requires-clause-wide : goal.judge_at-requires-clause-wide
judge_at-requires-clause-wide g c =
    let lines = lines_in c.args.lines.items in
    omega (
      arith,
      ap (length {A = _}) c.published_counts.ensures,
      published_long c.args.script.now,
      ap (length {A = Page})
          (c.in_ok-book.ensures ∙ ap (λ (all : List Own). book_of_lines (lines_in all))
          c.deref.ensures.value ∙ ap book_of_lines c.in_ok-add_monitors.ensures),
      book_with_monitors lines,
      length-map c.args.lines.items (λ (o : Own). o.lines.items),
      c.requires.callers,
    )
