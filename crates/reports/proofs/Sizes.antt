-- How many lines there are, at most.
use Rattle.std.proofs.Common.{◌≡◌, ℕ, ◌+◌, ◌*◌, ◌<◌, ◌≤◌, ◌^◌, List, [], ◌∷◌, length, take, sum_by, ap, arith}
use Rattle.std.proofs.lemmas.List.Sums.{sum_by-cons, sum_by_more_le}
use Rattle.text_fields.specs.Counts.{AreAtMost}
use Rattle.report_lines.specs.declared.line.Line.{Line}
use Rattle.report_lines.specs.Lines.{lines_at}
use Rattle.reports.specs.Findings.{sizes, Findings, IsReport}

sum_by-few : (count : List Line → ℕ) → ((own : List Line) → count own ≤ length own)
    → (lines : List (List Line)) → AreAtMost 256 (sizes lines)
    → sum_by count lines ≤ 256 * length lines
sum_by-few count few [] h = omega arith
sum_by-few count few (own ∷ lines) h =
    omega (arith, sum_by-cons count own lines, few own, h.0, sum_by-few count few lines h.1)

-- what is counted of the first callers' lines, and of one caller's more, is a number of 64 bits
pub counted_fits : (count : List Line → ℕ) → ((own : List Line) → count own ≤ length own)
    → (findings : Findings) (i total : ℕ) (own : List Line) → IsReport findings
    → i < length findings.lines
    → total ≡ sum_by count (take i findings.lines) → own ≡ lines_at findings.lines i
    → total + count own < 2 ^ 64
counted_fits count few findings i total own is low so_far here =
    omega (
      arith,
      so_far,
      ap count here,
      sum_by_more_le count findings.lines i [] low,
      sum_by-few count few findings.lines is.calls,
      is.callers,
    )
