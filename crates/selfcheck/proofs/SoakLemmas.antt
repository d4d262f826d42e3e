-- All calls of a soak's script are delivered.
use Rattle.std.proofs.Common.{◌≡◌, ◌∙◌, ap, refl, ℕ, zero, suc, ◌+◌, ◌<◌, cond, Bool, true, false, List, [], ◌∷◌, length, map, slice_index, codes, lit<, arith}
use Rattle.std.specs.Prelude.{is_some, replicate}
use Rattle.std.specs.Fmt.{digits}
use Rattle.std.specs.List.{list_any, sum_by, count_by}
use Rattle.std.proofs.lemmas.Bool.{or_parts, cond-false}
use Rattle.std.proofs.lemmas.List.Sums.{sum_by-cons}
use Rattle.report_lines.specs.declared.line.Line.{Line}
use Rattle.report_lines.specs.declared.line.LineEnd.{LineEnd}
use Rattle.report_lines.specs.declared.line.LineEnd.TheVariants.{Pending, Unchecked, Delivered, Error}
use Rattle.report_lines.specs.Lines.{made_of, reached_of, lines_at, delivered_in, error_in, is_error, any_error}
use Rattle.report_lines.specs.Phases.{mark_of, Seen, marks_of, marks_after}
use Rattle.report_lines.specs.Allotments.{phases_of}
use Rattle.reports.specs.Findings.{Findings}
use Rattle.reports.specs.Tally.{is_delivered, counts_of}
use Rattle.test_objects.specs.declared.behaviour.Behaviour.TheVariants.{Lawful}
use Rattle.run_report.specs.Starts.{run_allotments}
use Rattle.named_runs.specs.Runs.{counts_text}
use Rattle.named_runs.proofs.RunLemmas.{no_error_of}
use Rattle.named_runs.specs.BehaviourRuns.{IsNamedRunReport}
use Rattle.selfcheck.specs.ScriptInput.{soak_plan}

-- a line that has seen a cut and is no error is delivered
delivered_end : (end : LineEnd) → mark_of (reached_of end) ≡ Seen → is_some (error_in end) ≡ false
    → is_some (delivered_in end) ≡ true
delivered_end Pending seen right = cc
delivered_end (Unchecked r) seen right = cc
delivered_end (Delivered r cut) seen right = refl
delivered_end (Error r cut) seen right = cc

-- These are n lines, all of them delivered and none an error.
record AreDelivered (n : ℕ) (own : List Line) : Type 0 where
  all : length own ≡ n
  delivered : count_by is_delivered own ≡ n
  errors : count_by is_error own ≡ 0

-- the lines of a caller are all delivered where it has seen a cut for each of its n calls, and no
-- line is an error
all_delivered : (n : ℕ) (own : List Line) → marks_of (map made_of own) ≡ replicate n Seen
    → any_error own ≡ false → AreDelivered n own
all_delivered zero [] marks right = record { all = refl; delivered = refl; errors = refl }
all_delivered zero (line ∷ own) marks right = absurd (cc)
all_delivered (suc n) [] marks right = absurd (cc)
all_delivered (suc n) (line ∷ own) marks right =
    let parts = or_parts (is_error line) (any_error own) right in
    let seen : mark_of (reached_of line.end) ≡ Seen = cc in
    let rest = all_delivered n own (cc) parts.1 in
    let here : ◌≡◌ {A = ℕ} (cond (is_delivered line) 1 0) 1 =
    ap (λ (b : Bool). cond b 1 0) (delivered_end line.end seen parts.0) in
    let no : ◌≡◌ {A = ℕ} (cond (is_error line) 1 0) 0 = ap (λ (b : Bool). cond b 1 0) parts.0 in
    record {
      all = ap suc rest.all;
      delivered = omega (
        arith,
        sum_by-cons (λ (l : Line). cond (is_delivered l) 1 0) line own,
        here,
        rest.delivered,
      );
      errors = omega
          (arith, sum_by-cons (λ (l : Line). cond (is_error l) 1 0) line own, no, rest.errors);
    }

-- a sum over four callers that each have c is four times c
over_four : (f : List Line → ℕ) (c : ℕ) (lines : List (List Line)) → length lines ≡ 4
    → ((i : ℕ) → i < 4 → f (lines_at lines i) ≡ c) → sum_by f lines ≡ c + c + c + c
over_four f c [] long each = absurd (omega (arith, long))
over_four f c (a ∷ []) long each = absurd (omega (arith, long))
over_four f c (a ∷ b ∷ []) long each = absurd (omega (arith, long))
over_four f c (a ∷ b ∷ d ∷ []) long each = absurd (omega (arith, long))
over_four f c (a ∷ b ∷ d ∷ e ∷ []) long each =
    omega (arith, each 0 (lit< tt), each 1 (lit< tt), each 2 (lit< tt), each 3 (lit< tt))
over_four f c (a ∷ b ∷ d ∷ e ∷ g ∷ lines) long each = absurd (omega (arith, long))

-- each caller of a soak may make all five phases of its 32 calls
soak_allotment : (number i : ℕ) → i < 4 → slice_index (run_allotments (soak_plan number)) i ≡ 160
soak_allotment number zero low = refl
soak_allotment number (suc zero) low = refl
soak_allotment number (suc (suc zero)) low = refl
soak_allotment number (suc (suc (suc zero))) low = refl
soak_allotment number (suc (suc (suc (suc i)))) low = absurd (omega (arith, low))

-- the counts of a soak's report
pub soak_counts : (number : ℕ) (findings : Findings)
    → IsNamedRunReport Lawful (soak_plan number) findings
    → counts_of findings.lines ≡ record { calls = 128; delivered = 128; errors = 0 }
soak_counts number findings is =
    let lawful = is.named.report.lawful in
    let none : list_any any_error findings.lines ≡ false = is.no_error refl in
    let each : (i : ℕ) → i < 4 → AreDelivered 32 (lines_at findings.lines i) =
    λ i low.
    let right : any_error (lines_at findings.lines i) ≡ false = no_error_of findings.lines i none in
    let allotment : ℕ = slice_index (run_allotments (soak_plan number)) i in
    let own : List Line = lines_at findings.lines i in
    let phases : phases_of allotment own ≡ 160 =
    cond-false (any_error own) _ _ right ∙ soak_allotment number i low in
    all_delivered 32 own ((lawful.allotted i low).marks ∙ ap marks_after phases) right in
    let calls : sum_by length findings.lines ≡ 128 = over_four (λ (own : List Line). length own) 32
    findings.lines lawful.callers (λ i low. (each i low).all) in
    let delivered : sum_by (count_by is_delivered) findings.lines ≡ 128 = over_four
    (count_by is_delivered) 32 findings.lines lawful.callers (λ i low. (each i low).delivered) in
    let errors : sum_by (count_by is_error) findings.lines ≡ 0 =
    over_four (count_by is_error) 0 findings.lines lawful.callers (λ i low. (each i low).errors) in
    λ j. record { calls = calls j; delivered = delivered j; errors = errors j }

-- the line of these counts is the output of a soak
pub soak_line : counts_text (record { calls = 128; delivered = 128; errors = 0 })
    ≡ codes "calls 128 delivered 128 errors 0\n"
unfolding digits
soak_line = refl
