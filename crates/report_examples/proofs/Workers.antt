-- The run in which one caller is stopped before it judges, and the other judges by what it peeked.
use Rattle.std.proofs.Common.{◌≡◌, ℕ, zero, suc, ◌<◌, List, [], ◌∷◌, get_or, length, Some, slice_index, refl, arith}
use Rattle.std.proofs.lemmas.Option.{slice_get-get_or}
use Rattle.std.proofs.lemmas.List.Elements.{All-cons, All-nil}
use Rattle.book_base.specs.declared.call.Record.{Record}
use Rattle.book_base.specs.Book.{page_of, record_of}
use Rattle.world_core.specs.World.{end_of}
use Rattle.world_core.specs.Calls.{AreTogether, local_at}
use Rattle.world_examples.specs.Schedules.{pair, two_calls, tenfold, local_at as local_after}
use Rattle.world_examples.specs.JudgedRuns.{locals_after, both_answered}
use Rattle.world_examples.proofs.GatheredBook.{gathered}
use Rattle.report_lines.specs.declared.line.LineEnd.TheVariants.{Delivered}
use Rattle.report_lines.specs.declared.line.Line.{Line}
use Rattle.reports.specs.Cases.{unchecked, delivered}
use Rattle.report_examples.specs.Lines.{call}
use Rattle.report_lines.specs.Workers.{IsJudgedBy, HasWorked}
use Rattle.report_lines.specs.Working.{HaveWorked}
use Rattle.report_examples.specs.ReportedRuns.{five_and_six, fifty, sixty, one_unchecked, one_judging}
use Rattle.report_examples.proofs.ReportedRuns.{second_is_legal}
use Rattle.report_lines.proofs.Workers.{workers_go_through}

pub judging_together : AreTogether pair (locals_after one_judging)
judging_together = (end_of pair one_judging, (one_judging, refl, refl), refl)

pub read : IsJudgedBy tenfold 2 (local_after one_judging 1) (Delivered sixty (1 ∷ 1 ∷ []))
read = (both_answered, gathered, second_is_legal)

first_worked : HasWorked tenfold 2 (5 ∷ []) 4 (local_after one_judging 0) (unchecked 5 fifty ∷ [])
first_worked =
    workers_go_through tenfold 2 (5 ∷ []) 4 (local_after one_judging 0)
    (unchecked 5 fifty ∷ []) refl refl (record { in_order = refl; marks = refl; published = refl })
    (All-cons (λ (line : Line). IsJudgedBy tenfold 2 (local_after one_judging 0) line.end)
    (unchecked 5 fifty) [] tt
    (All-nil (λ (line : Line). IsJudgedBy tenfold 2 (local_after one_judging 0) line.end)))

second_worked : HasWorked tenfold 2 (6 ∷ []) 5 (local_after one_judging 1)
    (delivered 6 sixty (1 ∷ 1 ∷ []) ∷ [])
second_worked =
    workers_go_through tenfold 2 (6 ∷ []) 5 (local_after one_judging 1)
    (delivered 6 sixty (1 ∷ 1 ∷ []) ∷ []) refl refl
    (record { in_order = refl; marks = refl; published = refl })
    (All-cons (λ (line : Line). IsJudgedBy tenfold 2 (local_after one_judging 1) line.end)
    (delivered 6 sixty (1 ∷ 1 ∷ [])) [] read
    (All-nil (λ (line : Line). IsJudgedBy tenfold 2 (local_after one_judging 1) line.end)))

pub both_worked : HaveWorked tenfold pair five_and_six (4 ∷ 5 ∷ [])
    (locals_after one_judging) one_unchecked
both_worked = record { callers = refl; worked = each }
  where
    each : (i : ℕ) → i < 2
        → HasWorked tenfold 2 (get_or five_and_six i []) (slice_index (4 ∷ 5 ∷ []) i)
        (local_at (locals_after one_judging) i) (get_or one_unchecked i [])
    each zero low = first_worked
    each (suc zero) low = second_worked
    each (suc (suc i)) low = absurd (omega (arith, low))

-- caller 1, before it peeked, has gathered no book by which this delivered line is judged
pub unread : IsJudgedBy tenfold 2 (local_after two_calls 1) (Delivered sixty (1 ∷ 1 ∷ [])) → ⊥
unread h =
    let records : List Record = (page_of h.0 0).records in
    let one : length records ≡ 1 = h.1.records 0 (omega arith) in
    let there : record_of h.0 (call 0 0) ≡ Some (get_or records 0 fifty) =
    slice_get-get_or records 0 fifty (omega (arith, one)) in
    let peeked = h.1.replies (call 0 0) (get_or records 0 fifty) there in
    let low : peeked.0 < 0 = peeked.1 in
    absurd (omega (arith, low))
