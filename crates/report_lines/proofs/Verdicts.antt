-- The verdicts of lines are on the books at their seen cuts.
use Rattle.std.proofs.Common.{◌≡◌, refl, subst, ℕ, List, Option, Some, None}
use Rattle.std.specs.Prelude.{option_and_then}
use Rattle.std.proofs.lemmas.Option.{none-some, same_Some}
use Rattle.book_base.specs.declared.call.Call.{Call}
use Rattle.book_base.specs.SeqSpec.{SeqSpec}
use Rattle.book_base.specs.Book.{Page}
use Rattle.book_base.specs.BookAt.{book_at}
use Rattle.book_base.specs.Order.{HasLegalOrder}
use Rattle.report_lines.specs.declared.line.LineEnd.{LineEnd}
use Rattle.report_lines.specs.declared.line.LineEnd.TheVariants.{Pending, Unchecked, Delivered, Error}
use Rattle.report_lines.specs.declared.line.Line.{Line}
use Rattle.report_lines.specs.Lines.{line_at, book_of_lines, seen_in, delivered_in, error_in, IsJudged, VerdictsAreAtSeenCuts}

module _ (spec : SeqSpec) (book : List Page) (cut : List ℕ) where
  -- what a verdict with this cut of an error, or of a delivered line, says of this end
  abbrev AtTheCut : Option (List ℕ) → Option (List ℕ) → Option (List ℕ) → Type 0
  AtTheCut error delivered seen =
      (error ≡ Some cut → (seen ≡ Some cut) × ¬ HasLegalOrder spec (book_at cut book))
      × (delivered ≡ Some cut → (seen ≡ Some cut) × HasLegalOrder spec (book_at cut book))

  of_end : (end : LineEnd) → IsJudged spec book end
      → AtTheCut (error_in end) (delivered_in end) (seen_in end)
  of_end Pending judged = (λ is. absurd (none-some cut is), λ is. absurd (none-some cut is))
  of_end (Unchecked r) judged = (λ is. absurd (none-some cut is), λ is. absurd (none-some cut is))
  of_end (Delivered r seen) judged = (
    λ is. absurd (none-some cut is),
    λ is. (
      is,
      subst (λ (c : List ℕ). HasLegalOrder spec (book_at c book)) (same_Some seen cut is) judged,
    ),
  )
  of_end (Error r seen) judged = (
    λ is. (
      is,
      subst (λ (c : List ℕ). ¬ HasLegalOrder spec (book_at c book)) (same_Some seen cut is) judged,
    ),
    λ is. absurd (none-some cut is),
  )

  of_line : (found : Option Line)
      → ((line : Line) → found ≡ Some line → IsJudged spec book line.end)
      → AtTheCut (option_and_then (λ (line : Line). error_in line.end) found)
      (option_and_then (λ (line : Line). delivered_in line.end) found)
      (option_and_then (λ (line : Line). seen_in line.end) found)
  of_line None judged = (λ is. absurd (none-some cut is), λ is. absurd (none-some cut is))
  of_line (Some line) judged = of_end line.end (judged line refl)

pub verdicts_are_at_seen_cuts : VerdictsAreAtSeenCuts
verdicts_are_at_seen_cuts spec locals lines call cut are =
    of_line spec (book_of_lines lines) cut (line_at lines call) (are.judged call)
