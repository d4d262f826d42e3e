-- In a lawful report an error is final.
use Rattle.std.proofs.Common.{◌≡◌, ℕ, List, Some, inl, inr}
use Rattle.book_base.specs.declared.call.Call.{Call}
use Rattle.book_base.specs.SeqSpec.{SeqSpec}
use Rattle.book_base.specs.Cut.{IsWithin}
use Rattle.book_base.specs.Book.{Page}
use Rattle.legal_orders.proofs.BookAtLaws.{smaller_has_one}
use Rattle.world_core.specs.Shape.{Shape}
use Rattle.report_lines.specs.declared.line.Line.{Line}
use Rattle.report_lines.specs.Lines.{book_of_lines, delivered_at, error_at}
use Rattle.report_lines.specs.Lawful.{delivered_cut, IsLawful}
use Rattle.report_lines.specs.Reporting.{ErrorsAreFinal}
use Rattle.report_lines.proofs.Lines.{seen_from_delivered, seen_from_error}

module _ (spec : SeqSpec) (s : Shape) (operations : List (List ℕ)) (allotments : List ℕ)
    (lines : List (List Line)) (h : IsLawful spec s operations allotments lines) where
  never : (a b : Call) (x y : List ℕ) → delivered_at lines a ≡ Some x → error_at lines b ≡ Some y
      → IsWithin y x → ⊥
  never a b x y d e within =
      let top : List ℕ = delivered_cut s.callers lines in
      let book : List Page = book_of_lines lines in
      h.no_order b y e
      (smaller_has_one spec book y x h.valid within
      (smaller_has_one spec book x top h.valid (h.contains a x d) h.one_order))

  apart : (a b : Call) (x y : List ℕ) → delivered_at lines a ≡ Some x → error_at lines b ≡ Some y
      → IsWithin x y
  apart a b x y d e = elim (h.seen.comparable a b x y (seen_from_delivered lines a x d)
      (seen_from_error lines b y e)) [
        | inl within ↦ within
        | inr within ↦ absurd (never a b x y d e within)
      ]

pub errors_are_final : ErrorsAreFinal
errors_are_final spec s operations allotments lines a b x y h d e = (
  apart spec s operations allotments lines h a b x y d e,
  never spec s operations allotments lines h a b x y d e,
)
