-- The run of two whole calls, reported.
use Rattle.std.proofs.Common.{◌≡◌, ℕ, zero, suc, [], ◌∷◌, take, Some, slice_get, refl, subst, arith}
use Rattle.std.proofs.lemmas.Option.{none-some, same_Some}
use Rattle.book_base.specs.Cut.{IsWithin}
use Rattle.book_base.specs.BookAt.{book_at}
use Rattle.book_base.specs.Order.{HasLegalOrder}
use Rattle.legal_orders.proofs.BookAtLaws.{larger_has_none}
use Rattle.world_core.specs.World.{end_of}
use Rattle.world_core.specs.Calls.{AreTogether}
use Rattle.world_examples.specs.Schedules.{pair, two_calls, tenfold, silent}
use Rattle.world_examples.specs.JudgedRuns.{locals_after, both_answered}
use Rattle.world_laws.proofs.Validity.{books_are_valid}
use Rattle.world_examples.proofs.JudgedRuns.{both_together, delivered, silent_error}
use Rattle.report_lines.specs.declared.line.Line.{Line}
use Rattle.report_lines.specs.Lines.{book_of_lines, lines_at, IsJudged, AreLinesOf}
use Rattle.report_examples.specs.ReportedRuns.{both_delivered, both_failed, stopped, nothing}

-- what holds of two lines holds of each line of two callers with one line each
each_line : (P : Line → Type 0) (a b : Line) → P a → P b → (i k : ℕ) (line : Line)
    → slice_get (lines_at ((a ∷ []) ∷ (b ∷ []) ∷ []) i) k ≡ Some line → P line
each_line P a b h g zero zero line e = subst P (same_Some a line e) h
each_line P a b h g zero (suc k) line e = absurd (none-some line e)
each_line P a b h g (suc zero) zero line e = subst P (same_Some b line e) g
each_line P a b h g (suc zero) (suc k) line e = absurd (none-some line e)
each_line P a b h g (suc (suc i)) k line e = absurd (none-some line e)

no_line : (P : Line → Type 0) (i k : ℕ) (line : Line)
    → slice_get (lines_at nothing i) k ≡ Some line → P line
no_line P zero k line e = absurd (none-some line e)
no_line P (suc zero) k line e = absurd (none-some line e)
no_line P (suc (suc i)) k line e = absurd (none-some line e)

-- the book at the first seen cut is legal for the object that gives ten times the operation
pub first_is_legal : HasLegalOrder tenfold (book_at (1 ∷ 0 ∷ []) both_answered)
first_is_legal = (delivered 0 (1 ∷ 0 ∷ []) refl).2

pub second_is_legal : HasLegalOrder tenfold (book_at (1 ∷ 1 ∷ []) both_answered)
second_is_legal = (delivered 1 (1 ∷ 1 ∷ []) refl).2

pub delivered_lines : AreLinesOf tenfold (locals_after two_calls) both_delivered
delivered_lines = record {
  calls = refl;
  judged = λ call line e.
      each_line (λ (line : Line). IsJudged tenfold (book_of_lines both_delivered) line.end) _ _
      first_is_legal second_is_legal call.caller call.number line e;
}

-- the book at the first seen cut is illegal for the object that always gives 0
pub first_is_illegal : HasLegalOrder silent (book_at (1 ∷ 0 ∷ []) both_answered) → ⊥
first_is_illegal = silent_error

within : IsWithin (1 ∷ 0 ∷ []) (1 ∷ 1 ∷ [])
within zero = omega arith
within (suc zero) = omega arith
within (suc (suc i)) = omega arith

pub second_is_illegal : HasLegalOrder silent (book_at (1 ∷ 1 ∷ []) both_answered) → ⊥
second_is_illegal =
    larger_has_none silent both_answered (1 ∷ 0 ∷ []) (1 ∷ 1 ∷ [])
    (books_are_valid pair (locals_after two_calls) both_together) within first_is_illegal

pub failed_lines : AreLinesOf silent (locals_after two_calls) both_failed
failed_lines = record {
  calls = refl;
  judged = λ call line e.
      each_line (λ (line : Line). IsJudged silent (book_of_lines both_failed) line.end) _ _
      first_is_illegal second_is_illegal call.caller call.number line e;
}

-- the locals of the stopped callers are those of one reachable world
pub stopped_together : AreTogether pair (locals_after (take 24 two_calls))
stopped_together = (end_of pair (take 24 two_calls), (take 24 two_calls, refl, refl), refl)

pub stopped_lines : AreLinesOf silent (locals_after (take 24 two_calls)) stopped
stopped_lines = record {
  calls = refl;
  judged = λ call line e. each_line (λ (line : Line).
      IsJudged silent (book_of_lines stopped) line.end) _ _ tt tt call.caller call.number line e;
}

pub none_together : AreTogether pair (locals_after [])
none_together = (end_of pair [], ([], refl, refl), refl)

pub no_lines : AreLinesOf silent (locals_after []) nothing
no_lines = record {
  calls = refl;
  judged =
      λ call line e. no_line (λ (line : Line). IsJudged silent (book_of_lines nothing) line.end)
      call.caller call.number line e;
}
