-- Laws of errors: the first one, and its witness.
use Rattle.std.specs.Prelude.{◌≡◌, ℕ, true, List}
use Rattle.std.specs.List.{list_any}
use Rattle.book_base.specs.declared.call.Call.{Call}
use Rattle.book_base.specs.Book.{Page}
use Rattle.report_lines.specs.declared.line.Line.{Line}
use Rattle.report_lines.specs.Lines.{any_error}
use Rattle.reports.specs.Findings.{IsFirstError, HasFirstError, IsWitness}

-- Where a line is an error there is a first error.
abbrev pub SomeErrorIsFirst : Type 0
SomeErrorIsFirst = (lines : List (List Line)) → list_any any_error lines ≡ true → (cut : List ℕ)
    × HasFirstError lines cut

-- Where there is a first error a line is an error.
abbrev pub FirstErrorsAreErrors : Type 0
FirstErrorsAreErrors = (lines : List (List Line)) (cut : List ℕ) → HasFirstError lines cut
    → list_any any_error lines ≡ true

-- Lines have at most one first error line, which has one seen cut.
abbrev pub FirstErrorIsOne : Type 0
FirstErrorIsOne = (lines : List (List Line)) (a b : Call) (x y : List ℕ) → IsFirstError lines a x
    → IsFirstError lines b y → (a ≡ b) × (x ≡ y)

-- Lines have at most one witness.
abbrev pub WitnessIsOne : Type 0
WitnessIsOne = (lines : List (List Line)) (a b : List Page) → IsWitness lines a
    → IsWitness lines b → a ≡ b
