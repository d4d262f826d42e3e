-- Laws of refutations, and of their texts.
use Rattle.std.specs.Prelude.{◌≡◌, ℕ, List}
use Rattle.book_base.specs.declared.fault.TextFault.{TextFault}
use Rattle.book_base.specs.Book.{Page}
use Rattle.book_base.specs.Order.{HasLegalOrder}
use Rattle.seq_objects.specs.declared.kind.Kind.{Kind}
use Rattle.seq_objects.specs.Objects.{kind_spec}
use Rattle.refutation_text.specs.Said.{StepSaid, EndingSaid}
use Rattle.refutation_text.specs.RefutationRules.{IsFirstRefutationFault, IsRefutationText}
use Rattle.refutation_text.specs.Steps.{LeaveAfter}
use Rattle.refutation_text.specs.Verdicts.{IsRefutation}

-- Where a book has a legal order, each part that steps leave of it has one.
abbrev pub StepsLeaveALegalOrder : Type 0
StepsLeaveALegalOrder =
    (kind : Kind) (book part : List Page) (steps : List StepSaid) (s : ℕ) (names : List (List ℕ))
    → LeaveAfter kind book steps s names part
    → HasLegalOrder (kind_spec kind) book → HasLegalOrder (kind_spec kind) part

-- A book with a right refutation has no legal order.
abbrev pub RefutedBooksHaveNoOrder : Type 0
RefutedBooksHaveNoOrder =
    (kind : Kind) (book : List Page) (steps : List StepSaid) (ending : EndingSaid)
    → IsRefutation kind book steps ending → HasLegalOrder (kind_spec kind) book → ⊥

-- Bytes have one first fault at most as the text of a refutation.
abbrev pub OneFirstFault : Type 0
OneFirstFault = (bytes : List ℕ) (a b : TextFault) → IsFirstRefutationFault bytes a
    → IsFirstRefutationFault bytes b → a ≡ b

-- A refutation's text has no fault.
abbrev pub NoFaultOfAText : Type 0
NoFaultOfAText =
    (bytes : List ℕ) (kind : Kind) (book : List Page) (steps : List StepSaid)
    (ending : EndingSaid) (fault : TextFault) → IsRefutationText bytes kind book steps ending
    → IsFirstRefutationFault bytes fault → ⊥
