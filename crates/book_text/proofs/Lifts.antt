-- The head and the calls of a book within its text.
use Rattle.std.proofs.Common.{ℕ, List, [], ◌∷◌, refl, arith, get_or, zero, suc, ◌≤◌}
use Rattle.std.specs.Prelude.{codes}
use Rattle.book_base.specs.declared.TheConstants.{MAX_CALLS}
use Rattle.book_base.specs.declared.call.Call.{Call}
use Rattle.book_base.specs.declared.fault.What.{What}
use Rattle.book_base.specs.Book.{Page}
use Rattle.seq_objects.specs.declared.kind.Kind.{Kind}
use Rattle.text_fields.specs.declared.version.Version.{Version}
use Rattle.text_fields.specs.declared.version.Version.TheVariants.{First, Second}
use Rattle.text_fields.specs.Version.{most_calls}
use Rattle.text_fields.specs.Counts.{AreAtMost}
use Rattle.text_fields.specs.Faults.{ALine, IsWrong}
use Rattle.text_fields.specs.Head.{head_rules}
use Rattle.text_fields.specs.Operations.{kind_operations}
use Rattle.text_fields.proofs.Within.{AreWithin, wrong_alike, head_is_within}
use Rattle.book_text.specs.CallLines.{BookSoFar, CallPasses, call_wanted, call_rules}
use Rattle.book_text.specs.BookRules.{InHead, InCalls, after_head, in_calls, BookPasses, book_wanted, book_rules}

pub few_calls : (version : Version) (calls : List ℕ) → AreAtMost (most_calls version) calls
    → (i : ℕ) → get_or calls i 0 ≤ MAX_CALLS
few_calls First [] h i = omega arith
few_calls First (c ∷ calls) h zero = omega (arith, h.0)
few_calls First (c ∷ calls) h (suc i) = few_calls First calls h.1 i
few_calls Second [] h i = omega arith
few_calls Second (c ∷ calls) h zero = omega (arith, h.0)
few_calls Second (c ∷ calls) h (suc i) = few_calls Second calls h.1 i

module _ (version : Version) where
  pub head_within :
      AreWithin (head_rules version (codes "book")) (book_rules version) after_head
  head_within = head_is_within version (codes "book") (book_rules version) InHead after_head
      refl refl (λ kind. refl) (λ kind n. refl) (λ due. refl)
      (λ due after words h. (after, h, refl)) (λ due words what. (λ h. h, λ h. h))

  module _ (kind : Kind) where
    calls_right : (due after : BookSoFar) (words : List (List ℕ))
        → (call_rules version (kind_operations version kind)).Passes due words after
        → BookPasses version (in_calls kind due) words (in_calls kind after)
    calls_right due after words h = right_here due.book due.due h where
      right_here : (book : List Page) (calls : List Call)
          → CallPasses version (kind_operations version kind) book calls words after
          → BookPasses version (InCalls kind book calls) words (in_calls kind after)
      right_here book [] h = absurd h
      right_here book (call ∷ calls) h = (after, h, refl)

    calls_wrong : (due : BookSoFar) (bytes : List ℕ) (what : What) → IsWrong
        (call_rules version (kind_operations version kind)) due (call_wanted due.due) bytes what
        → IsWrong (book_rules version) (in_calls kind due)
        (book_wanted (in_calls kind due)) bytes what
    calls_wrong due bytes what h = wrong_here due.book due.due h where
      wrong_here : (book : List Page) (calls : List Call)
          → IsWrong (call_rules version (kind_operations version kind))
          (record { book = book; due = calls }) (call_wanted calls) bytes what
          → IsWrong (book_rules version) (InCalls kind book calls) ALine bytes what
      wrong_here book [] = λ h. absurd h
      wrong_here book (call ∷ calls) =
          wrong_alike (call_rules version (kind_operations version kind)) (book_rules version)
          (record { book = book; due = call ∷ calls }) (InCalls kind book (call ∷ calls))
          (λ words what. (λ h. h, λ h. h)) bytes what

    pub calls_within : AreWithin (call_rules version (kind_operations version kind))
        (book_rules version) (in_calls kind)
    calls_within = record { right = calls_right; wrong = calls_wrong }
