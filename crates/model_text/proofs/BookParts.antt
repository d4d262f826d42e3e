-- The lines of calls within a model's text.
use Rattle.std.proofs.Common.{ℕ, List, [], ◌∷◌, refl}
use Rattle.book_base.specs.declared.call.Call.{Call}
use Rattle.book_base.specs.declared.fault.What.{What}
use Rattle.book_base.specs.Book.{Page}
use Rattle.text_fields.specs.declared.version.Version.TheVariants.{Second}
use Rattle.text_fields.specs.Faults.{ALine, IsWrong}
use Rattle.text_fields.proofs.Within.{AreWithin, wrong_alike}
use Rattle.book_text.specs.CallLines.{BookSoFar, CallPasses, call_wanted, call_rules}
use Rattle.model_text.specs.ModelWords.{model_operations}
use Rattle.model_text.specs.ModelBookRules.{InCalls, in_calls}
use Rattle.model_text.specs.ModelRules.{ModelDue, InBook, ModelPasses, model_wanted, model_rules}

-- how far the lines of calls are read, as a state of reading a model's text
abbrev pub at_calls : BookSoFar → ModelDue
at_calls progress = InBook (in_calls progress)

calls_right : (due after : BookSoFar) (words : List (List ℕ))
    → (call_rules Second model_operations).Passes due words after
    → ModelPasses (at_calls due) words (at_calls after)
calls_right due after words h = right_here due.book due.due h where
  right_here : (book : List Page) (calls : List Call)
      → CallPasses Second model_operations book calls words after
      → ModelPasses (InBook (InCalls book calls)) words (at_calls after)
  right_here book [] h = absurd h
  right_here book (call ∷ calls) h = (in_calls after, (after, h, refl), refl)

calls_wrong : (due : BookSoFar) (bytes : List ℕ) (what : What)
    → IsWrong (call_rules Second model_operations) due (call_wanted due.due) bytes what
    → IsWrong model_rules (at_calls due) (model_wanted (at_calls due)) bytes what
calls_wrong due bytes what h = wrong_here due.book due.due h where
  wrong_here : (book : List Page) (calls : List Call) → IsWrong (call_rules Second model_operations)
      (record { book = book; due = calls }) (call_wanted calls) bytes what
      → IsWrong model_rules (InBook (InCalls book calls)) ALine bytes what
  wrong_here book [] = λ h. absurd h
  wrong_here book (call ∷ calls) = wrong_alike (call_rules Second model_operations) model_rules
      (record { book = book; due = call ∷ calls }) (InBook (InCalls book (call ∷ calls)))
      (λ words what. (λ h. h, λ h. h)) bytes what

pub calls_within : AreWithin (call_rules Second model_operations) model_rules at_calls
calls_within = record { right = calls_right; wrong = calls_wrong }
