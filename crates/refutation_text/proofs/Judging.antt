-- What a judging finds of a refutation is its verdict.
use Rattle.std.proofs.Common.{◌≡◌, ℕ, List, length, Option, Some, None, Result, Ok, Err, IfSome, refl, sym, subst, inl, inr}
use Rattle.std.specs.Prelude.{IfOk}
use Rattle.std.proofs.lemmas.List.{length-map}
use Rattle.book_base.specs.declared.fault.NoMemory.{NoMemory}
use Rattle.book_base.specs.Book.{Page}
use Rattle.seq_objects.specs.declared.kind.Kind.{Kind}
use Rattle.refutation_text.specs.declared.fault.RefutationFault.{RefutationFault}
use Rattle.refutation_text.specs.declared.part_steps.StepFault.{StepFault}
use Rattle.refutation_text.specs.declared.refutation.Step.{Step}
use Rattle.refutation_text.specs.declared.verdict.RefutationVerdict.TheVariants.{Illegal, Faulty}
use Rattle.refutation_text.specs.Said.{EndingSaid, step_said, steps_said}
use Rattle.refutation_text.specs.Steps.{LeaveAfter, IsFirstStepFault}
use Rattle.refutation_text.specs.Verdicts.{IsShown, EndingFails, step_fault, IsVerdictOf}

-- what holds of a fault for each number of steps holds for one
pub for_steps : (result : Result (Option RefutationFault) NoMemory)
    (P : ℕ → RefutationFault → Type 0)
    → IfOk result (λ found. IfSome found (λ fault. (s : ℕ) → P s fault))
    → (s : ℕ) → IfOk result (λ found. IfSome found (P s))
for_steps (Ok None) P all s = tt
for_steps (Ok (Some fault)) P all s = all s
for_steps (Err e) P all s = tt

module _ (kind : Kind) (book : List Page) (steps : List Step) (ending : EndingSaid) where
  long : length (steps_said steps) ≡ length steps
  long = length-map steps step_said

  pub step_verdict : (s : ℕ) (why : StepFault)
      → IsFirstStepFault kind book (steps_said steps) s why
      → IsVerdictOf kind book (steps_said steps) ending (Faulty (step_fault s why))
  step_verdict s why first = inl (s, why, first, refl)

  module _ (names : List (List ℕ)) (part : List Page)
      (left : LeaveAfter kind book (steps_said steps) (length steps) names part) where
    reached : LeaveAfter kind book (steps_said steps) (length (steps_said steps)) names part
    reached =
        subst (λ (n : ℕ). LeaveAfter kind book (steps_said steps) n names part) (sym long) left

    pub ending_verdict : (fault : RefutationFault)
        → EndingFails kind names part (length steps) ending fault
        → IsVerdictOf kind book (steps_said steps) ending (Faulty fault)
    ending_verdict fault fails = inr (
      names,
      part,
      reached,
      subst (λ (n : ℕ). EndingFails kind names part n ending fault) (sym long) fails,
    )

    pub right_verdict : IsShown kind names part ending
        → IsVerdictOf kind book (steps_said steps) ending Illegal
    right_verdict shown = record { names = names; part = part; left = reached; shown = shown }
