-- Passes of the log are made one by one.
use Rattle.std.proofs.Common.{◌≡◌, ℕ, ◌+◌, List, [], ◌∷◌, ◌++◌, length, Some, slice_get, refl, sym, ap, ◌∙◌, subst, inl, inr, length-append}
use Rattle.std.proofs.lemmas.Option.{none-some}
use Rattle.list_laws.proofs.Places.{slice_get-push_cases}
use Rattle.book_base.specs.SeqSpec.{SeqSpec}
use Rattle.core_objects.specs.declared.log_pass.CorePass.{CorePass}
use Rattle.core_objects.specs.LogPasses.{FitsLog}

-- These are the log's passes of the first k callers, for n callers and a cap.
pub record AreLogPasses (spec : SeqSpec) (n cap k : ℕ) (passes : List CorePass) : Type 0 where
  pub count : length passes ≡ k
  pub fit : (i : ℕ) (pass : CorePass) → slice_get passes i ≡ Some pass
      → FitsLog spec pass i n cap []

pub no_log_pass : (spec : SeqSpec) (n cap : ℕ) → AreLogPasses spec n cap 0 []
no_log_pass spec n cap = record { count = refl; fit = λ i pass at. absurd (none-some pass at) }

pub one_log_pass : (spec : SeqSpec) (n cap k : ℕ) (passes : List CorePass) (last : CorePass)
    → AreLogPasses spec n cap k passes
    → FitsLog spec last k n cap [] → AreLogPasses spec n cap (k + 1) (passes ++ last ∷ [])
one_log_pass spec n cap k passes last h fits =
    record {
      count = length-append passes (last ∷ []) ∙ ap (λ (m : ℕ). m + 1) h.count;
      fit = λ i pass at. elim (slice_get-push_cases passes last i pass at) [
        | inl old ↦ h.fit i pass old
        | inr end ↦
            subst (λ (j : ℕ). FitsLog spec pass j n cap []) (sym (end.0 ∙ h.count))
            (subst (λ (p : CorePass). FitsLog spec p k n cap []) (sym end.1) fits)
      ];
    }
