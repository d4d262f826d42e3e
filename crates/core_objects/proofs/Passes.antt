-- Passes are made one by one.
use Rattle.std.proofs.Common.{◌≡◌, ℕ, ◌+◌, List, [], ◌∷◌, ◌++◌, length, Some, slice_get, refl, sym, ap, ◌∙◌, inl, inr, length-append}
use Rattle.std.proofs.lemmas.Option.{none-some}
use Rattle.list_laws.proofs.Places.{slice_get-push_cases}
use Rattle.core_objects.specs.declared.one_word_pass.OneWordPass.{OneWordPass}
use Rattle.core_objects.specs.OneWordPasses.{pass_of}

-- These are the passes of the first k callers, for n callers and a cap.
pub record AreDealt (n cap k : ℕ) (passes : List OneWordPass) : Type 0 where
  pub count : length passes ≡ k
  pub are : (i : ℕ) (pass : OneWordPass) → slice_get passes i ≡ Some pass → pass ≡ pass_of i n cap

pub none_dealt : (n cap : ℕ) → AreDealt n cap 0 []
none_dealt n cap = record { count = refl; are = λ i pass at. absurd (none-some pass at) }

pub one_dealt : (n cap k : ℕ) (passes : List OneWordPass) → AreDealt n cap k passes
    → AreDealt n cap (k + 1) (passes ++ pass_of k n cap ∷ [])
one_dealt n cap k passes h =
    record {
      count = length-append passes (pass_of k n cap ∷ []) ∙ ap (λ (m : ℕ). m + 1) h.count;
      are = λ i pass at. elim (slice_get-push_cases passes (pass_of k n cap) i pass at) [
        | inl old ↦ h.are i pass old
        | inr last ↦ last.1 ∙ ap (λ (m : ℕ). pass_of m n cap) (sym (last.0 ∙ h.count))
      ];
    }
