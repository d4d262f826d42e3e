-- Scripts made from a number: how many callers they have, and how many calls each makes.
use Rattle.std.proofs.Common.{◌≡◌, ◌∙◌, ℕ, ◌≤◌, List, [], ◌∷◌, length, map, arith}
use Rattle.std.specs.List.{range_with_len}
use Rattle.std.proofs.lemmas.List.{length-map}
use Rattle.std.proofs.lemmas.List.FromFn.{length-range_with_len}
use Rattle.seq_objects.specs.declared.kind.Kind.{Kind}
use Rattle.text_fields.specs.Counts.{AreAtMost}
use Rattle.client_scripts.specs.Plans.{sizes}
use Rattle.client_scripts.specs.Generator.{generated_operation, generated_operations, generated, value_of}

module _ (number calls : ℕ) (kind : Kind) where
  calls_of_one : (caller : ℕ) → length (generated_operations number calls kind caller) ≡ calls
  calls_of_one caller = length-map (range_with_len 0 calls)
      (λ k. generated_operation kind (value_of number caller k) k) ∙ length-range_with_len 0 calls

  calls_of_all : (callers : List ℕ) (most : ℕ) → calls ≤ most
      → AreAtMost most (sizes (map (generated_operations number calls kind) callers))
  calls_of_all [] most le = tt
  calls_of_all (i ∷ callers) most le = (omega (arith, calls_of_one i), calls_of_all callers most le)

  -- no caller makes more than `most` calls, where each is to make at most as many
  pub made_calls : (n most : ℕ) → calls ≤ most
      → AreAtMost most (sizes (generated number n calls kind).operations)
  made_calls n most le = calls_of_all (range_with_len 0 n) most le

  -- the script has as many callers as it is made for
  pub made_callers : (n : ℕ) → length (generated number n calls kind).operations ≡ n
  made_callers n = length-map (range_with_len 0 n) (generated_operations number calls kind)
      ∙ length-range_with_len 0 n
