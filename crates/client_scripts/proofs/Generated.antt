-- Scripts made from a number.
use Rattle.std.proofs.Common.{◌≡◌, ℕ, zero, suc, ◌+◌, ◌<◌, ◌≤◌, ◌^◌, List, [], ◌∷◌, ◌++◌, length, map, replicate, None, refl, ap, subst, ◌∙◌, arith}
use Rattle.std.specs.List.{AllByRecursion, range_with_len}
use Rattle.std.proofs.lemmas.List.{length-map}
use Rattle.std.proofs.lemmas.List.FromFn.{length-range_with_len}
use Rattle.seq_objects.specs.declared.kind.Kind.{Kind}
use Rattle.text_fields.specs.declared.version.Version.TheVariants.{Second}
use Rattle.text_fields.specs.Counts.{AreAtMost}
use Rattle.client_scripts.specs.Plans.{sizes, AreStops, IsPlan}
use Rattle.client_scripts.specs.Generator.{generated_operation, generated_operations, generated, value_of}
use Rattle.client_scripts.proofs.Groups.{AreStops-none}

-- a list of a function's values at numbers in a row, with one value more
map_from-push : {X : Type 0} (f : ℕ → X) (a n j : ℕ) → a + n ≡ j
    → map f (range_with_len a (suc n)) ≡ map f (range_with_len a n) ++ f j ∷ []
map_from-push {X} f a zero j e = let same : a ≡ j = omega arith in ap (λ (i : ℕ). f i ∷ []) same
map_from-push {X} f a (suc n) j e =
    ap (λ (xs : List X). f a ∷ xs) (map_from-push f (a + 1) n j (omega arith))

pub map_range-push : {X : Type 0} (f : ℕ → X) (n : ℕ)
    → map f (range_with_len 0 (n + 1)) ≡ map f (range_with_len 0 n) ++ f n ∷ []
map_range-push f n = let next : n + 1 ≡ suc n = omega arith in
    ap (λ (m : ℕ). map f (range_with_len 0 m)) next ∙ map_from-push f 0 n n (omega arith)

module _ (number calls : ℕ) (kind : Kind) where
  size : (caller : ℕ) → length (generated_operations number calls kind caller) ≡ calls
  size caller = length-map (range_with_len 0 calls)
      (λ k. generated_operation kind (value_of number caller k) k) ∙ length-range_with_len 0 calls

  few : (callers : List ℕ) (most : ℕ) → calls ≤ most
      → AreAtMost most (sizes (map (generated_operations number calls kind) callers))
  few [] most le = tt
  few (i ∷ callers) most le = (omega (arith, size i), few callers most le)

  -- the generated script is a plan that texts can have
  pub generated_is_plan : (n : ℕ) → 1 ≤ n → n ≤ 16 → calls ≤ 256 → AllByRecursion
      (AllByRecursion (λ op. op < 2 ^ 128)) (generated number n calls kind).operations
      → IsPlan Second (generated number n calls kind)
  generated_is_plan n some small most has =
      let operations : List (List ℕ) =
      map (generated_operations number calls kind) (range_with_len 0 n) in
      let callers : length operations ≡ n = length-map (range_with_len 0 n)
      (generated_operations number calls kind) ∙ length-range_with_len 0 n in
      let counts : length (sizes operations) ≡ n =
      length-map operations (λ (ops : List ℕ). length ops) ∙ callers in
      record {
        kind_known = refl;
        some = omega arith;
        callers = omega arith;
        calls = few (range_with_len 0 n) 256 most;
        operations = has;
        stops = subst (λ (m : ℕ). AreStops (sizes operations) (replicate m None)) counts
            (AreStops-none (sizes operations));
        turns = tt;
      }
