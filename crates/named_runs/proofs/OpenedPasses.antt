-- Passes as an object's opening gives them, and as its closing takes them back.
use Rattle.std.proofs.Common.{◌≡◌, ◌∙◌, sym, ap, subst, refl, ℕ, suc, ◌+◌, ◌<◌, List, [], ◌∷◌, Some, length, map, get_or, slice_get, arith}
use Rattle.std.specs.Option.{option_map}
use Rattle.std.specs.List.{All, range_with_len}
use Rattle.std.proofs.lemmas.List.{length-map}
use Rattle.std.proofs.lemmas.List.FromFn.{length-range_with_len, get_or-range_with_len}
use Rattle.std.proofs.lemmas.Option.{slice_get-map, slice_get_within, slice_get-get_or, get_or_from_slice_get}
use Rattle.text_fields.specs.declared.version.Version.TheVariants.{Second}
use Rattle.client_scripts.specs.Plans.{Plan, IsPlan}
use Rattle.run_report.specs.Places.{AreInOrder}
use Rattle.run_report.specs.Passes.{IsOwnPass, AreUnusedPasses}
use Rattle.named_runs.specs.NamedObjects.{AreOwnPasses}
use Rattle.run_report.proofs.Starts.{operations_within}

module _ {T : Type 0} (caller : T → ℕ) (passes : List T) (n : ℕ) where
  -- there is a pass for each caller
  pub passes_count : map caller passes ≡ range_with_len 0 n → length passes ≡ n
  passes_count callers = sym (length-map passes caller) ∙ ap (λ (l : List ℕ). length l) callers
      ∙ length-range_with_len 0 n

  -- the pass at place i is that of caller i
  pub pass_at : map caller passes ≡ range_with_len 0 n → (i : ℕ) (pass : T)
      → slice_get passes i ≡ Some pass → caller pass ≡ i
  pass_at callers i pass there =
      let low : i < length passes = slice_get_within passes i pass there in
      let at : get_or (map caller passes) i 0 ≡ caller pass =
      get_or_from_slice_get (map caller passes) i (caller pass) 0
      (slice_get-map caller passes i ∙ ap (option_map caller) there) in
      let own : get_or (range_with_len 0 n) i 0 ≡ 0 + i =
      get_or-range_with_len 0 n i 0 (omega (arith, low, passes_count callers)) in
      omega (arith, at, ap (λ (l : List ℕ). get_or l i 0) callers, own)

  -- new passes are unused, as a run requires, where there is one for each caller
  pub opened_passes : (is_own : T → Type 0) (made cap : T → ℕ) (plan : Plan)
      → n ≡ length plan.operations → map caller passes ≡ range_with_len 0 n → All is_own passes
      → All (λ pass. (made pass ≡ 0) × (cap pass ≡ 256)) passes → IsPlan Second plan
      → AreUnusedPasses is_own caller made cap plan.operations passes
  opened_passes is_own made cap plan count callers own new h = record {
    as_many = passes_count callers ∙ count;
    each = λ i pass there.
        let low : i < length passes = slice_get_within passes i pass there in
        let at : get_or passes i pass ≡ pass = get_or_from_slice_get passes i pass pass there in
        let fresh = subst (λ (p : T). (made p ≡ 0) × (cap p ≡ 256)) at (new i pass low) in
        record {
          own = subst is_own at (own i pass low);
          of = pass_at callers i pass there;
          none = fresh.0;
          enough = omega (arith, operations_within 256 plan.operations i h.calls, fresh.1);
        };
  }

-- passes that are those of the callers from a on
callers_from : {T : Type 0} (caller : T → ℕ) (a : ℕ) (passes : List T)
    → ((i : ℕ) (pass : T) → slice_get passes i ≡ Some pass → caller pass ≡ a + i)
    → map caller passes ≡ range_with_len a (length passes)
callers_from caller a [] h = refl
callers_from caller a (pass ∷ passes) h =
    let first : caller pass ≡ a = omega (arith, h 0 pass refl) in
    let others =
    callers_from caller (a + 1) passes (λ i other there. omega (arith, h (suc i) other there)) in
    λ j. first j ∷ others j

-- the passes of a bench, in order, are those that the object was opened with
pub passes_back : {T : Type 0} (is_own : T → Type 0) (caller : T → ℕ) (passes : List T) (n : ℕ)
    → length passes ≡ n
    → AreInOrder (IsOwnPass is_own caller) passes → AreOwnPasses is_own caller n passes
passes_back is_own caller passes n count h = record {
  callers = callers_from caller 0 passes (λ i pass there. omega (arith, (h i pass there).of))
      ∙ ap (range_with_len 0) count;
  own = λ k d low. (h k (get_or passes k d) (slice_get-get_or passes k d low)).own;
}
