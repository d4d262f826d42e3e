-- Lists that are drawn item by item, and the plan of a seed.
use Rattle.std.proofs.Common.{◌≡◌, ℕ, zero, suc, ◌+◌, ◌<◌, ◌≤◌, ◌^◌, List, [], ◌∷◌, ◌++◌, length, map, replicate, None, refl, sym, ap, subst, ◌∙◌, arith, append-nil}
use Rattle.std.specs.List.{AllByRecursion, range_with_len}
use Rattle.std.proofs.lemmas.List.{length-map}
use Rattle.std.proofs.lemmas.List.FromFn.{length-range_with_len}
use Rattle.list_laws.proofs.Elements.{AllByRecursion-append}
use Rattle.text_fields.specs.Lines.{text_of, by_number}
use Rattle.text_fields.specs.Counts.{AreAtMost}
use Rattle.text_fields.specs.declared.version.Version.TheVariants.{Second}
use Rattle.book_text.proofs.Texts.{lines_more}
use Rattle.client_scripts.specs.Plans.{sizes, AreStops, IsPlan}
use Rattle.client_scripts.specs.Grammar.{stop_line}
use Rattle.client_scripts.proofs.Groups.{by_number-push, AreStops-none, no_lines}
use Rattle.client_scripts.proofs.Generated.{map_range-push}
use Rattle.client_scripts.specs.declared.workload.Workload.{Workload}
use Rattle.client_scripts.specs.Draws.{key_of}
use Rattle.client_scripts.specs.Drawn.{IsWorkload, drawn_operation, drawn_operations, drawn_plan}

-- the lines of one drawn item more
pub lines_drawn : {X : Type 0} (write : ℕ → X → List (List (List ℕ))) (f : ℕ → X)
    (old middle new : List ℕ) (k : ℕ)
    → middle ≡ old ++ text_of (by_number write 0 (map f (range_with_len 0 k)))
    → new ≡ middle ++ text_of (write k (f k))
    → new ≡ old ++ text_of (by_number write 0 (map f (range_with_len 0 (k + 1))))
lines_drawn {X} write f old middle new k h e =
    let drawn : List X = map f (range_with_len 0 k) in
    let size : 0 + length drawn ≡ k =
    omega (arith, length-map (range_with_len 0 k) f, length-range_with_len 0 k) in
    let one : by_number write 0 (map f (range_with_len 0 (k + 1)))
    ≡ by_number write 0 drawn ++ write k (f k) =
    ap (by_number write 0) (map_range-push f k) ∙ by_number-push write 0 drawn (f k) k size in
    lines_more old middle new (by_number write 0 drawn) (write k (f k)) h e
    ∙ ap (λ (ls : List (List (List ℕ))). old ++ text_of ls) (sym one)

-- a property of all drawn items holds of one drawn item more
pub all_drawn : {X : Type 0} (P : X → Type 0) (f : ℕ → X) (k : ℕ)
    → AllByRecursion P (map f (range_with_len 0 k)) → P (f k)
    → AllByRecursion P (map f (range_with_len 0 (k + 1)))
all_drawn P f k h one = subst (AllByRecursion P) (sym (map_range-push f k))
    (AllByRecursion-append P (map f (range_with_len 0 k)) (f k ∷ []) h (one, tt))

module _ (w : Workload) (key : ℕ) where
  size : (caller : ℕ) → length (drawn_operations w key caller) ≡ w.calls
  size caller = length-map (range_with_len 0 w.calls) (drawn_operation w key caller)
      ∙ length-range_with_len 0 w.calls

  -- each caller has as many calls as the workload says
  sizes_from : (a n : ℕ)
      → sizes (map (drawn_operations w key) (range_with_len a n)) ≡ replicate n w.calls
  sizes_from a zero = refl
  sizes_from a (suc n) =
      ap (λ (x : ℕ). x ∷ sizes (map (drawn_operations w key) (range_with_len (a + 1) n))) (size a)
      ∙ ap (λ (xs : List ℕ). w.calls ∷ xs) (sizes_from (a + 1) n)

  few : (callers : List ℕ) (most : ℕ) → w.calls ≤ most
      → AreAtMost most (sizes (map (drawn_operations w key) callers))
  few [] most le = tt
  few (i ∷ callers) most le = (omega (arith, size i), few callers most le)

pub drawn_sizes : (w : Workload) (seed : ℕ)
    → sizes (drawn_plan w seed).operations ≡ replicate w.callers w.calls
drawn_sizes w seed = sizes_from w (key_of seed) 0 w.callers

-- the drawn script is a plan that texts can have
pub drawn_is_plan : (w : Workload) (seed : ℕ) → IsWorkload w
    → AllByRecursion (AllByRecursion (λ op. op < 2 ^ 128)) (drawn_plan w seed).operations
    → IsPlan Second (drawn_plan w seed)
drawn_is_plan w seed h has =
    let operations : List (List ℕ) = (drawn_plan w seed).operations in
    let callers : length operations ≡ w.callers = length-map (range_with_len 0 w.callers)
    (drawn_operations w (key_of seed)) ∙ length-range_with_len 0 w.callers in
    let counts : length (sizes operations) ≡ w.callers =
    length-map operations (λ (ops : List ℕ). length ops) ∙ callers in
    record {
      kind_known = refl;
      some = omega (arith, h.some);
      callers = omega (arith, h.few);
      calls = few w (key_of seed) (range_with_len 0 w.callers) 256 h.calls;
      operations = has;
      stops = subst (λ (m : ℕ). AreStops (sizes operations) (replicate m None)) counts
          (AreStops-none (sizes operations));
      turns = tt;
    }

-- callers that don't stop have no lines of stops
pub without_stops : (n : ℕ) (text : List ℕ)
    → text ≡ text ++ text_of (by_number stop_line 0 (replicate n None))
without_stops n text = sym (append-nil text)
    ∙ ap (λ (ls : List (List (List ℕ))). text ++ text_of ls) (sym (no_lines 0 n))
