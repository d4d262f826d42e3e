-- The lines of a table, which rise and tell what the table tells.
use Rattle.std.proofs.Common.{◌≡◌, ℕ, suc, ◌-◌, Bool, true, false, List, [], ◌∷◌, ◌++◌, length, map, slice_get, Option, Some, None, refl, sym, ap, subst, ◌∙◌, inl, inr, true≢false, arith}
use Rattle.std.specs.Prelude.{◌||◌, IsTrue}
use Rattle.std.specs.List.{All, AllByRecursion, list_any}
use Rattle.std.specs.List.Sorted.{IsStrictlySortedBy}
use Rattle.std.specs.Map.{lookup, keys_of}
use Rattle.std.specs.declared.cmp.Ordering.TheVariants.{Less}
use Rattle.std.specs.Ordering.{is_eq}
use Rattle.std.proofs.lemmas.Bool.{cases_Bool}
use Rattle.std.proofs.lemmas.Bool.Decides.{nat_tests}
use Rattle.std.proofs.lemmas.List.Folds.{list_any-append}
use Rattle.told_models.specs.declared.table.Transition.{Transition}
use Rattle.told_models.specs.Table.{Table, is_same_pair, pair_order, told_step, IsPromised, KeepsPromises}
use Rattle.told_models.proofs.Listing.{pair_same}
use Rattle.model_text.specs.declared.told_line.ToldLine.{ToldLine}
use Rattle.model_text.specs.Told.{comes_after, is_less, is_promise, keeps, AllFollow, promise_line, step_line, told_table, TellsAlike}
use Rattle.model_text.proofs.Tables.{last-push}

-- ---- pairs in order

pair_less : (a b : ℕ × ℕ) → pair_order a b ≡ Less → is_less a.0 a.1 b.0 b.1 ≡ true
pair_less a b less = grind (arith, nat_tests)

-- ---- lines that rise

-- each of some lines comes after the one before it, and the first one after `last`
abbrev Rise : Option ToldLine → List ToldLine → Type 0
Rise last [] = Unit {0}
Rise last (line ∷ lines) = IsTrue (comes_after last line) × Rise (Some line) lines

-- the lines of some steps come after a line
abbrev AfterLine : Option ToldLine → List ((ℕ × ℕ) × Transition) → Type 0
AfterLine last steps = AllByRecursion (λ step. IsTrue (comes_after last (step_line step))) steps

steps_after : (step : (ℕ × ℕ) × Transition) (steps : List ((ℕ × ℕ) × Transition))
    → AllByRecursion (λ pair. pair_order step.0 pair ≡ Less) (keys_of steps)
    → AfterLine (Some (step_line step)) steps
steps_after step [] less = tt
steps_after step (next ∷ steps) less =
    (pair_less step.0 next.0 less.0, steps_after step steps less.1)

rise-steps : (last : Option ToldLine) (steps : List ((ℕ × ℕ) × Transition))
    → AfterLine last steps → IsStrictlySortedBy pair_order (keys_of steps)
    → Rise last (map step_line steps)
unfolding IsStrictlySortedBy
rise-steps last [] after sorted = tt
rise-steps last (step ∷ steps) after sorted =
    (after.0, rise-steps (Some (step_line step)) steps (steps_after step steps sorted.0) sorted.1)

promises_after : (promise : ℕ × ℕ) (promises : List (ℕ × ℕ))
    → AllByRecursion (λ pair. pair_order promise pair ≡ Less) promises
    → AllByRecursion (λ other. IsTrue (comes_after (Some (promise_line promise))
    (promise_line other))) promises
promises_after promise [] less = tt
promises_after promise (next ∷ promises) less =
    (pair_less promise next less.0, promises_after promise promises less.1)

all_after : (last : Option ToldLine) (steps : List ((ℕ × ℕ) × Transition))
    → ((step : (ℕ × ℕ) × Transition) → IsTrue (comes_after last (step_line step)))
    → AfterLine last steps
all_after last [] after = tt
all_after last (step ∷ steps) after = (after step, all_after last steps after)

rise-promises : (last : Option ToldLine) (promises : List (ℕ × ℕ))
    (steps : List ((ℕ × ℕ) × Transition))
    → AllByRecursion (λ promise. IsTrue (comes_after last (promise_line promise))) promises
    → ((step : (ℕ × ℕ) × Transition) → IsTrue (comes_after last (step_line step)))
    → IsStrictlySortedBy pair_order promises → IsStrictlySortedBy pair_order (keys_of steps)
    → Rise last (map promise_line promises ++ map step_line steps)
unfolding IsStrictlySortedBy
rise-promises last [] steps after free sorted rising =
    rise-steps last steps (all_after last steps free) rising
rise-promises last (promise ∷ promises) steps after free sorted rising = (
  after.0,
  rise-promises (Some (promise_line promise)) promises steps
      (promises_after promise promises sorted.0) (λ step. refl) sorted.1 rising,
)

-- ---- lines that keep the promises of a table

module _ (table : Table) (kept : KeepsPromises table) where
  -- what some lines promise is promised in the table
  abbrev AreMade : List ToldLine → Type 0
  AreMade told = (op reply : ℕ) → IsTrue (list_any (is_promise op reply) told)
      → IsPromised table op reply

  -- a line is of the table: each promise that it makes is the table's, and a step keeps them
  record IsOf (line : ToldLine) : Type 0 where
    made : (op reply : ℕ) → IsTrue (is_promise op reply line) → IsPromised table op reply
    keeps_them : (told : List ToldLine) → AreMade told
        → IsTrue (keeps told line.subject line.reply)

  made-more : (told : List ToldLine) (line : ToldLine) → AreMade told → IsOf line
      → AreMade (told ++ line ∷ [])
  made-more told line made is op reply any =
      elim (cases_Bool (list_any (is_promise op reply) told)) [
        | inl before ↦ made op reply before
        | inr not_before ↦ is.made op reply (or_last (list_any (is_promise op reply) told)
            (is_promise op reply line) not_before
            (sym (list_any-append (is_promise op reply) told (line ∷ [])) ∙ any))
      ]
    where
      or_last : (a b : Bool) → a ≡ false → a || (b || false) ≡ true → b ≡ true
      or_last true b off any = absurd (true≢false off)
      or_last false true off any = refl
      or_last false false off any = any

  follow : (told lines : List ToldLine) → Rise (slice_get told (length told - 1)) lines
      → AreMade told → AllByRecursion IsOf lines → AllFollow told lines
  follow told [] rise made are = tt
  follow told (line ∷ lines) rise made are = (
    record { rises = rise.0; keeps_promises = are.0.keeps_them told made },
    follow (told ++ line ∷ []) lines
        (subst (λ (o : Option ToldLine). Rise o lines) (sym (last-push told line)) rise.1)
        (made-more told line made are.0) are.1,
  )

  of_promise : (promise : ℕ × ℕ) → IsPromised table promise.0 promise.1
      → IsOf (promise_line promise)
  of_promise promise is = record {
    made = λ op reply same. subst (λ (o : ℕ). IsPromised table o reply)
        (sym (same_parts op reply promise.0 promise.1 same).0)
        (subst (IsPromised table promise.0) (sym (same_parts op reply promise.0 promise.1 same).1)
        is);
    keeps_them = λ told made. refl;
  }
    where
      same_parts : (a b c d : ℕ) → is_same_pair (a, b) (c, d) ≡ true → (a ≡ c) × (b ≡ d)
      same_parts a b c d same = grind (arith, nat_tests)

  of_step : (step : (ℕ × ℕ) × Transition) → told_step table step.0.0 step.0.1 ≡ Some step.1
      → IsOf (step_line step)
  of_step step told = record {
    made = λ op reply same. absurd (true≢false (sym same));
    keeps_them = λ before made. elim (cases_Bool
        (list_any (is_promise step.0.1 step.1.reply) before)) [
          | inl promised ↦ let back = kept step.0.0 step.0.1 step.1 told
              (made step.0.1 step.1.reply promised) in grind (arith, nat_tests)
          | inr free ↦ grind (arith, nat_tests)
        ];
  }

  all_of : (promises : List (ℕ × ℕ)) (steps : List ((ℕ × ℕ) × Transition))
      → AllByRecursion (λ promise. IsPromised table promise.0 promise.1) promises
      → AllByRecursion (λ step. told_step table step.0.0 step.0.1 ≡ Some step.1) steps
      → AllByRecursion IsOf (map promise_line promises ++ map step_line steps)
  all_of [] [] made told = tt
  all_of [] (step ∷ steps) made told = (of_step step told.0, all_of [] steps made told.1)
  all_of (promise ∷ promises) steps made told =
      (of_promise promise made.0, all_of promises steps made.1 told)

  pub lines_follow : (promises : List (ℕ × ℕ)) (steps : List ((ℕ × ℕ) × Transition))
      → IsStrictlySortedBy pair_order promises → IsStrictlySortedBy pair_order (keys_of steps)
      → AllByRecursion (λ promise. IsPromised table promise.0 promise.1) promises
      → AllByRecursion (λ step. told_step table step.0.0 step.0.1 ≡ Some step.1) steps
      → AllFollow [] (map promise_line promises ++ map step_line steps)
  lines_follow promises steps sorted rising made told =
      follow [] (map promise_line promises ++ map step_line steps)
      (rise-promises None promises steps (all_free promises) (λ step. refl) sorted rising)
      (λ op reply any. absurd (true≢false (sym any))) (all_of promises steps made told)
    where
      all_free : (some : List (ℕ × ℕ))
          → AllByRecursion (λ promise. IsTrue (comes_after None (promise_line promise))) some
      all_free [] = tt
      all_free (promise ∷ some) = (refl, all_free some)

-- ---- the table of the lines

steps_of_lines : (promises : List (ℕ × ℕ)) (steps : List ((ℕ × ℕ) × Transition))
    → (told_table (map promise_line promises ++ map step_line steps)).steps ≡ steps
unfolding told_table
steps_of_lines [] [] = refl
steps_of_lines [] (step ∷ steps) = ap (λ (rest : List ((ℕ × ℕ) × Transition)). step ∷ rest)
    (steps_of_lines [] steps)
steps_of_lines (promise ∷ promises) steps = steps_of_lines promises steps

promises_of_lines : (promises : List (ℕ × ℕ)) (steps : List ((ℕ × ℕ) × Transition))
    → (told_table (map promise_line promises ++ map step_line steps)).promises ≡ promises
unfolding told_table
promises_of_lines [] [] = refl
promises_of_lines [] (step ∷ steps) = promises_of_lines [] steps
promises_of_lines (promise ∷ promises) steps =
    ap (λ (rest : List (ℕ × ℕ)). promise ∷ rest) (promises_of_lines promises steps)

pub lines_alike : (table : Table) (promises : List (ℕ × ℕ)) (steps : List ((ℕ × ℕ) × Transition))
    → table.init ≡ 0
    → ((op reply : ℕ) → list_any (λ pair. is_eq (pair_order (op, reply) pair)) promises
    ≡ list_any (is_same_pair (op, reply)) table.promises)
    → ((state op : ℕ) → lookup (λ pair. is_eq (pair_order (state, op) pair)) steps
    ≡ told_step table state op)
    → TellsAlike (told_table (map promise_line promises ++ map step_line steps)) table
unfolding told_table
lines_alike table promises steps init made told = record {
  init = sym init;
  steps = λ state op. ap (lookup (is_same_pair (state, op))) (steps_of_lines promises steps)
      ∙ sym (λ i. lookup (λ pair. pair_same (state, op) pair i) steps) ∙ told state op;
  promises = λ op reply.
      let same : list_any (is_same_pair (op, reply))
      (told_table (map promise_line promises ++ map step_line steps)).promises
      ≡ list_any (is_same_pair (op, reply)) table.promises =
      ap (list_any (is_same_pair (op, reply))) (promises_of_lines promises steps)
      ∙ sym (λ i. list_any (λ pair. pair_same (op, reply) pair i) promises) ∙ made op reply in
      (λ before. sym same ∙ before, λ after. same ∙ after);
}

-- what follows from what holds of each element of a list holds of each
pub all_weaker : {X : Type 0} {P Q : X → Type 0} (xs : List X) → ((x : X) → P x → Q x)
    → All P xs → AllByRecursion Q xs
all_weaker [] weaker all = tt
all_weaker {P = P} {Q = Q} (x ∷ xs) weaker all = (
  weaker x (all 0 x (omega arith)),
  all_weaker {P = P} {Q = Q} xs weaker (λ k d inside. all (suc k) d (omega (arith, inside))),
)
