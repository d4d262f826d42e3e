-- Runs of queues and stacks.
use Rattle.std.proofs.Common.{◌≡◌, ℕ, ◌<◌, ◌≤◌, ◌∙◌, List, [], ◌∷◌, ◌++◌, length, filter_map, Option, Some, None, refl, sym, ap, inl, inr, slice_get, arith, append_assoc, append-nil}
use Rattle.std.specs.List.{cons_option}
use Rattle.std.proofs.lemmas.Bool.{cases_lt}
use Rattle.std.proofs.lemmas.Option.{slice_get_within}
use Rattle.list_laws.proofs.Prefixes.{slice_get-append_within}
use Rattle.book_base.specs.Sequential.{IsRunFrom}
use Rattle.book_base.specs.Reaching.{list_after_run}
use Rattle.legal_orders.specs.Container.{Effect, Puts, Takes, Neither, Reading, value_put, value_taken, put_by, taken_by, times, GivesOne, GivesFirst, IsContainer, IsQueue, IsStack}
use Rattle.legal_orders.proofs.Counting.{times-append}
use Rattle.legal_orders.proofs.Ranks.{rank, shown_at_rank, found_at_rank, rank-grows, rank-more}

-- a take that gives out the first of the values held gives out one of them
gives_one : (before : List ℕ) (shown : Option ℕ) (after : List ℕ) → GivesFirst before shown after
    → GivesOne before shown after
gives_one before None after h = h
gives_one before (Some v) after h = λ (w : ℕ). ap (times w) h

-- queues and stacks are containers
pub queue_is_container : (reading : Reading) (next : List ℕ → ℕ → List ℕ × ℕ) → IsQueue reading next
    → IsContainer reading next
queue_is_container reading next is = record {
  put = λ list op v e w. omega
      (arith, ap (times w) (is.put list op v e), times-append w (reading.values list) (v ∷ []));
  take = λ list op e. gives_one (reading.values list) (reading.shown (next list op).1)
      (reading.values (next list op).0) (is.take list op e);
  neither = is.neither;
}

pub stack_is_container : (reading : Reading) (next : List ℕ → ℕ → List ℕ × ℕ) → IsStack reading next
    → IsContainer reading next
stack_is_container reading next is = record {
  put = λ list op v e w. ap (times w) (is.put list op v e);
  take = λ list op e. gives_one (reading.values list) (reading.shown (next list op).1)
      (reading.values (next list op).0) (is.take list op e);
  neither = is.neither;
}

cons_option-append : (o : Option ℕ) (xs ys : List ℕ)
    → cons_option o (xs ++ ys) ≡ cons_option o xs ++ ys
cons_option-append None xs ys = refl
cons_option-append (Some v) xs ys = refl

-- what a queue held before a take is what the take takes out, followed by what the queue holds then
queue_take : (before : List ℕ) (shown : Option ℕ) (after puts : List ℕ)
    → GivesFirst before shown after → before ++ puts ≡ cons_option shown (after ++ puts)
queue_take before None after puts h = ap (λ (xs : List ℕ). xs ++ puts) (h.0 ∙ sym h.1)
queue_take before (Some v) after puts h = ap (λ (xs : List ℕ). xs ++ puts) h

queue_step : (reading : Reading) (next : List ℕ → ℕ → List ℕ × ℕ) → IsQueue reading next
    → (list : List ℕ) (op : ℕ) (puts : List ℕ) (deed : Effect) → reading.deed op ≡ deed
    → reading.values list ++ cons_option (value_put deed) puts ≡ cons_option
    (value_taken deed (reading.shown (next list op).1)) (reading.values (next list op).0 ++ puts)
queue_step reading next is list op puts (Puts v) e =
    sym (ap (λ (xs : List ℕ). xs ++ puts) (is.put list op v e)
    ∙ append_assoc (reading.values list) (v ∷ []) puts)
queue_step reading next is list op puts Takes e = queue_take (reading.values list)
    (reading.shown (next list op).1) (reading.values (next list op).0) puts (is.take list op e)
queue_step reading next is list op puts Neither e =
    ap (λ (xs : List ℕ). xs ++ puts) (sym (is.neither list op e))

-- What a queue held, followed by what was put in, is what was taken out, followed by what it holds
-- then.
pub queue_gives_in_order : (reading : Reading) (next : List ℕ → ℕ → List ℕ × ℕ)
    → IsQueue reading next → (list : List ℕ) (steps : List (ℕ × ℕ)) → IsRunFrom next list steps
    → reading.values list ++ filter_map (put_by reading) steps
    ≡ filter_map (taken_by reading) steps ++ reading.values (list_after_run next list steps)
queue_gives_in_order reading next is list [] run = append-nil (reading.values list)
queue_gives_in_order reading next is list (step ∷ steps) run =
    let puts : List ℕ = filter_map (put_by reading) steps in
    let taken : List ℕ = filter_map (taken_by reading) steps in
    let end : List ℕ = reading.values (list_after_run next (next list step.0).0 steps) in
    let here = queue_step reading next is list step.0 puts (reading.deed step.0) refl in
    let replied : value_taken (reading.deed step.0) (reading.shown (next list step.0).1)
    ≡ taken_by reading step
    = ap (λ (reply : ℕ). taken_by reading (step.0, reply)) run.0 in
    here
    ∙ (ap (λ (o : Option ℕ). cons_option o (reading.values (next list step.0).0 ++ puts)) replied
    ∙ (ap (cons_option (taken_by reading step))
    (queue_gives_in_order reading next is (next list step.0).0 steps run.1)
    ∙ cons_option-append (taken_by reading step) taken end))
