-- Runs of objects over states of any type.
use Rattle.std.proofs.Common.{◌≡◌, ℕ, List, [], ◌∷◌, ◌++◌, map, refl, sym, subst, ◌∙◌}
use Rattle.book_base.specs.declared.call.Place.{Place}
use Rattle.book_base.specs.SeqSpec.{SeqSpec}
use Rattle.book_base.specs.Book.{Page}
use Rattle.book_base.specs.Sequential.{IsRunFrom, IsLegalRun}
use Rattle.book_base.specs.Order.{IsLegalOrder, step_at}
use Rattle.own_objects.specs.Objects.{state_after, object_of, IsOwnRunFrom}
use Rattle.own_objects.specs.Laws.{RunsAreItsOwn, ListsMakeNoDifference}

-- the state after one more operation
pub state_after-more : {S : Type 0} (next : S → ℕ → S × ℕ) (state : S) (ops : List ℕ) (op : ℕ)
    → state_after next state (ops ++ op ∷ []) ≡ (next (state_after next state ops) op).0
state_after-more next state [] op = refl
state_after-more next state (first ∷ ops) op = state_after-more next (next state first).0 ops op

-- A transition function of lists is that of states, by the state for which each list stands: it has
-- the same replies, and the list after an operation stands for the state after it.
pub record Simulates {S : Type 0} (next : S → ℕ → S × ℕ) (state_at : List ℕ → S)
    (on_lists : List ℕ → ℕ → List ℕ × ℕ) : Type 0 where
  pub reply : (list : List ℕ) (op : ℕ) → (on_lists list op).1 ≡ (next (state_at list) op).1
  pub state : (list : List ℕ) (op : ℕ)
      → state_at (on_lists list op).0 ≡ (next (state_at list) op).0

-- the runs of the lists are runs of the states
pub own_run : {S : Type 0} (next : S → ℕ → S × ℕ) (state_at : List ℕ → S)
    (on_lists : List ℕ → ℕ → List ℕ × ℕ) → Simulates next state_at on_lists
    → (list : List ℕ) (steps : List (ℕ × ℕ)) → IsRunFrom on_lists list steps
    → IsOwnRunFrom next (state_at list) steps
own_run next state_at on_lists simulates list [] run = tt
own_run next state_at on_lists simulates list (step ∷ steps) run = (
  sym (simulates.reply list step.0) ∙ run.0,
  subst (λ s. IsOwnRunFrom next s steps) (simulates.state list step.0)
      (own_run next state_at on_lists simulates (on_lists list step.0).0 steps run.1),
)

-- the runs of the states are runs of the lists
pub run_on_lists : {S : Type 0} (next : S → ℕ → S × ℕ) (state_at : List ℕ → S)
    (on_lists : List ℕ → ℕ → List ℕ × ℕ) → Simulates next state_at on_lists
    → (list : List ℕ) (steps : List (ℕ × ℕ)) → IsOwnRunFrom next (state_at list) steps
    → IsRunFrom on_lists list steps
run_on_lists next state_at on_lists simulates list [] run = tt
run_on_lists next state_at on_lists simulates list (step ∷ steps) run = (
  simulates.reply list step.0 ∙ run.0,
  run_on_lists next state_at on_lists simulates (on_lists list step.0).0 steps
      (subst (λ s. IsOwnRunFrom next s steps) (sym (simulates.state list step.0)) run.1),
)

object_simulates : {S : Type 0} (init : S) (next : S → ℕ → S × ℕ)
    → Simulates next (state_after next init) (object_of init next).next
object_simulates init next = record {
  reply = λ ops op. refl;
  state = λ ops op. state_after-more next init ops op;
}

pub runs_are_its_own : {S : Type 0} → RunsAreItsOwn S
runs_are_its_own init next steps = (
  own_run next (state_after next init) (object_of init next).next (object_simulates init next) []
      steps,
  run_on_lists next (state_after next init) (object_of init next).next (object_simulates init next)
      [] steps,
)

-- an order that is legal for one object is legal for another one of which it is a run
pub with_run : (a b : SeqSpec) (book : List Page) (order : List Place) → IsLegalOrder a book order
    → IsLegalRun b (map (step_at book) order) → IsLegalOrder b book order
with_run a b book order legal run = record {
  calls = legal.calls;
  once = legal.once;
  earlier = legal.earlier;
  answered = legal.answered;
  run = run;
  precedence = legal.precedence;
}

pub lists_make_no_difference : ListsMakeNoDifference
lists_make_no_difference spec book order =
    let own : SeqSpec = object_of spec.init spec.next in
    let steps = map (step_at book) order in (
      λ legal. with_run own spec book order legal
          ((runs_are_its_own spec.init spec.next steps).0 legal.run),
      λ legal. with_run spec own book order legal
          ((runs_are_its_own spec.init spec.next steps).1 legal.run),
    )
