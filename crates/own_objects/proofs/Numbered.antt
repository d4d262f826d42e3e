-- The sequential object that a table and an object of which it is true make together: its lists
-- begin with the number of a state, and go on with operations after it whose steps weren't told.
use Rattle.std.proofs.Common.{◌≡◌, ℕ, Bool, true, false, cond, IsTrue, List, [], ◌∷◌, ◌++◌, map, Option, Some, None, refl, sym, ap, subst}
use Rattle.std.specs.List.{list_any}
use Rattle.std.proofs.lemmas.Option.{none-some}
use Rattle.book_base.specs.declared.call.Place.{Place}
use Rattle.book_base.specs.SeqSpec.{SeqSpec}
use Rattle.book_base.specs.Book.{Page}
use Rattle.book_base.specs.Order.{IsLegalOrder, step_at}
use Rattle.told_models.specs.declared.table.Transition.{Transition}
use Rattle.told_models.specs.Table.{Table, is_same_pair, IsPromised, KeepsPromises}
use Rattle.told_models.specs.Agreement.{Agrees}
use Rattle.told_models.specs.Completion.{step_at_list}
use Rattle.own_objects.specs.Objects.{state_after, object_of, IsOwnRunFrom}
use Rattle.own_objects.specs.Told.{IsTrueOf}
use Rattle.own_objects.specs.Laws.{AnswersHoldOfIt}
use Rattle.own_objects.proofs.Runs.{state_after-more, Simulates, own_run, run_on_lists, runs_are_its_own, with_run}

is_promised : Table → ℕ → ℕ → Bool
is_promised table op reply = list_any (is_same_pair (op, reply)) table.promises

-- one more operation after a list, which stands for the initial state where it is empty
one_more : ℕ → List ℕ → ℕ → List ℕ
one_more first [] op = first ∷ op ∷ []
one_more first (state ∷ ops) op = state ∷ ops ++ op ∷ []

-- what an operation does at a list: the told step where there is one, and else it has the object's
-- reply, and the list becomes longer where the reply isn't promised to change nothing
made : ℕ → List ℕ → ℕ → Option Transition → Bool → ℕ → List ℕ × ℕ
made first list op (Some transition) promised reply = (transition.next ∷ [], transition.reply)
made first list op None promised reply =
    (cond promised list (one_more first list op), reply)

module _ {S : Type 0} (init : S) (next : S → ℕ → S × ℕ) (state_of : ℕ → S) (table : Table) where
  -- the state for which a list stands
  state_at : List ℕ → S
  state_at [] = state_of table.init
  state_at (state ∷ ops) = state_after next (state_of state) ops

  reply_at : List ℕ → ℕ → ℕ
  reply_at list op = (next (state_at list) op).1

  numbered : SeqSpec
  numbered = record {
    init = table.init ∷ [];
    next = λ list op. made table.init list op (step_at_list table list op)
        (is_promised table op (reply_at list op)) (reply_at list op);
  }

  module _ (true_of : IsTrueOf init next state_of table) where
    one_more-state : (list : List ℕ) (op : ℕ)
        → state_at (one_more table.init list op) ≡ (next (state_at list) op).0
    unfolding state_at one_more
    one_more-state [] op = refl
    one_more-state (state ∷ ops) op = state_after-more next (state_of state) ops op

    untold-state : (list : List ℕ) (op : ℕ) (promised : Bool)
        → (IsTrue promised → IsPromised table op (reply_at list op))
        → state_at (cond promised list (one_more table.init list op)) ≡ (next (state_at list) op).0
    unfolding reply_at
    untold-state list op true holds =
        sym (true_of.promises op (reply_at list op) (holds refl) (state_at list) refl)
    untold-state list op false holds = one_more-state list op

    -- the told step at a list is the object's
    made-told : (list : List ℕ) (op : ℕ) (transition : Transition)
        → step_at_list table list op ≡ Some transition
        → next (state_at list) op ≡ (state_of transition.next, transition.reply)
    unfolding state_at
    made-told [] op transition told = absurd (none-some transition told)
    made-told (state ∷ []) op transition told = true_of.steps state op transition told
    made-told (state ∷ word ∷ words) op transition told = absurd (none-some transition told)

    made-reply : (list : List ℕ) (op : ℕ) (step : Option Transition) (promised : Bool)
        → step_at_list table list op ≡ step
        → (made table.init list op step promised (reply_at list op)).1 ≡ (next (state_at list) op).1
    unfolding made reply_at
    made-reply list op (Some transition) promised is =
        sym (ap (λ p. p.1) (made-told list op transition is))
    made-reply list op None promised is = refl

    made-state : (list : List ℕ) (op : ℕ) (step : Option Transition)
        → step_at_list table list op ≡ step
        → state_at (made table.init list op step (is_promised table op (reply_at list op))
        (reply_at list op)).0 ≡ (next (state_at list) op).0
    unfolding made state_at is_promised
    made-state list op (Some transition) is =
        sym (ap (λ p. p.0) (made-told list op transition is))
    made-state list op None is =
        untold-state list op (is_promised table op (reply_at list op)) (λ holds. holds)

    simulates : Simulates next state_at numbered.next
    unfolding numbered
    simulates = record {
      reply = λ list op. made-reply list op (step_at_list table list op)
          (is_promised table op (reply_at list op)) refl;
      state = λ list op. made-state list op (step_at_list table list op) refl;
    }

    -- a promised reply leaves each list
    leaves : KeepsPromises table → (op reply : ℕ) → IsPromised table op reply
        → (list : List ℕ) (step : Option Transition) → step_at_list table list op ≡ step
        → (made table.init list op step (is_promised table op (reply_at list op))
        (reply_at list op)).1 ≡ reply
        → (made table.init list op step (is_promised table op (reply_at list op))
        (reply_at list op)).0 ≡ list
    unfolding made is_promised
    leaves keeps op reply promised [] (Some transition) is replied =
        absurd (none-some transition is)
    leaves keeps op reply promised (state ∷ []) (Some transition) is replied =
        ap (λ s. s ∷ []) (keeps state op transition is
        (subst (λ r. IsPromised table op r) (sym replied) promised))
    leaves keeps op reply promised (state ∷ word ∷ words) (Some transition) is replied =
        absurd (none-some transition is)
    leaves keeps op reply promised list None is replied =
        ap (λ b. cond b list (one_more table.init list op))
        (subst (λ r. IsPromised table op r) (sym replied) promised)

    agrees : KeepsPromises table → Agrees table numbered
    unfolding numbered made
    agrees keeps = (
      λ state. state ∷ [],
      record {
        init = refl;
        steps = λ state op transition told.
            ap (λ step. made table.init (state ∷ []) op step
            (is_promised table op (reply_at (state ∷ []) op)) (reply_at (state ∷ []) op)) told;
        promises = λ op reply promised list.
            leaves keeps op reply promised list (step_at_list table list op) refl;
      },
    )

    own_legal : (book : List Page) (order : List Place) → IsLegalOrder numbered book order
        → IsLegalOrder (object_of init next) book order
    unfolding numbered state_at
    own_legal book order legal =
        let steps = map (step_at book) order in
        with_run numbered (object_of init next) book order legal
        ((runs_are_its_own init next steps).1 (subst (λ s. IsOwnRunFrom next s steps) true_of.begins
        (own_run next state_at numbered.next simulates numbered.init steps legal.run)))

    numbered_legal : (book : List Page) (order : List Place)
        → IsLegalOrder (object_of init next) book order → IsLegalOrder numbered book order
    unfolding numbered state_at
    numbered_legal book order legal =
        let steps = map (step_at book) order in
        with_run (object_of init next) numbered book order legal
        (run_on_lists next state_at numbered.next simulates numbered.init steps
        (subst (λ s. IsOwnRunFrom next s steps) (sym true_of.begins)
        ((runs_are_its_own init next steps).0 legal.run)))

pub answers_hold_of_it : {S : Type 0} → AnswersHoldOfIt S
answers_hold_of_it init next state_of table book keeps true_of =
    let spec : SeqSpec = numbered init next state_of table in
    let agree = agrees init next state_of table true_of keeps in (
      λ order legal. own_legal init next state_of table true_of book order.items
          (legal spec agree),
      λ none has. none spec agree
          (has.0, numbered_legal init next state_of table true_of book has.0 has.1),
    )
