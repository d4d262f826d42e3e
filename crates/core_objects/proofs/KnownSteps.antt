-- What more object steps add to what a caller of a log knows, and which steps its program then
-- allows.
use Rattle.std.proofs.Common.{◌≡◌, ◌≢◌, ℕ, zero, suc, ◌-◌, ◌*◌, ◌<◌, ◌≤◌, Bool, true, false, not, ◌&&◌, ◌||◌, ◌==◌, nat_lt, if◌then◌else◌, List, [], ◌∷◌, ◌++◌, Option, Some, None, refl, sym, ap, ◌∙◌, arith, IsTrue, inl, inr, eq-eqb, ne_eqb}
use Rattle.std.proofs.lemmas.Bool.{and_from, cases_eq, cases_Bool, cond-true, cond-false, le-ltb, lt-ltb}
use Rattle.std.proofs.lemmas.Option.{none-some}
use Rattle.book_base.specs.OperationWord.{joined}
use Rattle.world_core.specs.Local.{Local, Object_step}
use Rattle.world_core.specs.CallSteps.{steps_now, all_steps_of}
use Rattle.world_objects.specs.LogWords.{low_place, high_place, ticket_place, ticket_of, known, is_known, is_filled, are_filled_below, is_first_unfilled, placed_at, names, is_named_below, joined_if_known, known_operation, with_operation, known_log}
use Rattle.world_objects.specs.LogProgram.{is_exchange, is_load, is_named_before}

-- a known word stays known along further steps
pub known-append : (place x : ℕ) (steps more : List Object_step) → known place steps ≡ Some x
    → known place (steps ++ more) ≡ Some x
known-append place x [] more e = absurd (none-some x e)
known-append place x (first ∷ later) more e =
    elim (cases_Bool (first.place == place)) [
      | inl here ↦
          cond-true (first.place == place) (Some first.new) (known place (later ++ more)) here
          ∙ sym (cond-true (first.place == place) (Some first.new) (known place later) here) ∙ e
      | inr away ↦
          cond-false (first.place == place) (Some first.new) (known place (later ++ more)) away
          ∙ known-append place x later more
          (sym (cond-false (first.place == place) (Some first.new) (known place later) away) ∙ e)
    ]

-- a step makes its place known
pub known_somehow : (steps : List Object_step) (step : Object_step) → (x : ℕ)
    × (known step.place (steps ++ step ∷ []) ≡ Some x)
known_somehow [] step = (
  step.new,
  cond-true (step.place == step.place) (Some step.new) None (eq-eqb step.place step.place refl),
)
known_somehow (first ∷ more) step =
    elim (cases_Bool (first.place == step.place)) [
      | inl here ↦ (
        first.new,
        cond-true (first.place == step.place) (Some first.new)
            (known step.place (more ++ step ∷ [])) here,
      )
      | inr away ↦
          let later = known_somehow more step in (
            later.0,
            cond-false (first.place == step.place) (Some first.new)
                (known step.place (more ++ step ∷ [])) away ∙ later.1,
          )
    ]

-- a place that isn't known becomes known by a step at it
pub known-push_new : (place : ℕ) (steps : List Object_step) (step : Object_step)
    → known place steps ≡ None → step.place ≡ place
    → known place (steps ++ step ∷ []) ≡ Some step.new
known-push_new place [] step none at =
    cond-true (step.place == place) (Some step.new) None (eq-eqb step.place place at)
known-push_new place (first ∷ more) step none at =
    elim (cases_Bool (first.place == place)) [
      | inl here ↦ absurd (none-some first.new
          (sym none ∙ cond-true (first.place == place) (Some first.new) (known place more) here))
      | inr away ↦
          cond-false (first.place == place) (Some first.new) (known place (more ++ step ∷ [])) away
          ∙ known-push_new place more step
          (sym (cond-false (first.place == place) (Some first.new) (known place more) away) ∙ none)
          at
    ]

-- a place doesn't become known by a step at another place
pub known-push_away : (place : ℕ) (steps : List Object_step) (step : Object_step)
    → step.place ≢ place → known place (steps ++ step ∷ []) ≡ known place steps
known-push_away place [] step away =
    cond-false (step.place == place) (Some step.new) None (ne_eqb step.place place away)
known-push_away place (first ∷ more) step away =
    ap (λ (o : Option ℕ). if first.place == place then Some first.new else o)
    (known-push_away place more step away)

-- a ticket is placed by the first step that leaves it
pub placed-push_new : (total ticket : ℕ) (steps : List Object_step) (step : Object_step)
    → placed_at total ticket steps ≡ None → 2 * total ≤ step.place
    → step.new ≡ ticket
    → placed_at total ticket (steps ++ step ∷ []) ≡ Some (step.place - 2 * total)
placed-push_new total ticket [] step none high is =
    cond-true (not (nat_lt step.place (2 * total)) && step.new == ticket)
    (Some (step.place - 2 * total)) None
    (and_from (not (nat_lt step.place (2 * total))) (step.new == ticket)
    (ap not (le-ltb step.place (2 * total) high)) (eq-eqb step.new ticket is))
placed-push_new total ticket (first ∷ more) step none high is =
    elim (cases_Bool (not (nat_lt first.place (2 * total)) && first.new == ticket)) [
      | inl here ↦ absurd (none-some (first.place - 2 * total)
          (sym none ∙ cond-true (not (nat_lt first.place (2 * total)) && first.new == ticket)
          (Some (first.place - 2 * total)) (placed_at total ticket more) here))
      | inr away ↦
          cond-false (not (nat_lt first.place (2 * total)) && first.new == ticket)
          (Some (first.place - 2 * total)) (placed_at total ticket (more ++ step ∷ [])) away
          ∙ placed-push_new total ticket more step
          (sym (cond-false (not (nat_lt first.place (2 * total)) && first.new == ticket)
          (Some (first.place - 2 * total)) (placed_at total ticket more) away) ∙ none) high is
    ]

-- a ticket isn't placed by a step that leaves another word, or at a place of no ticket
pub placed-push_away : (total ticket : ℕ) (steps : List Object_step) (step : Object_step)
    → (not (nat_lt step.place (2 * total)) && step.new == ticket) ≡ false
    → placed_at total ticket (steps ++ step ∷ []) ≡ placed_at total ticket steps
placed-push_away total ticket [] step away =
    cond-false (not (nat_lt step.place (2 * total)) && step.new == ticket)
    (Some (step.place - 2 * total)) None away
placed-push_away total ticket (first ∷ more) step away =
    ap (λ (o : Option ℕ). if not (nat_lt first.place (2 * total)) && first.new == ticket
    then Some (first.place - 2 * total) else o)
    (placed-push_away total ticket more step away)

-- a placed ticket stays placed along further steps
pub placed-append : (total ticket p : ℕ) (steps more : List Object_step)
    → placed_at total ticket steps ≡ Some p
    → placed_at total ticket (steps ++ more) ≡ Some p
placed-append total ticket p [] more e = absurd (none-some p e)
placed-append total ticket p (first ∷ later) more e =
    elim (cases_Bool (not (nat_lt first.place (2 * total)) && first.new == ticket)) [
      | inl here ↦
          cond-true (not (nat_lt first.place (2 * total)) && first.new == ticket)
          (Some (first.place - 2 * total)) (placed_at total ticket (later ++ more)) here
          ∙ sym (cond-true (not (nat_lt first.place (2 * total)) && first.new == ticket)
          (Some (first.place - 2 * total)) (placed_at total ticket later) here) ∙ e
      | inr away ↦
          cond-false (not (nat_lt first.place (2 * total)) && first.new == ticket)
          (Some (first.place - 2 * total)) (placed_at total ticket (later ++ more)) away
          ∙ placed-append total ticket p later more
          (sym (cond-false (not (nat_lt first.place (2 * total)) && first.new == ticket)
          (Some (first.place - 2 * total)) (placed_at total ticket later) away) ∙ e)
    ]

-- all places below are filled where each is known with a ticket
pub filled_below : (total : ℕ) (steps : List Object_step) (p : ℕ)
    → ((q : ℕ) → q < p → (x : ℕ) × (known (ticket_place total q) steps ≡ Some x) × (0 < x))
    → are_filled_below total steps p ≡ true
filled_below total steps zero each = refl
filled_below total steps (suc p) each =
    let last = each p (omega arith) in
    and_from (is_filled (known (ticket_place total p) steps)) (are_filled_below total steps p)
    (ap is_filled last.1 ∙ lt-ltb 0 last.0 last.2)
    (filled_below total steps p (λ q low. each q (omega (arith, low))))

pub first_unfilled : (total : ℕ) (steps : List Object_step) (p : ℕ)
    → ((q : ℕ) → q < p → (x : ℕ) × (known (ticket_place total q) steps ≡ Some x) × (0 < x))
    → known (ticket_place total p) steps ≡ None → is_first_unfilled total steps p ≡ true
first_unfilled total steps p each none =
    and_from (are_filled_below total steps p) (not (is_filled (known (ticket_place total p) steps)))
    (filled_below total steps p each)
    (ap (λ (o : Option ℕ). not (is_filled o)) none)

-- an exchange at the first place that isn't known to be filled is allowed
pub exchange_allowed : (total number : ℕ) (l : Local) (p old low high : ℕ)
    → ((q : ℕ) → q < p → (x : ℕ) × (known (ticket_place total q) (all_steps_of l) ≡ Some x)
    × (0 < x)) → known (ticket_place total p) (all_steps_of l) ≡ None
    → known (low_place number) (steps_now l) ≡ Some low
    → known (high_place number) (steps_now l) ≡ Some high
    → placed_at total (ticket_of number) (steps_now l) ≡ None
    → IsTrue (is_exchange total number l (record {
      place = ticket_place total p;
      old = old;
      new = if old == 0 then ticket_of number else old;
    }))
exchange_allowed total number l p old low high each none has_low has_high unplaced =
    let at : ℕ = ticket_place total p in
    let new : ℕ = if old == 0 then ticket_of number else old in
    let here : at - 2 * total ≡ p = omega arith in
    let above : 2 * total ≤ at = omega arith in
    let first : Bool = is_first_unfilled total (all_steps_of l) (at - 2 * total) in
    let stored_low : Bool = is_known (known (low_place number) (steps_now l)) in
    let stored_high : Bool = is_known (known (high_place number) (steps_now l)) in
    let free : Bool = not (is_known (placed_at total (ticket_of number) (steps_now l))) in
    and_from (not (nat_lt at (2 * total)))
    (first && (stored_low && (stored_high && (free && new == new))))
    (ap not (le-ltb at (2 * total) above))
    (and_from first (stored_low && (stored_high && (free && new == new)))
    (ap (is_first_unfilled total (all_steps_of l)) here
    ∙ first_unfilled total (all_steps_of l) p each none)
    (and_from stored_low (stored_high && (free && new == new)) (ap is_known has_low)
    (and_from stored_high (free && new == new) (ap is_known has_high)
    (and_from free (new == new) (ap (λ (o : Option ℕ). not (is_known o)) unplaced)
    (eq-eqb new new refl)))))

-- a word of the operation that a known ticket names may be loaded, below the own ticket
named_below_from : (total : ℕ) (steps : List Object_step) (place q number p : ℕ) → q < p
    → known (ticket_place total q) steps ≡ Some (suc number)
    → (place == low_place number || place == high_place number) ≡ true
    → is_named_below total steps place p ≡ true
named_below_from total steps place q number zero low ticket at = absurd (omega (arith, low))
named_below_from total steps place q number (suc p) low ticket at =
    elim (cases_eq q p) [
      | inl last ↦
          let here : names (known (ticket_place total p) steps) place ≡ true =
          ap (λ (r : ℕ). names (known (ticket_place total r) steps) place) (sym last)
          ∙ ap (λ (o : Option ℕ). names o place) ticket ∙ at in
          ap (λ b. b || is_named_below total steps place p) here
      | inr before ↦
          elim (cases_Bool (names (known (ticket_place total p) steps) place)) [
            | inl here ↦ ap (λ b. b || is_named_below total steps place p) here
            | inr away ↦
                ap (λ b. b || is_named_below total steps place p) away
                ∙ named_below_from total steps place q number p
                (omega (arith, low, before)) ticket at
          ]
    ]

pub load_allowed : (total number : ℕ) (l : Local) (p q named place x : ℕ)
    → placed_at total (ticket_of number) (steps_now l) ≡ Some p → q < p
    → known (ticket_place total q) (all_steps_of l) ≡ Some (suc named)
    → (place == low_place named || place == high_place named) ≡ true
    → IsTrue (is_load total number l (record { place = place; old = x; new = x }))
load_allowed total number l p q named place x placed low ticket at =
    and_from (x == x) (is_named_before (placed_at total (ticket_of number) (steps_now l)) total
    (all_steps_of l) place) (eq-eqb x x refl)
    (ap (λ (o : Option ℕ). is_named_before o total (all_steps_of l) place) placed
    ∙ named_below_from total (all_steps_of l) place q named p low ticket at)

-- the log that is known stays known
operation_by_words : (number : ℕ) (steps more : List Object_step) (operation : ℕ) (a b : Option ℕ)
    → known (low_place number) steps ≡ a
    → known (high_place number) steps ≡ b → joined_if_known a b ≡ Some operation
    → joined_if_known (known (low_place number) (steps ++ more))
    (known (high_place number) (steps ++ more)) ≡ Some operation
operation_by_words number steps more operation None b is_a is_b h = absurd (none-some operation h)
operation_by_words number steps more operation (Some low) None is_a is_b h =
    absurd (none-some operation h)
operation_by_words number steps more operation (Some low) (Some high) is_a is_b h =
    ap (λ (a : Option ℕ). joined_if_known a (known (high_place number) (steps ++ more)))
    (known-append (low_place number) low steps more is_a)
    ∙ ap (joined_if_known (Some low)) (known-append (high_place number) high steps more is_b) ∙ h

operation-append : (o : Option ℕ) (steps more : List Object_step) (operation : ℕ)
    → known_operation o steps ≡ Some operation
    → known_operation o (steps ++ more) ≡ Some operation
operation-append None steps more operation e = absurd (none-some operation e)
operation-append (Some zero) steps more operation e = absurd (none-some operation e)
operation-append (Some (suc number)) steps more operation e =
    operation_by_words number steps more operation (known (low_place number) steps)
    (known (high_place number) steps) refl refl e

-- Both parts of a log that is known with one more operation.
both_known : (a : Option (List ℕ)) (b : Option ℕ) (operations : List ℕ)
    → with_operation a b ≡ Some operations
    → (before : List ℕ) × (operation : ℕ) × (a ≡ Some before) × (b ≡ Some operation)
both_known None b operations h = absurd cc
both_known (Some before) None operations h = absurd cc
both_known (Some before) (Some operation) operations h = (before, operation, refl, refl)

known_by_operation : (o : Option ℕ) (steps : List Object_step) (operation : ℕ)
    → known_operation o steps ≡ Some operation → (x : ℕ) × (o ≡ Some x)
known_by_operation None steps operation e = absurd (none-some operation e)
known_by_operation (Some x) steps operation e = (x, refl)

pub log-append : (total : ℕ) (steps more : List Object_step) (p : ℕ) (operations : List ℕ)
    → known_log total steps p ≡ Some operations
    → known_log total (steps ++ more) p ≡ Some operations
log-append total steps more zero operations e = e
log-append total steps more (suc p) operations e =
    let at : ℕ = ticket_place total p in
    let parts =
    both_known (known_log total steps p) (known_operation (known at steps) steps) operations e in
    let before : known_log total (steps ++ more) p ≡ Some parts.0 =
    log-append total steps more p parts.0 parts.2 in
    let ticket = known_by_operation (known at steps) steps parts.1 parts.3 in
    let operation : known_operation (Some ticket.0) (steps ++ more) ≡ Some parts.1 =
    operation-append (Some ticket.0) steps more parts.1
    (ap (λ (o : Option ℕ). known_operation o steps) (sym ticket.1) ∙ parts.3) in
    let later : known_operation (known at (steps ++ more)) (steps ++ more) ≡ Some parts.1 =
    ap (λ (o : Option ℕ). known_operation o (steps ++ more))
    (known-append at ticket.0 steps more ticket.1) ∙ operation in
    ap (λ (a : Option (List ℕ)).
    with_operation a (known_operation (known at (steps ++ more)) (steps ++ more))) before
    ∙ ap (with_operation (Some parts.0)) later
    ∙ sym (ap (λ (a : Option (List ℕ)). with_operation a (known_operation (known at steps) steps))
    parts.2 ∙ ap (with_operation (Some parts.0)) parts.3)
    ∙ e

-- a known log grows by the operation of the next ticket, once both its words are known
pub log-next : (total : ℕ) (steps : List Object_step) (p number low high : ℕ) (operations : List ℕ)
    → known_log total steps p ≡ Some operations
    → known (ticket_place total p) steps ≡ Some (suc number)
    → known (low_place number) steps ≡ Some low → known (high_place number) steps ≡ Some high
    → known_log total steps (suc p) ≡ Some (operations ++ joined low high ∷ [])
log-next total steps p number low high operations log ticket has_low has_high =
    ap (λ (a : Option (List ℕ)).
    with_operation a (known_operation (known (ticket_place total p) steps) steps)) log
    ∙ ap (λ (o : Option ℕ). with_operation (Some operations) (known_operation o steps)) ticket
    ∙ ap (λ (a : Option ℕ).
    with_operation (Some operations) (joined_if_known a (known (high_place number) steps))) has_low
    ∙ ap
    (λ (b : Option ℕ). with_operation (Some operations) (joined_if_known (Some low) b)) has_high
