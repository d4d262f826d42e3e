-- What the words of a log say, and what a caller knows of them by its steps.
use Rattle.std.proofs.Common.{◌≡◌, ◌≢◌, ℕ, zero, suc, ◌-◌, ◌*◌, ◌<◌, ◌≤◌, ◌⊎◌, true, false, not, ◌&&◌, ◌==◌, nat_lt, if◌then◌else◌, List, [], ◌∷◌, ◌++◌, Option, Some, None, slice_get, refl, sym, ap, ◌∙◌, subst, arith, inl, inr, append-nil, eq-eqb}
use Rattle.std.specs.List.{flat_map}
use Rattle.std.proofs.lemmas.Bool.{and_parts, and_from, cases_eq, cases_Bool, or_cases, cond-true, cond-false, eqb-true, ltb-true, ltb-false, le-ltb, not-true}
use Rattle.std.proofs.lemmas.Option.{same_Some, none-some}
use Rattle.world_core.specs.Local.{Object_step}
use Rattle.world_laws.proofs.Each.{Each}
use Rattle.world_objects.specs.LogWords.{low_place, high_place, ticket_place, known, is_known, is_filled, placed_at, names, is_named_below}
use Rattle.world_objects.specs.LogEffects.{operation_at, operations_below, place_with}

-- the operations below a place are the same by other words that have the same operation at each
-- place
pub operations_same : (f g : ℕ → ℕ) (total m : ℕ)
    → ((p : ℕ) → p < m
    → operation_at f (f (ticket_place total p)) ≡ operation_at g (g (ticket_place total p)))
    → operations_below f total m ≡ operations_below g total m
operations_same f g total zero same = refl
operations_same f g total (suc m) same =
    ap (λ (xs : List ℕ). xs ++ operation_at f (f (ticket_place total m)))
    (operations_same f g total m (λ p low. same p (omega (arith, low))))
    ∙ ap (λ (xs : List ℕ). operations_below g total m ++ xs) (same m (omega arith))

-- free places add no operations
pub operations_end : (f : ℕ → ℕ) (total p m : ℕ) → p ≤ m
    → ((q : ℕ) → p ≤ q → q < m → f (ticket_place total q) ≡ 0)
    → operations_below f total m ≡ operations_below f total p
operations_end f total p zero le free = let none : p ≡ 0 = omega arith in
    ap (operations_below f total) (sym none)
operations_end f total p (suc m) le free =
    elim (cases_eq p (suc m)) [
      | inl here ↦ ap (operations_below f total) (sym here)
      | inr away ↦
          ap (λ (t : ℕ). operations_below f total m ++ operation_at f t)
          (free m (omega arith) (omega arith))
          ∙ append-nil (operations_below f total m)
          ∙ operations_end f total p m (omega arith)
          (λ q from low. free q from (omega (arith, low)))
    ]

-- `place_with` finds the place of a ticket that is at one place alone
pub place_found : (f : ℕ → ℕ) (total t m p : ℕ) → p < m → f (ticket_place total p) ≡ t
    → ((q : ℕ) → q < m → f (ticket_place total q) ≡ t → q ≡ p) → place_with f total t m ≡ Some p
place_found f total t zero p low at one = absurd (omega arith)
place_found f total t (suc m) p low at one =
    elim (cases_Bool (f (ticket_place total m) == t)) [
      | inl here ↦
          cond-true (f (ticket_place total m) == t) (Some m) (place_with f total t m) here
          ∙ ap Some (one m (omega arith) (eqb-true (f (ticket_place total m)) t here))
      | inr away ↦
          let other : p ≢ m =
          λ same. let b : false ≡ true = sym away ∙ eq-eqb (f (ticket_place total m)) t
          (ap (λ (q : ℕ). f (ticket_place total q)) (sym same) ∙ at) in absurd cc in
          cond-false (f (ticket_place total m) == t) (Some m) (place_with f total t m) away
          ∙ place_found f total t m p (omega (arith, other)) at
          (λ q below is. one q (omega (arith, below)) is)
    ]

-- `place_with` finds no place for a ticket that is at none
pub no_place : (f : ℕ → ℕ) (total t m : ℕ) → ((q : ℕ) → q < m → f (ticket_place total q) ≢ t)
    → place_with f total t m ≡ None
no_place f total t zero none = refl
no_place f total t (suc m) none =
    elim (cases_Bool (f (ticket_place total m) == t)) [
      | inl here ↦ absurd (none m (omega arith) (eqb-true (f (ticket_place total m)) t here))
      | inr away ↦ cond-false (f (ticket_place total m) == t) (Some m) (place_with f total t m) away
          ∙ no_place f total t m (λ q low. none q (omega (arith, low)))
    ]

-- a ticket for which `place_with` finds no place is at none
pub no_place_is : (f : ℕ → ℕ) (total t m : ℕ) → place_with f total t m ≡ None → (q : ℕ) → q < m
    → f (ticket_place total q) ≢ t
no_place_is f total t zero none q low at = omega (arith, low)
no_place_is f total t (suc m) none q low at =
    elim (cases_Bool (f (ticket_place total m) == t)) [
      | inl here ↦ none-some m (sym none
          ∙ cond-true (f (ticket_place total m) == t) (Some m) (place_with f total t m) here)
      | inr away ↦
          elim (cases_eq q m) [
            | inl last ↦
                let b : false ≡ true = sym away ∙ eq-eqb (f (ticket_place total m)) t
                (ap (λ (r : ℕ). f (ticket_place total r)) (sym last) ∙ at) in absurd cc
            | inr before ↦
                no_place_is f total t m (sym (cond-false (f (ticket_place total m) == t) (Some m)
                (place_with f total t m) away) ∙ none) q (omega (arith, low, before)) at
          ]
    ]

pub place_is : (f : ℕ → ℕ) (total t m p : ℕ) → place_with f total t m ≡ Some p → (p < m)
    × (f (ticket_place total p) ≡ t)
place_is f total t zero p e = absurd (none-some p e)
place_is f total t (suc m) p e =
    elim (cases_Bool (f (ticket_place total m) == t)) [
      | inl here ↦
          let same : m ≡ p = same_Some m p (sym
          (cond-true (f (ticket_place total m) == t) (Some m) (place_with f total t m) here)
          ∙ e) in (
            omega (arith, same),
            ap (λ (q : ℕ). f (ticket_place total q)) (sym same)
                ∙ eqb-true (f (ticket_place total m)) t here,
          )
      | inr away ↦
          let found = place_is f total t m p
          (sym (cond-false (f (ticket_place total m) == t) (Some m) (place_with f total t m) away)
          ∙ e) in
          (omega (arith, found.0), found.1)
    ]

pub place_same : (f g : ℕ → ℕ) (total t m : ℕ)
    → ((q : ℕ) → q < m → (f (ticket_place total q) == t) ≡ (g (ticket_place total q) == t))
    → place_with f total t m ≡ place_with g total t m
place_same f g total t zero same = refl
place_same f g total t (suc m) same =
    ap (λ (o : Option ℕ). if f (ticket_place total m) == t then Some m else o)
    (place_same f g total t m (λ q low. same q (omega (arith, low))))
    ∙ ap (λ b. if b then Some m else place_with g total t m) (same m (omega arith))

-- what holds of each step of each call, holds of each of all their steps
each_append : {X : Type 0} (P : X → Type 0) (xs ys : List X) → Each P xs → Each P ys
    → Each P (xs ++ ys)
each_append P [] ys h g = g
each_append P (x ∷ xs) ys h g = (h.0, each_append P xs ys h.1 g)

pub each_of_all : (P : Object_step → Type 0) (xs : List (List Object_step)) → Each (Each P) xs
    → Each P (flat_map (λ (steps : List Object_step). steps) xs)
each_of_all P [] h = tt
each_of_all P (x ∷ xs) h =
    each_append P x (flat_map (λ (steps : List Object_step). steps) xs) h.0 (each_of_all P xs h.1)

-- A step with this property was found: it was made at this place, and left this word there.
pub record Finds (P : Object_step → Type 0) (place word : ℕ) : Type 0 where
  pub step : Object_step
  pub holds : P step
  pub at : step.place ≡ place
  pub left : step.new ≡ word

pub known_step : (P : Object_step → Type 0) (place x : ℕ) (steps : List Object_step) → Each P steps
    → known place steps ≡ Some x → Finds P place x
known_step P place x [] h e = absurd (none-some x e)
known_step P place x (step ∷ more) h e =
    elim (cases_Bool (step.place == place)) [
      | inl here ↦
          record {
            step = step;
            holds = h.0;
            at = eqb-true step.place place here;
            left = same_Some step.new x
                (sym (cond-true (step.place == place) (Some step.new) (known place more) here) ∙ e);
          }
      | inr away ↦ known_step P place x more h.1
          (sym (cond-false (step.place == place) (Some step.new) (known place more) away) ∙ e)
    ]

pub known_is : (o : Option ℕ) → is_known o ≡ true → (x : ℕ) × (o ≡ Some x)
known_is None h = absurd cc
known_is (Some x) h = (x, refl)

pub unknown_is : (o : Option ℕ) → not (is_known o) ≡ true → o ≡ None
unknown_is None h = refl
unknown_is (Some x) h = absurd cc

pub filled_is : (o : Option ℕ) → is_filled o ≡ true → (x : ℕ) × (o ≡ Some x) × (0 < x)
filled_is None h = absurd cc
filled_is (Some x) h = (x, refl, ltb-true 0 x h)

-- a place that isn't before the tickets is that of one
pub is_ticket : (total place : ℕ) → not (nat_lt place (2 * total)) ≡ true → (2 * total ≤ place)
    × (ticket_place total (place - 2 * total) ≡ place)
is_ticket total place h =
    let high : 2 * total ≤ place =
    ltb-false place (2 * total) (not-true (nat_lt place (2 * total)) h) in
    (high, omega (arith, high))

-- a step that left a ticket
pub placed_step : (P : Object_step → Type 0) (total t p : ℕ) (steps : List Object_step)
    → Each P steps → placed_at total t steps ≡ Some p
    → Finds P (ticket_place total p) t
placed_step P total t p [] h e = absurd (none-some p e)
placed_step P total t p (step ∷ more) h e =
    elim (cases_Bool (not (nat_lt step.place (2 * total)) && step.new == t)) [
      | inl here ↦
          let both = and_parts (not (nat_lt step.place (2 * total))) (step.new == t) here in
          let high = is_ticket total step.place both.0 in
          let same : step.place - 2 * total ≡ p =
          same_Some (step.place - 2 * total) p
          (sym (cond-true (not (nat_lt step.place (2 * total)) && step.new == t)
          (Some (step.place - 2 * total)) (placed_at total t more) here) ∙ e) in
          record {
            step = step;
            holds = h.0;
            at = sym high.1 ∙ ap (ticket_place total) same;
            left = eqb-true step.new t both.1;
          }
      | inr away ↦
          placed_step P total t p more h.1
          (sym (cond-false (not (nat_lt step.place (2 * total)) && step.new == t)
          (Some (step.place - 2 * total)) (placed_at total t more) away) ∙ e)
    ]

-- where no step left the ticket at a place, none of the steps is one that did
pub unplaced_step : (total t j : ℕ) (steps : List Object_step) (step : Object_step)
    → placed_at total t steps ≡ None → slice_get steps j ≡ Some step
    → 2 * total ≤ step.place → step.new ≡ t → ⊥
unplaced_step total t j [] step none at high left = none-some step at
unplaced_step total t zero (first ∷ more) step none at high left =
    let same : first ≡ step = same_Some first step at in
    let above : 2 * total ≤ first.place =
    subst (λ (st : Object_step). 2 * total ≤ st.place) (sym same) high in
    let is : first.new ≡ t = ap (λ (st : Object_step). st.new) same ∙ left in
    let here : (not (nat_lt first.place (2 * total)) && first.new == t) ≡ true =
    and_from (not (nat_lt first.place (2 * total))) (first.new == t)
    (ap not (le-ltb first.place (2 * total) above)) (eq-eqb first.new t is) in
    none-some (first.place - 2 * total)
    (sym none ∙ cond-true (not (nat_lt first.place (2 * total)) && first.new == t)
    (Some (first.place - 2 * total)) (placed_at total t more) here)
unplaced_step total t (suc j) (first ∷ more) step none at high left =
    elim (cases_Bool (not (nat_lt first.place (2 * total)) && first.new == t)) [
      | inl here ↦ absurd (none-some (first.place - 2 * total)
          (sym none ∙ cond-true (not (nat_lt first.place (2 * total)) && first.new == t)
          (Some (first.place - 2 * total)) (placed_at total t more) here))
      | inr away ↦
          unplaced_step total t j more step
          (sym (cond-false (not (nat_lt first.place (2 * total)) && first.new == t)
          (Some (first.place - 2 * total)) (placed_at total t more) away) ∙ none) at high left
    ]

-- A ticket below a place of the log is known, and the call that it names has a word of its
-- operation at this place.
pub record IsNamed (total : ℕ) (steps : List Object_step) (p place : ℕ) : Type 0 where
  pub q : ℕ
  pub low : q < p
  pub number : ℕ
  pub ticket : known (ticket_place total q) steps ≡ Some (suc number)
  pub at : (place ≡ low_place number) ⊎ (place ≡ high_place number)

names_is : (o : Option ℕ) (place : ℕ) → names o place ≡ true → (number : ℕ)
    × (o ≡ Some (suc number)) × ((place ≡ low_place number) ⊎ (place ≡ high_place number))
names_is None place h = absurd cc
names_is (Some zero) place h = absurd cc
names_is (Some (suc number)) place h = (
  number,
  refl,
  elim (or_cases (place == low_place number) (place == high_place number) h) [
    | inl low ↦ inl (eqb-true place (low_place number) low)
    | inr high ↦ inr (eqb-true place (high_place number) high)
  ],
)

pub named_is : (total : ℕ) (steps : List Object_step) (place p : ℕ)
    → is_named_below total steps place p ≡ true → IsNamed total steps p place
named_is total steps place zero h = absurd cc
named_is total steps place (suc p) h =
    elim (or_cases (names (known (ticket_place total p) steps) place)
    (is_named_below total steps place p) h) [
      | inl here ↦
          let found = names_is (known (ticket_place total p) steps) place here in
          record { q = p; low = omega arith; number = found.0; ticket = found.1; at = found.2 }
      | inr below ↦
          let found = named_is total steps place p below in
          record {
            q = found.q;
            low = omega (arith, found.low);
            number = found.number;
            ticket = found.ticket;
            at = found.at;
          }
    ]
