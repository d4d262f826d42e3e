-- From a linearization to a legal order, a law of lists alone.
use Rattle.std.proofs.Common.{◌≡◌, ◌≢◌, ℕ, suc, ◌<◌, List, [], ◌∷◌, length, map, get_or, Option, Some, option_map, slice_get, refl, sym, ap, ◌∙◌, subst, arith, inl, inr}
use Rattle.std.specs.Prelude.{All, Contains, unwrap_or}
use Rattle.std.proofs.lemmas.Bool.{cases_lt}
use Rattle.std.proofs.lemmas.Option.{same_Some, none-some, slice_get_within, slice_get_cases, slice_get-map, slice_get_read, get_or_from_slice_get}
use Rattle.std.proofs.lemmas.Simd.{map-map}
use Rattle.book_base.specs.declared.call.Call.{Call}
use Rattle.book_base.specs.SeqSpec.{SeqSpec}
use Rattle.book_base.specs.Book.{Page, IsCall, operation_of, Precedes}
use Rattle.book_base.specs.Order.{call_at, StandsAt, step_at, IsLegalOrder}
use Rattle.book_base.specs.Sequential.{IsLegalRun}
use Rattle.world_core.specs.History.{Happening, Invoked, Returned, Done, step_of, ReturnsBefore, IsLinearization}
use Rattle.world_laws.specs.Linearizing.{IsHistoryOf, place_of, LinearizationsAreLegalOrders}

-- what a list contains is at a place of it, and what is at a place the list contains
pub stands : {X : Type 0} (xs : List X) (x : X) → (h : Contains xs x) → slice_get xs h.0 ≡ Some x
stands xs x h = slice_get_read xs (length xs) h.0 x refl h.1 (sym h.2)

pub contained : {X : Type 0} (xs : List X) (k : ℕ) (x : X) → slice_get xs k ≡ Some x → Contains xs x
contained xs k x e = (k, slice_get_within xs k x e, get_or_from_slice_get xs k x x e)

-- what holds of all elements holds of the one at a place
all_at : {X : Type 0} (P : X → Type 0) (xs : List X) (k : ℕ) (x : X) → All P xs
    → slice_get xs k ≡ Some x → P x
all_at P xs k x all e =
    subst P (get_or_from_slice_get xs k x x e) (all k x (slice_get_within xs k x e))

-- functions that are equal on the elements of a list make one list
map-same : {X Y : Type 0} (f g : X → Y) (xs : List X)
    → ((k : ℕ) (x : X) → slice_get xs k ≡ Some x → f x ≡ g x) → map f xs ≡ map g xs
map-same f g [] h = refl
map-same f g (x ∷ xs) h =
    let first = h 0 x refl in
    let rest = map-same f g xs (λ k y e. h (suc k) y e) in
    cc

module _ (order : List Done) where
  -- a call at a place of the order of places is the call done at that place of the order
  done_at : (k : ℕ) (call : Call) → StandsAt (map place_of order) k call → (d : Done)
      × (slice_get order k ≡ Some d) × (d.call ≡ call)
  done_at k call (place, at, is) =
      elim (slice_get_cases order k).1 [
        | inl here ↦
            let there : slice_get (map place_of order) k ≡ Some (place_of here.0) =
            slice_get-map place_of order k ∙ ap (option_map place_of) here.2 in
            (here.0, here.2, ap call_at (same_Some (place_of here.0) place (sym there ∙ at)) ∙ is)
        | inr past ↦ absurd (none-some place
            (sym (slice_get-map place_of order k ∙ ap (option_map place_of) past.1) ∙ at))
      ]

  stands_at : (k : ℕ) (d : Done) → slice_get order k ≡ Some d
      → slice_get (map place_of order) k ≡ Some (place_of d)
  stands_at k d e = slice_get-map place_of order k ∙ ap (option_map place_of) e

module _ (spec : SeqSpec) (history : List Happening) (book : List Page) (order : List Done)
    (h : IsHistoryOf history book) (lin : IsLinearization spec history order) where
  known : (k : ℕ) (d : Done) → slice_get order k ≡ Some d
      → operation_of book d.call ≡ Some d.operation
  known k d e = (h.invoked d.call d.operation).0
      (all_at (λ (c : Done). Contains history (Invoked c.call c.operation)) order k d lin.invoked e)

  is_call : (k : ℕ) (call : Call) → StandsAt (map place_of order) k call → IsCall book call
  is_call k call at =
      let d = done_at order k call at in
      subst (IsCall book) d.2 (slice_get_within _ d.0.call.number d.0.operation (known k d.0 d.1))

  -- no call has two places
  apart : (j k : ℕ) (d e : Done) → slice_get order j ≡ Some d → slice_get order k ≡ Some e
      → d.call ≡ e.call → j < k → ⊥
  apart j k d e at bt same less =
      let twice : (get_or order j d).call ≢ (get_or order k d).call =
      lin.once j k d less (slice_get_within order k e bt) in
      twice (ap (λ (x : Done). x.call) (get_or_from_slice_get order j d d at) ∙ same
      ∙ sym (ap (λ (x : Done). x.call) (get_or_from_slice_get order k e d bt)))

  once : (j k : ℕ) (call : Call) → StandsAt (map place_of order) j call
      → StandsAt (map place_of order) k call → j ≡ k
  once j k call at bt =
      let d = done_at order j call at in
      let e = done_at order k call bt in
      elim (cases_lt j k) [
        | inl less ↦ absurd (apart j k d.0 e.0 d.1 e.1 (d.2 ∙ sym e.2) less)
        | inr le ↦ elim (cases_lt k j) [
          | inl more ↦ absurd (apart k j e.0 d.0 e.1 d.1 (e.2 ∙ sym d.2) more)
          | inr ge ↦ omega arith
        ]
      ]

  -- a call that returned before a call of the order has an earlier place
  first_stands : (k : ℕ) (a b : Call) → StandsAt (map place_of order) k b
      → ReturnsBefore history a b → (j : ℕ) × (j < k) × StandsAt (map place_of order) j a
  first_stands k a b bt before =
      let e = done_at order k b bt in
      let found =
      lin.returned a before.2 (contained history before.0 (Returned a before.2) before.5) in
      let d : Done = record { call = a; operation = found.0; reply = before.2 } in
      let there = stands order d found.1 in (
        found.1.0,
        lin.ordered found.1.0 k d e.0 there e.1 (subst (ReturnsBefore history a) (sym e.2) before),
        (place_of d, stands_at order found.1.0 d there, refl),
      )

  precedence : (j k : ℕ) (a b : Call) → StandsAt (map place_of order) j a
      → StandsAt (map place_of order) k b → Precedes book a b → j < k
  precedence j k a b at bt p =
      let first = first_stands k a b bt (h.before a b (is_call k b bt) p) in
      let same = once j first.0 a at first.2 in
      omega (arith, same, first.1)

  same_step : (k : ℕ) (d : Done) → slice_get order k ≡ Some d
      → step_at book (place_of d) ≡ step_of d
  same_step k d e = let made : Option ℕ → ℕ × ℕ =
      λ o. (unwrap_or o 0, d.reply) in ap made (known k d e)

  legal : IsLegalOrder spec book (map place_of order)
  legal =
      record {
        calls = is_call;
        once = once;
        earlier = λ k call at number less.
            first_stands k (record { caller = call.caller; number = number }) call at
            (h.before (record { caller = call.caller; number = number }) call (is_call k call at)
            (inr (refl, less)));
        answered = λ call r e.
            let found = lin.returned call r.reply (h.returned call r e) in
            let there =
            stands order (record { call = call; operation = found.0; reply = r.reply }) found.1 in (
              found.1.0,
              stands_at order found.1.0
                  (record { call = call; operation = found.0; reply = r.reply }) there,
            );
        run = subst (IsLegalRun spec) (sym (map-map (step_at book) place_of order
            ∙ map-same (λ d. step_at book (place_of d)) step_of order same_step)) lin.legal;
        precedence = precedence;
      }

pub linearizations_are_legal_orders : LinearizationsAreLegalOrders
linearizations_are_legal_orders spec history book order h lin =
    legal spec history book order h lin
