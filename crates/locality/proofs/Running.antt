-- Runs of a product and of its objects.
use Rattle.std.proofs.Common.{◌≡◌, ℕ, false, nat_eq, List, [], ◌∷◌, inl, inr, refl, sym, subst, ◌∙◌}
use Rattle.std.proofs.lemmas.Bool.{cases_Bool, eqb-true, eq-eqb, true≢false}
use Rattle.book_base.specs.SeqSpec.{SeqSpec}
use Rattle.book_base.specs.Sequential.{IsRunFrom}
use Rattle.smaller_book.proofs.Filtering.{filter-kept, filter-gone}
use Rattle.locality.specs.Locality.{IsProduct, steps_of_key, RunsOfProducts}

-- a step of a key comes first among the steps of this key
own_step : (key : ℕ → ℕ) (step : ℕ × ℕ) (steps : List (ℕ × ℕ))
    → steps_of_key key (key step.0) (step ∷ steps)
    ≡ step ∷ steps_of_key key (key step.0) steps
own_step key step steps = filter-kept (λ (s : ℕ × ℕ). nat_eq (key s.0) (key step.0)) step steps
    (eq-eqb (key step.0) (key step.0) refl)

-- and isn't among those of another key
other_step : (key : ℕ → ℕ) (k : ℕ) (step : ℕ × ℕ) (steps : List (ℕ × ℕ))
    → nat_eq (key step.0) k ≡ false
    → steps_of_key key k (step ∷ steps) ≡ steps_of_key key k steps
other_step key k step steps apart =
    filter-gone (λ (s : ℕ × ℕ). nat_eq (key s.0) k) step steps apart

-- keys that the test tells apart differ
apart_keys : (a b : ℕ) → nat_eq a b ≡ false → a ≡ b → ⊥
apart_keys a b apart same = true≢false (sym (eq-eqb a b same) ∙ apart)

module _ (key : ℕ → ℕ) (list_of : ℕ → List ℕ → List ℕ) (objects : ℕ → SeqSpec)
    (product : SeqSpec) (is : IsProduct key list_of objects product) where
  -- runs of all keys make a run of the product
  product_run : (list : List ℕ) (steps : List (ℕ × ℕ)) → ((k : ℕ)
      → IsRunFrom (objects k).next (list_of k list) (steps_of_key key k steps))
      → IsRunFrom product.next list steps
  product_run list [] runs = tt
  product_run list (step ∷ steps) runs =
      let mine = key step.0 in
      let own = subst (IsRunFrom (objects mine).next (list_of mine list))
      (own_step key step steps) (runs mine) in (
        is.reply list step.0 ∙ own.0,
        product_run (product.next list step.0).0 steps (λ k. elim (cases_Bool (nat_eq mine k)) [
          | inl same ↦
              let eq = eqb-true mine k same in
              subst (λ (j : ℕ). IsRunFrom (objects j).next
              (list_of j (product.next list step.0).0) (steps_of_key key j steps)) eq
              (subst (λ (l : List ℕ). IsRunFrom (objects mine).next l
              (steps_of_key key mine steps)) (sym (is.own list step.0)) own.1)
          | inr apart ↦
              subst (λ (l : List ℕ). IsRunFrom (objects k).next l (steps_of_key key k steps))
              (sym (is.others list step.0 k (apart_keys mine k apart)))
              (subst (IsRunFrom (objects k).next (list_of k list))
              (other_step key k step steps apart) (runs k))
        ]),
      )

  -- a run of the product gives runs of all keys
  key_run : (list : List ℕ) (steps : List (ℕ × ℕ)) → IsRunFrom product.next list steps → (k : ℕ)
      → IsRunFrom (objects k).next (list_of k list) (steps_of_key key k steps)
  key_run list [] run k = tt
  key_run list (step ∷ steps) run k =
      let mine = key step.0 in
      let rest = key_run (product.next list step.0).0 steps run.1 in
      elim (cases_Bool (nat_eq mine k)) [
        | inl same ↦
            let eq = eqb-true mine k same in
            subst (λ (j : ℕ). IsRunFrom (objects j).next (list_of j list)
            (steps_of_key key j (step ∷ steps))) eq
            (subst (IsRunFrom (objects mine).next (list_of mine list))
            (sym (own_step key step steps)) (
              sym (is.reply list step.0) ∙ run.0,
              subst (λ (l : List ℕ). IsRunFrom (objects mine).next l
                  (steps_of_key key mine steps)) (is.own list step.0) (rest mine),
            ))
        | inr apart ↦
            subst (IsRunFrom (objects k).next (list_of k list))
            (sym (other_step key k step steps apart))
            (subst (λ (l : List ℕ). IsRunFrom (objects k).next l (steps_of_key key k steps))
            (is.others list step.0 k (apart_keys mine k apart)) (rest k))
      ]

pub runs_of_products : RunsOfProducts
runs_of_products key list_of objects product list steps is = (
  key_run key list_of objects product is list steps,
  product_run key list_of objects product is list steps,
)
