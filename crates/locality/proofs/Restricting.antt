-- From a legal order of a product to those of its objects.
use Rattle.std.proofs.Common.{◌≡◌, ℕ, zero, suc, List, [], ◌∷◌, map, get_or, Option, Some, unwrap_or, inl, refl, sym, ap, subst, ◌∙◌}
use Rattle.std.proofs.lemmas.Option.{slice_get-get_or}
use Rattle.book_base.specs.declared.call.Call.{Call}
use Rattle.book_base.specs.declared.call.Place.{Place}
use Rattle.book_base.specs.SeqSpec.{SeqSpec, spec_from}
use Rattle.book_base.specs.Book.{Page, page_of, IsCall, operation_of}
use Rattle.book_base.specs.Sequential.{IsRunFrom}
use Rattle.book_base.specs.Order.{step_at, IsLegalOrder}
use Rattle.smaller_book.proofs.Following.{IsFollowed, has_one_in_part}
use Rattle.locality.specs.Locality.{IsProduct, LegalWholesHaveLegalParts}

-- two objects beside one another: the first word of a list says whose list follows it
beside : (first second : List ℕ → ℕ → List ℕ × ℕ) → List ℕ → ℕ → List ℕ × ℕ
beside first second [] op = ([], 0)
beside first second (zero ∷ list) op = (zero ∷ (first list op).0, (first list op).1)
beside first second (suc n ∷ list) op = (suc n ∷ (second list op).0, (second list op).1)

-- an object embeds into another one: each list has an image, and operations do to the images what
-- they do to the lists, with the same replies
Embeds : (List ℕ → List ℕ) → (List ℕ → ℕ → List ℕ × ℕ) → (List ℕ → ℕ → List ℕ × ℕ) → Type 0
Embeds image next other = (list : List ℕ) (op : ℕ)
    → other (image list) op ≡ (image (next list op).0, (next list op).1)

-- a run from a list is one from its image
run_of_images : (image : List ℕ → List ℕ) (next other : List ℕ → ℕ → List ℕ × ℕ)
    → Embeds image next other → (list : List ℕ) (steps : List (ℕ × ℕ))
    → IsRunFrom next list steps → IsRunFrom other (image list) steps
unfolding Embeds
run_of_images image next other embeds list [] run = tt
run_of_images image next other embeds list (step ∷ steps) run =
    let made = embeds list step.0 in (
      ap (λ (p : List ℕ × ℕ). p.1) made ∙ run.0,
      subst (λ (l : List ℕ). IsRunFrom other l steps) (sym (ap (λ (p : List ℕ × ℕ). p.0) made))
          (run_of_images image next other embeds (next list step.0).0 steps run.1),
    )

-- and a run from the image of a list is one from the list
run_from_images : (image : List ℕ → List ℕ) (next other : List ℕ → ℕ → List ℕ × ℕ)
    → Embeds image next other → (list : List ℕ) (steps : List (ℕ × ℕ))
    → IsRunFrom other (image list) steps → IsRunFrom next list steps
unfolding Embeds
run_from_images image next other embeds list [] run = tt
run_from_images image next other embeds list (step ∷ steps) run =
    let made = embeds list step.0 in (
      sym (ap (λ (p : List ℕ × ℕ). p.1) made) ∙ run.0,
      run_from_images image next other embeds (next list step.0).0 steps
          (subst (λ (l : List ℕ). IsRunFrom other l steps) (ap (λ (p : List ℕ × ℕ). p.0) made)
          run.1),
    )

-- a legal order is one of each object with the same run
legal_by_run : (a b : SeqSpec) (book : List Page) (order : List Place) → IsLegalOrder a book order
    → IsRunFrom b.next b.init (map (step_at book) order) → IsLegalOrder b book order
legal_by_run a b book order legal run = record {
  calls = legal.calls;
  once = legal.once;
  earlier = legal.earlier;
  answered = legal.answered;
  run = run;
  precedence = legal.precedence;
}

first_embeds : (first second : List ℕ → ℕ → List ℕ × ℕ)
    → Embeds (λ list. zero ∷ list) first (beside first second)
unfolding Embeds beside
first_embeds first second list op = refl

second_embeds : (first second : List ℕ → ℕ → List ℕ × ℕ)
    → Embeds (λ list. suc zero ∷ list) second (beside first second)
unfolding Embeds beside
second_embeds first second list op = refl

-- the list of a product, and that of one of its objects, beside one another
record AreMatched (list_of : ℕ → List ℕ → List ℕ) (k : ℕ) (whole few : List ℕ) : Type 0 where
  list : List ℕ
  whole_is : whole ≡ zero ∷ list
  few_is : few ≡ suc zero ∷ list_of k list

-- a call of another key changes the product's list alone, and not the part of it
matched_without : (key : ℕ → ℕ) (list_of : ℕ → List ℕ → List ℕ) (objects : ℕ → SeqSpec)
    (product : SeqSpec) (k : ℕ) (whole few : List ℕ) (op : ℕ)
    → IsProduct key list_of objects product → (key op ≡ k → ⊥)
    → AreMatched list_of k whole few
    → AreMatched list_of k (beside product.next (objects k).next whole op).0 few
matched_without key list_of objects product k whole few op is other matched =
    let both = beside product.next (objects k).next in
    let step : both (zero ∷ matched.list) op
    ≡ (zero ∷ (product.next matched.list op).0, (product.next matched.list op).1) =
    unfold Embeds in first_embeds product.next (objects k).next matched.list op in
    record {
      list = (product.next matched.list op).0;
      whole_is = ap (λ (l : List ℕ). (both l op).0) matched.whole_is
          ∙ ap (λ (p : List ℕ × ℕ). p.0) step;
      few_is = matched.few_is
          ∙ ap (λ (l : List ℕ). suc zero ∷ l) (sym (is.others matched.list op k other));
    }

-- a call of the key changes both lists, with the same reply
matched_with : (key : ℕ → ℕ) (list_of : ℕ → List ℕ → List ℕ) (objects : ℕ → SeqSpec)
    (product : SeqSpec) (k : ℕ) (whole few : List ℕ) (op : ℕ)
    → IsProduct key list_of objects product → key op ≡ k → AreMatched list_of k whole few
    → ((beside product.next (objects k).next few op).1
    ≡ (beside product.next (objects k).next whole op).1)
    × AreMatched list_of k (beside product.next (objects k).next whole op).0
    (beside product.next (objects k).next few op).0
matched_with key list_of objects product k whole few op is same matched =
    let both = beside product.next (objects k).next in
    let list = matched.list in
    let step : both (zero ∷ list) op
    ≡ (zero ∷ (product.next list op).0, (product.next list op).1) =
    unfold Embeds in first_embeds product.next (objects k).next list op in
    let mine : both (suc zero ∷ list_of k list) op
    ≡
    (suc zero ∷ ((objects k).next (list_of k list) op).0, ((objects k).next (list_of k list) op).1)
    = unfold Embeds in second_embeds product.next (objects k).next (list_of k list) op in
    let reply : (product.next list op).1 ≡ ((objects k).next (list_of k list) op).1 =
    subst (λ (n : ℕ). (product.next list op).1 ≡ ((objects n).next (list_of n list) op).1) same
    (is.reply list op) in
    let own : list_of k (product.next list op).0 ≡ ((objects k).next (list_of k list) op).0 =
    subst (λ (n : ℕ). list_of n (product.next list op).0
    ≡ ((objects n).next (list_of n list) op).0) same (is.own list op) in
    let whole_step = ap (λ (l : List ℕ). both l op) matched.whole_is ∙ step in
    let few_step = ap (λ (l : List ℕ). both l op) matched.few_is ∙ mine in (
      ap (λ (p : List ℕ × ℕ). p.1) few_step ∙ sym reply
          ∙ sym (ap (λ (p : List ℕ × ℕ). p.1) whole_step),
      record {
        list = (product.next list op).0;
        whole_is = ap (λ (p : List ℕ × ℕ). p.0) whole_step;
        few_is = ap (λ (p : List ℕ × ℕ). p.0) few_step
            ∙ ap (λ (l : List ℕ). suc zero ∷ l) (sym own);
      },
    )

-- A call of a book has an operation word.
pub word_is : (book : List Page) (call : Call) → IsCall book call
    → operation_of book call ≡ Some (unwrap_or (operation_of book call) 0)
word_is book call is_call =
    let words = (page_of book call.caller).operations in
    let word : operation_of book call ≡ Some (get_or words call.number 0) =
    slice_get-get_or words call.number 0 is_call in
    word ∙ ap (λ (o : Option ℕ). Some (unwrap_or o 0)) (sym word)

pub legal_wholes_have_legal_parts : LegalWholesHaveLegalParts
legal_wholes_have_legal_parts key list_of objects product k book names part is of_key
    (order, legal) =
    let both = beside product.next (objects k).next in
    let steps = map (step_at book) order in
    let whole : IsLegalOrder (spec_from (zero ∷ product.init) both) book order =
    legal_by_run product (spec_from (zero ∷ product.init) both) book order legal
    (run_of_images (λ list. zero ∷ list) product.next both
    (first_embeds product.next (objects k).next) product.init steps legal.run) in
    let followed : IsFollowed (AreMatched list_of k) both book names = record {
      lacks = λ whole few call matched is_call unnamed agrees.
          matched_without key list_of objects product k whole few
          (unwrap_or (operation_of book call) 0) is
          (λ same. unnamed ((of_key.calls call (unwrap_or (operation_of book call) 0)
          (word_is book call is_call)).1 same)) matched;
      has = λ whole few call matched is_call named agrees.
          let made = matched_with key list_of objects product k whole few
          (unwrap_or (operation_of book call) 0) is
          ((of_key.calls call (unwrap_or (operation_of book call) 0)
          (word_is book call is_call)).0 named) matched in inl ((λ answered. made.0), made.1);
    } in
    let found = has_one_in_part (AreMatched list_of k) both book names part
    (zero ∷ product.init) (suc zero ∷ list_of k product.init) of_key.is_part followed
    (record { list = product.init; whole_is = refl; few_is = refl }) (order, whole) in (
      found.0,
      legal_by_run (spec_from (suc zero ∷ list_of k product.init) both) (objects k) part found.0
          found.1
          (subst (λ (l : List ℕ). IsRunFrom (objects k).next l (map (step_at part) found.0))
          (is.init k)
          (run_from_images (λ list. suc zero ∷ list) (objects k).next both
          (second_embeds product.next (objects k).next) (list_of k product.init)
          (map (step_at part) found.0) found.1.run)),
    )
