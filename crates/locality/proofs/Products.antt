-- Products of objects.
use Rattle.std.proofs.Common.{◌≡◌, ℕ, Bool, cond, nat_eq, List, [], ◌∷◌, Some, inl, inr, refl, sym, ap, subst, ◌∙◌}
use Rattle.std.proofs.lemmas.Bool.{cases_Bool, eqb-true, eq-eqb}
use Rattle.std.proofs.lemmas.Option.{same_Some, none-some}
use Rattle.book_base.specs.SeqSpec.{SeqSpec}
use Rattle.locality.specs.Locality.{IsProduct, ProductsExist, ProductsAreKeyed}

-- what the operations of a key do to its object's list, of some operations, the latest one first
list_after_all : (ℕ → ℕ) → (ℕ → SeqSpec) → ℕ → List ℕ → List ℕ
list_after_all key objects k [] = (objects k).init
list_after_all key objects k (op ∷ ops) = cond (nat_eq (key op) k)
    ((objects k).next (list_after_all key objects k ops) op).0 (list_after_all key objects k ops)

-- the object whose list has all operation words so far is a product
pub products_exist : ProductsExist
unfolding list_after_all
products_exist key objects = (
  list_after_all key objects,
  record {
    init = [];
    next = λ list op. (
      op ∷ list,
      ((objects (key op)).next (list_after_all key objects (key op) list) op).1,
    );
  },
  record {
    init = λ k. refl;
    reply = λ list op. refl;
    own = λ list op. ap (λ (b : Bool). cond b
        ((objects (key op)).next (list_after_all key objects (key op) list) op).0
        (list_after_all key objects (key op) list)) (eq-eqb (key op) (key op) refl);
    others = λ list op k other. elim (cases_Bool (nat_eq (key op) k)) [
      | inl same ↦ absurd (other (eqb-true (key op) k same))
      | inr apart ↦ ap (λ (b : Bool). cond b
          ((objects k).next (list_after_all key objects k list) op).0
          (list_after_all key objects k list)) apart
    ];
  },
)

module _ (key : ℕ → ℕ) (list_of : ℕ → List ℕ → List ℕ) (objects : ℕ → SeqSpec)
    (product : SeqSpec) (is : IsProduct key list_of objects product) where
  -- lists that are the same at an operation's key have the same reply of it, and the same list there
  same_reply : (one other : List ℕ) (op : ℕ) → list_of (key op) one ≡ list_of (key op) other
      → (product.next one op).1 ≡ (product.next other op).1
  same_reply one other op same = is.reply one op
      ∙ ap (λ (l : List ℕ). ((objects (key op)).next l op).1) same ∙ sym (is.reply other op)

  same_list : (one other : List ℕ) (op : ℕ) → list_of (key op) one ≡ list_of (key op) other
      → list_of (key op) (product.next one op).0 ≡ list_of (key op) (product.next other op).0
  same_list one other op same = is.own one op
      ∙ ap (λ (l : List ℕ). ((objects (key op)).next l op).0) same ∙ sym (is.own other op)

pub products_are_keyed : ProductsAreKeyed
products_are_keyed key list_of objects product is = record {
  reply = λ one other op k at same. same_reply key list_of objects product is one other op
      (subst (λ (n : ℕ). list_of n one ≡ list_of n other) (sym (same_Some (key op) k at)) same);
  own = λ one other op k at same. subst (λ (n : ℕ). list_of n (product.next one op).0
      ≡ list_of n (product.next other op).0) (same_Some (key op) k at)
      (same_list key list_of objects product is one other op
      (subst (λ (n : ℕ). list_of n one ≡ list_of n other) (sym (same_Some (key op) k at)) same));
  others = λ list op k other. is.others list op k (λ same. other (ap Some same));
  unkeyed = λ one other op none. absurd (none-some (key op) (sym none));
}
