-- The seats of all callers come back to one seat, the last first, and its view has what they know.
use Rattle.std.proofs.Common.{◌≡◌, ℕ, zero, suc, ◌+◌, ◌<◌, List, [], ◌∷◌, ◌++◌, length, map, slice_set, Option, Some, None, refl, sym, ap, ◌∙◌, subst, arith, append_assoc, length-append, length-set}
use Rattle.std.specs.List.{All, range_with_len}
use Rattle.std.proofs.lemmas.Option.{none-some}
use Rattle.std.proofs.lemmas.List.{nil_from_length}
use Rattle.std.proofs.lemmas.List.Elements.{All-cons, All-nil, All-head, All-weaker}
use Rattle.row_table.specs.Holders.{has, only}
use Rattle.shared_words.proofs.Logs.{All-suffix}
use Rattle.row_table.proofs.Holders.{only_here, length-only, with_here, with_else}

-- the seat that comes back next is before those that came back
pub split_back : {S : Type 0} (all rest rest' gathered : List S) (s : S) → all ≡ rest ++ gathered
    → rest ≡ rest' ++ s ∷ [] → all ≡ rest' ++ s ∷ gathered
split_back all rest rest' gathered s is popped =
    is ∙ ap (λ (r : List _). r ++ gathered) popped ∙ append_assoc rest' (s ∷ []) gathered

-- where no seat is left, all came back
pub split_all : {S : Type 0} (all rest gathered : List S) → all ≡ rest ++ gathered
    → length rest ≡ 0 → gathered ≡ all
split_all all rest gathered is none =
    sym (is ∙ ap (λ (r : List _). r ++ gathered) (nil_from_length rest none))

-- A suffix of the seats of n callers came back: a view has what each of them knows, and nothing of
-- the others.
pub record IsComing {S A : Type 0} (caller : S → ℕ) (known : S → A) (n : ℕ) (all rest : List S)
    (v : List (Option A)) : Type 0 where
  pub gathered : List S
  pub split : all ≡ rest ++ gathered
  pub hands : All (λ s. has v (caller s) ≡ Some (known s)) gathered
  pub below : (i : ℕ) → i < length rest → has v i ≡ None
  pub wide : length v ≡ n

-- The next seat to come back is right, and the view lacks its caller and has a place for it.
pub record IsNext {S A : Type 0} (caller : S → ℕ) (right : S → Type 0) (v : List (Option A))
    (s : S) : Type 0 where
  pub seat : right s
  pub gone : has v (caller s) ≡ None
  pub inside : caller s < length v

module _ {S A : Type 0} (caller : S → ℕ) (known : S → A) where
  only_below : (who i : ℕ) (x : A) → i < who → has (only who x) i ≡ None
  only_below zero i x low = absurd (omega arith)
  only_below (suc who) zero x low = refl
  only_below (suc who) (suc i) x low = only_below who i x (omega arith)

  callers_count : (a n : ℕ) (xs : List S) → map caller xs ≡ range_with_len a n → length xs ≡ n
  callers_count a zero [] e = refl
  callers_count a zero (x ∷ xs) e = absurd (let long = ap length e in omega arith)
  callers_count a (suc n) [] e = absurd (let long = ap length e in omega arith)
  callers_count a (suc n) (x ∷ xs) e = let rest : map caller xs ≡ range_with_len (a + 1) n = cc in
      ap suc (callers_count (a + 1) n xs rest)

  -- in seats that are in order, a seat's caller is its place
  caller_at : (a n : ℕ) (xs ys : List S) (s : S) → map caller (xs ++ s ∷ ys) ≡ range_with_len a n
      → (caller s ≡ a + length xs) × (length xs + suc (length ys) ≡ n)
  caller_at a zero [] ys s e = absurd (let long = ap length e in omega arith)
  caller_at a zero (x ∷ xs) ys s e = absurd (let long = ap length e in omega arith)
  caller_at a (suc n) [] ys s e =
      let head : caller s ≡ a = cc in
      let tail : map caller ys ≡ range_with_len (a + 1) n = cc in (
        (let same = head in omega arith),
        (let long = callers_count (a + 1) n ys tail in omega arith),
      )
  caller_at a (suc n) (x ∷ xs) ys s e =
      let tail : map caller (xs ++ s ∷ ys) ≡ range_with_len (a + 1) n = cc in
      let deeper = caller_at (a + 1) n xs ys s tail in
      ((let same = deeper.0 in omega arith), (let long = deeper.1 in omega arith))

  -- coming back begins with the last caller's seat, to which the others come back
  pub starts_coming : (n : ℕ) (all rest : List S) (last : S) (v : List (Option A)) → all ≡ rest
      ++ last ∷ [] → map caller all ≡ range_with_len 0 n → v ≡ only (caller last) (known last)
      → IsComing caller known n all rest v
  starts_coming n all rest last v is callers alone =
      let at = caller_at 0 n rest [] last (ap (map caller) (sym is) ∙ callers) in
      let who : caller last ≡ length rest = (let place = at.0 in omega arith) in
      let here : has v (caller last) ≡ Some (known last) = ap
      (λ (w : List (Option A)). has w (caller last)) alone ∙ only_here (caller last) (known last) in
      record {
        gathered = last ∷ [];
        split = is;
        hands = All-cons (λ s. has v (caller s) ≡ Some (known s)) last [] here
            (All-nil (λ s. has v (caller s) ≡ Some (known s)));
        below = λ i low. ap (λ (w : List (Option A)). has w i) alone
            ∙ only_below (caller last) i (known last) (omega arith);
        wide =
            let long = length-only (caller last) (known last) in
            let same = ap (λ (w : List (Option A)). length w) alone in
            let count = at.1 in
            omega arith;
      }

  -- one more seat comes back
  module _ (n : ℕ) (all rest rest' : List S) (s : S) (v : List (Option A))
      (callers : map caller all ≡ range_with_len 0 n)
      (h : IsComing caller known n all rest v) (popped : rest ≡ rest' ++ s ∷ []) where
    split_next : all ≡ rest' ++ s ∷ h.gathered
    split_next = split_back all rest rest' h.gathered s h.split popped

    place : (caller s ≡ 0 + length rest') × (length rest' + suc (length h.gathered) ≡ n)
    place = caller_at 0 n rest' h.gathered s (ap (map caller) (sym split_next) ∙ callers)

    next_low : caller s < length rest
    next_low = let at = place.0 in let long = ap length popped in
        omega (arith, length-append rest' (s ∷ []))

    next_gone : has v (caller s) ≡ None
    next_gone = h.below (caller s) next_low

    next_inside : caller s < length v
    next_inside = (let at = place.0 in let count = place.1 in let wide = h.wide in omega arith)

    pub comes_next : (right : S → Type 0) → All right all → IsNext caller right v s
    comes_next right each =
        record {
          seat = All-head right s h.gathered (All-suffix right rest' (s ∷ h.gathered)
              (subst (λ (xs : List S). All right xs) split_next each));
          gone = next_gone;
          inside = next_inside;
        }

    module _ (u : List (Option A)) (after : u ≡ slice_set v (caller s) (Some (known s))) where
      abbrev Has : S → Type 0
      Has t = has u (caller t) ≡ Some (known t)

      own_known : Has s
      own_known = ap (λ (w : List (Option A)). has w (caller s)) after
          ∙ with_here v (caller s) (known s) next_inside

      other_known : (t : S) → has v (caller t) ≡ Some (known t) → Has t
      other_known t was =
          ap (λ (w : List (Option A)). has w (caller t)) after
          ∙ with_else v (caller s) (caller t) (known s)
          (λ same. none-some (known t) (sym (ap (has v) same ∙ next_gone) ∙ was))
          ∙ was

      pub more_coming : IsComing caller known n all rest' u
      more_coming =
          record {
            gathered = s ∷ h.gathered;
            split = split_next;
            hands = All-cons Has s h.gathered own_known (All-weaker
                (λ t. has v (caller t) ≡ Some (known t)) Has other_known h.gathered h.hands);
            below = λ i low.
                ap (λ (w : List (Option A)). has w i) after
                ∙ with_else v (caller s) i (known s)
                (λ same. absurd (let at = place.0 in omega arith))
                ∙ h.below i
                (let long = ap length popped in omega (arith, length-append rest' (s ∷ [])));
            wide = ap (λ (w : List (Option A)). length w) after
                ∙ length-set v (caller s) (Some (known s)) ∙ h.wide;
          }

  -- all seats have come back
  pub all_hands : (n : ℕ) (all rest : List S) (v : List (Option A))
      → IsComing caller known n all rest v → length rest ≡ 0
      → All (λ s. has v (caller s) ≡ Some (known s)) all
  all_hands n all rest v h none =
      subst (λ (xs : List S). All (λ s. has v (caller s) ≡ Some (known s)) xs)
      (split_all all rest h.gathered h.split none) h.hands
