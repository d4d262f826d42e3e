-- Two counters side by side are a product, and the part of the first one's key.
use Rattle.std.proofs.Common.{◌≡◌, ◌↔◌, ℕ, zero, suc, ◌<◌, ◌≤◌, List, [], ◌∷◌, length, Some, get_or, refl, sym, ap, subst, ◌∙◌, arith}
use Rattle.std.specs.Option.{IsSomeAnd}
use Rattle.std.proofs.lemmas.Option.{same_Some, none-some}
use Rattle.book_base.specs.declared.call.Record.{Record}
use Rattle.book_base.specs.Book.{Page, calls_of, answers_of, operation_of, record_of}
use Rattle.smaller_book.specs.Part.{numbers_of, AreRising, original, IsNamed, IsRenumbered, count_below}
use Rattle.locality.specs.Locality.{IsProduct, IsPartOfKey}
use Rattle.model_examples.specs.Locks.{two_calls}
use Rattle.model_examples.specs.Counters.{side_key, side_list, side_counter, both_counters, first_part}

begins : (k : ℕ) → side_list k both_counters.init ≡ (side_counter k).init
begins zero = refl
begins (suc zero) = refl
begins (suc (suc k)) = refl

replies : (list : List ℕ) (op : ℕ) → (both_counters.next list op).1
    ≡ ((side_counter (side_key op)).next (side_list (side_key op) list) op).1
replies list zero = refl
replies list (suc op) = refl

changes : (list : List ℕ) (op : ℕ) → side_list (side_key op) (both_counters.next list op).0
    ≡ ((side_counter (side_key op)).next (side_list (side_key op) list) op).0
changes list zero = refl
changes list (suc op) = refl

leaves_others : (list : List ℕ) (op k : ℕ) → (side_key op ≡ k → ⊥)
    → side_list k (both_counters.next list op).0 ≡ side_list k list
leaves_others list zero zero other = absurd (other refl)
leaves_others list zero (suc zero) other = refl
leaves_others list zero (suc (suc k)) other = refl
leaves_others list (suc op) zero other = refl
leaves_others list (suc op) (suc zero) other = absurd (other refl)
leaves_others list (suc op) (suc (suc k)) other = refl

pub counters_product : IsProduct side_key side_list side_counter both_counters
counters_product =
    record { init = begins; reply = replies; own = changes; others = leaves_others }

abbrev names : List (List ℕ)
names = (0 ∷ []) ∷ []

abbrev book : List Page
book = two_calls 0 0 1 0

as_many : (i : ℕ) → calls_of first_part i ≡ length (numbers_of names i)
as_many zero = refl
as_many (suc i) = refl

rising : (i : ℕ) → AreRising (numbers_of names i)
rising zero j k less inside = absurd (omega (arith, less, inside))
rising (suc i) j k less inside = absurd (omega (arith, less, inside))

same_words : (i k : ℕ) → k < calls_of first_part i
    → operation_of first_part (record { caller = i; number = k })
    ≡ operation_of book (original names (record { caller = i; number = k }))
same_words zero zero inside = refl
same_words zero (suc k) inside = absurd (omega (arith, inside))
same_words (suc i) k inside = absurd (omega (arith, inside))

few_answers : (i : ℕ) → answers_of first_part i ≤ calls_of first_part i
few_answers zero = omega arith
few_answers (suc i) = omega arith

abbrev kept : Record
kept = record { reply = 0; view = 1 ∷ [] }

counts : (i : ℕ) → get_or kept.view i 0 ≡ count_below (numbers_of names i) (get_or kept.view i 0)
counts zero = refl
counts (suc i) = refl

same_records : (i k : ℕ) (small : Record)
    → record_of first_part (record { caller = i; number = k }) ≡ Some small
    → IsSomeAnd (record_of book (original names (record { caller = i; number = k })))
    (λ whole. IsRenumbered names whole small)
same_records zero zero small at =
    subst (IsRenumbered names kept) (same_Some kept small at)
    (record { reply = refl; view = counts })
same_records zero (suc k) small at = absurd (none-some small at)
same_records (suc i) k small at = absurd (none-some small at)

keeps : (i k : ℕ) → k < calls_of first_part i → k < answers_of first_part i
keeps zero k inside = inside
keeps (suc i) k inside = inside

of_first : (i k op : ℕ) → operation_of book (record { caller = i; number = k }) ≡ Some op
    → IsNamed names (record { caller = i; number = k }) ↔ (side_key op ≡ 0)
of_first zero zero op at =
    (λ named. ap side_key (sym (same_Some 0 op at)), λ same. (0, omega arith, refl))
of_first zero (suc zero) op at = (
  λ named. absurd (not_named named.0 named.1 named.2),
  λ same. let wrong : 1 ≡ 0 = ap side_key (same_Some 1 op at) ∙ same in
      absurd (omega (arith, wrong)),
)
  where
    not_named : (j : ℕ) → j < 1
        → (let numbers : List ℕ = 0 ∷ [] in get_or numbers j 0 ≡ 1) → ⊥
    not_named zero inside is = omega (arith, is)
    not_named (suc j) inside is = omega (arith, inside)
of_first zero (suc (suc k)) op at = absurd (none-some op at)
of_first (suc i) k op at = absurd (none-some op at)

pub counters_part : IsPartOfKey side_key 0 book names first_part
counters_part = record {
  is_part = record {
    callers = refl;
    calls = as_many;
    rising = rising;
    operations = λ call is_call. same_words call.caller call.number is_call;
    answers = few_answers;
    records = λ call small at. same_records call.caller call.number small at;
  };
  answers = λ call is_call answered. keeps call.caller call.number is_call;
  calls = λ call op at. of_first call.caller call.number op at;
}
