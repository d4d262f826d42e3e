-- The crossed calls of two callers are a valid book, and their parts by key are parts.
use Rattle.std.proofs.Common.{◌≡◌, ◌↔◌, ℕ, zero, suc, ◌+◌, ◌<◌, ◌≤◌, List, [], ◌∷◌, length, Option, Some, get_or, refl, sym, ap, subst, ◌∙◌, inl, inr, arith}
use Rattle.std.specs.Option.{IsSomeAnd}
use Rattle.std.proofs.lemmas.Bool.{cases_lt}
use Rattle.std.proofs.lemmas.Option.{same_Some, none-some}
use Rattle.book_base.specs.declared.call.Call.{Call}
use Rattle.book_base.specs.declared.call.Record.{Record}
use Rattle.book_base.specs.Cut.{IsWithin, AreComparable}
use Rattle.book_base.specs.Book.{Page, calls_of, answers_of, IsAnswered, IsValid, operation_of, record_of}
use Rattle.book_base.specs.Pruning.{HasOneOpen}
use Rattle.smaller_book.specs.Part.{numbers_of, AreRising, original, IsNamed, IsPart, IsRenumbered, count_below}
use Rattle.locality.specs.Locality.{IsPartOfKey}
use Rattle.model_examples.specs.Counters.{side_key}
use Rattle.model_examples.specs.OpenCalls.{crossed_calls, one_each, crossed_names, crossed_part}

abbrev call_of : ℕ → ℕ → Call
call_of i k = record { caller = i; number = k }

-- ---- the book

-- each record is the second caller's, and its view counts the held calls and the caller's own
record IsCrossedView (held : ℕ) (i k : ℕ) (r : Record) : Type 0 where
  caller : i ≡ 1
  number : k < 2
  view : r.view ≡ held ∷ (k + 1) ∷ []

crossed_view : (held a b i k : ℕ) (r : Record)
    → record_of (crossed_calls held a b) (call_of i k) ≡ Some r → IsCrossedView held i k r
crossed_view held a b zero k r at = absurd (none-some r at)
crossed_view held a b (suc zero) zero r at = record {
  caller = refl;
  number = omega arith;
  view = ap (λ (x : Record). x.view) (sym (same_Some _ r at));
}
crossed_view held a b (suc zero) (suc zero) r at = record {
  caller = refl;
  number = omega arith;
  view = ap (λ (x : Record). x.view) (sym (same_Some _ r at));
}
crossed_view held a b (suc zero) (suc (suc k)) r at = absurd (none-some r at)
crossed_view held a b (suc (suc i)) k r at = absurd (none-some r at)

few_answers : (held a b i : ℕ)
    → answers_of (crossed_calls held a b) i ≤ calls_of (crossed_calls held a b) i
few_answers held a b zero = omega arith
few_answers held a b (suc zero) = omega arith
few_answers held a b (suc (suc i)) = omega arith

announced_within : (held k : ℕ) → held ≤ 2 → k < 2 → IsWithin (held ∷ (k + 1) ∷ []) (2 ∷ 2 ∷ [])
announced_within held k few inside zero = few
announced_within held k few inside (suc zero) = omega (arith, inside)
announced_within held k few inside (suc (suc i)) = omega arith

rises_with : (held j k : ℕ) → j ≤ k → IsWithin (held ∷ (j + 1) ∷ []) (held ∷ (k + 1) ∷ [])
rises_with held j k le zero = omega arith
rises_with held j k le (suc zero) = omega (arith, le)
rises_with held j k le (suc (suc i)) = omega arith

comparable_views : (held j k : ℕ)
    → AreComparable (held ∷ (j + 1) ∷ []) (held ∷ (k + 1) ∷ [])
comparable_views held j k = elim (cases_lt j k) [
  | inl less ↦ inl (rises_with held j k (omega (arith, less)))
  | inr more ↦ inr (rises_with held k j more)
]

pub crossed_valid : (held a b : ℕ) → held ≤ 2 → IsValid (crossed_calls held a b)
crossed_valid held a b few =
    let seen = λ (call : Call) (r : Record)
    (at : record_of (crossed_calls held a b) call ≡ Some r).
    crossed_view held a b call.caller call.number r at in
    record {
      answers = few_answers held a b;
      wide = λ call r at. ap length (seen call r at).view;
      within = λ call r at. subst (λ (v : List ℕ). IsWithin v (2 ∷ 2 ∷ []))
          (sym (seen call r at).view)
          (announced_within held call.number few (seen call r at).number);
      own = λ call r at.
          ap (λ (v : List ℕ). get_or v call.caller 0) (seen call r at).view
          ∙ ap (λ (i : ℕ). get_or (held ∷ (call.number + 1) ∷ []) i 0) (seen call r at).caller;
      comparable = λ c d r s at bt.
          subst (λ (v : List ℕ). AreComparable v s.view) (sym (seen c r at).view)
          (subst (λ (v : List ℕ). AreComparable (held ∷ (c.number + 1) ∷ []) v)
          (sym (seen d s bt).view) (comparable_views held c.number d.number));
    }

few_open : (k i : ℕ) → k < 2
    → let view : List ℕ = 1 ∷ (k + 1) ∷ [] in
    get_or view i 0 ≤ answers_of (crossed_calls 1 0 1) i + 1
few_open k zero inside = omega arith
few_open k (suc zero) inside = omega (arith, inside)
few_open k (suc (suc i)) inside = omega arith

-- Where the views hold only the first call of the first caller, the book has one open.
pub crossed_one_open : HasOneOpen (crossed_calls 1 0 1)
crossed_one_open call r i at =
    let seen = crossed_view 1 0 1 call.caller call.number r at in
    subst (λ (v : List ℕ). get_or v i 0 ≤ answers_of (crossed_calls 1 0 1) i + 1)
    (sym seen.view) (few_open call.number i seen.number)

-- ---- parts with one call of each caller

-- What a book has at the two calls that a part keeps: call `a` of the first caller, unanswered, and
-- call `b` of the second one.
record AreKept (book : List Page) (a b op reply : ℕ) (view : List ℕ) : Type 0 where
  callers : length book ≡ 2
  open_calls : answers_of book 0 ≡ 0
  first : operation_of book (call_of 0 a) ≡ Some op
  second : operation_of book (call_of 1 b) ≡ Some op
  answer : record_of book (call_of 1 b) ≡ Some (record { reply = reply; view = view })

module _ (book : List Page) (a b op reply held own : ℕ)
    (kept : AreKept book a b op reply (held ∷ own ∷ []))
    (count : count_below (b ∷ []) own ≡ 1) where
  abbrev names : List (List ℕ)
  names = (a ∷ []) ∷ (b ∷ []) ∷ []

  abbrev part : List Page
  part = one_each op (count_below (a ∷ []) held) reply

  as_many : (i : ℕ) → calls_of part i ≡ length (numbers_of names i)
  as_many zero = refl
  as_many (suc zero) = refl
  as_many (suc (suc i)) = refl

  rising : (i : ℕ) → AreRising (numbers_of names i)
  rising zero j k less inside = absurd (omega (arith, less, inside))
  rising (suc zero) j k less inside = absurd (omega (arith, less, inside))
  rising (suc (suc i)) j k less inside = absurd (omega (arith, less, inside))

  same_words : (i k : ℕ) → k < calls_of part i → operation_of part (call_of i k)
      ≡ operation_of book (original names (call_of i k))
  same_words zero zero inside = sym kept.first
  same_words zero (suc k) inside = absurd (omega (arith, inside))
  same_words (suc zero) zero inside = sym kept.second
  same_words (suc zero) (suc k) inside = absurd (omega (arith, inside))
  same_words (suc (suc i)) k inside = absurd (omega (arith, inside))

  no_more_answers : (i : ℕ) → answers_of part i ≤ calls_of part i
  no_more_answers zero = omega arith
  no_more_answers (suc zero) = omega arith
  no_more_answers (suc (suc i)) = omega arith

  abbrev small_record : Record
  small_record = record { reply = reply; view = count_below (a ∷ []) held ∷ 1 ∷ [] }

  counts : (i : ℕ) → get_or small_record.view i 0
      ≡ (let view : List ℕ = held ∷ own ∷ [] in count_below (numbers_of names i) (get_or view i 0))
  counts zero = refl
  counts (suc zero) = sym count
  counts (suc (suc i)) = refl

  same_records : (i k : ℕ) (small : Record) → record_of part (call_of i k) ≡ Some small
      → IsSomeAnd (record_of book (original names (call_of i k)))
      (λ whole. IsRenumbered names whole small)
  same_records zero k small at = absurd (none-some small at)
  same_records (suc zero) zero small at =
      subst (λ o. IsSomeAnd o (λ (whole : Record). IsRenumbered names whole small))
      (sym kept.answer) (subst (λ (x : Record). IsRenumbered names
      (record { reply = reply; view = held ∷ own ∷ [] }) x) (same_Some small_record small at)
      (record { reply = refl; view = counts }))
  same_records (suc zero) (suc k) small at = absurd (none-some small at)
  same_records (suc (suc i)) k small at = absurd (none-some small at)

  one_each_part : IsPart book names part
  one_each_part = record {
    callers = sym kept.callers;
    calls = as_many;
    rising = rising;
    operations = λ call inside. same_words call.caller call.number inside;
    answers = no_more_answers;
    records = λ call small at. same_records call.caller call.number small at;
  }

  keeps : (i k : ℕ) → k < calls_of part i → IsAnswered book (original names (call_of i k))
      → k < answers_of part i
  keeps zero zero inside answered = absurd (omega (arith, answered, kept.open_calls))
  keeps zero (suc k) inside answered = absurd (omega (arith, inside))
  keeps (suc zero) k inside answered = inside
  keeps (suc (suc i)) k inside answered = inside

-- ---- the parts of the crossed calls

-- two propositions that both hold, or that both don't, hold alike
both : {P Q : Type 0} → P → Q → P ↔ Q
both p q = (λ _. q, λ _. p)

neither : {P Q : Type 0} → (P → ⊥) → (Q → ⊥) → P ↔ Q
neither not_p not_q = (λ p. absurd (not_p p), λ q. absurd (not_q q))

-- a list of one number has no other
not_in : (a n : ℕ) → (a ≡ n → ⊥) → ((j : ℕ) × (j < 1) × (get_or (a ∷ []) j 0 ≡ n)) → ⊥
not_in a n apart (zero, inside, is) = apart is
not_in a n apart (suc j, inside, is) = omega (arith, inside)

not_in_none : (n : ℕ) → ((j : ℕ) × (j < 0) × (get_or [] j 0 ≡ n)) → ⊥
not_in_none n (j, inside, is) = omega (arith, inside)

-- an operation word has the key of the one that it is
same_key : (a op k : ℕ) → ◌≡◌ {A = Option ℕ} (Some a) (Some op) → side_key a ≡ k → side_key op ≡ k
same_key a op k at is = ap side_key (sym (same_Some a op at)) ∙ is

other_key : (a op k : ℕ) → ◌≡◌ {A = Option ℕ} (Some a) (Some op) → (side_key a ≡ k → ⊥)
    → side_key op ≡ k → ⊥
other_key a op k at apart is = apart (ap side_key (same_Some a op at) ∙ is)

module _ (held r s : ℕ) where
  abbrev book : List Page
  book = crossed_calls held r s

  named_first : (i n op : ℕ) → operation_of book (call_of i n) ≡ Some op
      → IsNamed (crossed_names 0) (call_of i n) ↔ (side_key op ≡ 0)
  named_first zero zero op at = both (0, omega arith, refl) (same_key 0 op 0 at refl)
  named_first zero (suc zero) op at =
      neither (not_in 0 1 (λ e. omega (arith, e))) (other_key 1 op 0 at (λ e. omega (arith, e)))
  named_first zero (suc (suc n)) op at = absurd (none-some op at)
  named_first (suc zero) zero op at =
      neither (not_in 1 0 (λ e. omega (arith, e))) (other_key 1 op 0 at (λ e. omega (arith, e)))
  named_first (suc zero) (suc zero) op at =
      both (0, omega arith, refl) (same_key 0 op 0 at refl)
  named_first (suc zero) (suc (suc n)) op at = absurd (none-some op at)
  named_first (suc (suc i)) n op at = absurd (none-some op at)

  named_second : (i n op : ℕ) → operation_of book (call_of i n) ≡ Some op
      → IsNamed (crossed_names 1) (call_of i n) ↔ (side_key op ≡ 1)
  named_second zero zero op at =
      neither (not_in 1 0 (λ e. omega (arith, e))) (other_key 0 op 1 at (λ e. omega (arith, e)))
  named_second zero (suc zero) op at =
      both (0, omega arith, refl) (same_key 1 op 1 at refl)
  named_second zero (suc (suc n)) op at = absurd (none-some op at)
  named_second (suc zero) zero op at =
      both (0, omega arith, refl) (same_key 1 op 1 at refl)
  named_second (suc zero) (suc zero) op at =
      neither (not_in 0 1 (λ e. omega (arith, e))) (other_key 0 op 1 at (λ e. omega (arith, e)))
  named_second (suc zero) (suc (suc n)) op at = absurd (none-some op at)
  named_second (suc (suc i)) n op at = absurd (none-some op at)

  named_none : (k i n op : ℕ) → operation_of book (call_of i n) ≡ Some op
      → IsNamed (crossed_names (suc (suc k))) (call_of i n) ↔ (side_key op ≡ suc (suc k))
  named_none k zero zero op at =
      neither (not_in_none 0) (other_key 0 op (suc (suc k)) at (λ e. omega (arith, e)))
  named_none k zero (suc zero) op at =
      neither (not_in_none 1) (other_key 1 op (suc (suc k)) at (λ e. omega (arith, e)))
  named_none k zero (suc (suc n)) op at = absurd (none-some op at)
  named_none k (suc zero) zero op at =
      neither (not_in_none 0) (other_key 1 op (suc (suc k)) at (λ e. omega (arith, e)))
  named_none k (suc zero) (suc zero) op at =
      neither (not_in_none 1) (other_key 0 op (suc (suc k)) at (λ e. omega (arith, e)))
  named_none k (suc zero) (suc (suc n)) op at = absurd (none-some op at)
  named_none k (suc (suc i)) n op at = absurd (none-some op at)

  abbrev no_calls : List Page
  no_calls = crossed_part held r s 2

  none_made : (i : ℕ) → calls_of no_calls i ≡ 0
  none_made zero = refl
  none_made (suc zero) = refl
  none_made (suc (suc i)) = refl

  none_answered : (i k : ℕ) (small : Record) → record_of no_calls (call_of i k) ≡ Some small → ⊥
  none_answered zero k small at = none-some small at
  none_answered (suc zero) k small at = none-some small at
  none_answered (suc (suc i)) k small at = none-some small at

  none_named : (i : ℕ) → length (numbers_of (crossed_names 2) i) ≡ 0
  none_named zero = refl
  none_named (suc zero) = refl
  none_named (suc (suc i)) = refl

  no_answers : (i : ℕ) → answers_of no_calls i ≤ calls_of no_calls i
  no_answers zero = omega arith
  no_answers (suc zero) = omega arith
  no_answers (suc (suc i)) = omega arith

  empty_part : IsPart book (crossed_names 2) no_calls
  empty_part = record {
    callers = refl;
    calls = λ i. none_made i ∙ sym (none_named i);
    rising = λ i j k less inside. absurd (omega (arith, inside, none_named i));
    operations = λ call inside. absurd (omega (arith, inside, none_made call.caller));
    answers = no_answers;
    records = λ call small at. absurd (none_answered call.caller call.number small at);
  }

  pub crossed_parts : (k : ℕ) → IsPartOfKey side_key k book (crossed_names k)
      (crossed_part held r s k)
  crossed_parts zero =
      let kept : AreKept book 0 1 0 s (held ∷ 2 ∷ []) = record {
        callers = refl;
        open_calls = refl;
        first = refl;
        second = refl;
        answer = refl;
      } in
      record {
        is_part = one_each_part book 0 1 0 s held 2 kept refl;
        answers = λ call inside answered.
            keeps book 0 1 0 s held 2 kept refl call.caller call.number inside answered;
        calls = λ call op at. named_first call.caller call.number op at;
      }
  crossed_parts (suc zero) =
      let kept : AreKept book 1 0 1 r (held ∷ 1 ∷ []) = record {
        callers = refl;
        open_calls = refl;
        first = refl;
        second = refl;
        answer = refl;
      } in
      record {
        is_part = one_each_part book 1 0 1 r held 1 kept refl;
        answers = λ call inside answered.
            keeps book 1 0 1 r held 1 kept refl call.caller call.number inside answered;
        calls = λ call op at. named_second call.caller call.number op at;
      }
  crossed_parts (suc (suc k)) = record {
    is_part = empty_part;
    answers = λ call inside answered. absurd (omega (arith, inside, none_made call.caller));
    calls = λ call op at. named_none k call.caller call.number op at;
  }
