-- The books of the cases of evidence are valid.
use Rattle.std.proofs.Common.{◌≡◌, ℕ, zero, suc, ◌+◌, ◌<◌, ◌≤◌, List, [], ◌∷◌, length, get_or, Some, IsSomeAnd, refl, sym, subst, inl, inr, arith}
use Rattle.std.proofs.lemmas.Option.{same_Some, none-some}
use Rattle.book_base.specs.declared.call.Record.{Record}
use Rattle.book_base.specs.Cut.{IsWithin, AreComparable}
use Rattle.book_base.specs.Book.{Page, calls_of, answers_of, operation_of, record_of, IsValid}
use Rattle.book_base.specs.Pruning.{HasOneOpen}
use Rattle.seq_objects.specs.declared.kind.Kind.TheVariants as kinds
use Rattle.seq_objects.specs.Words.{is_known_word, entry_of, entries}
use Rattle.seq_objects.specs.Objects.{kind_next}
use Rattle.smaller_book.specs.Part.{numbers_of, original, count_below, AreRising, IsRenumbered, IsPart, KeepsAnswers}
use Rattle.smaller_book.specs.ReadOnly.{IsReadOnly}
use Rattle.smaller_book.specs.Keys.{keys_from_to, all_without}
use Rattle.smaller_book.proofs.LoneCalls.{first_call, CountItself, lone_caller, lone_view, lone_caller_is_valid}
use Rattle.judging_examples.specs.Books.{answer}
use Rattle.judging_examples.specs.EvidenceBooks.{three_increments, misread, needless_read, needless_put}

-- What holds of the view of all three calls holds of the view of each record of
-- `three_increments`.
pub increments_views : (P : ℕ → ℕ → List ℕ → Type 0) → P 0 0 (1 ∷ 1 ∷ 1 ∷ []) → P 1 0 (1 ∷ 1 ∷ 1 ∷ [])
    → P 2 0 (1 ∷ 1 ∷ 1 ∷ []) → (i k : ℕ) (r : Record)
    → record_of three_increments (record { caller = i; number = k }) ≡ Some r → P i k r.view
increments_views P x y z zero zero r e = subst (λ (s : Record). P 0 0 s.view) (same_Some _ r e) x
increments_views P x y z zero (suc k) r e = absurd (none-some r e)
increments_views P x y z (suc zero) zero r e =
    subst (λ (s : Record). P 1 0 s.view) (same_Some _ r e) y
increments_views P x y z (suc zero) (suc k) r e = absurd (none-some r e)
increments_views P x y z (suc (suc zero)) zero r e =
    subst (λ (s : Record). P 2 0 s.view) (same_Some _ r e) z
increments_views P x y z (suc (suc zero)) (suc k) r e = absurd (none-some r e)
increments_views P x y z (suc (suc (suc i))) k r e = absurd (none-some r e)

increments_answers : (i : ℕ) → answers_of three_increments i ≤ calls_of three_increments i
increments_answers zero = omega arith
increments_answers (suc zero) = omega arith
increments_answers (suc (suc zero)) = omega arith
increments_answers (suc (suc (suc i))) = omega arith

pub within_itself : (cut : List ℕ) → IsWithin cut cut
within_itself cut i = omega arith

increments_comparable : (j m : ℕ) (t : Record)
    → record_of three_increments (record { caller = j; number = m }) ≡ Some t
    → AreComparable (1 ∷ 1 ∷ 1 ∷ []) t.view
increments_comparable = increments_views (λ j m w. AreComparable (1 ∷ 1 ∷ 1 ∷ []) w)
    (inl (within_itself (1 ∷ 1 ∷ 1 ∷ []))) (inl (within_itself (1 ∷ 1 ∷ 1 ∷ [])))
    (inl (within_itself (1 ∷ 1 ∷ 1 ∷ [])))

pub three_increments_are_valid : IsValid three_increments
three_increments_are_valid = record {
  answers = increments_answers;
  wide = λ call r e.
      increments_views (λ i k v. length v ≡ 3) refl refl refl call.caller call.number r e;
  within = λ call r e. increments_views (λ i k v. IsWithin v (1 ∷ 1 ∷ 1 ∷ []))
      (within_itself (1 ∷ 1 ∷ 1 ∷ [])) (within_itself (1 ∷ 1 ∷ 1 ∷ []))
      (within_itself (1 ∷ 1 ∷ 1 ∷ [])) call.caller call.number r e;
  own = λ call r e.
      increments_views (λ i k v. get_or v i 0 ≡ k + 1) refl refl refl call.caller call.number r e;
  comparable = λ a b r s x y. increments_views (λ i k v. (j m : ℕ) (t : Record)
      → record_of three_increments (record { caller = j; number = m }) ≡ Some t
      → AreComparable v t.view)
      increments_comparable increments_comparable increments_comparable
      a.caller a.number r x b.caller b.number s y;
}

-- What holds of the two views of `misread` holds of the view of each of its records.
misread_views : (P : ℕ → ℕ → List ℕ → Type 0) → P 0 0 (1 ∷ 0 ∷ []) → P 1 0 (1 ∷ 1 ∷ [])
    → (i k : ℕ) (r : Record)
    → record_of misread (record { caller = i; number = k }) ≡ Some r → P i k r.view
misread_views P x y zero zero r e = subst (λ (s : Record). P 0 0 s.view) (same_Some _ r e) x
misread_views P x y zero (suc k) r e = absurd (none-some r e)
misread_views P x y (suc zero) zero r e = subst (λ (s : Record). P 1 0 s.view) (same_Some _ r e) y
misread_views P x y (suc zero) (suc k) r e = absurd (none-some r e)
misread_views P x y (suc (suc i)) k r e = absurd (none-some r e)

misread_answers : (i : ℕ) → answers_of misread i ≤ calls_of misread i
misread_answers zero = omega arith
misread_answers (suc zero) = omega arith
misread_answers (suc (suc i)) = omega arith

write_within : IsWithin (1 ∷ 0 ∷ []) (1 ∷ 1 ∷ [])
write_within zero = omega arith
write_within (suc zero) = omega arith
write_within (suc (suc i)) = omega arith

pub misread_is_valid : IsValid misread
misread_is_valid = record {
  answers = misread_answers;
  wide = λ call r e. misread_views (λ i k v. length v ≡ 2) refl refl call.caller call.number r e;
  within = λ call r e. misread_views (λ i k v. IsWithin v (1 ∷ 1 ∷ [])) write_within
      (within_itself (1 ∷ 1 ∷ [])) call.caller call.number r e;
  own = λ call r e.
      misread_views (λ i k v. get_or v i 0 ≡ k + 1) refl refl call.caller call.number r e;
  comparable = λ a b r s x y. misread_views (λ i k v. (j m : ℕ) (t : Record)
      → record_of misread (record { caller = j; number = m }) ≡ Some t → AreComparable v t.view)
      (misread_views (λ j m w. AreComparable (1 ∷ 0 ∷ []) w)
      (inl (within_itself (1 ∷ 0 ∷ []))) (inl write_within))
      (misread_views (λ j m w. AreComparable (1 ∷ 1 ∷ []) w)
      (inr write_within) (inl (within_itself (1 ∷ 1 ∷ []))))
      a.caller a.number r x b.caller b.number s y;
}

-- ---- books of one caller with two calls

-- The first and the second record of a caller, with these replies.
abbrev pub first_record : ℕ → Record
first_record reply = answer reply (1 ∷ [])

abbrev pub second_record : ℕ → Record
second_record reply = answer reply (2 ∷ [])

pub two_count_themselves : (a b : ℕ) → CountItself (first_record a ∷ second_record b ∷ [])
two_count_themselves a b zero r e =
    subst (λ (s : Record). s.view ≡ 1 ∷ []) (same_Some (first_record a) r e) refl
two_count_themselves a b (suc zero) r e =
    subst (λ (s : Record). s.view ≡ 2 ∷ []) (same_Some (second_record b) r e) refl
two_count_themselves a b (suc (suc k)) r e = absurd (none-some r e)

-- The book of one caller with two answered calls.
abbrev pub two_calls : ℕ → ℕ → ℕ → ℕ → List Page
two_calls v w a b = lone_caller (v ∷ w ∷ []) (first_record a ∷ second_record b ∷ [])

few_open : (v w a b k i : ℕ) → k < 2 → get_or ((k + 1) ∷ []) i 0 ≤ answers_of (two_calls v w a b) i + 1
few_open v w a b k zero less = omega (arith, less)
few_open v w a b k (suc i) less = omega arith

pub two_have_one_open : (v w a b : ℕ) → HasOneOpen (two_calls v w a b)
two_have_one_open v w a b call r i known =
    let it = lone_view (v ∷ w ∷ []) (first_record a ∷ second_record b ∷ [])
    (two_count_themselves a b) call.caller call.number r known in
    subst (λ (view : List ℕ). get_or view i 0 ≤ answers_of (two_calls v w a b) i + 1) (sym it.1)
    (few_open v w a b call.number i it.2)

-- The second call of such a book alone.
abbrev pub later_call : ℕ → ℕ → List Page
later_call w b = lone_caller (w ∷ []) (first_record b ∷ [])

one_counts_itself : (b : ℕ) → CountItself (first_record b ∷ [])
one_counts_itself b zero r e =
    subst (λ (s : Record). s.view ≡ 1 ∷ []) (same_Some (first_record b) r e) refl
one_counts_itself b (suc k) r e = absurd (none-some r e)

pub two_are_valid : (v w a b : ℕ) → IsValid (two_calls v w a b)
two_are_valid v w a b = lone_caller_is_valid (v ∷ w ∷ []) (first_record a ∷ second_record b ∷ [])
    (omega arith) (two_count_themselves a b)

pub later_is_valid : (w b : ℕ) → IsValid (later_call w b)
later_is_valid w b =
    lone_caller_is_valid (w ∷ []) (first_record b ∷ []) (omega arith) (one_counts_itself b)

-- The list of numbers that has the second call alone.
abbrev pub second_alone : List (List ℕ)
second_alone = (1 ∷ []) ∷ []

later_calls : (w b i : ℕ) → calls_of (later_call w b) i ≡ length (numbers_of second_alone i)
later_calls w b zero = refl
later_calls w b (suc i) = refl

later_rises : (i : ℕ) → AreRising (numbers_of second_alone i)
later_rises zero j k less room = absurd (omega (arith, less, room))
later_rises (suc i) j k less room = absurd (omega (arith, room))

later_operations : (v w a b i k : ℕ) → k < calls_of (later_call w b) i
    → operation_of (later_call w b) (record { caller = i; number = k })
    ≡ operation_of (two_calls v w a b) (original second_alone (record { caller = i; number = k }))
later_operations v w a b zero zero less = refl
later_operations v w a b zero (suc k) less = absurd (omega (arith, less))
later_operations v w a b (suc i) k less = absurd (omega (arith, less))

later_answers : (w b i : ℕ) → answers_of (later_call w b) i ≤ calls_of (later_call w b) i
later_answers w b zero = omega arith
later_answers w b (suc i) = omega arith

later_view : (i : ℕ) → get_or (1 ∷ []) i 0
    ≡ count_below (numbers_of second_alone i) (get_or (2 ∷ []) i 0)
later_view zero = refl
later_view (suc i) = refl

later_records : (v w a b i k : ℕ) (small : Record)
    → record_of (later_call w b) (record { caller = i; number = k }) ≡ Some small
    → IsSomeAnd (record_of (two_calls v w a b)
    (original second_alone (record { caller = i; number = k })))
    (λ whole. IsRenumbered second_alone whole small)
later_records v w a b zero zero small e =
    subst (IsRenumbered second_alone (second_record b)) (same_Some (first_record b) small e)
    (record { reply = refl; view = later_view })
later_records v w a b zero (suc k) small e = absurd (none-some small e)
later_records v w a b (suc i) k small e = absurd (none-some small e)

-- The second call alone is the part of the book that has it.
pub later_is_part : (v w a b : ℕ) → IsPart (two_calls v w a b) second_alone (later_call w b)
later_is_part v w a b = record {
  callers = refl;
  calls = later_calls w b;
  rising = later_rises;
  operations = λ call inside. later_operations v w a b call.caller call.number inside;
  answers = later_answers w b;
  records = λ call small e. later_records v w a b call.caller call.number small e;
}

later_answered : (w b i k : ℕ) → k < calls_of (later_call w b) i → k < answers_of (later_call w b) i
later_answered w b zero k less = less
later_answered w b (suc i) k less = less

pub later_keeps_answers : (v w a b : ℕ)
    → KeepsAnswers (two_calls v w a b) second_alone (later_call w b)
later_keeps_answers v w a b call inside answered =
    later_answered w b call.caller call.number inside

pub read_leaves : IsReadOnly (kind_next kinds.Register) needless_read first_call
unfolding kind_next
read_leaves = (omega arith, λ reply may list replied. refl)

pub take_stays : all_without kinds.Queue (keys_from_to 5 5) needless_put ≡ (1 ∷ []) ∷ []
unfolding is_known_word entry_of entries
take_stays = refl
