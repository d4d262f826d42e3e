-- The worked books are valid, and their orders legal.
use Rattle.std.proofs.Common.{◌≡◌, ℕ, true, ltb, zero, suc, ◌+◌, ◌*◌, ◌<◌, ◌≤◌, ◌∙◌, List, [], ◌∷◌, take, get_or, length, map, Some, refl, sym, ap, subst, inl, inr, slice_get, arith}
use Rattle.std.proofs.lemmas.Bool.{true≢false}
use Rattle.std.proofs.lemmas.Option.{same_Some, none-some}
use Rattle.book_base.specs.declared.call.Call.{Call}
use Rattle.book_base.specs.declared.call.Record.{Record}
use Rattle.book_base.specs.declared.call.Place.{Place}
use Rattle.book_base.specs.Cut.{IsWithin, AreComparable}
use Rattle.book_base.specs.Book.{Page, calls_of, answers_of, record_of, IsAnswered, IsValid, Precedes}
use Rattle.book_base.specs.BookAt.{book_at}
use Rattle.book_base.specs.Sequential.{IsRunFrom}
use Rattle.book_base.specs.Order.{step_at, IsLegalOrder, HasLegalOrder}
use Rattle.book_base.specs.Next.{next_call, MayStandNext}
use Rattle.judging_examples.specs.Books.{line_next, line_spec, answer, stand, overtaken, overtaken_seen, overtaken_early, overtaking, tenfold_next, tenfold_spec, mistaken}
use Rattle.legal_orders.proofs.LegalOrder.{legal_order_from_continues}
use Rattle.legal_orders.proofs.Precedence.{may_come_next-from_first}
use Rattle.legal_orders.proofs.BookAtLaws.{is_the_book_at, stays_valid, larger_has_none}
use Rattle.legal_orders.proofs.Final.{ended_order_is_legal}

-- a cut of two callers is within another where both counts are no greater
within_two : (a b c d : ℕ) → a ≤ c → b ≤ d → IsWithin (a ∷ b ∷ []) (c ∷ d ∷ [])
within_two a b c d first second zero = first
within_two a b c d first second (suc zero) = second
within_two a b c d first second (suc (suc i)) = omega arith

overtaken_answers : (i : ℕ) → answers_of overtaken i ≤ calls_of overtaken i
overtaken_answers zero = omega arith
overtaken_answers (suc zero) = omega arith
overtaken_answers (suc (suc i)) = omega arith

-- what holds of the three views of `overtaken` holds of the view of each record of this book
overtaken_records : (P : ℕ → ℕ → List ℕ → Type 0) → P 0 0 (1 ∷ 1 ∷ []) → P 0 1 (2 ∷ 1 ∷ [])
    → P 1 0 (1 ∷ 1 ∷ [])
    → (i k : ℕ) (r : Record) → record_of overtaken (record { caller = i; number = k }) ≡ Some r
    → P i k r.view
overtaken_records P x y z zero zero r e = subst (λ (s : Record). P 0 0 s.view) (same_Some _ r e) x
overtaken_records P x y z zero (suc zero) r e =
    subst (λ (s : Record). P 0 1 s.view) (same_Some _ r e) y
overtaken_records P x y z zero (suc (suc k)) r e = absurd (none-some r e)
overtaken_records P x y z (suc zero) zero r e =
    subst (λ (s : Record). P 1 0 s.view) (same_Some _ r e) z
overtaken_records P x y z (suc zero) (suc k) r e = absurd (none-some r e)
overtaken_records P x y z (suc (suc i)) k r e = absurd (none-some r e)

early_comparable : (j m : ℕ) (r : Record) → record_of overtaken (record { caller = j; number = m })
    ≡ Some r → AreComparable (1 ∷ 1 ∷ []) r.view
early_comparable = overtaken_records (λ j m w. AreComparable (1 ∷ 1 ∷ []) w)
    (inl (within_two 1 1 1 1 (omega arith) (omega arith)))
    (inl (within_two 1 1 2 1 (omega arith) (omega arith)))
    (inl (within_two 1 1 1 1 (omega arith) (omega arith)))

late_comparable : (j m : ℕ) (r : Record) → record_of overtaken (record { caller = j; number = m })
    ≡ Some r → AreComparable (2 ∷ 1 ∷ []) r.view
late_comparable = overtaken_records (λ j m w. AreComparable (2 ∷ 1 ∷ []) w)
    (inr (within_two 1 1 2 1 (omega arith) (omega arith)))
    (inl (within_two 2 1 2 1 (omega arith) (omega arith)))
    (inr (within_two 1 1 2 1 (omega arith) (omega arith)))

pub overtaken_is_valid : IsValid overtaken
overtaken_is_valid = record {
  answers = overtaken_answers;
  wide = λ call r e.
      overtaken_records (λ i k v. length v ≡ 2) refl refl refl call.caller call.number r e;
  within = λ call r e. overtaken_records (λ i k v. IsWithin v (3 ∷ 1 ∷ []))
      (within_two 1 1 3 1 (omega arith) (omega arith))
      (within_two 2 1 3 1 (omega arith) (omega arith))
      (within_two 1 1 3 1 (omega arith) (omega arith))
      call.caller call.number r e;
  own = λ call r e.
      overtaken_records (λ i k v. get_or v i 0 ≡ k + 1) refl refl refl call.caller call.number r e;
  comparable = λ a b r s x y. overtaken_records (λ i k v. (j m : ℕ) (t : Record)
      → record_of overtaken (record { caller = j; number = m }) ≡ Some t → AreComparable v t.view)
      early_comparable late_comparable early_comparable a.caller a.number r x b.caller b.number s y;
}

pub overtaken_at_all : book_at (2 ∷ 1 ∷ []) overtaken ≡ overtaken_seen
overtaken_at_all = refl

pub overtaken_at_early : book_at (1 ∷ 0 ∷ []) overtaken ≡ overtaken_early
overtaken_at_early = refl

seen_is_valid : IsValid overtaken_seen
seen_is_valid = stays_valid overtaken (2 ∷ 1 ∷ []) overtaken_is_valid

-- no answered next call precedes the first call of the order, the put of 6 by caller 1
first_is_free : (i : ℕ) → IsAnswered overtaken_seen (next_call (0 ∷ 0 ∷ []) i)
    → Precedes overtaken_seen (next_call (0 ∷ 0 ∷ []) i) (record { caller = 1; number = 0 }) → ⊥
first_is_free zero h p = elim p [ inl answered ↦ omega arith | inr own ↦ omega (arith, own.0) ]
first_is_free (suc zero) h p = elim p [
  | inl answered ↦ omega arith
  | inr own ↦ omega (arith, own.1)
]
first_is_free (suc (suc i)) h p = omega (arith, h)

-- no answered next call precedes the second call of the order, the put of 5 by caller 0
second_is_free : (i : ℕ) → IsAnswered overtaken_seen (next_call (0 ∷ 1 ∷ []) i)
    → Precedes overtaken_seen (next_call (0 ∷ 1 ∷ []) i) (record { caller = 0; number = 0 }) → ⊥
second_is_free zero h p = elim p [ inl answered ↦ omega arith | inr own ↦ omega (arith, own.1) ]
second_is_free (suc zero) h p = omega (arith, h)
second_is_free (suc (suc i)) h p = omega (arith, h)

-- no answered next call precedes the third call of the order, the take of caller 0
third_is_free : (i : ℕ) → IsAnswered overtaken_seen (next_call (1 ∷ 1 ∷ []) i)
    → Precedes overtaken_seen (next_call (1 ∷ 1 ∷ []) i) (record { caller = 0; number = 1 }) → ⊥
third_is_free zero h p = elim p [ inl answered ↦ omega arith | inr own ↦ omega (arith, own.1) ]
third_is_free (suc zero) h p = omega (arith, h)
third_is_free (suc (suc i)) h p = omega (arith, h)

overtaking_first : MayStandNext overtaken_seen line_next (0 ∷ 0 ∷ []) [] (stand 1 0 0)
overtaking_first = record {
  may_come = may_come_next-from_first overtaken_seen (0 ∷ 0 ∷ [])
      (record { caller = 1; number = 0 }) seen_is_valid (omega arith) refl first_is_free;
  recorded = λ r e. ap (λ (s : Record). s.reply) (sym (same_Some _ r e));
  reply = refl;
}

overtaking_second : MayStandNext overtaken_seen line_next (0 ∷ 1 ∷ []) (6 ∷ []) (stand 0 0 0)
overtaking_second = record {
  may_come = may_come_next-from_first overtaken_seen (0 ∷ 1 ∷ [])
      (record { caller = 0; number = 0 }) seen_is_valid (omega arith) refl second_is_free;
  recorded = λ r e. ap (λ (s : Record). s.reply) (sym (same_Some _ r e));
  reply = refl;
}

overtaking_third : MayStandNext overtaken_seen line_next (1 ∷ 1 ∷ []) (6 ∷ 5 ∷ []) (stand 0 1 6)
overtaking_third = record {
  may_come = may_come_next-from_first overtaken_seen (1 ∷ 1 ∷ [])
      (record { caller = 0; number = 1 }) seen_is_valid (omega arith) refl third_is_free;
  recorded = λ r e. ap (λ (s : Record). s.reply) (sym (same_Some _ r e));
  reply = refl;
}

-- the cut after the three calls of the order holds all answered calls
overtaking_last : (i k : ℕ) → k < answers_of overtaken_seen i → k < get_or (2 ∷ 1 ∷ []) i 0
overtaking_last zero k h = h
overtaking_last (suc zero) k h = h
overtaking_last (suc (suc i)) k h = h

zeros : (i : ℕ) → let none : List ℕ = 0 ∷ 0 ∷ [] in get_or none i 0 ≡ 0
zeros zero = refl
zeros (suc zero) = refl
zeros (suc (suc i)) = refl

pub overtaking_is_legal : IsLegalOrder line_spec overtaken_seen overtaking
overtaking_is_legal = legal_order_from_continues overtaken_seen line_spec (0 ∷ 0 ∷ []) overtaking
    (omega arith) zeros (
      overtaking_first,
      (
        overtaking_second,
        (
          overtaking_third,
          λ (call : Call) (h : IsAnswered overtaken_seen call).
              overtaking_last call.caller call.number h,
        ),
      ),
    )

-- The third call of the order isn't in the book at the early cut.
pub overtaking_is_too_long : IsLegalOrder line_spec overtaken_early overtaking → ⊥
overtaking_is_too_long h =
    omega (arith, h.calls 2 (record { caller = 0; number = 1 }) (stand 0 1 6, refl, refl))

-- the first place alone lacks caller 0's first call, which is answered at the early cut
no_second : (k : ℕ) → slice_get (stand 1 0 0 ∷ []) k ≡ Some (stand 0 0 0) → ⊥
no_second zero e =
    let same : stand 1 0 0 ≡ stand 0 0 0 = same_Some (stand 1 0 0) (stand 0 0 0) e in
    let caller : 1 ≡ 0 = ap (λ (p : Place). p.caller) same in
    absurd (omega (arith, caller))
no_second (suc k) e = none-some (stand 0 0 0) e

pub one_is_too_short : IsLegalOrder line_spec overtaken_early (take 1 overtaking) → ⊥
one_is_too_short h =
    no_second ((h.answered (record { caller = 0; number = 0 }) (answer 0 (1 ∷ 1 ∷ [])) refl).0)
    (h.answered (record { caller = 0; number = 0 }) (answer 0 (1 ∷ 1 ∷ [])) refl).1

-- The prefix of two places ends after the last call that is answered at the early cut.
early_ends : (k : ℕ) (place : Place) → slice_get overtaking k ≡ Some place
    → ltb place.number (answers_of overtaken_early place.caller) ≡ true → k < 2
early_ends zero place e p = omega arith
early_ends (suc zero) place e p = omega arith
early_ends (suc (suc zero)) place e p =
    let same : stand 0 1 6 ≡ place = same_Some (stand 0 1 6) place e in
    absurd (true≢false
    (sym p ∙ ap (λ (q : Place). ltb q.number (answers_of overtaken_early q.caller)) (sym same)))
early_ends (suc (suc (suc k))) place e p = absurd (none-some place e)

early_lasts : (k : ℕ) → k < 2 → (m : ℕ) × (place : Place) × (k ≤ m) × (m < 2)
    × (slice_get overtaking m ≡ Some place)
    × (ltb place.number (answers_of overtaken_early place.caller) ≡ true)
early_lasts k h = (1, stand 0 0 0, omega arith, omega arith, refl, refl)

pub overtaking_ends_early : IsLegalOrder line_spec overtaken_early (take 2 overtaking)
overtaking_ends_early =
    ended_order_is_legal line_spec overtaken_seen (1 ∷ 0 ∷ []) overtaken_early overtaking 2
    (is_the_book_at overtaken_seen (1 ∷ 0 ∷ []) seen_is_valid) overtaking_is_legal
    (record { all = early_ends; last = early_lasts })

-- what holds of the two views of `mistaken` holds of the view of each record of this book
mistaken_records : (P : ℕ → ℕ → List ℕ → Type 0) → P 0 0 (1 ∷ 0 ∷ []) → P 1 0 (1 ∷ 1 ∷ [])
    → (i k : ℕ) (r : Record) → record_of mistaken (record { caller = i; number = k }) ≡ Some r
    → P i k r.view
mistaken_records P x y zero zero r e = subst (λ (s : Record). P 0 0 s.view) (same_Some _ r e) x
mistaken_records P x y zero (suc k) r e = absurd (none-some r e)
mistaken_records P x y (suc zero) zero r e =
    subst (λ (s : Record). P 1 0 s.view) (same_Some _ r e) y
mistaken_records P x y (suc zero) (suc k) r e = absurd (none-some r e)
mistaken_records P x y (suc (suc i)) k r e = absurd (none-some r e)

mistaken_answers : (i : ℕ) → answers_of mistaken i ≤ calls_of mistaken i
mistaken_answers zero = omega arith
mistaken_answers (suc zero) = omega arith
mistaken_answers (suc (suc i)) = omega arith

smaller_comparable : (j m : ℕ) (r : Record) → record_of mistaken (record { caller = j; number = m })
    ≡ Some r → AreComparable (1 ∷ 0 ∷ []) r.view
smaller_comparable = mistaken_records (λ j m w. AreComparable (1 ∷ 0 ∷ []) w)
    (inl (within_two 1 0 1 0 (omega arith) (omega arith)))
    (inl (within_two 1 0 1 1 (omega arith) (omega arith)))

larger_comparable : (j m : ℕ) (r : Record) → record_of mistaken (record { caller = j; number = m })
    ≡ Some r → AreComparable (1 ∷ 1 ∷ []) r.view
larger_comparable = mistaken_records (λ j m w. AreComparable (1 ∷ 1 ∷ []) w)
    (inr (within_two 1 0 1 1 (omega arith) (omega arith)))
    (inl (within_two 1 1 1 1 (omega arith) (omega arith)))

mistaken_is_valid : IsValid mistaken
mistaken_is_valid = record {
  answers = mistaken_answers;
  wide = λ call r e. mistaken_records (λ i k v. length v ≡ 2) refl refl call.caller call.number r e;
  within = λ call r e. mistaken_records (λ i k v. IsWithin v (1 ∷ 1 ∷ []))
      (within_two 1 0 1 1 (omega arith) (omega arith))
      (within_two 1 1 1 1 (omega arith) (omega arith)) call.caller call.number r e;
  own = λ call r e.
      mistaken_records (λ i k v. get_or v i 0 ≡ k + 1) refl refl call.caller call.number r e;
  comparable = λ a b r s x y. mistaken_records (λ i k v. (j m : ℕ) (t : Record)
      → record_of mistaken (record { caller = j; number = m }) ≡ Some t → AreComparable v t.view)
      smaller_comparable larger_comparable a.caller a.number r x b.caller b.number s y;
}

-- each reply of a run of this object is ten times the operation
tenfold_replies : (book : List Page) (list : List ℕ) (places : List Place) (k : ℕ) (place : Place)
    → IsRunFrom tenfold_next list (map (step_at book) places)
    → slice_get places k ≡ Some place → 10 * (step_at book place).0 ≡ place.reply
tenfold_replies book list [] k place run e = absurd (none-some place e)
tenfold_replies book list (first ∷ rest) zero place run e =
    let same : first ≡ place = same_Some first place e in
    subst (λ (p : Place). 10 * (step_at book p).0 ≡ p.reply) same run.0
tenfold_replies book list (first ∷ rest) (suc k) place run e =
    tenfold_replies book list rest k place run.1 e

pub mistaken_first : HasLegalOrder tenfold_spec (book_at (1 ∷ 0 ∷ []) mistaken) → ⊥
mistaken_first h =
    let found = h.1.answered (record { caller = 0; number = 0 }) (answer 51 (1 ∷ 0 ∷ [])) refl in
    let wrong : 10 * 5 ≡ 51 =
    tenfold_replies (book_at (1 ∷ 0 ∷ []) mistaken) [] h.0 found.0 (stand 0 0 51) h.1.run found.1 in
    absurd (omega (arith, wrong))

pub mistaken_later : HasLegalOrder tenfold_spec (book_at (1 ∷ 1 ∷ []) mistaken) → ⊥
mistaken_later =
    larger_has_none tenfold_spec mistaken (1 ∷ 0 ∷ []) (1 ∷ 1 ∷ []) mistaken_is_valid
    (within_two 1 0 1 1 (omega arith) (omega arith)) mistaken_first
