-- After right lines a further call of the next caller can be answered: there is a view for it.
use Rattle.std.proofs.Common.{◌≡◌, ◌≢◌, ℕ, zero, suc, ◌+◌, ◌<◌, ◌≤◌, ◌⊎◌, Bool, cond, ltb, List, [], ◌∷◌, length, get_or, set, replicate, slice_get, Some, refl, sym, ap, subst, ◌∙◌, arith, inl, inr}
use Rattle.std.specs.Prelude.{max}
use Rattle.std.proofs.lemmas.Bool.{cases_eq, cases_lt, lt-ltb, le-ltb}
use Rattle.std.proofs.lemmas.List.{get_or-set_same, get_or-set_other, length-set, length-replicate}
use Rattle.list_laws.proofs.Places.{get_or-replicate_default}
use Rattle.book_base.specs.declared.call.Call.{Call}
use Rattle.book_base.specs.declared.call.Record.{Record}
use Rattle.book_base.specs.Cut.{AreComparable}
use Rattle.book_base.specs.Book.{Page, page_of, calls_of, answers_of, record_of, IsValid}
use Rattle.book_base.specs.Refusal.{MayAnswer}
use Rattle.book_base.proofs.GrowthLemmas.{below_calls, within_announced}

-- the greater of each two counts
abbrev both : List ℕ → List ℕ → List ℕ
both [] ys = ys
both (x ∷ xs) [] = x ∷ xs
both (x ∷ xs) (y ∷ ys) = max x y ∷ both xs ys

both-at : (xs ys : List ℕ) (j : ℕ) → get_or (both xs ys) j 0 ≡ max (get_or xs j 0) (get_or ys j 0)
both-at [] ys j = omega arith
both-at (x ∷ xs) [] j = omega arith
both-at (x ∷ xs) (y ∷ ys) zero = refl
both-at (x ∷ xs) (y ∷ ys) (suc j) = both-at xs ys j

length-both : (n : ℕ) (xs ys : List ℕ) → length xs ≡ n → length ys ≡ n → length (both xs ys) ≡ n
length-both n [] ys h k = k
length-both n (x ∷ xs) [] h k = h
length-both zero (x ∷ xs) (y ∷ ys) h k = absurd (omega arith)
length-both (suc n) (x ∷ xs) (y ∷ ys) h k = ap suc (length-both n xs ys (omega arith) (omega arith))

-- a view with those whose count for caller i is at most k
abbrev with_low : ℕ → ℕ → Record → List ℕ → List ℕ
with_low i k r cut = cond (ltb k (get_or r.view i 0)) cut (both r.view cut)

abbrev low_records : ℕ → ℕ → List Record → List ℕ → List ℕ
low_records i k [] cut = cut
low_records i k (r ∷ rs) cut = with_low i k r (low_records i k rs cut)

-- the greatest counts of the views of a book that hold at most k calls of caller i
abbrev low_views : ℕ → ℕ → ℕ → List Page → List ℕ
low_views n i k [] = replicate n 0
low_views n i k (page ∷ book) = low_records i k page.records (low_views n i k book)

module _ (n i k : ℕ) where
  abbrev IsLow : Record → Type 0
  IsLow r = get_or r.view i 0 ≤ k

  low-case : (r : Record) (cut : List ℕ) → ((with_low i k r cut ≡ cut) × (k < get_or r.view i 0))
      ⊎ ((with_low i k r cut ≡ both r.view cut) × IsLow r)
  low-case r cut = elim (cases_lt k (get_or r.view i 0)) [
    | inl lt ↦
        inl (ap (λ (b : Bool). cond b cut (both r.view cut)) (lt-ltb k (get_or r.view i 0) lt), lt)
    | inr le ↦
        inr (ap (λ (b : Bool). cond b cut (both r.view cut)) (le-ltb k (get_or r.view i 0) le), le)
  ]

  -- the greatest counts, taken over further views, are nowhere below the counts that they began
  -- with
  above-cut : (rs : List Record) (cut : List ℕ) (j : ℕ)
      → get_or cut j 0 ≤ get_or (low_records i k rs cut) j 0
  above-cut [] cut j = omega arith
  above-cut (r ∷ rs) cut j = elim (low-case r (low_records i k rs cut)) [
    | inl skip ↦ omega (arith, above-cut rs cut j, ap (λ (c : List ℕ). get_or c j 0) skip.0)
    | inr take ↦ omega (
      arith,
      above-cut rs cut j,
      ap (λ (c : List ℕ). get_or c j 0) take.0,
      both-at r.view (low_records i k rs cut) j,
    )
  ]

  above-record : (rs : List Record) (cut : List ℕ) (m : ℕ) (r : Record) (j : ℕ)
      → slice_get rs m ≡ Some r → IsLow r → get_or r.view j 0 ≤ get_or (low_records i k rs cut) j 0
  above-record [] cut m r j e low = absurd cc
  above-record (s ∷ rs) cut zero r j e low =
      let same : s ≡ r = cc in
      let low' : IsLow s = subst IsLow (sym same) low in
      elim (low-case s (low_records i k rs cut)) [
        | inl skip ↦ absurd (omega arith)
        | inr take ↦ omega (
          arith,
          ap (λ (c : List ℕ). get_or c j 0) take.0,
          both-at s.view (low_records i k rs cut) j,
          ap (λ (x : Record). get_or x.view j 0) same,
        )
      ]
  above-record (s ∷ rs) cut (suc m) r j e low = elim (low-case s (low_records i k rs cut)) [
    | inl skip ↦
        omega (arith, above-record rs cut m r j e low, ap (λ (c : List ℕ). get_or c j 0) skip.0)
    | inr take ↦ omega (
      arith,
      above-record rs cut m r j e low,
      ap (λ (c : List ℕ). get_or c j 0) take.0,
      both-at s.view (low_records i k rs cut) j,
    )
  ]

  pub above : (book : List Page) (c m : ℕ) (r : Record) (j : ℕ)
      → slice_get (page_of book c).records m ≡ Some r → IsLow r
      → get_or r.view j 0 ≤ get_or (low_views n i k book) j 0
  above [] c m r j e low = absurd cc
  above (p ∷ book) zero m r j e low = above-record p.records (low_views n i k book) m r j e low
  above (p ∷ book) (suc c) m r j e low =
      omega (arith, above book c m r j e low, above-cut p.records (low_views n i k book) j)

  -- a number that is at least the count of each of these views is at least their greatest count
  least-record : (rs : List Record) (cut : List ℕ) (j most : ℕ) → get_or cut j 0 ≤ most
      → ((m : ℕ) (r : Record) → slice_get rs m ≡ Some r → IsLow r → get_or r.view j 0 ≤ most)
      → get_or (low_records i k rs cut) j 0 ≤ most
  least-record [] cut j most le h = le
  least-record (r ∷ rs) cut j most le h =
      let rest = least-record rs cut j most le (λ m s e low. h (suc m) s e low) in
      elim (low-case r (low_records i k rs cut)) [
        | inl skip ↦ omega (arith, rest, ap (λ (c : List ℕ). get_or c j 0) skip.0)
        | inr take ↦ omega (
          arith,
          rest,
          ap (λ (c : List ℕ). get_or c j 0) take.0,
          both-at r.view (low_records i k rs cut) j,
          h 0 r refl take.1,
        )
      ]

  pub least : (book : List Page) (j most : ℕ) → ((c m : ℕ) (r : Record)
      → slice_get (page_of book c).records m ≡ Some r → IsLow r → get_or r.view j 0 ≤ most)
      → get_or (low_views n i k book) j 0 ≤ most
  least [] j most h = omega (arith, get_or-replicate_default {X = ℕ} n j 0)
  least (p ∷ book) j most h = least-record p.records (low_views n i k book) j most
      (least book j most (λ c m r e low. h (suc c) m r e low)) (λ m r e low. h 0 m r e low)

  length-record : (rs : List Record) (cut : List ℕ) → length cut ≡ n
      → ((m : ℕ) (r : Record) → slice_get rs m ≡ Some r → length r.view ≡ n)
      → length (low_records i k rs cut) ≡ n
  length-record [] cut size h = size
  length-record (r ∷ rs) cut size h =
      let rest = length-record rs cut size (λ m s e. h (suc m) s e) in
      elim (low-case r (low_records i k rs cut)) [
        | inl skip ↦ ap (λ (c : List ℕ). length c) skip.0 ∙ rest
        | inr take ↦ ap (λ (c : List ℕ). length c) take.0
            ∙ length-both n r.view (low_records i k rs cut) (h 0 r refl) rest
      ]

  pub length-low : (book : List Page)
      → ((c m : ℕ) (r : Record) → slice_get (page_of book c).records m ≡ Some r → length r.view ≡ n)
      → length (low_views n i k book) ≡ n
  length-low [] h = length-replicate n 0
  length-low (p ∷ book) h = length-record p.records (low_views n i k book)
      (length-low book (λ c m r e. h (suc c) m r e)) (λ m r e. h 0 m r e)

-- a view for the next call of caller i: it holds what the views hold that lack this call, and the
-- call
abbrev pub fresh_view : ℕ → ℕ → List Page → List ℕ
fresh_view i k book = set (low_views (length book) i k book) i (k + 1)

module _ (book : List Page) (valid : IsValid book) (i k : ℕ) (inside : i < length book)
    (answers : answers_of book i ≡ k) (room : k < calls_of book i) where
  abbrev n : ℕ
  n = length book

  abbrev low : List ℕ
  low = low_views n i k book

  size : length low ≡ n
  size = length-low n i k book (λ c m r e. valid.wide (record { caller = c; number = m }) r e)

  pub fresh-wide : length (fresh_view i k book) ≡ n
  fresh-wide = length-set low i (k + 1) ∙ size

  own : get_or (fresh_view i k book) i 0 ≡ k + 1
  own = get_or-set_same low i (k + 1) 0 (omega (arith, size))

  other_at : (j : ℕ) → j ≢ i → get_or (fresh_view i k book) j 0 ≡ get_or low j 0
  other_at j other = get_or-set_other low i j (k + 1) 0 other

  pub fresh-below : (j : ℕ) → get_or (fresh_view i k book) j 0 ≤ calls_of book j
  fresh-below j = elim (cases_eq j i) [
    | inl same ↦
        let at : get_or (fresh_view i k book) j 0 ≡ k + 1 =
        ap (λ (m : ℕ). get_or (fresh_view i k book) m 0) same ∙ own in
        let calls : calls_of book j ≡ calls_of book i = ap (calls_of book) same in
        omega arith
    | inr other ↦ omega (
      arith,
      other_at j other,
      least n i k book j (calls_of book j) (λ c m r e low'.
          below_calls book r.view (valid.within (record { caller = c; number = m }) r e) j),
    )
  ]

  -- a view that lacks the call is within it, and it is within one that holds the call
  comparable : (call : Call) (r : Record) → record_of book call ≡ Some r
      → AreComparable (fresh_view i k book) r.view
  comparable call r e = elim (cases_lt k (get_or r.view i 0)) [
    | inl holds ↦ inl (λ j. elim (cases_eq j i) [
      | inl same ↦
          let at : get_or (fresh_view i k book) j 0 ≡ k + 1 =
          ap (λ (m : ℕ). get_or (fresh_view i k book) m 0) same ∙ own in
          let there : get_or r.view j 0 ≡ get_or r.view i 0 =
          ap (λ (m : ℕ). get_or r.view m 0) same in
          omega arith
      | inr other ↦ omega (
        arith,
        other_at j other,
        least n i k book j (get_or r.view j 0) (λ c m s f low'.
            elim (valid.comparable (record { caller = c; number = m }) call s r f e) [
              | inl within ↦ within j
              | inr without ↦ absurd (omega (arith, without i))
            ]),
      )
    ])
    | inr lacks ↦ inr (λ j. elim (cases_eq j i) [
      | inl same ↦
          let at : get_or (fresh_view i k book) j 0 ≡ k + 1 =
          ap (λ (m : ℕ). get_or (fresh_view i k book) m 0) same ∙ own in
          let there : get_or r.view j 0 ≡ get_or r.view i 0 =
          ap (λ (m : ℕ). get_or r.view m 0) same in
          omega arith
      | inr other ↦
          omega (arith, other_at j other, above n i k book call.caller call.number r j e lacks)
    ])
  ]

  pub fresh-may : MayAnswer book i (fresh_view i k book)
  fresh-may = record {
    unanswered = omega arith;
    within = within_announced book (fresh_view i k book) fresh-below;
    own = own ∙ ap (λ (m : ℕ). m + 1) (sym answers);
    comparable = comparable;
  }
