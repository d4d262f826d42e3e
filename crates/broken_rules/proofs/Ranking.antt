-- The calls of a book that pass a test, counted and ranked; and when those that pass one test are
-- no more than those that pass another one.
use Rattle.std.proofs.Common.{◌≡◌, ◌∙◌, ℕ, zero, suc, ◌+◌, ◌*◌, ◌-◌, ◌<◌, ◌≤◌, Bool, true, false, List, length, take, Option, Some, refl, sym, ap, subst, inl, inr, slice_get, arith}
use Rattle.std.proofs.lemmas.Bool.{cases_Bool, cases_lt, cases_order}
use Rattle.std.proofs.lemmas.Option.{same_Some}
use Rattle.list_laws.proofs.Pigeonhole.{pigeonhole}
use Rattle.book_base.specs.declared.call.Call.{Call}
use Rattle.book_base.specs.declared.call.Place.{Place}
use Rattle.book_base.specs.SeqSpec.{SeqSpec}
use Rattle.book_base.specs.declared.TheConstants.{MAX_CALLS}
use Rattle.book_base.specs.Book.{Page, calls_of, IsCall}
use Rattle.book_base.specs.Order.{call_at, StandsAt, IsLegalOrder}
use Rattle.book_base.proofs.PageLemmas.{caller_from_call}
use Rattle.book_base.proofs.ViewLemmas.{same_call}
use Rattle.legal_orders.specs.Container.{one_if}
use Rattle.legal_orders.proofs.Counting.{how_often, how_often-more, how_often-next}
use Rattle.legal_orders.proofs.Orders.{steps_of}
use Rattle.broken_rules.specs.Tallies.{count_of_caller, count_below, count_calls}

at_most_one : (b : Bool) → one_if b ≤ 1
at_most_one true = omega arith
at_most_one false = omega arith

module _ (test : Call → Bool) where
  -- more of a caller's calls pass up to a greater number
  own_grows : (i m n : ℕ) → m ≤ n → count_of_caller test i m ≤ count_of_caller test i n
  own_grows i m zero le =
      let same : m ≡ 0 = omega (arith, le) in
      omega (arith, ap (count_of_caller test i) same)
  own_grows i m (suc n) le = elim (cases_lt m (suc n)) [
    | inl below ↦ omega (arith, own_grows i m n (omega (arith, below)))
    | inr past ↦ let same : m ≡ suc n = omega (arith, le, past) in
        omega (arith, ap (count_of_caller test i) same)
  ]

  own_more : (i k n : ℕ) → k < n → test (record { caller = i; number = k }) ≡ true
      → count_of_caller test i k + 1 ≤ count_of_caller test i n
  own_more i k n lt passes =
      let one : one_if (test (record { caller = i; number = k })) ≡ 1 = ap one_if passes in
      omega (arith, one, own_grows i (suc k) n (omega (arith, lt)))

  -- no more of a caller's calls pass than there are
  pub own_few : (i n : ℕ) → count_of_caller test i n ≤ n
  own_few i zero = omega arith
  own_few i (suc n) = omega (
    arith,
    own_few i n,
    at_most_one (test (record { caller = i; number = n })),
  )

  -- each number below the count of a caller's calls is the rank of a call that passes
  own_found : (i n r : ℕ) → r < count_of_caller test i n
      → (k : ℕ) × (k < n) × (test (record { caller = i; number = k }) ≡ true)
      × (count_of_caller test i k ≡ r)
  own_found i zero r lt = absurd (omega (arith, lt))
  own_found i (suc n) r lt = elim (cases_lt r (count_of_caller test i n)) [
    | inl below ↦ let found = own_found i n r below in
        (found.0, omega (arith, found.1), found.2, found.3)
    | inr past ↦ elim (cases_Bool (test (record { caller = i; number = n }))) [
      | inl passes ↦
          let one : one_if (test (record { caller = i; number = n })) ≡ 1 = ap one_if passes in
          (n, omega arith, passes, omega (arith, lt, past, one))
      | inr fails ↦
          let nothing : one_if (test (record { caller = i; number = n })) ≡ 0 = ap one_if fails in
          absurd (omega (arith, lt, past, nothing))
    ]
  ]

module _ (test : Call → Bool) (book : List Page) where
  below_grows : (m n : ℕ) → m ≤ n → count_below test book m ≤ count_below test book n
  below_grows m zero le =
      let same : m ≡ 0 = omega (arith, le) in omega (arith, ap (count_below test book) same)
  below_grows m (suc n) le = elim (cases_lt m (suc n)) [
    | inl below ↦ omega (arith, below_grows m n (omega (arith, below)))
    | inr past ↦ let same : m ≡ suc n = omega (arith, le, past) in
        omega (arith, ap (count_below test book) same)
  ]

  -- no more calls pass than there may be
  pub below_few : ((i : ℕ) → calls_of book i ≤ MAX_CALLS) → (n : ℕ)
      → count_below test book n ≤ n * MAX_CALLS
  below_few few zero = omega arith
  below_few few (suc n) =
      omega (arith, below_few few n, own_few test n (calls_of book n), few n)

  -- how many calls pass before a call: those of the callers before, and the caller's earlier ones
  abbrev pub rank : Call → ℕ
  rank call = count_below test book call.caller + count_of_caller test call.caller call.number

  -- a call that passes has a rank below the count
  rank_below : (call : Call) (n : ℕ) → call.caller < n → IsCall book call → test call ≡ true
      → rank call + 1 ≤ count_below test book n
  rank_below call n lt made passes = omega (
    arith,
    below_grows (suc call.caller) n (omega (arith, lt)),
    own_more test call.caller call.number (calls_of book call.caller) made passes,
  )

  pub rank_inside : (call : Call) → IsCall book call → test call ≡ true
      → rank call < count_calls test book
  rank_inside call made passes = omega (
    arith,
    rank_below call (length book) (caller_from_call book call.caller call.number made) made passes,
  )

  -- each number below the count is the rank of a call that passes
  found_below : (n r : ℕ) → r < count_below test book n
      → (call : Call) × IsCall book call × (test call ≡ true) × (rank call ≡ r)
  found_below zero r lt = absurd (omega (arith, lt))
  found_below (suc n) r lt = elim (cases_lt r (count_below test book n)) [
    | inl below ↦ found_below n r below
    | inr past ↦
        let found = own_found test n (calls_of book n) (r - count_below test book n)
        (omega (arith, lt, past)) in (
          record { caller = n; number = found.0 },
          found.1,
          found.2,
          omega (arith, found.3, past),
        )
  ]

  pub rank_found : (r : ℕ) → r < count_calls test book
      → (call : Call) × IsCall book call × (test call ≡ true) × (rank call ≡ r)
  rank_found r lt = found_below (length book) r lt

  own_apart : (a b : Call) → a.caller ≡ b.caller → a.number < b.number → test a ≡ true
      → rank a ≡ rank b → ⊥
  own_apart a b one lt passes same =
      let below : count_below test book a.caller ≡ count_below test book b.caller =
      ap (count_below test book) one in
      let own : count_of_caller test a.caller b.number ≡ count_of_caller test b.caller b.number =
      ap (λ (i : ℕ). count_of_caller test i b.number) one in
      absurd (omega
      (arith, same, below, own, own_more test a.caller a.number b.number lt passes))

  rank_apart : (a b : Call) → a.caller < b.caller → IsCall book a → test a ≡ true
      → rank a ≡ rank b → ⊥
  rank_apart a b lt made passes same =
      absurd (omega (arith, same, rank_below a b.caller lt made passes))

  -- two calls that pass and have one rank are one call
  pub rank_once : (a b : Call) → IsCall book a → IsCall book b → test a ≡ true → test b ≡ true
      → rank a ≡ rank b → a ≡ b
  rank_once a b made_a made_b passes_a passes_b same =
      elim (cases_order a.caller b.caller) [
        | inl one ↦ elim (cases_order a.number b.number) [
          | inl number ↦ same_call a b one number
          | inr differ ↦ elim differ [
            | inl lt ↦ absurd (own_apart a b one lt passes_a same)
            | inr gt ↦ absurd (own_apart b a (sym one) gt passes_b (sym same))
          ]
        ]
        | inr differ ↦ elim differ [
          | inl lt ↦ absurd (rank_apart a b lt made_a passes_a same)
          | inr gt ↦ absurd (rank_apart b a gt made_b passes_b (sym same))
        ]
      ]

module _ (spec : SeqSpec) (book : List Page) (order : List Place)
    (legal : IsLegalOrder spec book order) (f g : ℕ × ℕ → Option ℕ) (v : ℕ)
    (one other : Call → Bool) where
  -- A call stands in the order, and its step shows the value. The steps up to `n` that show it in
  -- the other way are more than those before the call that show it, and each is of a call that
  -- passes the other test.
  pub record IsMatched (call : Call) : Type 0 where
    pub m : ℕ
    pub n : ℕ
    pub stands : StandsAt order m call
    pub step : ℕ × ℕ
    pub at : slice_get (steps_of book order) m ≡ Some step
    pub shows : f step ≡ Some v
    pub more : how_often f v (take m (steps_of book order))
        < how_often g v (take n (steps_of book order))
    pub by : (q : ℕ) (s : ℕ × ℕ) → q < n → slice_get (steps_of book order) q ≡ Some s
        → g s ≡ Some v
        → (d : Call) × StandsAt order q d × IsCall book d × (other d ≡ true)

  -- the call of rank i of the one test, and the call of rank j of the other test, whose steps have
  -- as many steps before them that show the value
  record IsPair (i j : ℕ) : Type 0 where
    pub c : Call
    pub d : Call
    pub m : ℕ
    pub q : ℕ
    pub step : ℕ × ℕ
    pub rank_c : rank one book c ≡ i
    pub rank_d : rank other book d ≡ j
    pub stands_c : StandsAt order m c
    pub stands_d : StandsAt order q d
    pub made : IsCall book d
    pub passes : other d ≡ true
    pub at : slice_get (steps_of book order) m ≡ Some step
    pub shows : f step ≡ Some v
    pub even : how_often f v (take m (steps_of book order))
        ≡ how_often g v (take q (steps_of book order))

  pair_of : (i : ℕ) (c : Call) → rank one book c ≡ i → IsMatched c
      → (j : ℕ) × (j < count_calls other book) × IsPair i j
  pair_of i c ranked it =
      let steps : List (ℕ × ℕ) = steps_of book order in
      let next = how_often-next g v steps it.n (how_often f v (take it.m steps)) it.more in
      let by = it.by next.0 next.1 next.2 next.3 next.4 in (
        rank other book by.0,
        rank_inside other book by.0 by.2 by.3,
        record {
          c = c;
          d = by.0;
          m = it.m;
          q = next.0;
          step = it.step;
          rank_c = ranked;
          rank_d = refl;
          stands_c = it.stands;
          stands_d = by.1;
          made = by.2;
          passes = by.3;
          at = it.at;
          shows = it.shows;
          even = sym next.5;
        },
      )

  pair_once : (i k j : ℕ) → IsPair i j → IsPair k j → i ≡ k
  pair_once i k j a b =
      let steps : List (ℕ × ℕ) = steps_of book order in
      let d : a.d ≡ b.d =
      rank_once other book a.d b.d a.made b.made a.passes b.passes (a.rank_d ∙ sym b.rank_d) in
      let q : a.q ≡ b.q =
      legal.once a.q b.q b.d (subst (λ (c : Call). StandsAt order a.q c) d a.stands_d) b.stands_d in
      let even : how_often f v (take a.m steps) ≡ how_often f v (take b.m steps)
      = a.even ∙ (ap (λ (n : ℕ). how_often g v (take n steps)) q ∙ sym b.even) in
      elim (cases_order a.m b.m) [
        | inl m ↦
            let place : a.stands_c.0 ≡ b.stands_c.0 =
            same_Some a.stands_c.0 b.stands_c.0
            (sym a.stands_c.1 ∙ (ap (slice_get order) m ∙ b.stands_c.1)) in
            let c : a.c ≡ b.c = sym a.stands_c.2 ∙ (ap call_at place ∙ b.stands_c.2) in
            sym a.rank_c ∙ (ap (rank one book) c ∙ b.rank_c)
        | inr differ ↦ elim differ [
          | inl lt ↦
              absurd (omega (arith, even, how_often-more f v steps a.m b.m a.step a.at a.shows lt))
          | inr gt ↦
              absurd (omega (arith, even, how_often-more f v steps b.m a.m b.step b.at b.shows gt))
        ]
      ]

  -- Where each call that passes the one test is matched, they are no more than those that pass the
  -- other one.
  pub no_more : ((call : Call) → IsCall book call → one call ≡ true → IsMatched call)
      → count_calls one book ≤ count_calls other book
  no_more all = pigeonhole IsPair (count_calls one book) (count_calls other book)
      (λ i lt. let found = rank_found one book i lt in
      pair_of i found.0 found.3 (all found.0 found.1 found.2))
      pair_once
