-- Faults of entries: entries that refute a book have none, and of all faults one is first.
use Rattle.std.proofs.Common.{◌≡◌, ℕ, ◌+◌, ◌<◌, ◌⊎◌, ◌∙◌, List, length, Some, refl, sym, ap, subst, inl, inr, slice_get, arith}
use Rattle.std.proofs.lemmas.Bool.{cases_lt}
use Rattle.std.proofs.lemmas.Option.{same_Some, slice_get_within}
use Rattle.book_base.specs.Book.{Page}
use Rattle.book_base.proofs.ViewLemmas.{same_call}
use Rattle.kind_search.specs.Readings.{queue_reading}
use Rattle.queue_pairs.specs.Pairs.{Paired}
use Rattle.pair_refutations.specs.declared.entry.Move.{Move}
use Rattle.pair_refutations.specs.declared.entry.Move.TheVariants.{Finds, Callers}
use Rattle.pair_refutations.specs.declared.entry.PairEntry.{PairEntry}
use Rattle.pair_refutations.specs.declared.closed.OpenFault.{OpenFault}
use Rattle.pair_refutations.specs.declared.closed.OpenFault.TheVariants as open_at
use Rattle.pair_refutations.specs.declared.fault.PairFault.{PairFault}
use Rattle.pair_refutations.specs.declared.fault.PairFault.TheVariants.{Open, Odd, Unlisted, Whole, Leads}
use Rattle.pair_refutations.specs.Moves.{IsMoveBefore}
use Rattle.pair_refutations.specs.Closed.{IsWholeStanding, GoesOn, MakesOf, AreMade, IsClosedStanding}
use Rattle.pair_refutations.specs.Fault.{Refute, FailsTest, IsTriedBefore, IsFirstFault, fault_of, PassesTests}
use Rattle.pair_refutations.specs.Laws.{RefutationsFailNoTest, FirstFaultsAreOne}
use Rattle.pair_refutations.specs.Tabled.{IsFirstOpen}
use Rattle.pair_refutations.proofs.Making.{made-one, made-before}

-- ---- order

moves-cases : (a b : Move) → IsMoveBefore a b ⊎ (a ≡ b) ⊎ IsMoveBefore b a
moves-cases Finds Finds = inr (inl refl)
moves-cases Finds (Callers k l) = inl tt
moves-cases (Callers i j) Finds = inr (inr tt)
moves-cases (Callers i j) (Callers k l) = elim (cases_lt i k) [
  | inl less ↦ inl (inl less)
  | inr more ↦ elim (cases_lt k i) [
    | inl less ↦ inr (inr (inl less))
    | inr most ↦
        let putter : i ≡ k = omega (arith, more, most) in
        elim (cases_lt j l) [
          | inl less ↦ inl (inr (putter, less))
          | inr later ↦ elim (cases_lt l j) [
            | inl less ↦ inr (inr (inr (sym putter, less)))
            | inr latest ↦
                let taker : j ≡ l = omega (arith, later, latest) in
                inr (inl (ap (λ (n : ℕ). Callers n j) putter ∙ ap (λ (n : ℕ). Callers k n) taker))
          ]
        ]
  ]
]

-- of two tests one is tried first, or they are one
pub tests-cases : (e f : PairFault) → IsTriedBefore e f ⊎ (e ≡ f) ⊎ IsTriedBefore f e
tests-cases Open Open = inr (inl refl)
tests-cases Open (Odd b) = inl (inl (omega arith))
tests-cases Open (Unlisted f) = inl (inl (omega arith))
tests-cases Open (Whole f) = inl (inl (omega arith))
tests-cases Open (Leads f move) = inl (inl (omega arith))
tests-cases (Odd a) Open = inr (inr (inl (omega arith)))
tests-cases (Odd a) (Odd b) = elim (cases_lt a.caller b.caller) [
  | inl less ↦ inl (inr (inl less))
  | inr more ↦ elim (cases_lt b.caller a.caller) [
    | inl less ↦ inr (inr (inr (inl less)))
    | inr most ↦
        let caller : a.caller ≡ b.caller = omega (arith, more, most) in
        elim (cases_lt a.number b.number) [
          | inl less ↦ inl (inr (inr (caller, less)))
          | inr later ↦ elim (cases_lt b.number a.number) [
            | inl less ↦ inr (inr (inr (inr (sym caller, less))))
            | inr latest ↦
                inr (inl (ap Odd (same_call a b caller (omega (arith, later, latest)))))
          ]
        ]
  ]
]
tests-cases (Odd a) (Unlisted f) = inl (inl (omega arith))
tests-cases (Odd a) (Whole f) = inl (inl (omega arith))
tests-cases (Odd a) (Leads f move) = inl (inl (omega arith))
tests-cases (Unlisted e) Open = inr (inr (inl (omega arith)))
tests-cases (Unlisted e) (Odd b) = inr (inr (inl (omega arith)))
tests-cases (Unlisted e) (Unlisted f) = elim (cases_lt e f) [
  | inl less ↦ inl (inr less)
  | inr more ↦ elim (cases_lt f e) [
    | inl less ↦ inr (inr (inr less))
    | inr most ↦ inr (inl (ap (λ (n : ℕ). Unlisted n) (omega (arith, more, most))))
  ]
]
tests-cases (Unlisted e) (Whole f) = inl (inl (omega arith))
tests-cases (Unlisted e) (Leads f move) = inl (inl (omega arith))
tests-cases (Whole e) Open = inr (inr (inl (omega arith)))
tests-cases (Whole e) (Odd b) = inr (inr (inl (omega arith)))
tests-cases (Whole e) (Unlisted f) = inr (inr (inl (omega arith)))
tests-cases (Whole e) (Whole f) = elim (cases_lt e f) [
  | inl less ↦ inl (inr less)
  | inr more ↦ elim (cases_lt f e) [
    | inl less ↦ inr (inr (inr less))
    | inr most ↦ inr (inl (ap (λ (n : ℕ). Whole n) (omega (arith, more, most))))
  ]
]
tests-cases (Whole e) (Leads f move) = elim (cases_lt e f) [
  | inl less ↦ inl (inr (inl less))
  | inr more ↦ elim (cases_lt f e) [
    | inl less ↦ inr (inr (inr less))
    | inr most ↦ inl (inr (inr (omega (arith, more, most))))
  ]
]
tests-cases (Leads e move) Open = inr (inr (inl (omega arith)))
tests-cases (Leads e move) (Odd b) = inr (inr (inl (omega arith)))
tests-cases (Leads e move) (Unlisted f) = inr (inr (inl (omega arith)))
tests-cases (Leads e move) (Whole f) = elim (cases_lt e f) [
  | inl less ↦ inl (inr less)
  | inr more ↦ elim (cases_lt f e) [
    | inl less ↦ inr (inr (inr (inl less)))
    | inr most ↦ inr (inr (inr (inr (omega (arith, more, most)))))
  ]
]
tests-cases (Leads e move) (Leads f other) = elim (cases_lt e f) [
  | inl less ↦ inl (inr (inl less))
  | inr more ↦ elim (cases_lt f e) [
    | inl less ↦ inr (inr (inr (inl less)))
    | inr most ↦
        let same : e ≡ f = omega (arith, more, most) in
        elim (moves-cases move other) [
          | inl before ↦ inl (inr (inr (same, before)))
          | inr others ↦ elim others [
            | inl equal ↦
                inr (inl (ap (λ (n : ℕ). Leads n move) same
                ∙ ap (λ (m : Move). Leads f m) equal))
            | inr after_it ↦ inr (inr (inr (inr (sym same, after_it))))
          ]
        ]
  ]
]

pub first_faults_are_one : FirstFaultsAreOne
first_faults_are_one book entries e f h k = elim (tests-cases e f) [
  | inl before ↦ absurd (k.first e before h.fails)
  | inr others ↦ elim others [
    | inl same ↦ same
    | inr after_it ↦ absurd (h.first f after_it k.fails)
  ]
]

-- ---- entries without a fault

pub refutations_fail_no_test : RefutationsFailNoTest
refutations_fail_no_test book entries h Open fails = fails h.one_open
refutations_fail_no_test book entries h (Odd call) fails = h.possible call fails
refutations_fail_no_test book entries h (Unlisted e) (k, some, entry, is, part, at, not) =
    let made =
    made-before queue_reading book entries (length entries) k h.closed.standings some entry
    h.closed.made (slice_get_within entries k entry at) part at in
    not made.0 made.1
refutations_fail_no_test book entries h (Whole e) (all, s, made, at, whole) =
    let same = made-one queue_reading book entries (length entries) all h.closed.standings made
    h.closed.made in
    (h.closed.closed s (e, ap (λ (l : List Paired). slice_get l e) (sym same) ∙ at)).unfinished
    whole
refutations_fail_no_test book entries h (Leads e move) (all, s, made, at, not) =
    let same = made-one queue_reading book entries (length entries) all h.closed.standings made
    h.closed.made in
    not (subst (λ (l : List Paired). GoesOn queue_reading book l s move) (sym same)
    ((h.closed.closed s (e, ap (λ (l : List Paired). slice_get l e) (sym same) ∙ at)).moves move))

-- ---- first faults

module _ (book : List Page) (entries : List PairEntry) (passes : PassesTests book) where
  -- no test is tried before that of an entry, where all before it make standings
  not-unlisted : (n : ℕ) (all : List Paired) → AreMade queue_reading book entries n all
      → (other : PairFault) → IsTriedBefore other (Unlisted (n + 1))
      → FailsTest book entries other → ⊥
  not-unlisted n all made Open tried fails = fails passes.0
  not-unlisted n all made (Odd call) tried fails = passes.1 call fails
  not-unlisted n all made (Unlisted e) tried (j, some, one, is, part, there, fails) =
      let less : j < n = elim tried [
        | inl turn ↦ omega (arith, turn)
        | inr low ↦ omega (arith, low, is)
      ] in
      let makes = made-before queue_reading book entries n j all some one made less part there in
      fails makes.0 makes.1
  not-unlisted n all made (Whole e) tried fails = elim tried [
    | inl turn ↦ omega (arith, turn)
    | inr low ↦ low
  ]
  not-unlisted n all made (Leads e move) tried fails = elim tried [
    | inl turn ↦ omega (arith, turn)
    | inr low ↦ low
  ]

  -- an entry that makes no standing, where all before it make some, is the first fault
  pub first-unlisted : (k : ℕ) (standings : List Paired) (entry : PairEntry)
      → AreMade queue_reading book entries k standings → slice_get entries k ≡ Some entry
      → ((next : Paired) → MakesOf queue_reading book standings entry next → ⊥)
      → IsFirstFault book entries (Unlisted (k + 1))
  first-unlisted k standings entry made at not = record {
    fails = (k, standings, entry, refl, made, at, not);
    first = not-unlisted k standings made;
  }

  module _ (all : List Paired)
      (made : AreMade queue_reading book entries (length entries) all) where
    -- a standing of the entries' list is one of this list
    there-too : (some : List Paired) (e : ℕ) (s : Paired)
        → AreMade queue_reading book entries (length entries) some → slice_get some e ≡ Some s
        → slice_get all e ≡ Some s
    there-too some e s other at = ap (λ (l : List Paired). slice_get l e)
        (made-one queue_reading book entries (length entries) all some made other) ∙ at

    -- an earlier standing fails no test
    not-earlier : (number e : ℕ) (s : Paired) (some : List Paired) (move : Move)
        → ((n : ℕ) (t : Paired) → n < number → slice_get all n ≡ Some t
        → IsClosedStanding queue_reading book all t)
        → e < number → AreMade queue_reading book entries (length entries) some
        → slice_get some e ≡ Some s → GoesOn queue_reading book some s move
    not-earlier number e s some move before less other at =
        subst (λ (l : List Paired). GoesOn queue_reading book l s move)
        (made-one queue_reading book entries (length entries) all some made other)
        ((before e s less (there-too some e s other at)).moves move)

    not-before : (fault : OpenFault) (other : PairFault)
        → IsFirstOpen queue_reading book all fault → IsTriedBefore other (fault_of fault)
        → FailsTest book entries other → ⊥
    not-before fault Open o tried fails = fails passes.0
    not-before fault (Odd call) o tried fails = passes.1 call fails
    not-before fault (Unlisted e) o tried (j, some, one, is, part, there, fails) =
        let makes = made-before queue_reading book entries (length entries) j all some one made
        (slice_get_within entries j one there) part there in
        fails makes.0 makes.1
    not-before (open_at.Whole f) (Whole e) o tried (some, s, other, at, whole) = elim tried [
      | inl turn ↦ omega (arith, turn)
      | inr low ↦ (o.before e s (omega (arith, low, o.fault_there.0))
          (there-too some e s other at)).unfinished whole
    ]
    not-before (open_at.Whole f) (Leads e move) o tried (some, s, other, at, not) = elim tried [
      | inl turn ↦ omega (arith, turn)
      | inr low ↦ not (not-earlier o.number e s some move o.before
          (omega (arith, low, o.fault_there.0)) other at)
    ]
    not-before (open_at.Leads f by) (Whole e) o tried (some, s, other, at, whole) = elim tried [
      | inl turn ↦ omega (arith, turn)
      | inr low ↦ elim low [
        | inl less ↦ (o.before e s (omega (arith, less, o.fault_there.0))
            (there-too some e s other at)).unfinished whole
        | inr here ↦
            let one : s ≡ o.s = same_Some s o.s (sym (there-too some e s other at)
            ∙ (ap (slice_get all) (here ∙ o.fault_there.0) ∙ o.there)) in
            o.fault_there.1 (subst (IsWholeStanding queue_reading book) one whole)
      ]
    ]
    not-before (open_at.Leads f by) (Leads e move) o tried (some, s, other, at, not) = elim tried [
      | inl turn ↦ omega (arith, turn)
      | inr low ↦ elim low [
        | inl less ↦ not (not-earlier o.number e s some move o.before
            (omega (arith, less, o.fault_there.0)) other at)
        | inr here ↦
            let one : s ≡ o.s = same_Some s o.s (sym (there-too some e s other at)
            ∙ (ap (slice_get all) (here.0 ∙ o.fault_there.0) ∙ o.there)) in
            not (subst (λ (l : List Paired). GoesOn queue_reading book l s move)
            (made-one queue_reading book entries (length entries) all some made other)
            (subst (λ (t : Paired). GoesOn queue_reading book all t move) (sym one)
            (o.fault_there.3 move here.1)))
      ]
    ]

    -- Where all entries make standings, the first test that these fail is the first fault.
    pub first-open : (fault : OpenFault) → IsFirstOpen queue_reading book all fault
        → IsFirstFault book entries (fault_of fault)
    first-open (open_at.Whole f) o = record {
      fails = (
        all,
        o.s,
        made,
        ap (slice_get all) o.fault_there.0 ∙ o.there,
        o.fault_there.1,
      );
      first = λ other tried fails. not-before (open_at.Whole f) other o tried fails;
    }
    first-open (open_at.Leads f by) o = record {
      fails = (
        all,
        o.s,
        made,
        ap (slice_get all) o.fault_there.0 ∙ o.there,
        o.fault_there.2,
      );
      first = λ other tried fails. not-before (open_at.Leads f by) other o tried fails;
    }

    -- Entries that all make standings, of which the list is closed at each, refute the book.
    pub refutes : ((number : ℕ) (s : Paired) → slice_get all number ≡ Some s
        → IsClosedStanding queue_reading book all s) → Refute book entries
    refutes closed = record {
      one_open = passes.0;
      possible = passes.1;
      closed = record {
        standings = all;
        made = made;
        closed = λ s one. closed one.0 s one.1;
      };
    }
