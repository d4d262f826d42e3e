-- The moments of the views that hold a call.
use Rattle.std.proofs.Common.{◌≡◌, ℕ, zero, suc, ◌+◌, ◌*◌, ◌<◌, ◌≤◌, ◌∙◌, List, [], ◌∷◌, length, sum, get_or, min, Some, refl, sym, ap, subst, inl, inr, arith}
use Rattle.std.proofs.lemmas.Bool.{cases_lt, cases_eq}
use Rattle.std.proofs.lemmas.List.Sums.{sum_by-cons}
use Rattle.std.proofs.lemmas.Option.{slice_get_within}
use Rattle.list_laws.proofs.Totals.{sum-within}
use Rattle.book_base.specs.declared.TheConstants.{MAX_CALLERS, MAX_CALLS}
use Rattle.book_base.specs.declared.call.Call.{Call}
use Rattle.book_base.specs.declared.call.Record.{Record}
use Rattle.queue_pairs.specs.declared.spans.Span.{Span}
use Rattle.book_base.specs.Cut.{Holds}
use Rattle.book_base.specs.Book.{Page, answers_of, IsAnswered, IsValid, IsSmall, record_of}
use Rattle.book_base.proofs.GrowthLemmas.{below_calls}
use Rattle.book_base.proofs.PageLemmas.{caller_from_answer}
use Rattle.book_base.proofs.ViewLemmas.{same_call, views_grow}
use Rattle.queue_pairs.specs.declared.TheConstants.{NEVER}
use Rattle.queue_pairs.specs.Moments.{moment_of, IsHeldBy}
use Rattle.queue_pairs.specs.Spans.{IsSpanOf, AreHolding, IsFirstBelow}

-- ---- moments

-- a view counts no more calls of a caller than a caller may make
pub few-counts : (book : List Page) (call : Call) (r : Record) → IsValid book → IsSmall book
    → record_of book call ≡ Some r → (i : ℕ) → get_or r.view i 0 ≤ MAX_CALLS
few-counts book call r valid small at i =
    omega (arith, below_calls book r.view (valid.within call r at) i, small.calls i)

sum-bound : (xs : List ℕ) → ((i : ℕ) → get_or xs i 0 ≤ MAX_CALLS) → sum xs ≤ length xs * MAX_CALLS
sum-bound [] few = omega arith
sum-bound (x ∷ xs) few =
    let first : x ≤ MAX_CALLS = few 0 in
    let rest : sum xs ≤ length xs * MAX_CALLS = sum-bound xs (λ i. few (suc i)) in
    let whole : sum (x ∷ xs) ≡ x + sum xs = sum_by-cons (λ (n : ℕ). n) x xs in
    omega arith

-- a moment is before NEVER
pub moment-small : (book : List Page) (call : Call) (r : Record) → IsValid book → IsSmall book
    → record_of book call ≡ Some r → moment_of r < NEVER
moment-small book call r valid small at =
    let bound : sum r.view ≤ length r.view * MAX_CALLS
    = sum-bound r.view (few-counts book call r valid small at) in
    let wide : length r.view ≡ length book = valid.wide call r at in
    let callers : length book ≤ MAX_CALLERS = small.callers in
    omega arith

-- a caller's moments don't fall
pub moments-grow : (book : List Page) (a b : Call) (r s : Record) → IsValid book
    → record_of book a ≡ Some r → record_of book b ≡ Some s → a.caller ≡ b.caller
    → a.number ≤ b.number → moment_of r ≤ moment_of s
moments-grow book a b r s valid at bt caller le =
    sum-within r.view s.view (omega (arith, valid.wide a r at, valid.wide b s bt))
    (views_grow book valid a b r s at bt caller le)

-- ---- a caller's first view that holds a call, by bisection

pub holding-all : (book : List Page) (caller : ℕ) (call : Call)
    → AreHolding book caller call 0 (answers_of book caller)
holding-all book caller call = record {
  ordered = omega arith;
  few = omega arith;
  below = λ k r lt at held. omega arith;
  above = λ k r le at. absurd
      (let there : k < answers_of book caller = slice_get_within _ k r at in omega arith);
}

-- where the view in the middle doesn't hold the call, the search goes on after it
pub holding-low : (book : List Page) (caller : ℕ) (call : Call) (low high middle : ℕ)
    → IsValid book → AreHolding book caller call low high → middle < high → (s : Record)
    → record_of book (record { caller = caller; number = middle }) ≡ Some s
    → (Holds s.view call → ⊥) → AreHolding book caller call (middle + 1) high
holding-low book caller call low high middle valid h below s at lacks = record {
  ordered = omega arith;
  few = h.few;
  below = λ k r lt there held.
      let rise = views_grow book valid (record { caller = caller; number = k })
      (record { caller = caller; number = middle }) r s there at refl (omega arith) call.caller in
      lacks (omega (arith, rise, held));
  above = h.above;
}

-- where the view in the middle holds the call, the search goes on before it
pub holding-high : (book : List Page) (caller : ℕ) (call : Call) (low high middle : ℕ)
    → IsValid book → AreHolding book caller call low high → low ≤ middle → middle < high
    → (s : Record) → record_of book (record { caller = caller; number = middle }) ≡ Some s
    → Holds s.view call → AreHolding book caller call low middle
holding-high book caller call low high middle valid h above below s at holds = record {
  ordered = above;
  few = omega (arith, h.few);
  below = h.below;
  above = λ k r le there.
      let rise = views_grow book valid (record { caller = caller; number = middle })
      (record { caller = caller; number = k }) s r at there refl le call.caller in
      omega (arith, rise, holds);
}

-- the moment of a caller's first view that holds a call is the least of this caller's, and where
-- all views are passed none holds the call
pub first-held : (book : List Page) (caller : ℕ) (call : Call) (first : ℕ) (r : Record)
    → AreHolding book caller call first first
    → record_of book (record { caller = caller; number = first }) ≡ Some r
    → IsHeldBy book call (moment_of r)
first-held book caller call first r h at = (
  record { caller = caller; number = first },
  r,
  at,
  h.above first r (omega arith) at,
  omega arith,
)

pub first-least : (book : List Page) (caller : ℕ) (call : Call) (first number : ℕ) (r s : Record)
    → IsValid book → AreHolding book caller call first first
    → record_of book (record { caller = caller; number = first }) ≡ Some r
    → record_of book (record { caller = caller; number = number }) ≡ Some s
    → Holds s.view call → moment_of r ≤ moment_of s
first-least book caller call first number r s valid h at bt holds =
    elim (cases_lt number first) [
      | inl before ↦ absurd (h.below number s before bt holds)
      | inr from ↦
          moments-grow book (record { caller = caller; number = first })
          (record { caller = caller; number = number }) r s valid at bt refl from
    ]

pub none-holds : (book : List Page) (caller : ℕ) (call : Call) (first number : ℕ) (s : Record)
    → AreHolding book caller call first first → answers_of book caller ≤ first
    → record_of book (record { caller = caller; number = number }) ≡ Some s
    → Holds s.view call → ⊥
none-holds book caller call first number s h all bt holds =
    let there : number < answers_of book caller = slice_get_within _ number s bt in
    h.below number s (omega (arith, there, all)) bt holds

-- ---- the first view of all callers

pub first-none : (book : List Page) (call : Call) → IsFirstBelow book call 0 NEVER
first-none book call = record {
  few = omega arith;
  held = λ lt. absurd (omega arith);
  least = λ other r lt at holds. absurd (omega arith);
}

pub first-more : (book : List Page) (call : Call) (caller first own : ℕ)
    → IsFirstBelow book call caller first → own ≤ NEVER → (own < NEVER → IsHeldBy book call own)
    → ((number : ℕ) (r : Record)
    → record_of book (record { caller = caller; number = number }) ≡ Some r
    → Holds r.view call → own ≤ moment_of r)
    → IsFirstBelow book call (caller + 1) (min first own)
first-more book call caller first own h few held least = record {
  few = omega (arith, h.few);
  held = elim (cases_lt own first) as
      (λ _. min first own < NEVER → IsHeldBy book call (min first own)) [
        | inl less ↦
            let same : own ≡ min first own = omega arith in
            λ lt. subst (IsHeldBy book call) same (held (omega arith))
        | inr more ↦
            let same : first ≡ min first own = omega arith in
            λ lt. subst (IsHeldBy book call) same (h.held (omega arith))
      ];
  least = λ other r lt at holds. elim (cases_eq other.caller caller) [
    | inl same ↦
        let there : record_of book (record { caller = caller; number = other.number }) ≡ Some r
        = ap (record_of book)
        (same_call (record { caller = caller; number = other.number }) other (sym same) refl)
        ∙ at in
        let low : own ≤ moment_of r = least other.number r there holds in
        omega arith
    | inr apart ↦
        let low : first ≤ moment_of r = h.least other r (omega arith) at holds in
        omega arith
  ];
}

-- ---- spans

pub span-is : (book : List Page) (call : Call) (first last : ℕ) → IsValid book → IsSmall book
    → IsFirstBelow book call (length book) first
    → ((r : Record) → record_of book call ≡ Some r → last ≡ moment_of r)
    → (answers_of book call.caller ≤ call.number → last ≡ NEVER)
    → IsSpanOf book call (record { first = first; last = last })
span-is book call first last valid small h answered unanswered = record {
  held = h.held;
  least = λ m held.
      let inside : held.0.caller < length book
      = caller_from_answer book held.0.caller held.0.number
      (slice_get_within _ held.0.number held.1 held.2) in
      let low : first ≤ moment_of held.1 = h.least held.0 held.1 inside held.2 held.3 in
      let few : moment_of held.1 < NEVER = moment-small book held.0 held.1 valid small held.2 in
      (omega (arith, held.4), omega arith);
  answered = λ r at.
      let same : last ≡ moment_of r = answered r at in
      let few : moment_of r < NEVER = moment-small book call r valid small at in
      (same, omega arith);
  unanswered = unanswered;
}
