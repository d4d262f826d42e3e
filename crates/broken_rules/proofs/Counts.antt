-- The rules of counters: each count is given once, counts go up, and a call's view holds the calls
-- that it counts.
use Rattle.std.proofs.Common.{◌≡◌, ◌≢◌, ◌∙◌, ℕ, zero, suc, ◌+◌, ◌*◌, ◌<◌, ◌≤◌, Bool, true, cond, List, [], ◌∷◌, ◌++◌, length, take, drop, sum, Option, Some, None, is_some, sym, ap, subst, inl, inr, slice_get, arith}
use Rattle.std.specs.Prelude.{count_by, IsSomeAnd}
use Rattle.std.proofs.lemmas.Bool.{cases_Bool, cases_order, cond-true, cond-false, false≢true}
use Rattle.std.proofs.lemmas.List.{length-take-le, length-map}
use Rattle.std.proofs.lemmas.List.Sums.{count_by-le-length, sum_by-cons}
use Rattle.std.proofs.lemmas.Option.{same_Some, none-some, slice_get_within}
use Rattle.list_laws.proofs.Options.{some_from_is_some_and}
use Rattle.book_base.specs.declared.call.Call.{Call}
use Rattle.book_base.specs.declared.call.Place.{Place}
use Rattle.book_base.specs.declared.call.Record.{Record}
use Rattle.book_base.specs.declared.TheConstants.{MAX_CALLERS, MAX_CALLS}
use Rattle.book_base.specs.Book.{Page, record_of, IsSmall, Precedes}
use Rattle.book_base.specs.Sequential.{IsRunFrom}
use Rattle.book_base.specs.Order.{HasLegalOrder, IsLegalOrder, call_at, step_at}
use Rattle.legal_orders.specs.Container.{Takes, Neither}
use Rattle.legal_orders.proofs.Orders.{steps_of, answered_step}
use Rattle.legal_orders.specs.Deals as deals
use Rattle.legal_orders.specs.Deals.{deal_of}
use Rattle.legal_orders.proofs.Dealing.{takes_by_deal}
use Rattle.seq_objects.specs.declared.kind.Kind.TheVariants as kinds
use Rattle.seq_objects.specs.Words as words
use Rattle.seq_objects.specs.Words.{entries, entry_of, is_operation_of, is_known_word}
use Rattle.seq_objects.specs.Replies.{reply_value, value_of, shown_value}
use Rattle.seq_objects.specs.Objects.{kind_next, kind_spec}
use Rattle.kind_search.proofs.Reading.{shown_item}
use Rattle.seq_objects.proofs.Lengths.{order_is_short}
use Rattle.broken_rules.specs.Runs.{does}
use Rattle.broken_rules.proofs.Counting.{increments_are_counted}
use Rattle.broken_rules.specs.Deeds.{counter_reading}
use Rattle.broken_rules.specs.Rules.{SeesAtMost}
use Rattle.broken_rules.proofs.Least.{split_step}
use Rattle.broken_rules.proofs.Seen.{sees_what_stands_before}

-- an operation that a counter knows is an increment
known_is_inc : (word : ℕ) → is_known_word kinds.Counter word ≡ true
    → is_operation_of word words.inc ≡ true
unfolding is_known_word entry_of entries
known_is_inc word known = elim (cases_Bool (is_operation_of word words.inc)) [
  | inl is ↦ is
  | inr other ↦ absurd (false≢true (sym (ap is_some
      (cond-false (is_operation_of word words.inc) (Some words.inc) None other)) ∙ known))
]

is_inc : (word : ℕ) → counter_reading.deed word ≡ Takes → is_operation_of word words.inc ≡ true
is_inc word takes = elim (cases_Bool (is_known_word kinds.Counter word)) [
  | inl known ↦ known_is_inc word known
  | inr other ↦
      let neither : counter_reading.deed word ≡ Neither =
      cond-false (is_known_word kinds.Counter word) Takes Neither other in
      absurd (cc (sym neither ∙ takes))
]

-- more steps pass a test up to a later moment, where one between the two moments passes
count_more : (p : ℕ × ℕ → Bool) (steps : List (ℕ × ℕ)) (j k : ℕ) (step : ℕ × ℕ)
    → slice_get steps j ≡ Some step → p step ≡ true → j < k
    → count_by p (take j steps) + 1 ≤ count_by p (take k steps)
count_more p [] j k step at passes lt = absurd (none-some step at)
count_more p (first ∷ rest) zero zero step at passes lt = absurd (omega arith)
count_more p (first ∷ rest) zero (suc k) step at passes lt =
    let here : p first ≡ true = ap p (same_Some first step at) ∙ passes in
    omega (
      arith,
      sum_by-cons (λ (s : ℕ × ℕ). cond (p s) 1 0) first (take k rest),
      cond-true {A = ℕ} (p first) 1 0 here,
    )
count_more p (first ∷ rest) (suc j) zero step at passes lt = absurd (omega arith)
count_more p (first ∷ rest) (suc j) (suc k) step at passes lt =
    omega (
      arith,
      count_more p rest j k step at passes (omega arith),
      sum_by-cons (λ (s : ℕ × ℕ). cond (p s) 1 0) first (take j rest),
      sum_by-cons (λ (s : ℕ × ℕ). cond (p s) 1 0) first (take k rest),
    )

-- The count that an increment replies is the number of increments before it.
count_at : (steps : List (ℕ × ℕ)) (m : ℕ) (step : ℕ × ℕ) (v : ℕ)
    → length steps ≤ MAX_CALLERS * MAX_CALLS → IsRunFrom (kind_next kinds.Counter) (0 ∷ []) steps
    → slice_get steps m ≡ Some step → is_operation_of step.0 words.inc ≡ true
    → shown_value step.1 ≡ Some v → v ≡ count_by (does words.inc) (take m steps)
count_at steps m step v short run at inc shows =
    let before : List (ℕ × ℕ) = take m steps in
    let split : IsRunFrom (kind_next kinds.Counter) (0 ∷ []) (before ++ step ∷ drop (suc m) steps)
    = subst (IsRunFrom (kind_next kinds.Counter) (0 ∷ [])) (split_step steps m step at) run in
    let count : ℕ = count_by (does words.inc) before in
    let reply : step.1 ≡ reply_value count =
    increments_are_counted before (drop (suc m) steps) step split inc in
    let value : Some (value_of count) ≡ Some v =
    sym (shown_item count) ∙ (sym (ap shown_value reply) ∙ shows) in
    let same : value_of count ≡ v = same_Some (value_of count) v value in
    let inside = slice_get_within steps m step at in
    omega (
      arith,
      same,
      short,
      inside,
      count_by-le-length (does words.inc) before,
      length-take-le m steps (omega arith),
    )

-- later increments reply greater counts
counts_rise : (steps : List (ℕ × ℕ)) (j k : ℕ) (a b : ℕ × ℕ) (v w : ℕ)
    → length steps ≤ MAX_CALLERS * MAX_CALLS → IsRunFrom (kind_next kinds.Counter) (0 ∷ []) steps
    → slice_get steps j ≡ Some a → slice_get steps k ≡ Some b → counter_reading.deed a.0 ≡ Takes
    → counter_reading.deed b.0 ≡ Takes
    → shown_value a.1 ≡ Some v → shown_value b.1 ≡ Some w → j < k → v < w
counts_rise steps j k a b v w short run at_a at_b takes_a takes_b shows_a shows_b lt =
    omega (
      arith,
      count_at steps j a v short run at_a (is_inc a.0 takes_a) shows_a,
      count_at steps k b w short run at_b (is_inc b.0 takes_b) shows_b,
      count_more (does words.inc) steps j k a at_a (is_inc a.0 takes_a) lt,
    )

steps_are_short : (book : List Page) (order : List Place) → IsSmall book
    → IsLegalOrder (kind_spec kinds.Counter) book order
    → length (steps_of book order) ≤ MAX_CALLERS * MAX_CALLS
steps_are_short book order small legal = omega (
  arith,
  length-map order (step_at book),
  order_is_short (kind_spec kinds.Counter) book order small legal,
)

-- A counter's book where a later call replies a lower count has no legal order.
pub counted_down : (book : List Page) (v w : ℕ) (one other : Call) → IsSmall book → w < v
    → deal_of counter_reading book one ≡ deals.Took v
    → deal_of counter_reading book other ≡ deals.Took w → Precedes book one other
    → ¬ HasLegalOrder (kind_spec kinds.Counter) book
counted_down book v w one other small less takes_v takes_w precedes h =
    let spec = kind_spec kinds.Counter in
    let order = h.0 in
    let legal = h.1 in
    let a = answered_step counter_reading spec book order legal one (Some v)
    (takes_by_deal counter_reading book one v takes_v) in
    let b = answered_step counter_reading spec book order legal other (Some w)
    (takes_by_deal counter_reading book other w takes_w) in
    let up = counts_rise (steps_of book order) a.0 b.0 a.1 b.1 v w
    (steps_are_short book order small legal) legal.run a.3 b.3 a.4 b.4 a.5 b.5
    (legal.precedence a.0 b.0 one other a.2 b.2 precedes) in
    absurd (omega (arith, less, up))

-- A counter's book where two calls reply one count has no legal order.
pub counted_twice : (book : List Page) (v w : ℕ) (one other : Call) → IsSmall book → v ≡ w
    → one ≢ other → deal_of counter_reading book one ≡ deals.Took v
    → deal_of counter_reading book other ≡ deals.Took w
    → ¬ HasLegalOrder (kind_spec kinds.Counter) book
counted_twice book v w one other small same apart takes_v takes_w h =
    let spec = kind_spec kinds.Counter in
    let order = h.0 in
    let legal = h.1 in
    let steps = steps_of book order in
    let short = steps_are_short book order small legal in
    let a = answered_step counter_reading spec book order legal one (Some v)
    (takes_by_deal counter_reading book one v takes_v) in
    let b = answered_step counter_reading spec book order legal other (Some w)
    (takes_by_deal counter_reading book other w takes_w) in
    elim (cases_order a.0 b.0) [
      | inl here ↦
          let place : a.2.0 ≡ b.2.0 =
          same_Some a.2.0 b.2.0 (sym a.2.1 ∙ (ap (slice_get order) here ∙ b.2.1)) in
          apart (sym a.2.2 ∙ (ap call_at place ∙ b.2.2))
      | inr differ ↦ elim differ [
        | inl lt ↦ absurd (omega (
          arith,
          same,
          counts_rise steps a.0 b.0 a.1 b.1 v w short legal.run a.3 b.3 a.4 b.4 a.5 b.5 lt,
        ))
        | inr gt ↦ absurd (omega (
          arith,
          same,
          counts_rise steps b.0 a.0 b.1 a.1 w v short legal.run b.3 a.3 b.4 a.4 b.5 a.5 gt,
        ))
      ]
    ]

-- A counter's book where a call replies a count of more calls than the others in its view has no
-- legal order.
pub counted_unseen : (book : List Page) (v : ℕ) (one : Call) → IsSmall book
    → deal_of counter_reading book one ≡ deals.Took v → SeesAtMost book one v
    → ¬ HasLegalOrder (kind_spec kinds.Counter) book
counted_unseen book v one small takes few h =
    let spec = kind_spec kinds.Counter in
    let order = h.0 in
    let legal = h.1 in
    let steps = steps_of book order in
    let a = answered_step counter_reading spec book order legal one (Some v)
    (takes_by_deal counter_reading book one v takes) in
    let inside = slice_get_within steps a.0 a.1 a.3 in
    let r = some_from_is_some_and (record_of book one) (λ s. sum s.view ≤ v) few in
    let most : sum r.0.view ≤ v =
    subst (λ (o : Option Record). IsSomeAnd o (λ s. sum s.view ≤ v)) r.1 few in
    absurd (omega (
      arith,
      most,
      sees_what_stands_before spec book order legal one r.0 r.1 a.0 a.2,
      count_at steps a.0 a.1 v (steps_are_short book order small legal) legal.run a.3
          (is_inc a.1.0 a.4) a.5,
      count_by-le-length (does words.inc) (take a.0 steps),
      length-take-le a.0 steps (omega (arith, inside)),
    ))
