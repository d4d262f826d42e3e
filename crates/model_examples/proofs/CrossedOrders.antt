-- Legal orders of the parts of the crossed calls, and none of the whole where the views hold both
-- unanswered calls.
use Rattle.std.proofs.Common.{◌≡◌, ℕ, zero, suc, ◌<◌, ◌≤◌, List, [], ◌∷◌, get_or, refl, sym, ap, inl, inr, arith}
use Rattle.std.proofs.lemmas.Option.{same_Some, none-some}
use Rattle.book_base.specs.declared.call.Call.{Call}
use Rattle.book_base.specs.declared.call.Place.{Place}
use Rattle.book_base.specs.declared.call.Record.{Record}
use Rattle.book_base.specs.SeqSpec.{SeqSpec}
use Rattle.book_base.specs.Cut.{Holds}
use Rattle.book_base.specs.Book.{Page, answers_of, IsAnswered, Precedes}
use Rattle.book_base.specs.Order.{HasLegalOrder}
use Rattle.book_base.specs.Next.{raised, MayStandNext, list_after, Continues}
use Rattle.book_base.specs.Pruning.{HasOneOpen, IsDeadEnd}
use Rattle.legal_orders.proofs.LegalOrder.{legal_order_from_continues, continues_from_legal_order}
use Rattle.locality.proofs.Merging.{locality}
use Rattle.model_examples.specs.Counters.{side_key, side_list, side_counter, both_counters, both_after}
use Rattle.model_examples.specs.OpenCalls.{crossed_calls, one_each, crossed_names, crossed_part}
use Rattle.model_examples.proofs.Counters.{counters_product}
use Rattle.model_examples.proofs.CrossedParts.{crossed_valid, crossed_parts}

abbrev call_of : ℕ → ℕ → Call
call_of i k = record { caller = i; number = k }

abbrev place_of : ℕ → ℕ → ℕ → Place
place_of i k reply = record { caller = i; number = k; reply = reply }

start_is_empty : (i : ℕ) → let none : List ℕ = 0 ∷ 0 ∷ [] in get_or none i 0 ≡ 0
start_is_empty zero = refl
start_is_empty (suc zero) = refl
start_is_empty (suc (suc i)) = refl

-- ---- orders of the parts

-- no call precedes the unanswered one where the answered one's view holds it
none_before_open : (op held reply i k : ℕ) → 1 ≤ held
    → Precedes (one_each op held reply) (call_of i k) (call_of 0 0) → ⊥
none_before_open op held reply zero k holds p =
    elim p [ inl answered ↦ absurd answered | inr own ↦ absurd (omega (arith, own.1)) ]
none_before_open op held reply (suc zero) zero holds p = elim p [
  | inl answered ↦ absurd (omega (arith, answered, holds))
  | inr own ↦ absurd (omega (arith, own.1))
]
none_before_open op held reply (suc zero) (suc k) holds p =
    elim p [ inl answered ↦ absurd answered | inr own ↦ absurd (omega (arith, own.1)) ]
none_before_open op held reply (suc (suc i)) k holds p =
    elim p [ inl answered ↦ absurd answered | inr own ↦ absurd (omega (arith, own.1)) ]

-- no call precedes the answered one
none_before_answered : (op held reply i k : ℕ)
    → Precedes (one_each op held reply) (call_of i k) (call_of 1 0) → ⊥
none_before_answered op held reply zero k p =
    elim p [ inl answered ↦ absurd answered | inr own ↦ absurd (omega (arith, own.1)) ]
none_before_answered op held reply (suc zero) zero p = elim p [
  | inl answered ↦ absurd (omega (arith, answered))
  | inr own ↦ absurd (omega (arith, own.1))
]
none_before_answered op held reply (suc zero) (suc k) p =
    elim p [ inl answered ↦ absurd answered | inr own ↦ absurd (omega (arith, own.1)) ]
none_before_answered op held reply (suc (suc i)) k p =
    elim p [ inl answered ↦ absurd answered | inr own ↦ absurd (omega (arith, own.1)) ]

all_held : (op held reply first i k : ℕ) → k < answers_of (one_each op held reply) i
    → (let cut : List ℕ = first ∷ 1 ∷ [] in k < get_or cut i 0)
all_held op held reply first zero k h = absurd (omega (arith, h))
all_held op held reply first (suc zero) k h = h
all_held op held reply first (suc (suc i)) k h = h

answered_stands : (spec : SeqSpec) (op held reply first : ℕ) (list : List ℕ)
    → (spec.next list op).1 ≡ reply
    → Continues (one_each op held reply) spec.next (first ∷ 0 ∷ []) list (place_of 1 0 reply ∷ [])
answered_stands spec op held reply first list gives = (
  record {
    may_come = record {
      is_call = omega arith;
      next = refl;
      preceded = λ call p.
          absurd (none_before_answered op held reply call.caller call.number p);
    };
    recorded = λ answer e. ap (λ (x : Record). x.reply) (sym (same_Some _ answer e));
    reply = gives;
  },
  λ (call : Call) (h : IsAnswered (one_each op held reply) call).
      all_held op held reply (first) call.caller call.number h,
)

-- The answered call alone is a legal order where the object gives its reply at once.
answered_alone : (spec : SeqSpec) (op held reply : ℕ) → (spec.next spec.init op).1 ≡ reply
    → HasLegalOrder spec (one_each op held reply)
answered_alone spec op held reply gives = (
  place_of 1 0 reply ∷ [],
  legal_order_from_continues (one_each op held reply) spec (0 ∷ 0 ∷ []) (place_of 1 0 reply ∷ [])
      (omega arith) start_is_empty (answered_stands spec op held reply 0 spec.init gives),
)

-- The unanswered call and then the answered one are a legal order where the answered one's view
-- holds the other and the object gives its reply after it.
both_stand : (spec : SeqSpec) (op held reply : ℕ) → 1 ≤ held
    → (spec.next (spec.next spec.init op).0 op).1 ≡ reply
    → HasLegalOrder spec (one_each op held reply)
both_stand spec op held reply holds gives =
    let first : Place = place_of 0 0 (spec.next spec.init op).1 in (
      first ∷ place_of 1 0 reply ∷ [],
      legal_order_from_continues (one_each op held reply) spec (0 ∷ 0 ∷ [])
          (first ∷ place_of 1 0 reply ∷ []) (omega arith) start_is_empty (
            record {
              may_come = record {
                is_call = omega arith;
                next = refl;
                preceded = λ call p.
                    absurd (none_before_open op held reply call.caller call.number holds p);
              };
              recorded = λ answer e. absurd (none-some answer e);
              reply = refl;
            },
            answered_stands spec op held reply 1 (spec.next spec.init op).0 gives,
          ),
    )

none_answered : (held r s i k : ℕ) → k < answers_of (crossed_part held r s 2) i
    → (let cut : List ℕ = 0 ∷ 0 ∷ [] in k < get_or cut i 0)
none_answered held r s zero k h = h
none_answered held r s (suc zero) k h = h
none_answered held r s (suc (suc i)) k h = h

-- the part of a key that no call has
empty_is_legal : (held r s : ℕ) (spec : SeqSpec) → HasLegalOrder spec (crossed_part held r s 2)
empty_is_legal held r s spec = (
  [],
  legal_order_from_continues (crossed_part held r s 2) spec (0 ∷ 0 ∷ []) [] (omega arith)
      start_is_empty (λ (call : Call) (h : IsAnswered (crossed_part held r s 2) call).
      none_answered held r s call.caller call.number h),
)

-- Where the views hold the first caller's first call, its part has both calls in its order.
pub held_parts_are_legal : (k : ℕ) → HasLegalOrder (side_counter k) (crossed_part 1 0 1 k)
held_parts_are_legal zero = both_stand (side_counter 0) 0 1 1 (omega arith) refl
held_parts_are_legal (suc zero) = answered_alone (side_counter 1) 1 0 0 refl
held_parts_are_legal (suc (suc k)) = empty_is_legal 1 0 1 (side_counter (suc (suc k)))

-- Where the views hold both calls of the first caller, the first one may be left out of its part's
-- order, and the second one stands in its own.
pub open_parts_are_legal : (k : ℕ) → HasLegalOrder (side_counter k) (crossed_part 2 1 0 k)
open_parts_are_legal zero = answered_alone (side_counter 0) 0 1 0 refl
open_parts_are_legal (suc zero) = both_stand (side_counter 1) 1 1 1 (omega arith) refl
open_parts_are_legal (suc (suc k)) = empty_is_legal 2 1 0 (side_counter (suc (suc k)))

-- ---- no order of the whole

abbrev book : List Page
book = crossed_calls 2 1 0

-- A cut that doesn't hold the last call is a dead end where each place that may stand next leads to
-- one.
dead_end : (cut list : List ℕ) → (Holds cut (call_of 1 1) → ⊥)
    → ((i n x : ℕ) → MayStandNext book both_after cut list (place_of i n x)
    → IsDeadEnd book both_after (raised cut i) (list_after book both_after list (place_of i n x)))
    → IsDeadEnd book both_after cut list
dead_end cut list outside steps [] holds = outside (holds (call_of 1 1) (omega arith))
dead_end cut list outside steps (place ∷ rest) (may, later) =
    steps place.caller place.number place.reply may rest later

-- the first counter was incremented, and the last call's reply is 0
last_step : (i n x : ℕ)
    → MayStandNext book both_after (2 ∷ 1 ∷ []) (1 ∷ 2 ∷ []) (place_of i n x) → ⊥
last_step zero n x may = omega (arith, may.may_come.next, may.may_come.is_call)
last_step (suc zero) zero x may = omega (arith, may.may_come.next)
last_step (suc zero) (suc zero) x may =
    omega (arith, may.reply, may.recorded (record { reply = 0; view = 2 ∷ 2 ∷ [] }) refl)
last_step (suc zero) (suc (suc n)) x may = omega (arith, may.may_come.next)
last_step (suc (suc i)) n x may = omega (arith, may.may_come.is_call)

last_is_dead : IsDeadEnd book both_after (2 ∷ 1 ∷ []) (1 ∷ 2 ∷ [])
last_is_dead = dead_end (2 ∷ 1 ∷ []) (1 ∷ 2 ∷ []) (λ h. omega (arith, h))
    (λ i n x may. absurd (last_step i n x may))

third_step : (i n x : ℕ)
    → MayStandNext book both_after (2 ∷ 0 ∷ []) (1 ∷ 1 ∷ []) (place_of i n x)
    → IsDeadEnd book both_after (raised (2 ∷ 0 ∷ []) i)
    (list_after book both_after (1 ∷ 1 ∷ []) (place_of i n x))
third_step zero n x may = absurd (omega (arith, may.may_come.next, may.may_come.is_call))
third_step (suc zero) zero x may = last_is_dead
third_step (suc zero) (suc n) x may = absurd (omega (arith, may.may_come.next))
third_step (suc (suc i)) n x may = absurd (omega (arith, may.may_come.is_call))

third_is_dead : IsDeadEnd book both_after (2 ∷ 0 ∷ []) (1 ∷ 1 ∷ [])
third_is_dead = dead_end (2 ∷ 0 ∷ []) (1 ∷ 1 ∷ []) (λ h. omega (arith, h)) third_step

-- the second counter wasn't incremented, and the reply to the second caller's first call is 1
second_step : (i n x : ℕ)
    → MayStandNext book both_after (1 ∷ 0 ∷ []) (1 ∷ 0 ∷ []) (place_of i n x)
    → IsDeadEnd book both_after (raised (1 ∷ 0 ∷ []) i)
    (list_after book both_after (1 ∷ 0 ∷ []) (place_of i n x))
second_step zero zero x may = absurd (omega (arith, may.may_come.next))
second_step zero (suc zero) x may = third_is_dead
second_step zero (suc (suc n)) x may = absurd (omega (arith, may.may_come.next))
second_step (suc zero) zero x may =
    absurd (omega (arith, may.reply, may.recorded (record { reply = 1; view = 2 ∷ 1 ∷ [] }) refl))
second_step (suc zero) (suc n) x may = absurd (omega (arith, may.may_come.next))
second_step (suc (suc i)) n x may = absurd (omega (arith, may.may_come.is_call))

second_is_dead : IsDeadEnd book both_after (1 ∷ 0 ∷ []) (1 ∷ 0 ∷ [])
second_is_dead = dead_end (1 ∷ 0 ∷ []) (1 ∷ 0 ∷ []) (λ h. omega (arith, h)) second_step

first_step : (i n x : ℕ)
    → MayStandNext book both_after (0 ∷ 0 ∷ []) (0 ∷ 0 ∷ []) (place_of i n x)
    → IsDeadEnd book both_after (raised (0 ∷ 0 ∷ []) i)
    (list_after book both_after (0 ∷ 0 ∷ []) (place_of i n x))
first_step zero zero x may = second_is_dead
first_step zero (suc n) x may = absurd (omega (arith, may.may_come.next))
first_step (suc zero) zero x may =
    absurd (omega (arith, may.reply, may.recorded (record { reply = 1; view = 2 ∷ 1 ∷ [] }) refl))
first_step (suc zero) (suc n) x may = absurd (omega (arith, may.may_come.next))
first_step (suc (suc i)) n x may = absurd (omega (arith, may.may_come.is_call))

-- Where the views hold both calls of the first caller, the two counters have no legal order: the
-- second call stands in it, and so does the first one before it.
pub open_whole_is_illegal : HasLegalOrder both_counters (crossed_calls 2 1 0) → ⊥
open_whole_is_illegal (order, legal) =
    dead_end (0 ∷ 0 ∷ []) (0 ∷ 0 ∷ []) (λ h. omega (arith, h)) first_step order
    (continues_from_legal_order book both_counters (0 ∷ 0 ∷ []) order (omega arith)
    start_is_empty legal)

-- By locality that book hasn't one open.
pub open_has_several : HasOneOpen (crossed_calls 2 1 0) → ⊥
open_has_several one_open =
    open_whole_is_illegal ((locality side_key side_list side_counter both_counters
    (crossed_calls 2 1 0) crossed_names (crossed_part 2 1 0) counters_product
    (crossed_valid 2 1 0 (omega arith)) one_open (crossed_parts 2 1 0)).1 open_parts_are_legal)
