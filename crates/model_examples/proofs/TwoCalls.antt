-- Books of one caller with two calls are legal where the object gives the replies.
use Rattle.std.proofs.Common.{◌≡◌, ℕ, zero, suc, ◌<◌, List, [], ◌∷◌, get_or, refl, sym, ap, inl, inr, arith}
use Rattle.std.proofs.lemmas.Option.{same_Some}
use Rattle.book_base.specs.declared.call.Call.{Call}
use Rattle.book_base.specs.declared.call.Record.{Record}
use Rattle.book_base.specs.SeqSpec.{SeqSpec}
use Rattle.book_base.specs.Cut.{Holds}
use Rattle.book_base.specs.Book.{answers_of, IsAnswered, Precedes}
use Rattle.book_base.specs.Order.{IsLegalOrder}
use Rattle.legal_orders.proofs.LegalOrder.{legal_order_from_continues}
use Rattle.model_examples.specs.Locks.{two_calls, two_places}

abbrev call_of : ℕ → ℕ → Call
call_of i k = record { caller = i; number = k }

first_is_free : (a r b s i k : ℕ) → Precedes (two_calls a r b s) (call_of i k) (call_of 0 0)
    → Holds (0 ∷ []) (call_of i k)
first_is_free a r b s zero zero p =
    elim p [
      | inl answered ↦ absurd (omega (arith, answered))
      | inr own ↦ absurd (omega (arith, own.1))
    ]
first_is_free a r b s zero (suc zero) p =
    elim p [
      | inl answered ↦ absurd (omega (arith, answered))
      | inr own ↦ absurd (omega (arith, own.1))
    ]
first_is_free a r b s zero (suc (suc k)) p =
    elim p [ inl answered ↦ absurd answered | inr own ↦ absurd (omega (arith, own.1)) ]
first_is_free a r b s (suc i) k p =
    elim p [ inl answered ↦ absurd answered | inr own ↦ absurd (omega (arith, own.1)) ]

second_is_next : (a r b s i k : ℕ) → Precedes (two_calls a r b s) (call_of i k) (call_of 0 1)
    → Holds (1 ∷ []) (call_of i k)
second_is_next a r b s zero zero p = omega arith
second_is_next a r b s zero (suc zero) p =
    elim p [
      | inl answered ↦ absurd (omega (arith, answered))
      | inr own ↦ absurd (omega (arith, own.1))
    ]
second_is_next a r b s zero (suc (suc k)) p =
    elim p [ inl answered ↦ absurd answered | inr own ↦ absurd (omega (arith, own.1)) ]
second_is_next a r b s (suc i) k p =
    elim p [ inl answered ↦ absurd answered | inr own ↦ absurd (omega (arith, own.0)) ]

all_held : (a r b s i k : ℕ) → k < answers_of (two_calls a r b s) i → k < get_or (2 ∷ []) i 0
all_held a r b s zero k h = h
all_held a r b s (suc i) k h = h

start_is_empty : (i : ℕ) → let none : List ℕ = 0 ∷ [] in get_or none i 0 ≡ 0
start_is_empty zero = refl
start_is_empty (suc i) = refl

pub two_calls_are_legal : (spec : SeqSpec) (a r b s : ℕ) → (spec.next spec.init a).1 ≡ r
    → (spec.next (spec.next spec.init a).0 b).1 ≡ s
    → IsLegalOrder spec (two_calls a r b s) (two_places r s)
two_calls_are_legal spec a r b s first second =
    legal_order_from_continues (two_calls a r b s) spec (0 ∷ []) (two_places r s)
    (omega arith) start_is_empty (
      record {
        may_come = record {
          is_call = omega arith;
          next = refl;
          preceded = λ call p. first_is_free a r b s call.caller call.number p;
        };
        recorded = λ answer e. ap (λ (x : Record). x.reply) (sym (same_Some _ answer e));
        reply = first;
      },
      (
        record {
          may_come = record {
            is_call = omega arith;
            next = refl;
            preceded = λ call p. second_is_next a r b s call.caller call.number p;
          };
          recorded = λ answer e. ap (λ (x : Record). x.reply) (sym (same_Some _ answer e));
          reply = second;
        },
        λ (call : Call) (h : IsAnswered (two_calls a r b s) call).
            all_held a r b s call.caller call.number h,
      ),
    )
