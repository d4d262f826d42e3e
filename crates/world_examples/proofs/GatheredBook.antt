-- The run in which caller 1 gathers the book of both calls.
use Rattle.std.proofs.Common.{◌≡◌, ℕ, zero, suc, ◌+◌, ◌<◌, List, [], ◌∷◌, length, Some, slice_index, refl, subst, arith}
use Rattle.std.proofs.lemmas.Option.{same_Some, none-some}
use Rattle.book_base.specs.declared.call.Call.{Call}
use Rattle.book_base.specs.declared.call.Record.{Record}
use Rattle.book_base.specs.OperationWord.{low_of, high_of}
use Rattle.book_base.specs.Book.{IsCall, answers_of, operation_of, record_of}
use Rattle.book_base.specs.BookAt.{IsHeldBySomeView}
use Rattle.world_core.specs.declared.region.Region.TheVariants.{N, M}
use Rattle.world_core.specs.Local.{Local}
use Rattle.world_core.specs.History.{call_of}
use Rattle.world_examples.specs.Schedules.{local_at as local_after}
use Rattle.world_core.specs.Calls.{IsPublished, IsGathered, HasPeeked}
use Rattle.world_examples.specs.JudgedRuns.{locals_after, answer, both_answered, gathering}
use Rattle.world_examples.proofs.JudgedRuns.{published_two}

abbrev gatherer : Local
gatherer = local_after gathering 1

abbrev all : List ℕ
all = 1 ∷ 1 ∷ []

-- what holds of both records of the book, with their calls, holds of each record of a call
each_record : (P : Call → Record → Type 0) → P (call_of 0 0) (answer 50 all)
    → P (call_of 1 0) (answer 60 all)
    → (i k : ℕ) (r : Record) → record_of both_answered (call_of i k) ≡ Some r → P (call_of i k) r
each_record P x y zero zero r e = subst (P (call_of 0 0)) (same_Some (answer 50 all) r e) x
each_record P x y zero (suc k) r e = absurd (none-some r e)
each_record P x y (suc zero) zero r e = subst (P (call_of 1 0)) (same_Some (answer 60 all) r e) y
each_record P x y (suc zero) (suc k) r e = absurd (none-some r e)
each_record P x y (suc (suc i)) k r e = absurd (none-some r e)

each_operation : (P : Call → ℕ → Type 0) → P (call_of 0 0) 5 → P (call_of 1 0) 6
    → (i k op : ℕ) → operation_of both_answered (call_of i k) ≡ Some op → P (call_of i k) op
each_operation P x y zero zero op e = subst (P (call_of 0 0)) (same_Some 5 op e) x
each_operation P x y zero (suc k) op e = absurd (none-some op e)
each_operation P x y (suc zero) zero op e = subst (P (call_of 1 0)) (same_Some 6 op e) y
each_operation P x y (suc zero) (suc k) op e = absurd (none-some op e)
each_operation P x y (suc (suc i)) k op e = absurd (none-some op e)

answers : (i : ℕ) → i < 2 → answers_of both_answered i ≡ slice_index all i
answers zero low = refl
answers (suc zero) low = refl
answers (suc (suc i)) low = absurd (omega (arith, low))

held : (i k : ℕ) → k < slice_index all i → IsHeldBySomeView both_answered all (call_of i k)
held i k low = (call_of 0 0, answer 50 all, omega arith, refl, low)

called : (i k : ℕ) → IsCall both_answered (call_of i k) → k < slice_index all i
called zero k low = low
called (suc zero) k low = low
called (suc (suc i)) k low = low

is_call : (i k : ℕ) → k < slice_index all i → IsCall both_answered (call_of i k)
is_call zero k low = low
is_call (suc zero) k low = low
is_call (suc (suc i)) k low = low

viewed : (i k : ℕ) (r : Record) → record_of both_answered (call_of i k) ≡ Some r → r.view ≡ all
viewed i k r e = each_record (λ c q. q.view ≡ all) refl refl i k r e

entries : (x : Call) (reply : ℕ) → HasPeeked gatherer M x 1 1 → HasPeeked gatherer M x 2 1 → (j : ℕ)
    → j < 2 → HasPeeked gatherer M x (1 + j) (slice_index all j)
entries x reply first second zero low = first
entries x reply first second (suc zero) low = second
entries x reply first second (suc (suc j)) low = absurd (omega (arith, low))

pub gathered : IsGathered 2 gatherer all both_answered
gathered =
    record {
      callers = refl;
      records = answers;
      calls = λ call. (
        λ (h : IsCall both_answered call).
            held call.caller call.number (called call.caller call.number h),
        λ (h : IsHeldBySomeView both_answered all call).
            is_call call.caller call.number
            (subst (λ (v : List ℕ). call.number < slice_index v call.caller)
            (viewed h.0.caller h.0.number h.1 h.3) h.4),
      );
      operations = λ call op e.
          each_operation
          (λ c o. HasPeeked gatherer N c 0 (low_of o) × HasPeeked gatherer N c 1 (high_of o))
          ((9, omega arith, refl), (8, omega arith, refl))
          ((7, omega arith, refl), (6, omega arith, refl)) call.caller call.number op e;
      replies = λ call r e. each_record (λ c q. HasPeeked gatherer M c 0 q.reply)
          (5, omega arith, refl) (2, omega arith, refl) call.caller call.number r e;
      views = λ call r e.
          each_record (λ c q. (length q.view ≡ 2)
          × ((j : ℕ) → j < 2 → HasPeeked gatherer M c (1 + j) (slice_index q.view j)))
          (refl, entries (call_of 0 0) 50 (4, omega arith, refl) (3, omega arith, refl))
          (refl, entries (call_of 1 0) 60 (1, omega arith, refl) (0, omega arith, refl))
          call.caller call.number r e;
    }

pub gathering_published : IsPublished (locals_after gathering) all
gathering_published = published_two (locals_after gathering) 1 1 refl (omega arith) (omega arith)
