use Rattle.std.proofs.Common.{◌≡◌, ℕ, zero, suc, ◌<◌, ◌≤◌, [], ◌∷◌, slice_get, slice_index, Some, refl, subst, inl, inr, arith}
use Rattle.std.proofs.lemmas.Option.{same_Some, none-some}
use Rattle.book_base.specs.declared.call.Record.{Record}
use Rattle.book_base.specs.Book.{record_of}
use Rattle.legal_orders.specs.Deals as deals
use Rattle.legal_orders.specs.Deals.{deal_of}
use Rattle.queue_pairs.specs.Moments.{moment_of}
use Rattle.queue_pairs.specs.Pairs.{Paired, Pair, Pairs, IsTake, MayPair, IsWhole, after, none_paired}
use Rattle.queue_refutation.specs.Closed.{IsClosedAt}
use Rattle.queue_refutation.proofs.Refuting.{closed_standings_are_dead}
use Rattle.smaller_book.proofs.LoneCalls.{lone_caller_is_valid}
use Rattle.judging_examples.specs.SmallObjects.{answer, call_of, sample}
use Rattle.judging_examples.specs.Standings.{unput_take, put_then_take}
use Rattle.judging_examples.proofs.EvidenceBooks.{two_count_themselves, two_have_one_open}
use Rattle.judging_examples.proofs.RuleBooks.{put_is_no_take, take_is_no_put, put_is_no_open, put_is_no_find, take_is_no_find, other_is_no_put, other_is_no_take, other_is_no_find}
use Rattle.judging_examples.proofs.standings.closed_standings.Goals as goal

-- ---- a take of what nobody put in

no_puts : (i k v : ℕ) → deal_of sample unput_take (call_of i k) ≡ deals.Put v → ⊥
no_puts zero zero v e = take_is_no_put 5 v e
no_puts zero (suc k) v e = other_is_no_put v e
no_puts (suc i) k v e = other_is_no_put v e

no_finds : (i k : ℕ) → deal_of sample unput_take (call_of i k) ≡ deals.FoundNothing → ⊥
no_finds zero zero e = take_is_no_find 5 e
no_finds zero (suc k) e = other_is_no_find e
no_finds (suc i) k e = other_is_no_find e

start_is_closed : IsClosedAt sample unput_take (none_paired 1 ∷ []) (none_paired 1)
start_is_closed = record {
  wide_puts = omega arith;
  wide_takes = omega arith;
  leads = inl (record {
    in_turn = omega arith;
    unfinished = λ whole. let taken : 0 < 0 = whole.taken (call_of 0 0) 5 refl in
        omega (arith, taken);
    pairs = λ pair may.
        absurd (no_puts pair.put.caller pair.put.number may.value may.puts);
    finds = λ m may. inl (λ e found held. absurd (no_finds e.caller e.number found));
  });
}

pub returns-clause-unput : goal.returns-clause-unput
returns-clause-unput c = λ s (k, e). start k s e
  where
    start : (k : ℕ) (s : Paired) → slice_get (none_paired 1 ∷ []) k ≡ Some s
        → IsClosedAt sample unput_take (none_paired 1 ∷ []) s
    start zero s e =
        subst (IsClosedAt sample unput_take (none_paired 1 ∷ [])) (same_Some (none_paired 1) s e)
        start_is_closed
    start (suc k) s e = absurd (none-some s e)

-- ---- a put and a take of its value

abbrev pair : Pair
pair = record { put = call_of 0 0; take = call_of 0 1; put_moment = 1; take_moment = 2 }

first_moment : (r : Record) → record_of put_then_take (call_of 0 0) ≡ Some r → 1 ≤ moment_of r
first_moment r e = subst (λ (s : Record). 1 ≤ moment_of s) (same_Some (answer 0 (1 ∷ [])) r e)
    (omega arith)

second_moment : (r : Record) → record_of put_then_take (call_of 0 1) ≡ Some r → 2 ≤ moment_of r
second_moment r e = subst (λ (s : Record). 2 ≤ moment_of s) (same_Some (answer 6 (2 ∷ [])) r e)
    (omega arith)

put_is_no_take_of : IsTake sample put_then_take (call_of 0 0) → ⊥
put_is_no_take_of (v, may) = elim may [
  | inl took ↦ put_is_no_take 5 v took
  | inr unanswered ↦ put_is_no_open 5 unanswered
]

no_take_before : (n : ℕ) → n < 1 → IsTake sample put_then_take (call_of 0 n) → ⊥
no_take_before zero less take = put_is_no_take_of take
no_take_before (suc n) less take = absurd (omega (arith, less))

may_pair : MayPair sample put_then_take (none_paired 1) pair
may_pair = record {
  value = 5;
  puts = refl;
  takes = inl refl;
  put = record { outside = omega arith; first = λ n least less put. absurd (omega (arith, less)) };
  take = record { outside = omega arith; first = λ n least less take. no_take_before n less take };
  after_puts = omega arith;
  after_takes = omega arith;
  in_turn = omega arith;
  put_effect = record {
    first = (call_of 0 0, answer 0 (1 ∷ []), refl, omega arith, omega arith);
    last = first_moment;
  };
  take_effect = record {
    first = (call_of 0 1, answer 6 (2 ∷ []), refl, omega arith, omega arith);
    last = second_moment;
  };
}

all_taken : (i k v : ℕ) → deal_of sample put_then_take (call_of i k) ≡ deals.Took v
    → k < slice_index (2 ∷ []) i
all_taken zero zero v e = absurd (put_is_no_take 5 v e)
all_taken zero (suc zero) v e = omega arith
all_taken zero (suc (suc k)) v e = absurd (other_is_no_take v e)
all_taken (suc i) k v e = absurd (other_is_no_take v e)

none_finds : (i k : ℕ) → deal_of sample put_then_take (call_of i k) ≡ deals.FoundNothing → ⊥
none_finds zero zero e = put_is_no_find 5 e
none_finds zero (suc zero) e = take_is_no_find 5 e
none_finds zero (suc (suc k)) e = other_is_no_find e
none_finds (suc i) k e = other_is_no_find e

late_enough : (i k : ℕ) (r : Record) → record_of put_then_take (call_of i k) ≡ Some r
    → slice_index (1 ∷ []) i ≤ k → 1 ≤ moment_of r
late_enough zero zero r e least = first_moment r e
late_enough zero (suc zero) r e least = omega (arith, second_moment r e)
late_enough zero (suc (suc k)) r e least = absurd (none-some r e)
late_enough (suc i) k r e least = absurd (none-some r e)

is_whole : IsWhole sample put_then_take (after (none_paired 1) (Pairs pair))
is_whole = record {
  taken = λ t v e. all_taken t.caller t.number v e;
  found = λ e found. absurd (none_finds e.caller e.number found);
  kept = λ p r put known least. late_enough p.caller p.number r known least;
}

pub returns-clause-paired : goal.returns-clause-paired
returns-clause-paired c standings start closed =
    closed_standings_are_dead sample put_then_take standings (none_paired 1) (Pairs pair ∷ [])
    (lone_caller_is_valid (6 ∷ 0 ∷ []) (answer 0 (1 ∷ []) ∷ answer 6 (2 ∷ []) ∷ []) (omega arith)
    (two_count_themselves 0 6))
    (two_have_one_open 6 0 0 6) closed start (may_pair, is_whole)
