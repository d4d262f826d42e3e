-- Which of the worked histories of two callers are linearizable.
use Rattle.std.proofs.Common.{◌≡◌, ◌≢◌, ℕ, zero, suc, ◌+◌, ◌*◌, ◌<◌, ◌≤◌, List, [], ◌∷◌, length, map, slice_get, slice_index_or, Some, refl, sym, ap, subst, arith}
use Rattle.std.specs.Prelude.{All, AllPairs, Contains}
use Rattle.book_base.specs.declared.call.Call.{Call}
use Rattle.book_base.specs.Sequential.{IsRunFrom}
use Rattle.world_examples.specs.Schedules.{tenfold}
use Rattle.world_examples.specs.Histories.{numbering, first, second, one_after_another, side_by_side, reply_of_another, after_unanswered, without_unanswered, second_alone}
use Rattle.world_core.specs.History.{Invoked, Returned, Done, step_of, IsLinearization, IsLinearizable}

done : Call → ℕ → ℕ → Done
done call operation reply = record { call = call; operation = operation; reply = reply }

callers_differ : first ≡ second → ⊥
callers_differ e = let n : 0 ≡ 1 = ap (λ (c : Call). c.caller) e in omega (arith, n)

-- where the entry of an order at place k, which is below its length, is d, `slice_get` finds d
-- there
pub at_place : (ds : List Done) (k : ℕ) (d : Done) → k < length ds → slice_index_or ds k d ≡ d
    → slice_get ds k ≡ Some d
at_place [] k d below is = absurd (omega arith)
at_place (x ∷ xs) zero d below is = ap Some is
at_place (x ∷ xs) (suc k) d below is = at_place xs k d (omega arith) is

-- in a run of `numbering` each reply is the length of the list at its start plus the number of
-- operations before
pub numbered : (ds : List Done) (list : List ℕ) → IsRunFrom numbering.next list (map step_of ds)
    → (k : ℕ) (d : Done) → k < length ds → (slice_index_or ds k d).reply ≡ length list + k
numbered [] list run k d below = absurd (omega arith)
numbered (x ∷ xs) list run zero d below = omega (arith, sym run.0)
numbered (x ∷ xs) list run (suc k) d below =
    omega (arith, numbered xs (x.operation ∷ list) run.1 k d (omega arith))

all_tenfold : (ds : List Done) (list : List ℕ) → IsRunFrom tenfold.next list (map step_of ds)
    → (k : ℕ) (d : Done) → k < length ds
    → (slice_index_or ds k d).reply ≡ (slice_index_or ds k d).operation * 10
all_tenfold [] list run k d below = absurd (omega arith)
all_tenfold (x ∷ xs) list run zero d below = sym run.0
all_tenfold (x ∷ xs) list run (suc k) d below = all_tenfold xs list run.1 k d (omega arith)

-- the first call returned before the second was invoked, so it comes first and can't return 1
pub order_forbids : IsLinearizable numbering one_after_another → ⊥
unfolding done
order_forbids (ds, l) =
    let (x, (k, below, is)) = l.returned first 1 (1, omega arith, refl) in
    let (y, (m, under, are)) = l.returned second 0 (3, omega arith, refl) in
    let at_one : (slice_index_or ds k (done first x 1)).reply ≡ 1 = ap (λ (d : Done). d.reply) is in
    let at_zero : (slice_index_or ds m (done second y 0)).reply ≡ 0 =
    ap (λ (d : Done). d.reply) are in
    let before : k < m =
    l.ordered k m (done first x 1) (done second y 0) (at_place ds k (done first x 1) below is)
    (at_place ds m (done second y 0) under are) (1, 2, 1, 6, omega arith, refl, refl) in
    omega (
      arith,
      before,
      at_one,
      at_zero,
      numbered ds [] l.legal k (done first x 1) below,
      numbered ds [] l.legal m (done second y 0) under,
    )

-- the operation with which the call of `reply_of_another` was invoked is 5
invoked_with : (x : ℕ) → Contains reply_of_another (Invoked first x) → x ≡ 5
invoked_with x (zero, below, is) = cc
invoked_with x (suc zero, below, is) = absurd cc
invoked_with x (suc (suc k), below, is) = absurd (omega arith)

-- a call with operation 5 can't return 60, which `tenfold` replies to the operation 6 alone
pub operation_forbids : IsLinearizable tenfold reply_of_another → ⊥
unfolding done
operation_forbids (ds, l) =
    let (x, (k, below, is)) = l.returned first 60 (1, omega arith, refl) in
    let d : Done = done first x 60 in
    let five : x ≡ 5 =
    invoked_with x (subst (λ (e : Done). Contains reply_of_another (Invoked e.call e.operation)) is
    (l.invoked k d below)) in
    let reply : (slice_index_or ds k d).reply ≡ 60 = ap (λ (e : Done). e.reply) is in
    let operation : (slice_index_or ds k d).operation ≡ x = ap (λ (e : Done). e.operation) is in
    omega (arith, reply, operation, five, all_tenfold ds [] l.legal k d below)

-- in `side_by_side` calls are invoked at the first two places of the history alone
side_early : (j x : ℕ) (call : Call) → slice_get side_by_side j ≡ Some (Invoked call x) → j < 2
side_early zero x call h = omega arith
side_early (suc zero) x call h = omega arith
side_early (suc (suc zero)) x call h = absurd cc
side_early (suc (suc (suc zero))) x call h = absurd cc
side_early (suc (suc (suc (suc j)))) x call h = absurd cc

side_late : (i x : ℕ) (call : Call) → slice_get side_by_side i ≡ Some (Returned call x) → 2 ≤ i
side_late zero x call h = absurd cc
side_late (suc zero) x call h = absurd cc
side_late (suc (suc i)) x call h = omega arith

side_returned : (call : Call) (reply : ℕ) → Contains side_by_side (Returned call reply)
    → (operation : ℕ) × Contains (done second 6 0 ∷ done first 5 1 ∷ []) (done call operation reply)
unfolding done
side_returned call reply (zero, below, is) = absurd cc
side_returned call reply (suc zero, below, is) = absurd cc
side_returned call reply (suc (suc zero), below, is) =
    let c : first ≡ call = cc in let r : 1 ≡ reply = cc in (5, (1, omega arith, cc (c, r)))
side_returned call reply (suc (suc (suc zero)), below, is) =
    let c : second ≡ call = cc in let r : 0 ≡ reply = cc in (6, (0, omega arith, cc (c, r)))
side_returned call reply (suc (suc (suc (suc k))), below, is) = absurd (omega arith)

side_invoked : All (λ (d : Done). Contains side_by_side (Invoked d.call d.operation))
    (done second 6 0 ∷ done first 5 1 ∷ [])
unfolding done
side_invoked zero d below = (1, omega arith, refl)
side_invoked (suc zero) d below = (0, omega arith, refl)
side_invoked (suc (suc k)) d below = absurd (omega arith)

-- two entries of different calls make an order in which no call is twice
pub two_once : (a b : Done) → (a.call ≡ b.call → ⊥)
    → AllPairs (λ (d e : Done). d.call ≢ e.call) (a ∷ b ∷ [])
two_once a b apart zero (suc zero) d lt below = apart
two_once a b apart zero zero d lt below = absurd (omega arith)
two_once a b apart zero (suc (suc j)) d lt below = absurd (omega arith)
two_once a b apart (suc i) zero d lt below = absurd (omega arith)
two_once a b apart (suc i) (suc zero) d lt below = absurd (omega arith)
two_once a b apart (suc i) (suc (suc j)) d lt below = absurd (omega arith)

-- calls that overlap may be ordered with the second call first
pub side_by_side_linearizable : IsLinearizable numbering side_by_side
unfolding done
side_by_side_linearizable = (
  done second 6 0 ∷ done first 5 1 ∷ [],
  record {
    invoked = side_invoked;
    once = two_once (done second 6 0) (done first 5 1) (λ e. callers_differ (sym e));
    returned = side_returned;
    legal = (refl, (refl, tt));
    ordered = λ p q d e hd he (i, j, reply, operation, lt, r, v).
        absurd (omega (arith, lt, side_early j operation e.call v, side_late i reply d.call r));
  },
)

-- in `after_unanswered` calls are invoked at the first two places of the history alone
after_early : (j x : ℕ) (call : Call) → slice_get after_unanswered j ≡ Some (Invoked call x) → j < 2
after_early zero x call h = omega arith
after_early (suc zero) x call h = omega arith
after_early (suc (suc zero)) x call h = absurd cc
after_early (suc (suc (suc j))) x call h = absurd cc

after_late : (i x : ℕ) (call : Call) → slice_get after_unanswered i ≡ Some (Returned call x) → 2 ≤ i
after_late zero x call h = absurd cc
after_late (suc zero) x call h = absurd cc
after_late (suc (suc i)) x call h = omega arith

after_returned : (call : Call) (reply : ℕ) → Contains after_unanswered (Returned call reply)
    → (operation : ℕ) × Contains (done first 5 0 ∷ done second 6 1 ∷ []) (done call operation reply)
unfolding done
after_returned call reply (zero, below, is) = absurd cc
after_returned call reply (suc zero, below, is) = absurd cc
after_returned call reply (suc (suc zero), below, is) =
    let c : second ≡ call = cc in let r : 1 ≡ reply = cc in (6, (1, omega arith, cc (c, r)))
after_returned call reply (suc (suc (suc k)), below, is) = absurd (omega arith)

after_invoked : All (λ (d : Done). Contains after_unanswered (Invoked d.call d.operation))
    (done first 5 0 ∷ done second 6 1 ∷ [])
unfolding done
after_invoked zero d below = (0, omega arith, refl)
after_invoked (suc zero) d below = (1, omega arith, refl)
after_invoked (suc (suc k)) d below = absurd (omega arith)

-- a call that never returned may be in the order
pub unanswered_stands : IsLinearizable numbering after_unanswered
unfolding done
unanswered_stands = (
  done first 5 0 ∷ done second 6 1 ∷ [],
  record {
    invoked = after_invoked;
    once = two_once (done first 5 0) (done second 6 1) callers_differ;
    returned = after_returned;
    legal = (refl, (refl, tt));
    ordered = λ p q d e hd he (i, j, reply, operation, lt, r, v).
        absurd (omega (arith, lt, after_early j operation e.call v, after_late i reply d.call r));
  },
)

-- in `without_unanswered` calls are invoked at the first two places of the history alone
without_early : (j x : ℕ) (call : Call)
    → slice_get without_unanswered j ≡ Some (Invoked call x) → j < 2
without_early zero x call h = omega arith
without_early (suc zero) x call h = omega arith
without_early (suc (suc zero)) x call h = absurd cc
without_early (suc (suc (suc j))) x call h = absurd cc

without_late : (i x : ℕ) (call : Call)
    → slice_get without_unanswered i ≡ Some (Returned call x) → 2 ≤ i
without_late zero x call h = absurd cc
without_late (suc zero) x call h = absurd cc
without_late (suc (suc i)) x call h = omega arith

without_returned : (call : Call) (reply : ℕ) → Contains without_unanswered (Returned call reply)
    → (operation : ℕ) × Contains (done second 6 0 ∷ []) (done call operation reply)
unfolding done
without_returned call reply (zero, below, is) = absurd cc
without_returned call reply (suc zero, below, is) = absurd cc
without_returned call reply (suc (suc zero), below, is) =
    let c : second ≡ call = cc in let r : 0 ≡ reply = cc in (6, (0, omega arith, cc (c, r)))
without_returned call reply (suc (suc (suc k)), below, is) = absurd (omega arith)

without_invoked : All (λ (d : Done). Contains without_unanswered (Invoked d.call d.operation))
    (done second 6 0 ∷ [])
unfolding done
without_invoked zero d below = (1, omega arith, refl)
without_invoked (suc k) d below = absurd (omega arith)

-- the order of the second call alone, without the call that never returned, is a linearization
pub leaves_it_out : IsLinearization numbering without_unanswered second_alone
unfolding done
leaves_it_out =
    record {
      invoked = without_invoked;
      once = λ i j d lt below. absurd (omega (arith, lt, below));
      returned = without_returned;
      legal = (refl, tt);
      ordered = λ p q d e hd he (i, j, reply, operation, lt, r, v). absurd
          (omega (arith, lt, without_early j operation e.call v, without_late i reply d.call r));
    }

-- a history is linearizable by an order without a call that never returned
pub unanswered_left_out : IsLinearizable numbering without_unanswered
unanswered_left_out = (second_alone, leaves_it_out)
