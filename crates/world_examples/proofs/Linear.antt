-- The object history of two whole calls is linearizable for an object that gives their replies, and
-- not for an object whose replies are all 0.
use Rattle.std.proofs.Common.{◌≡◌, ◌≢◌, ℕ, zero, suc, ◌<◌, List, [], ◌∷◌, length, map, slice_get, slice_index_or, Some, refl, sym, ap, subst, arith}
use Rattle.std.specs.Prelude.{All, AllPairs, Contains}
use Rattle.book_base.specs.declared.call.Call.{Call}
use Rattle.book_base.specs.Sequential.{IsRunFrom}
use Rattle.world_examples.specs.Schedules.{pair, two_calls, tenfold, silent}
use Rattle.world_core.specs.History.{Happening, Invoked, Returned, call_of, Done, step_of, history_of, ReturnsBefore, IsLinearizable}

history : List Happening
history = Invoked (call_of 0 0) 5 ∷ Returned (call_of 0 0) 50 ∷ Invoked (call_of 1 0) 6
    ∷ Returned (call_of 1 0) 60 ∷ []

first : Done
first = record { call = call_of 0 0; operation = 5; reply = 50 }

second : Done
second = record { call = call_of 1 0; operation = 6; reply = 60 }

order : List Done
order = first ∷ second ∷ []

invoked : All (λ (d : Done). Contains history (Invoked d.call d.operation)) order
unfolding history first second order
invoked zero d below = (0, omega arith, refl)
invoked (suc zero) d below = (2, omega arith, refl)
invoked (suc (suc k)) d below = absurd (omega arith)

once : AllPairs (λ (d e : Done). d.call ≢ e.call) order
unfolding first second order
once zero (suc zero) d lt below =
    λ e. let callers : 0 ≡ 1 = ap (λ (c : Call). c.caller) e in omega (arith, callers)
once zero zero d lt below = absurd (omega arith)
once zero (suc (suc j)) d lt below = absurd (omega arith)
once (suc i) zero d lt below = absurd (omega arith)
once (suc i) (suc zero) d lt below = absurd (omega arith)
once (suc i) (suc (suc j)) d lt below = absurd (omega arith)

returned : (call : Call) (reply : ℕ) → Contains history (Returned call reply) → (operation : ℕ)
    × Contains order (record { call = call; operation = operation; reply = reply })
unfolding history first second order
returned call reply (zero, below, is) = absurd cc
returned call reply (suc zero, below, is) =
    let c : call_of 0 0 ≡ call = cc in
    let r : 50 ≡ reply = cc in
    (5, (0, omega arith, cc (c, r)))
returned call reply (suc (suc zero), below, is) = absurd cc
returned call reply (suc (suc (suc zero)), below, is) =
    let c : call_of 1 0 ≡ call = cc in
    let r : 60 ≡ reply = cc in
    (6, (1, omega arith, cc (c, r)))
returned call reply (suc (suc (suc (suc k))), below, is) = absurd (omega arith)

first_invoked : (j operation : ℕ)
    → slice_get history j ≡ Some (Invoked (call_of 0 0) operation) → j ≡ 0
unfolding history
first_invoked zero operation h = refl
first_invoked (suc zero) operation h = absurd cc
first_invoked (suc (suc zero)) operation h = let c : call_of 1 0 ≡ call_of 0 0 = cc in
    let n : 1 ≡ 0 = ap (λ (k : Call). k.caller) c in absurd (omega (arith, n))
first_invoked (suc (suc (suc zero))) operation h = absurd cc
first_invoked (suc (suc (suc (suc j)))) operation h = absurd cc

second_returned : (i reply : ℕ) → slice_get history i ≡ Some (Returned (call_of 1 0) reply) → i ≡ 3
unfolding history
second_returned zero reply h = absurd cc
second_returned (suc zero) reply h = let c : call_of 0 0 ≡ call_of 1 0 = cc in
    let n : 0 ≡ 1 = ap (λ (k : Call). k.caller) c in absurd (omega (arith, n))
second_returned (suc (suc zero)) reply h = absurd cc
second_returned (suc (suc (suc zero))) reply h = refl
second_returned (suc (suc (suc (suc i)))) reply h = absurd cc

nothing_after : (j operation : ℕ) → 3 < j
    → slice_get history j ≡ Some (Invoked (call_of 1 0) operation) → ⊥
unfolding history
nothing_after zero operation lt h = omega arith
nothing_after (suc zero) operation lt h = omega arith
nothing_after (suc (suc zero)) operation lt h = omega arith
nothing_after (suc (suc (suc zero))) operation lt h = omega arith
nothing_after (suc (suc (suc (suc j)))) operation lt h = cc

ordered : (p q : ℕ) (d e : Done) → slice_get order p ≡ Some d → slice_get order q ≡ Some e
    → ReturnsBefore history d.call e.call → p < q
unfolding first second order
ordered zero (suc zero) d e hd he before = omega arith
ordered p zero d e hd he (i, j, reply, operation, lt, r, v) =
    let is : call_of 0 0 ≡ e.call = (let same : first ≡ e = cc in ap (λ (k : Done). k.call) same) in
    absurd (omega (
      arith,
      lt,
      first_invoked j operation
          (subst (λ (c : Call). slice_get history j ≡ Some (Invoked c operation)) (sym is) v),
    ))
ordered (suc zero) (suc zero) d e hd he (i, j, reply, operation, lt, r, v) =
    let d_is : call_of 1 0 ≡ d.call =
    (let same : second ≡ d = cc in ap (λ (k : Done). k.call) same) in
    let e_is : call_of 1 0 ≡ e.call =
    (let same : second ≡ e = cc in ap (λ (k : Done). k.call) same) in
    let third : i ≡ 3 = second_returned i reply
    (subst (λ (c : Call). slice_get history i ≡ Some (Returned c reply)) (sym d_is) r) in
    absurd (nothing_after j operation (omega (arith, lt, third))
    (subst (λ (c : Call). slice_get history j ≡ Some (Invoked c operation)) (sym e_is) v))
ordered (suc (suc p)) (suc zero) d e hd he before = absurd cc
ordered p (suc (suc q)) d e hd he before = absurd cc

-- the two calls in the order of their invocations are a linearization for `tenfold`
pub linearizable : IsLinearizable tenfold (history_of pair two_calls)
unfolding history first second order
linearizable = (
  order,
  record {
    invoked = invoked;
    once = once;
    returned = returned;
    legal = (refl, (refl, tt));
    ordered = ordered;
  },
)

-- every reply of the silent object is 0
all_silent : (ds : List Done) (list : List ℕ) → IsRunFrom silent.next list (map step_of ds)
    → (k : ℕ) (d : Done) → k < length ds → (slice_index_or ds k d).reply ≡ 0
all_silent [] list run k d below = absurd (omega arith)
all_silent (x ∷ xs) list run zero d below = sym run.0
all_silent (x ∷ xs) list run (suc k) d below = all_silent xs list run.1 k d (omega arith)

-- the first call returned 50, which `silent` replies to no operation
pub not_linearizable : IsLinearizable silent (history_of pair two_calls) → ⊥
not_linearizable (ds, l) =
    let (operation, (k, below, is)) = l.returned (call_of 0 0) 50 (1, omega arith, refl) in
    let wanted : Done = record { call = call_of 0 0; operation = operation; reply = 50 } in
    let reply : (slice_index_or ds k wanted).reply ≡ 50 = ap (λ (d : Done). d.reply) is in
    omega (arith, reply, all_silent ds [] l.legal k wanted below)
