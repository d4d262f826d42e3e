-- Which of the worked histories of one caller are linearizable.
use Rattle.std.proofs.Common.{◌≡◌, ℕ, zero, suc, ◌<◌, List, [], ◌∷◌, slice_get, slice_index_or, Some, refl, sym, ◌∙◌, ap, subst, arith}
use Rattle.std.specs.Prelude.{All, Contains}
use Rattle.book_base.specs.declared.call.Call.{Call}
use Rattle.world_examples.specs.Histories.{numbering, first}
use Rattle.world_examples.specs.OneCaller.{again, in_turn, out_of_turn, returns_one, returns_none, returns_before}
use Rattle.world_core.specs.History.{Invoked, Returned, Done, ReturnsBefore, IsLinearizable}
use Rattle.world_examples.proofs.Histories.{at_place, numbered, two_once}

abbrev done : Call → ℕ → ℕ → Done
done call operation reply = record { call = call; operation = operation; reply = reply }

calls_differ : first ≡ again → ⊥
calls_differ e = let n : 0 ≡ 1 = ap (λ (c : Call). c.number) e in omega (arith, n)

-- the order of both calls of the caller in turn, with the replies 0 and 1
abbrev turns : List Done
turns = record { call = first; operation = 5; reply = 0 }
    ∷ record { call = again; operation = 5; reply = 1 } ∷ []

turns_invoked : All (λ (d : Done). Contains in_turn (Invoked d.call d.operation)) turns
turns_invoked zero d below = (0, omega arith, refl)
turns_invoked (suc zero) d below = (2, omega arith, refl)
turns_invoked (suc (suc k)) d below = absurd (omega arith)

turns_returned : (call : Call) (reply : ℕ) → Contains in_turn (Returned call reply)
    → (operation : ℕ)
    × Contains turns (record { call = call; operation = operation; reply = reply })
turns_returned call reply (zero, below, is) = absurd cc
turns_returned call reply (suc zero, below, is) =
    let c : first ≡ call = cc in let r : 0 ≡ reply = cc in (5, (0, omega arith, cc (c, r)))
turns_returned call reply (suc (suc zero), below, is) = absurd cc
turns_returned call reply (suc (suc (suc zero)), below, is) =
    let c : again ≡ call = cc in let r : 1 ≡ reply = cc in (5, (1, omega arith, cc (c, r)))
turns_returned call reply (suc (suc (suc (suc k))), below, is) = absurd (omega arith)

first_invoked : (j operation : ℕ) → slice_get in_turn j ≡ Some (Invoked first operation) → j ≡ 0
first_invoked zero operation h = refl
first_invoked (suc zero) operation h = absurd cc
first_invoked (suc (suc zero)) operation h = let c : again ≡ first = cc in
    absurd (calls_differ (sym c))
first_invoked (suc (suc (suc zero))) operation h = absurd cc
first_invoked (suc (suc (suc (suc j)))) operation h = absurd cc

again_returned : (i reply : ℕ) → slice_get in_turn i ≡ Some (Returned again reply) → i ≡ 3
again_returned zero reply h = absurd cc
again_returned (suc zero) reply h = let c : first ≡ again = cc in absurd (calls_differ c)
again_returned (suc (suc zero)) reply h = absurd cc
again_returned (suc (suc (suc zero))) reply h = refl
again_returned (suc (suc (suc (suc i)))) reply h = absurd cc

nothing_after : (j operation : ℕ) → 3 < j → slice_get in_turn j ≡ Some (Invoked again operation) → ⊥
nothing_after zero operation lt h = omega arith
nothing_after (suc zero) operation lt h = omega arith
nothing_after (suc (suc zero)) operation lt h = omega arith
nothing_after (suc (suc (suc zero))) operation lt h = omega arith
nothing_after (suc (suc (suc (suc j)))) operation lt h = cc

turns_ordered : (p q : ℕ) (d e : Done) → slice_get turns p ≡ Some d → slice_get turns q ≡ Some e
    → ReturnsBefore in_turn d.call e.call → p < q
turns_ordered zero (suc zero) d e hd he before = omega arith
turns_ordered p zero d e hd he (i, j, reply, operation, lt, r, v) =
    let is : first ≡ e.call =
    (let same : done first 5 0 ≡ e = cc in ap (λ (k : Done). k.call) same) in
    absurd (omega (
      arith,
      lt,
      first_invoked j operation
          (subst (λ (c : Call). slice_get in_turn j ≡ Some (Invoked c operation)) (sym is) v),
    ))
turns_ordered (suc zero) (suc zero) d e hd he (i, j, reply, operation, lt, r, v) =
    let d_is : again ≡ d.call =
    (let same : done again 5 1 ≡ d = cc in ap (λ (k : Done). k.call) same) in
    let e_is : again ≡ e.call =
    (let same : done again 5 1 ≡ e = cc in ap (λ (k : Done). k.call) same) in
    let third : i ≡ 3 = again_returned i reply
    (subst (λ (c : Call). slice_get in_turn i ≡ Some (Returned c reply)) (sym d_is) r) in
    absurd (nothing_after j operation (omega (arith, lt, third))
    (subst (λ (c : Call). slice_get in_turn j ≡ Some (Invoked c operation)) (sym e_is) v))
turns_ordered (suc (suc p)) (suc zero) d e hd he before = absurd cc
turns_ordered p (suc (suc q)) d e hd he before = absurd cc

-- two calls in turn that return 0 and 1 are linearizable
pub in_turn_linearizable : IsLinearizable numbering in_turn
in_turn_linearizable = (
  turns,
  record {
    invoked = turns_invoked;
    once = two_once (done first 5 0) (done again 5 1) calls_differ;
    returned = turns_returned;
    legal = (refl, (refl, tt));
    ordered = turns_ordered;
  },
)

-- the second call of the caller comes after its first, so the first can't return 1
pub caller_forbids : IsLinearizable numbering out_of_turn → ⊥
caller_forbids (ds, l) =
    let (x, (k, below, is)) = l.returned first 1 (1, omega arith, refl) in
    let (y, (m, under, are)) = l.returned again 0 (3, omega arith, refl) in
    let at_one : (slice_index_or ds k (done first x 1)).reply ≡ 1 = ap (λ (d : Done). d.reply) is in
    let at_zero : (slice_index_or ds m (done again y 0)).reply ≡ 0 =
    ap (λ (d : Done). d.reply) are in
    let before : k < m =
    l.ordered k m (done first x 1) (done again y 0) (at_place ds k (done first x 1) below is)
    (at_place ds m (done again y 0) under are) (1, 2, 1, 5, omega arith, refl, refl) in
    omega (
      arith,
      before,
      at_one,
      at_zero,
      numbered ds [] l.legal k (done first x 1) below,
      numbered ds [] l.legal m (done again y 0) under,
    )

-- the only call that is invoked in `returns_one` is the first call of caller 0
invoked_alone : (call : Call) (x : ℕ) → Contains returns_one (Invoked call x) → call ≡ first
invoked_alone call x (zero, below, is) = cc
invoked_alone call x (suc zero, below, is) = absurd cc
invoked_alone call x (suc (suc k), below, is) = absurd (omega arith)

-- a call that alone is invoked can't return 1 from the empty list on
pub one_forbids : IsLinearizable numbering returns_one → ⊥
one_forbids (ds, l) =
    let (x, (k, below, is)) = l.returned first 1 (1, omega arith, refl) in
    let d : Done = done first x 1 in
    let reply : (slice_index_or ds k d).reply ≡ 1 = ap (λ (e : Done). e.reply) is in
    let early : 0 < k = omega (arith, reply, numbered ds [] l.legal k d below) in
    let before : (slice_index_or ds 0 d).call ≡ first = invoked_alone (slice_index_or ds 0 d).call
    (slice_index_or ds 0 d).operation (l.invoked 0 d (omega (arith, early, below))) in
    let this : (slice_index_or ds k d).call ≡ first = ap (λ (e : Done). e.call) is in
    l.once 0 k d early below (before ∙ sym this)

-- in `returns_one` a call is invoked at the first place of the history alone
one_early : (j x : ℕ) (call : Call) → slice_get returns_one j ≡ Some (Invoked call x) → j ≡ 0
one_early zero x call h = refl
one_early (suc zero) x call h = absurd cc
one_early (suc (suc j)) x call h = absurd cc

one_returned : (call : Call) (reply : ℕ) → Contains returns_one (Returned call reply)
    → (operation : ℕ) × Contains (done first 5 1 ∷ []) (done call operation reply)
one_returned call reply (zero, below, is) = absurd cc
one_returned call reply (suc zero, below, is) =
    let c : first ≡ call = cc in let r : 1 ≡ reply = cc in (5, (0, omega arith, cc (c, r)))
one_returned call reply (suc (suc k), below, is) = absurd (omega arith)

one_invoked : All (λ (d : Done). Contains returns_one (Invoked d.call d.operation))
    (done first 5 1 ∷ [])
one_invoked zero d below = (0, omega arith, refl)
one_invoked (suc k) d below = absurd (omega arith)

-- a call that alone is invoked may return 1 where the first list has one operation
pub list_allows : IsLinearizable (record numbering { init = 7 ∷ [] }) returns_one
list_allows = (
  done first 5 1 ∷ [],
  record {
    invoked = one_invoked;
    once = λ i j d lt below. absurd (omega (arith, lt, below));
    returned = one_returned;
    legal = (refl, tt);
    ordered = λ p q d e hd he (i, j, reply, operation, lt, r, v).
        absurd (omega (arith, lt, one_early j operation e.call v));
  },
)

-- a call that alone is invoked can't return 0 where the first list has one operation
pub list_forbids : IsLinearizable (record numbering { init = 7 ∷ [] }) returns_none → ⊥
list_forbids (ds, l) =
    let (x, (k, below, is)) = l.returned first 0 (1, omega arith, refl) in
    let d : Done = done first x 0 in
    let reply : (slice_index_or ds k d).reply ≡ 0 = ap (λ (e : Done). e.reply) is in
    omega (arith, reply, numbered ds (7 ∷ []) l.legal k d below)

-- a call that returned before it was invoked would have to come before itself
pub before_forbids : IsLinearizable numbering returns_before → ⊥
before_forbids (ds, l) =
    let (x, (k, below, is)) = l.returned first 0 (0, omega arith, refl) in
    let d : Done = done first x 0 in
    let late : k < k = l.ordered k k d d (at_place ds k d below is) (at_place ds k d below is)
    (0, 1, 0, 5, omega arith, refl, refl) in
    omega (arith, late)
