-- Why some worked histories aren't linearizable.
use Rattle.std.proofs.Common.{◌≡◌, ◌⊎◌, ℕ, zero, suc, ◌<◌, List, [], length, slice_get, slice_index_or, Some, refl, sym, ap, ◌∙◌, subst, inl, inr, arith}
use Rattle.std.specs.Prelude.{Contains}
use Rattle.std.proofs.lemmas.Option.{same_Some, slice_get-get_or}
use Rattle.book_base.specs.declared.call.Call.{Call}
use Rattle.world_examples.specs.Histories.{numbering, first, second}
use Rattle.world_examples.specs.OneCaller.{again}
use Rattle.world_examples.specs.WrongHistories.{third, both_return_0, second_returns_1, before_unanswered, beside_all, returns_1_and_3}
use Rattle.world_core.specs.History.{Happening, Invoked, Returned, Done, ReturnsBefore, IsLinearization, IsLinearizable}
use Rattle.world_examples.proofs.Histories.{at_place, numbered}

abbrev done : Call → ℕ → ℕ → Done
done call operation reply = record { call = call; operation = operation; reply = reply }

-- in a linearization for `numbering`, from the empty list on, each call that returned is at the
-- place whose number is its reply
module _ (history : List Happening) (ds : List Done)
    (l : IsLinearization numbering history ds) where
  stands : (call : Call) (reply : ℕ) → Contains history (Returned call reply)
      → (x : ℕ) × (reply < length ds)
      × (slice_index_or ds reply (done call x reply) ≡ done call x reply)
      × (slice_get ds reply ≡ Some (done call x reply))
  stands call reply there =
      let (x, (k, below, is)) = l.returned call reply there in
      let d : Done = done call x reply in
      let told : (slice_index_or ds k d).reply ≡ reply = ap (λ (e : Done). e.reply) is in
      let at : k ≡ reply = omega (arith, told, numbered ds [] l.legal k d below) in (
        x,
        subst (λ (j : ℕ). j < length ds) at below,
        subst (λ (j : ℕ). slice_index_or ds j d ≡ d) at is,
        subst (λ (j : ℕ). slice_get ds j ≡ Some d) at (at_place ds k d below is),
      )

-- two calls of a caller can't both return 0, since both would be at the first place of the order
pub both_0_forbidden : IsLinearizable numbering both_return_0 → ⊥
both_0_forbidden (ds, l) =
    let a = stands both_return_0 ds l first 0 (1, omega arith, refl) in
    let b = stands both_return_0 ds l again 0 (3, omega arith, refl) in
    let same : done first a.0 0 ≡ done again b.0 0 =
    same_Some (done first a.0 0) (done again b.0 0) (sym a.3 ∙ b.3) in
    let n : 0 ≡ 1 = ap (λ (d : Done). d.call.number) same in
    omega (arith, n)

-- the only call that is invoked in `second_returns_1` is the first call of caller 1
alone_invoked : (call : Call) (x : ℕ) → Contains second_returns_1 (Invoked call x) → call ≡ second
alone_invoked call x (zero, below, is) = cc
alone_invoked call x (suc zero, below, is) = absurd cc
alone_invoked call x (suc (suc k), below, is) = absurd (omega arith)

-- a call that alone is invoked can't return 1, since it would be at the second place of the order
pub second_1_forbidden : IsLinearizable numbering second_returns_1 → ⊥
second_1_forbidden (ds, l) =
    let a = stands second_returns_1 ds l second 1 (1, omega arith, refl) in
    let d : Done = done second a.0 1 in
    let here = l.invoked 0 d (omega (arith, a.1)) in
    let is : (slice_index_or ds 0 d).call ≡ second =
    alone_invoked (slice_index_or ds 0 d).call (slice_index_or ds 0 d).operation here in
    l.once 0 1 d (omega arith) a.1 (is ∙ sym (ap (λ (e : Done). e.call) a.2))

-- only the first and the second call are invoked in `before_unanswered`
before_invoked : (call : Call) (x : ℕ) → Contains before_unanswered (Invoked call x)
    → (call ≡ first) ⊎ (call ≡ second)
before_invoked call x (zero, below, is) = inl cc
before_invoked call x (suc zero, below, is) = absurd cc
before_invoked call x (suc (suc zero), below, is) = inr cc
before_invoked call x (suc (suc (suc k)), below, is) = absurd (omega arith)

-- the first call can't return 1, since only the second could be before it, which was invoked after
-- that return
pub unanswered_forbidden : IsLinearizable numbering before_unanswered → ⊥
unanswered_forbidden (ds, l) =
    let a = stands before_unanswered ds l first 1 (1, omega arith, refl) in
    let d : Done = done first a.0 1 in
    let e : Done = slice_index_or ds 0 d in
    let low : 0 < length ds = omega (arith, a.1) in
    elim (before_invoked e.call e.operation (l.invoked 0 d low)) [
      | inl is ↦ l.once 0 1 d (omega arith) a.1 (is ∙ sym (ap (λ (f : Done). f.call) a.2))
      | inr is ↦
          let returned : ReturnsBefore before_unanswered first second =
          (1, 2, 1, 6, omega arith, refl, refl) in
          let wrong : 1 < 0 = l.ordered 1 0 d e a.3 (slice_get-get_or ds 0 d low)
          (subst (λ (c : Call). ReturnsBefore before_unanswered first c) (sym is) returned) in
          omega (arith, wrong)
    ]

-- the third call can't return 3 where the first returns 1, since the third returned before the
-- first was invoked; the second overlaps both
pub beside_forbidden : IsLinearizable numbering beside_all → ⊥
beside_forbidden (ds, l) =
    let a = stands beside_all ds l third 3 (3, omega arith, refl) in
    let b = stands beside_all ds l first 1 (6, omega arith, refl) in
    let wrong : 3 < 1 = l.ordered 3 1 (done third a.0 3) (done first b.0 1) a.3 b.3
    (3, 5, 3, 5, omega arith, refl, refl) in
    omega (arith, wrong)

-- only the first, the second and the third call are invoked in `returns_1_and_3`
three_invoked : (call : Call) (x : ℕ) → Contains returns_1_and_3 (Invoked call x) → (call ≡ first)
    ⊎ (call ≡ second) ⊎ (call ≡ third)
three_invoked call x (zero, below, is) = inl cc
three_invoked call x (suc zero, below, is) = inr (inl cc)
three_invoked call x (suc (suc zero), below, is) = absurd cc
three_invoked call x (suc (suc (suc zero)), below, is) = inr (inr cc)
three_invoked call x (suc (suc (suc (suc zero))), below, is) = absurd cc
three_invoked call x (suc (suc (suc (suc (suc k)))), below, is) = absurd (omega arith)

-- of three calls no call can return 3, since a fourth place of an order would have a call twice
pub again_forbidden : IsLinearizable numbering returns_1_and_3 → ⊥
again_forbidden (ds, l) =
    let a = stands returns_1_and_3 ds l second 1 (2, omega arith, refl) in
    let b = stands returns_1_and_3 ds l third 3 (4, omega arith, refl) in
    let d : Done = done third b.0 3 in
    let zeroth : Done = slice_index_or ds 0 d in
    let other : Done = slice_index_or ds 2 d in
    let low : 0 < length ds = omega (arith, b.1) in
    let mid : 2 < length ds = omega (arith, b.1) in
    let at_1 : (slice_index_or ds 1 d).call ≡ second = ap (λ (f : Done). f.call) (same_Some
    (slice_index_or ds 1 d) (done second a.0 1) (sym (slice_get-get_or ds 1 d a.1) ∙ a.3)) in
    let at_3 : (slice_index_or ds 3 d).call ≡ third = ap (λ (f : Done). f.call) b.2 in
    elim (three_invoked zeroth.call zeroth.operation (l.invoked 0 d low)) [
      | inl is ↦ elim (three_invoked other.call other.operation (l.invoked 2 d mid)) [
        | inl also ↦ l.once 0 2 d (omega arith) mid (is ∙ sym also)
        | inr (inl also) ↦ l.once 1 2 d (omega arith) mid (at_1 ∙ sym also)
        | inr (inr also) ↦ l.once 2 3 d (omega arith) b.1 (also ∙ sym at_3)
      ]
      | inr (inl is) ↦ l.once 0 1 d (omega arith) a.1 (is ∙ sym at_1)
      | inr (inr is) ↦ l.once 0 3 d (omega arith) b.1 (is ∙ sym at_3)
    ]
