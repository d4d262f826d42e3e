-- The weight of a walk falls with each step of the search.
use Rattle.std.proofs.Common.{◌≡◌, ℕ, zero, suc, ◌+◌, ◌-◌, ◌*◌, ◌^◌, ◌<◌, ◌≤◌, List, [], ◌∷◌, ◌++◌, length, sym, ap, arith}
use Rattle.std.proofs.Math.Nat.{mul-le-mul_right}
use Rattle.book_base.specs.declared.TheConstants.{MAX_CALLERS}
use Rattle.set_order.specs.declared.walk.SetFrame.{SetFrame}
use Rattle.set_order.specs.Search.{ways, weigh}

ways_positive : (depth : ℕ) → 1 ≤ ways depth
unfolding ways
ways_positive zero = omega arith
ways_positive (suc depth) = omega (arith, ways_positive depth)

ways_down : (depth : ℕ) → 1 ≤ depth → ways depth ≡ (2 ^ MAX_CALLERS + 2) * ways (depth - 1)
unfolding ways
ways_down zero h = absurd (omega arith)
ways_down (suc depth) h = let e : suc depth - 1 ≡ depth = omega arith in
    ap (λ (d : ℕ). (2 ^ MAX_CALLERS + 2) * ways d) (sym e)

lighter : (left fresh above below : ℕ) → above ≡ (2 ^ MAX_CALLERS + 2) * below → 1 ≤ below
    → fresh < 2 ^ MAX_CALLERS
    → (left + 1) * above + (fresh + 1) * below < (left + 1 + 1) * above
lighter left fresh above below e positive few =
    let small : fresh ≤ 2 ^ MAX_CALLERS = omega arith in
    let le : fresh * below ≤ 2 ^ MAX_CALLERS * below = mul-le-mul_right below small in
    omega arith

-- a new frame with its numbers weighs less than one number of the frame above it
pub weigh-push : (depth : ℕ) (frames : List SetFrame) (frame : SetFrame) (fresh : ℕ)
    → length frames < depth → fresh < 2 ^ MAX_CALLERS
    → weigh depth (frames ++ frame ∷ []) fresh < weigh depth frames (frame.left + 1)
unfolding weigh
weigh-push depth [] frame fresh h few = lighter frame.left fresh (ways depth) (ways (depth - 1))
    (ways_down depth (omega arith)) (ways_positive (depth - 1)) few
weigh-push depth (first ∷ frames) frame fresh h few =
    omega (arith, weigh-push (depth - 1) frames frame fresh (omega arith) few)

-- a frame with one number fewer weighs less
pub weigh-skip : (depth : ℕ) (frames : List SetFrame) (left : ℕ)
    → weigh depth frames left < weigh depth frames (left + 1)
unfolding weigh
weigh-skip depth [] left = omega (arith, ways_positive depth)
weigh-skip depth (first ∷ frames) left = omega (arith, weigh-skip (depth - 1) frames left)

-- the rest of a frame weighs less than the frame with all below it
pub weigh-pop : (depth : ℕ) (frames : List SetFrame) (frame : SetFrame)
    → weigh depth frames frame.left < weigh depth (frames ++ frame ∷ []) 0
unfolding weigh
weigh-pop depth [] frame = omega (arith, ways_positive (depth - 1))
weigh-pop depth (first ∷ frames) frame = omega (arith, weigh-pop (depth - 1) frames frame)
