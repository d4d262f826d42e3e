-- The weight of a walk falls with each step of the search.
use Rattle.std.proofs.Common.{◌≡◌, ℕ, zero, suc, ◌+◌, ◌-◌, ◌*◌, ◌<◌, ◌≤◌, List, [], ◌∷◌, ◌++◌, length, sym, ap, arith}
use Rattle.std.proofs.Math.Nat.{mul-le-mul_right}
use Rattle.book_base.specs.declared.TheConstants.{MAX_CALLERS}
use Rattle.frontier_check.specs.declared.walk.WalkFrame.{WalkFrame}
use Rattle.frontier_check.specs.Search.{ways, weigh}

ways_positive : (depth : ℕ) → 1 ≤ ways depth
unfolding ways
ways_positive zero = omega arith
ways_positive (suc depth) = omega (arith, ways_positive depth)

ways_down : (depth : ℕ) → 1 ≤ depth → ways depth ≡ (MAX_CALLERS + 2) * ways (depth - 1)
unfolding ways
ways_down zero h = absurd (omega arith)
ways_down (suc depth) h = let e : suc depth - 1 ≡ depth = omega arith in
    ap (λ (d : ℕ). (MAX_CALLERS + 2) * ways d) (sym e)

lighter : (choices fresh above below : ℕ) → above ≡ (MAX_CALLERS + 2) * below → 1 ≤ below
    → fresh ≤ MAX_CALLERS
    → (choices + 1) * above + (fresh + 1) * below < (choices + 1 + 1) * above
lighter choices fresh above below e positive few =
    let le : fresh * below ≤ MAX_CALLERS * below = mul-le-mul_right below few in
    omega arith

-- A walk whose frames, at most `depth` of them, end with a further one, and which has at most as
-- many fresh choices as there may be callers, weighs less than the frames before the further one
-- with its choices and one more.
pub weigh-push : (depth : ℕ) (frames : List WalkFrame) (frame : WalkFrame) (fresh : ℕ)
    → length frames < depth → fresh ≤ MAX_CALLERS
    → weigh depth (frames ++ frame ∷ []) fresh < weigh depth frames (length frame.choices.items + 1)
unfolding weigh
weigh-push depth [] frame fresh h few = lighter (length frame.choices.items) fresh (ways depth)
    (ways (depth - 1)) (ways_down depth (omega arith)) (ways_positive (depth - 1)) few
weigh-push depth (first ∷ frames) frame fresh h few =
    omega (arith, weigh-push (depth - 1) frames frame fresh (omega arith) few)

-- A walk with one choice fewer and equal frames weighs less.
pub weigh-skip : (depth : ℕ) (frames : List WalkFrame) (choices : ℕ)
    → weigh depth frames choices < weigh depth frames (choices + 1)
unfolding weigh
weigh-skip depth [] choices = omega (arith, ways_positive depth)
weigh-skip depth (first ∷ frames) choices = omega (arith, weigh-skip (depth - 1) frames choices)

-- A walk with the choices of a further frame weighs less than the walk whose frames end with that
-- frame and which has no choice.
pub weigh-pop : (depth : ℕ) (frames : List WalkFrame) (frame : WalkFrame)
    → weigh depth frames (length frame.choices.items) < weigh depth (frames ++ frame ∷ []) 0
unfolding weigh
weigh-pop depth [] frame = omega (arith, ways_positive (depth - 1))
weigh-pop depth (first ∷ frames) frame = omega (arith, weigh-pop (depth - 1) frames frame)
