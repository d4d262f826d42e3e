-- The weight of a walk falls with each step that goes on.
use Rattle.std.proofs.Common.{◌≡◌, ℕ, zero, suc, ◌+◌, ◌-◌, ◌*◌, ◌<◌, ◌≤◌, Bool, true, false, if◌then◌else◌, IsTrue, List, [], ◌∷◌, ◌++◌, length, get_or, refl, sym, ap, subst, inl, inr, arith}
use Rattle.std.proofs.lemmas.Bool.{cases_Bool, cases_eq}
use Rattle.std.proofs.Math.Nat.{mul-le-mul_right}
use Rattle.book_base.specs.declared.TheConstants.{MAX_CALLERS}
use Rattle.search_hints.specs.declared.marked_callers.MarkedCallers.{MarkedCallers}
use Rattle.search_hints.specs.Marks.{IsMarked, IsMarkedWithin}
use Rattle.told_models.specs.declared.walk.Frame.{Frame}
use Rattle.told_models.specs.Weighing.{marked_below, number_marked, ways, weigh}
use Rattle.told_models.proofs.Sufficing.{AreWithout}

-- one where a test is true
abbrev bit : Bool → ℕ
bit b = if b then 1 else 0

bit-few : (b : Bool) → bit b ≤ 1
bit-few true = omega arith
bit-few false = omega arith

bit-within : (a b : Bool) → (IsTrue a → IsTrue b) → bit a ≤ bit b
bit-within false b within = omega arith
bit-within true b within = subst (λ (c : Bool). 1 ≤ bit c) (sym (within refl)) (omega arith)

marked-few : (marks : MarkedCallers) (n : ℕ) → marked_below marks n ≤ n
marked-few marks zero = omega arith
marked-few marks (suc n) =
    omega (arith, bit-few (get_or marks.callers n false), marked-few marks n)

marked-within : (few many : MarkedCallers) → IsMarkedWithin few many → (n : ℕ)
    → marked_below few n ≤ marked_below many n
marked-within few many within zero = omega arith
marked-within few many within (suc n) = omega (
  arith,
  bit-within (get_or few.callers n false) (get_or many.callers n false) (within n),
  marked-within few many within n,
)

without-within : (new old : MarkedCallers) (caller : ℕ) → AreWithout new old caller
    → IsMarkedWithin new old
without-within new old caller without i marked = ((without i).0 marked).1

without-one : (new old : MarkedCallers) (caller : ℕ) → AreWithout new old caller
    → IsMarked old caller
    → bit (get_or new.callers caller false) + 1 ≤ bit (get_or old.callers caller false)
without-one new old caller without marked =
    let is : bit (get_or old.callers caller false) ≡ 1 = ap bit marked in
    elim (cases_Bool (get_or new.callers caller false)) [
      | inl still ↦ absurd (((without caller).0 still).0 refl)
      | inr gone ↦ let none : bit (get_or new.callers caller false) ≡ 0 = ap bit gone in
          omega (arith, is, none)
    ]

marked-without : (new old : MarkedCallers) (caller : ℕ) → AreWithout new old caller
    → IsMarked old caller → (n : ℕ) → caller < n → marked_below new n + 1 ≤ marked_below old n
marked-without new old caller without marked zero low = absurd (omega (arith, low))
marked-without new old caller without marked (suc n) low = elim (cases_eq caller n) [
  | inl same ↦ omega (
    arith,
    subst (λ (k : ℕ). bit (get_or new.callers k false) + 1 ≤ bit (get_or old.callers k false)) same
        (without-one new old caller without marked),
    marked-within new old (without-within new old caller without) n,
  )
  | inr other ↦ omega (
    arith,
    bit-within (get_or new.callers n false) (get_or old.callers n false)
        (without-within new old caller without n),
    marked-without new old caller without marked n (omega (arith, low, other)),
  )
]

-- No more callers are marked than a book may have.
pub number_marked-few : (marks : MarkedCallers) → number_marked marks ≤ MAX_CALLERS
unfolding number_marked
number_marked-few marks = marked-few marks MAX_CALLERS

-- Where all marked callers are marked in other marks, no more are marked than there.
pub number_marked-within : (few many : MarkedCallers) → IsMarkedWithin few many
    → number_marked few ≤ number_marked many
unfolding number_marked
number_marked-within few many within = marked-within few many within MAX_CALLERS

-- Without a marked caller one caller fewer is marked.
pub number_marked-without : (new old : MarkedCallers) (caller : ℕ) → AreWithout new old caller
    → IsMarked old caller → caller < MAX_CALLERS → number_marked new + 1 ≤ number_marked old
unfolding number_marked
number_marked-without new old caller without marked low =
    marked-without new old caller without marked MAX_CALLERS low

ways_positive : (depth : ℕ) → 1 ≤ ways depth
unfolding ways
ways_positive zero = omega arith
ways_positive (suc depth) = omega (arith, ways_positive depth)

ways_down : (depth : ℕ) → 1 ≤ depth → ways depth ≡ (MAX_CALLERS + 2) * ways (depth - 1)
unfolding ways
ways_down zero h = absurd (omega arith)
ways_down (suc depth) h = let e : suc depth - 1 ≡ depth = omega arith in
    ap (λ (d : ℕ). (MAX_CALLERS + 2) * ways d) (sym e)

lighter : (marked waiting fresh above below : ℕ) → above ≡ (MAX_CALLERS + 2) * below
    → 1 ≤ below → marked ≤ waiting → fresh ≤ MAX_CALLERS
    → marked * above + (fresh + 1) * below < (waiting + 1) * above
lighter marked waiting fresh above below e positive within few =
    let le : fresh * below ≤ MAX_CALLERS * below = mul-le-mul_right below few in
    let more : marked * above ≤ waiting * above = mul-le-mul_right above within in
    omega arith

-- A walk that is one frame deeper weighs less, whoever waits there, where no more callers wait at
-- the frame than waited before.
pub weigh-push : (depth : ℕ) (frames : List Frame) (frame : Frame) (waiting fresh : ℕ)
    → length frames < depth → fresh ≤ MAX_CALLERS → number_marked frame.waiting ≤ waiting
    → weigh depth (frames ++ frame ∷ []) fresh < weigh depth frames waiting
unfolding weigh
weigh-push depth [] frame waiting fresh h few within =
    lighter (number_marked frame.waiting) waiting fresh (ways depth) (ways (depth - 1))
    (ways_down depth (omega (arith, h))) (ways_positive (depth - 1)) within few
weigh-push depth (first ∷ frames) frame waiting fresh h few within = omega (
  arith,
  weigh-push (depth - 1) frames frame waiting fresh (omega (arith, h)) few within,
)

-- A walk without frames has no more left to try than the depth allows.
pub weigh-first : (depth : ℕ) (frames : List Frame) (marks : MarkedCallers) → frames ≡ []
    → weigh depth frames (number_marked marks) ≤ (MAX_CALLERS + 1) * ways depth
unfolding weigh
weigh-first depth [] marks empty =
    mul-le-mul_right (ways depth) (omega (arith, number_marked-few marks))
weigh-first depth (first ∷ frames) marks empty =
    absurd (omega (arith, ap (length {A = Frame}) empty))

more_ways : (few many : ℕ) (each : ℕ) → few + 1 ≤ many → 1 ≤ each
    → (few + 1) * each < (many + 1) * each
more_ways few many each less positive =
    let le : (few + 1) * each ≤ many * each = mul-le-mul_right each less in
    omega arith

-- A walk at which fewer callers wait weighs less.
pub weigh-less : (depth : ℕ) (frames : List Frame) (few many : ℕ) → few + 1 ≤ many
    → weigh depth frames few < weigh depth frames many
unfolding weigh
weigh-less depth [] few many less = more_ways few many (ways depth) less (ways_positive depth)
weigh-less depth (first ∷ frames) few many less =
    omega (arith, weigh-less (depth - 1) frames few many less)

-- A walk at which no more callers wait weighs no more.
pub weigh-within : (depth : ℕ) (frames : List Frame) (few many : ℕ) → few ≤ many
    → weigh depth frames few ≤ weigh depth frames many
weigh-within depth frames few many within = elim (cases_eq few many) [
  | inl same ↦ let e : weigh depth frames few ≡ weigh depth frames many =
      ap (weigh depth frames) same in omega (arith, e)
  | inr other ↦ omega (arith, weigh-less depth frames few many (omega (arith, within, other)))
]

fewer_ways : (few many each last : ℕ) → few + 1 ≤ many → 1 ≤ last
    → (few + 1) * each < many * each + last
fewer_ways few many each last less positive =
    let le : (few + 1) * each ≤ many * each = mul-le-mul_right each less in
    omega arith

last_way : (waiting each : ℕ) → 1 ≤ each → 1 ≤ (waiting + 1) * each
last_way waiting each positive = omega arith

-- A walk that goes back by a frame weighs less, where fewer callers wait there than at the frame.
pub weigh-pop : (depth : ℕ) (frames : List Frame) (frame : Frame) (few waiting : ℕ)
    → few + 1 ≤ number_marked frame.waiting
    → weigh depth frames few < weigh depth (frames ++ frame ∷ []) waiting
unfolding weigh
weigh-pop depth [] frame few waiting less =
    fewer_ways few (number_marked frame.waiting) (ways depth)
    ((waiting + 1) * ways (depth - 1)) less
    (last_way waiting (ways (depth - 1)) (ways_positive (depth - 1)))
weigh-pop depth (first ∷ frames) frame few waiting less =
    omega (arith, weigh-pop (depth - 1) frames frame few waiting less)
