-- The rule of stacks: a value that is put in last is taken first.
use Rattle.std.proofs.Common.{◌≡◌, ◌⊎◌, ◌∙◌, ℕ, zero, suc, ◌+◌, ◌-◌, ◌<◌, ◌≤◌, List, [], ◌∷◌, ◌++◌, length, take, get_or, Option, Some, None, refl, sym, ap, subst, inl, inr, slice_get, arith}
use Rattle.std.proofs.lemmas.Bool.{eq-eqb}
use Rattle.std.proofs.lemmas.Option.{slice_get-get_or, slice_get_within}
use Rattle.book_base.specs.declared.call.Call.{Call}
use Rattle.book_base.specs.SeqSpec.{SeqSpec}
use Rattle.book_base.specs.Book.{Page, IsCall, Precedes}
use Rattle.book_base.specs.Sequential.{IsRunFrom}
use Rattle.book_base.specs.Order.{HasLegalOrder}
use Rattle.book_base.specs.Reaching.{list_after_run}
use Rattle.legal_orders.specs.Container.{Effect, Puts, Takes, Neither, Reading, value_put, value_taken, put_by, taken_by, one_if, times, GivesFirst, IsStack}
use Rattle.legal_orders.proofs.Counting.{times-apart}
use Rattle.legal_orders.proofs.Runs.{step_of_run}
use Rattle.legal_orders.proofs.Orders.{steps_of, answered_step, putting_step}
use Rattle.legal_orders.proofs.ContainerRules.{puts_by}
use Rattle.legal_orders.specs.Deals as deals
use Rattle.legal_orders.specs.Deals.{deal_of}
use Rattle.legal_orders.proofs.Dealing.{puts_by_deal, takes_by_deal}
use Rattle.broken_rules.proofs.Standing.{preceding_comes_first, taker_of_step, putter_of_step}

-- The values of a stack from v on are still there after a step that doesn't take v; and no w is
-- over v, if the step doesn't put w in.
covered_by_take : (w v : ℕ) (above below : List ℕ) (shown : Option ℕ) (after : List ℕ)
    → times w above ≡ 0 → GivesFirst (above ++ v ∷ below) shown after → (shown ≡ Some v → ⊥)
    → (now : List ℕ) × (after ≡ now ++ v ∷ below) × (times w now ≡ 0)
covered_by_take w v [] below None after none gives apart = absurd cc
covered_by_take w v (u ∷ above) below None after none gives apart = absurd cc
covered_by_take w v [] below (Some x) after none gives apart = let same : v ≡ x = cc in
    absurd (apart (ap (λ (n : ℕ). Some n) (sym same)))
covered_by_take w v (u ∷ above) below (Some x) after none gives apart =
    let rest : above ++ v ∷ below ≡ after = cc in (above, sym rest, omega (arith, none))

covered_by_step : (reading : Reading) (next : List ℕ → ℕ → List ℕ × ℕ) → IsStack reading next
    → (list : List ℕ) (op w v : ℕ) (above below : List ℕ) (deed : Effect) → reading.deed op ≡ deed
    → reading.values list ≡ above ++ v ∷ below → times w above ≡ 0 → (value_put deed ≡ Some w → ⊥)
    → (value_taken deed (reading.shown (next list op).1) ≡ Some v → ⊥)
    → (now : List ℕ) × (reading.values (next list op).0 ≡ now ++ v ∷ below) × (times w now ≡ 0)
covered_by_step reading next is list op w v above below (Puts u) e held none other apart = (
  u ∷ above,
  is.put list op u e ∙ ap (λ (xs : List ℕ). u ∷ xs) held,
  times-apart w u above (λ (same : u ≡ w). other (ap (λ (n : ℕ). Some n) same)) ∙ none,
)
covered_by_step reading next is list op w v above below Takes e held none other apart =
    covered_by_take w v above below (reading.shown (next list op).1)
    (reading.values (next list op).0) none
    (subst (λ (xs : List ℕ). GivesFirst xs (reading.shown (next list op).1)
    (reading.values (next list op).0)) held (is.take list op e)) apart
covered_by_step reading next is list op w v above below Neither e held none other apart =
    (above, is.neither list op e ∙ held, none)

-- While v isn't taken and w isn't put in, a stack that had v on top never has w over v.
stays_covered : (reading : Reading) (next : List ℕ → ℕ → List ℕ × ℕ) → IsStack reading next
    → (list : List ℕ) (steps : List (ℕ × ℕ)) → IsRunFrom next list steps
    → (w v : ℕ) (below : List ℕ) (m d : ℕ)
    → reading.values (list_after_run next list (take m steps)) ≡ v ∷ below → m + d ≤ length steps
    → ((k : ℕ) (step : ℕ × ℕ) → m ≤ k → k < m + d → slice_get steps k ≡ Some step
    → put_by reading step ≡ Some w → ⊥)
    → ((k : ℕ) (step : ℕ × ℕ) → m ≤ k → k < m + d → slice_get steps k ≡ Some step
    → taken_by reading step ≡ Some v → ⊥)
    → (above : List ℕ)
    × (reading.values (list_after_run next list (take (m + d) steps)) ≡ above ++ v ∷ below)
    × (times w above ≡ 0)
stays_covered reading next is list steps run w v below m zero top long no_put no_take =
    let same : m + 0 ≡ m = omega arith in
    ([], ap (λ (n : ℕ). reading.values (list_after_run next list (take n steps))) same ∙ top, refl)
stays_covered reading next is list steps run w v below m (suc d) top long no_put no_take =
    let before = stays_covered reading next is list steps run w v below m d top (omega arith)
    (λ k step low lt. no_put k step low (omega arith))
    (λ k step low lt. no_take k step low (omega arith)) in
    let n : ℕ = m + d in
    let step : ℕ × ℕ = get_or steps n (0, 0) in
    let at : slice_get steps n ≡ Some step = slice_get-get_or steps n (0, 0) (omega arith) in
    let here : List ℕ = list_after_run next list (take n steps) in
    let ran = step_of_run next list steps n step run at in
    let apart : value_taken (reading.deed step.0) (reading.shown (next here step.0).1) ≡ Some v → ⊥
    = λ e. no_take n step (omega arith) (omega arith) at
    (ap (λ (reply : ℕ). taken_by reading (step.0, reply)) (sym ran.0) ∙ e) in
    let other : value_put (reading.deed step.0) ≡ Some w → ⊥ =
    λ e. no_put n step (omega arith) (omega arith) at e in
    let after = covered_by_step reading next is here step.0 w v before.0 below
    (reading.deed step.0) refl before.1 before.2 other apart in
    let same : m + suc d ≡ suc n = omega arith in (
      after.0,
      ap (λ (k : ℕ). reading.values (list_after_run next list (take k steps))) same
          ∙ (ap reading.values ran.1 ∙ after.1),
      after.2,
    )

-- where w is on top of a stack that has v, and no w is over v, v is w
top_is : (w v : ℕ) (above below after : List ℕ) → above ++ v ∷ below ≡ w ∷ after
    → times w above ≡ 0 → v ≡ w
top_is w v [] below after e none = cc
top_is w v (u ∷ above) below after e none = let same : u ≡ w = cc in
    absurd (omega (arith, none, ap one_if (eq-eqb u w same)))

-- A value that is put in before a take of another one is taken before this take, where that other
-- value isn't put in between: not each of its takes comes after.
pub taken_from_under : (reading : Reading) (spec : SeqSpec) (book : List Page)
    → IsStack reading spec.next → (v w : ℕ) (put taker : Call)
    → deal_of reading book put ≡ deals.Put v → deal_of reading book taker ≡ deals.Took w
    → Precedes book put taker → ((call : Call) → IsCall book call
    → deal_of reading book call ≡ deals.Put w → Precedes book call put ⊎ Precedes book taker call)
    → ((call : Call) → IsCall book call → (deal_of reading book call ≡ deals.Took v)
    ⊎ (deal_of reading book call ≡ deals.OpenTake) → Precedes book taker call)
    → ¬ HasLegalOrder spec book
taken_from_under reading spec book is v w put taker puts takes precedes outside follow h =
    let order = h.0 in
    let legal = h.1 in
    let steps = steps_of book order in
    let m = answered_step reading spec book order legal taker (Some w)
    (takes_by_deal reading book taker w takes) in
    let q = preceding_comes_first spec book put taker precedes order legal m.0 m.2 in
    let step_q =
    putting_step reading book order put v q.0 (puts_by_deal reading book put v puts) q.2 in
    let no_put : (k : ℕ) (step : ℕ × ℕ) → q.0 ≤ k → k ≤ m.0 → slice_get steps k ≡ Some step
    → put_by reading step ≡ Some w → ⊥
    = λ k step low high at is_put.
    (let putter = putter_of_step reading spec book order legal k w step at is_put in
    elim (outside putter.0 putter.2 putter.3) [
      | inl before ↦ (let lt : k < q.0 = legal.precedence k q.0 putter.0 put putter.1 q.2 before in
          absurd (omega (arith, lt, low)))
      | inr after ↦ (let lt : m.0 < k = legal.precedence m.0 k taker putter.0 m.2 putter.1 after in
          absurd (omega (arith, lt, high)))
    ]) in
    let no_take : (k : ℕ) (step : ℕ × ℕ) → k ≤ m.0 → slice_get steps k ≡ Some step
    → taken_by reading step ≡ Some v → ⊥
    = λ k step high at takes_v.
    (let other = taker_of_step reading spec book order legal k v step at takes_v in
    let lt : m.0 < k =
    legal.precedence m.0 k taker other.0 m.2 other.1 (follow other.0 other.2 other.3) in
    absurd (omega (arith, lt, high))) in
    let below : List ℕ = reading.values (list_after_run spec.next spec.init (take q.0 steps)) in
    let top : reading.values (list_after_run spec.next spec.init (take (suc q.0) steps)) ≡ v ∷ below
    = ap reading.values (step_of_run spec.next spec.init steps q.0 step_q.0 legal.run step_q.1).1
    ∙ is.put (list_after_run spec.next spec.init (take q.0 steps)) step_q.0.0 v step_q.2 in
    let gap : ℕ = m.0 - suc q.0 in
    let whole : suc q.0 + gap ≡ m.0 = omega (arith, q.1) in
    let inside : m.0 < length steps = slice_get_within steps m.0 m.1 m.3 in
    let later =
    stays_covered reading spec.next is spec.init steps legal.run w v below (suc q.0) gap top
    (omega (arith, whole, inside))
    (λ k step low lt at is_put. no_put k step (omega (arith, low)) (omega (arith, lt, whole)) at
    is_put) (λ k step low lt at takes_v. no_take k step (omega (arith, lt, whole)) at takes_v) in
    let here : List ℕ = list_after_run spec.next spec.init (take m.0 steps) in
    let now : reading.values here ≡ later.0 ++ v ∷ below = ap
    (λ (n : ℕ). reading.values (list_after_run spec.next spec.init (take n steps))) (sym whole)
    ∙ later.1 in
    let shows : reading.shown (spec.next here m.1.0).1 ≡ Some w =
    ap reading.shown (step_of_run spec.next spec.init steps m.0 m.1 legal.run m.3).0 ∙ m.5 in
    let gives : reading.values here ≡ w ∷ reading.values (spec.next here m.1.0).0
    = subst
    (λ (o : Option ℕ). GivesFirst (reading.values here) o (reading.values (spec.next here m.1.0).0))
    shows (is.take here m.1.0 m.4) in
    let same : v ≡ w =
    top_is w v later.0 below (reading.values (spec.next here m.1.0).0) (sym now ∙ gives) later.2 in
    no_put q.0 step_q.0 (omega arith) (omega (arith, q.1)) step_q.1
    (puts_by reading step_q.0 v step_q.2 ∙ ap (λ (n : ℕ). Some n) same)
