-- The rules of registers: the value that is read was written last.
use Rattle.std.proofs.Common.{◌≡◌, ◌⊎◌, ◌∙◌, ℕ, zero, suc, ◌<◌, ◌≤◌, List, length, take, get_or, Some, None, refl, sym, ap, inl, inr, slice_get, arith}
use Rattle.std.proofs.lemmas.Bool.{cases_lt}
use Rattle.std.proofs.lemmas.Option.{same_Some, none-some, slice_get-get_or, slice_get_within}
use Rattle.list_laws.proofs.Options.{cases_Option}
use Rattle.book_base.specs.declared.call.Call.{Call}
use Rattle.book_base.specs.SeqSpec.{SeqSpec}
use Rattle.book_base.specs.Book.{Page, IsCall, Precedes}
use Rattle.book_base.specs.Sequential.{IsRunFrom}
use Rattle.book_base.specs.Order.{HasLegalOrder}
use Rattle.book_base.specs.Reaching.{list_after_run}
use Rattle.legal_orders.specs.Container.{Effect, Puts, Takes, Neither, Reading, value_put, put_by}
use Rattle.legal_orders.proofs.Runs.{step_of_run}
use Rattle.legal_orders.proofs.Orders.{steps_of, answered_step, putting_step}
use Rattle.legal_orders.proofs.ContainerRules.{puts_by}
use Rattle.legal_orders.specs.Deals as deals
use Rattle.legal_orders.specs.Deals.{deal_of}
use Rattle.legal_orders.proofs.Dealing.{puts_by_deal, takes_by_deal}
use Rattle.list_pruning.specs.HoldsLast.{HoldsLast}
use Rattle.broken_rules.proofs.Standing.{preceding_comes_first, putter_of_step}

-- no step between two moments writes
abbrev NoneWrites : Reading → List (ℕ × ℕ) → ℕ → ℕ → Type 0
NoneWrites reading steps from to = (j : ℕ) (step : ℕ × ℕ) (v : ℕ) → from ≤ j → j < to
    → slice_get steps j ≡ Some step → put_by reading step ≡ Some v → ⊥

-- The value held at a moment is the first one, and nothing was written before; or it was written by
-- the last write before.
abbrev IsLastWritten : Reading → (List ℕ → ℕ) → (List ℕ → ℕ → List ℕ × ℕ) → List ℕ → List (ℕ × ℕ)
    → ℕ → Type 0
IsLastWritten reading held next list steps n =
    ((held (list_after_run next list (take n steps)) ≡ held list) × NoneWrites reading steps 0 n)
    ⊎ ((k : ℕ) × (step : ℕ × ℕ) × (k < n) × (slice_get steps k ≡ Some step)
    × (put_by reading step ≡ Some (held (list_after_run next list (take n steps))))
    × NoneWrites reading steps (suc k) n)

-- no step up to one more that doesn't write writes
none_more : (reading : Reading) (steps : List (ℕ × ℕ)) (from n : ℕ) (step : ℕ × ℕ)
    → slice_get steps n ≡ Some step → put_by reading step ≡ None
    → NoneWrites reading steps from n → NoneWrites reading steps from (suc n)
none_more reading steps from n step at quiet none j other v low high there writes =
    elim (cases_lt j n) [
      | inl before ↦ none j other v low before there writes
      | inr here ↦
          let same : j ≡ n = omega (arith, here, high) in
          let one : other ≡ step =
          same_Some other step (sym there ∙ (ap (slice_get steps) same ∙ at)) in
          none-some v (sym quiet ∙ (ap (put_by reading) (sym one) ∙ writes))
    ]

-- an effect that puts in a value is a write of it
put_from_value : (deed : Effect) (v : ℕ) → value_put deed ≡ Some v → deed ≡ Puts v
put_from_value (Puts w) v e = ap Puts (same_Some w v e)
put_from_value Takes v e = absurd (none-some v e)
put_from_value Neither v e = absurd (none-some v e)

last_written : (reading : Reading) (held : List ℕ → ℕ) (next : List ℕ → ℕ → List ℕ × ℕ)
    → HoldsLast reading held next → (list : List ℕ) (steps : List (ℕ × ℕ))
    → IsRunFrom next list steps
    → (n : ℕ) → n ≤ length steps → IsLastWritten reading held next list steps n
last_written reading held next is list steps run zero inside =
    inl (refl, λ j step v low high there writes. absurd (omega arith))
last_written reading held next is list steps run (suc n) inside =
    let step : ℕ × ℕ = get_or steps n (0, 0) in
    let at : slice_get steps n ≡ Some step = slice_get-get_or steps n (0, 0) (omega arith) in
    let here : List ℕ = list_after_run next list (take n steps) in
    let ran = step_of_run next list steps n step run at in
    elim (cases_Option (put_by reading step)) [
      | inl none ↦
          let quiet : (v : ℕ) → reading.deed step.0 ≡ Puts v → ⊥ =
          λ v e. none-some v (sym none ∙ ap value_put e) in
          let same : held (list_after_run next list (take (suc n) steps)) ≡ held here =
          ap held ran.1 ∙ is.keep here step.0 quiet in
          elim (last_written reading held next is list steps run n (omega arith)) [
            | inl first ↦ inl (same ∙ first.0, none_more reading steps 0 n step at none first.1)
            | inr later ↦
                inr (
                  later.0,
                  later.1,
                  omega (arith, later.2),
                  later.3,
                  later.4 ∙ ap (λ (v : ℕ). Some v) (sym same),
                  none_more reading steps (suc later.0) n step at none later.5,
                )
          ]
      | inr put ↦
          let now : held (list_after_run next list (take (suc n) steps)) ≡ put.0
          = ap held ran.1
          ∙ is.write here step.0 put.0 (put_from_value (reading.deed step.0) put.0 put.1) in
          inr (
            n,
            step,
            omega arith,
            at,
            put.1 ∙ ap (λ (v : ℕ). Some v) (sym now),
            λ j other v low high there writes. absurd (omega (arith, low, high)),
          )
    ]

module _ (reading : Reading) (held : List ℕ → ℕ) (spec : SeqSpec) (book : List Page)
    (is : HoldsLast reading held spec.next) where
  -- A value that is read, and isn't the first one, is written before: not each of its writes comes
  -- after.
  pub read_unwritten : (v : ℕ) (reader : Call) → (v ≡ held spec.init → ⊥)
      → deal_of reading book reader ≡ deals.Took v → ((call : Call) → IsCall book call
      → deal_of reading book call ≡ deals.Put v → Precedes book reader call)
      → ¬ HasLegalOrder spec book
  read_unwritten v reader new reads follow h =
      let order = h.0 in
      let legal = h.1 in
      let steps = steps_of book order in
      let m = answered_step reading spec book order legal reader (Some v)
      (takes_by_deal reading book reader v reads) in
      let here : List ℕ = list_after_run spec.next spec.init (take m.0 steps) in
      let shows : reading.shown (spec.next here m.1.0).1 ≡ Some v =
      ap reading.shown (step_of_run spec.next spec.init steps m.0 m.1 legal.run m.3).0 ∙ m.5 in
      let held_v : held here ≡ v =
      same_Some (held here) v (sym (is.shows here m.1.0 m.4) ∙ shows) in
      let inside = slice_get_within steps m.0 m.1 m.3 in
      elim (last_written reading held spec.next is spec.init steps legal.run m.0
      (omega (arith, inside))) [
        | inl first ↦ new (sym held_v ∙ first.0)
        | inr later ↦
            let writer = putter_of_step reading spec book order legal later.0 v later.1 later.3
            (later.4 ∙ ap (λ (n : ℕ). Some n) held_v) in
            let late : m.0 < later.0 = legal.precedence m.0 later.0 reader writer.0 m.2 writer.1
            (follow writer.0 writer.2 writer.3) in
            absurd (omega (arith, late, later.2))
      ]

  -- A value that is written over before a read isn't read: some write of the value that is read
  -- comes neither before the other write, nor after the read.
  pub read_overwritten : (v w : ℕ) (writer reader : Call) → deal_of reading book writer
      ≡ deals.Put v → deal_of reading book reader ≡ deals.Took w → Precedes book writer reader
      → ((call : Call) → IsCall book call → deal_of reading book call ≡ deals.Put w
      → Precedes book call writer ⊎ Precedes book reader call) → ¬ HasLegalOrder spec book
  read_overwritten v w writer reader writes reads precedes outside h =
      let order = h.0 in
      let legal = h.1 in
      let steps = steps_of book order in
      let m = answered_step reading spec book order legal reader (Some w)
      (takes_by_deal reading book reader w reads) in
      let q = preceding_comes_first spec book writer reader precedes order legal m.0 m.2 in
      let step = putting_step reading book order writer v q.0
      (puts_by_deal reading book writer v writes) q.2 in
      let put_q : put_by reading step.0 ≡ Some v = puts_by reading step.0 v step.2 in
      let here : List ℕ = list_after_run spec.next spec.init (take m.0 steps) in
      let shows : reading.shown (spec.next here m.1.0).1 ≡ Some w =
      ap reading.shown (step_of_run spec.next spec.init steps m.0 m.1 legal.run m.3).0 ∙ m.5 in
      let held_w : held here ≡ w =
      same_Some (held here) w (sym (is.shows here m.1.0 m.4) ∙ shows) in
      let inside = slice_get_within steps m.0 m.1 m.3 in
      elim (last_written reading held spec.next is spec.init steps legal.run m.0
      (omega (arith, inside))) [
        | inl first ↦ first.1 q.0 step.0 v (omega arith) q.1 step.1 put_q
        | inr later ↦
            let last = putter_of_step reading spec book order legal later.0 w later.1 later.3
            (later.4 ∙ ap (λ (n : ℕ). Some n) held_w) in
            elim (outside last.0 last.2 last.3) [
              | inl before ↦
                  let lt : later.0 < q.0 =
                  legal.precedence later.0 q.0 last.0 writer last.1 q.2 before in
                  later.5 q.0 step.0 v (omega (arith, lt)) q.1 step.1 put_q
              | inr after ↦
                  let lt : m.0 < later.0 =
                  legal.precedence m.0 later.0 reader last.0 m.2 last.1 after in
                  absurd (omega (arith, lt, later.2))
            ]
      ]
