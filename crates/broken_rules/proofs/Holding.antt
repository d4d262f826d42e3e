-- The rules of objects that hold what is put in until it is taken out.
use Rattle.std.proofs.Common.{◌≡◌, ◌⊎◌, ℕ, suc, ◌<◌, ◌≤◌, List, [], take, Some, None, ap, inl, inr, arith}
use Rattle.std.proofs.lemmas.Option.{slice_get_within}
use Rattle.book_base.specs.declared.call.Call.{Call}
use Rattle.book_base.specs.SeqSpec.{SeqSpec}
use Rattle.book_base.specs.Book.{Page, page_of, IsCall, Precedes}
use Rattle.book_base.specs.Order.{HasLegalOrder}
use Rattle.legal_orders.specs.Container.{Reading, put_by, taken_by, times, IsContainer}
use Rattle.legal_orders.specs.Calls.{PutsInAlone}
use Rattle.legal_orders.proofs.Counting.{how_often, how_often-more, how_often-found}
use Rattle.legal_orders.proofs.Orders.{steps_of, answered_step, putting_step}
use Rattle.legal_orders.proofs.ContainerRules.{held_after, take_at, puts_by, takes_by, taken_once}
use Rattle.legal_orders.specs.Deals as deals
use Rattle.legal_orders.specs.Deals.{deal_of}
use Rattle.legal_orders.proofs.Dealing.{puts_by_deal, deal_of_put, takes_by_deal, nothing_by_deal}
use Rattle.broken_rules.proofs.Searching.{cases_call}
use Rattle.broken_rules.proofs.Standing.{preceding_comes_first, taker_of_step, putter_of_step}

module _ (reading : Reading) (spec : SeqSpec) (book : List Page)
    (is : IsContainer reading spec.next) (none : reading.values spec.init ≡ []) where
  -- A value that is taken is put in by a call that comes before: not each of its puts comes after
  -- the take.
  pub taken_unput : (v : ℕ) (taker : Call) → deal_of reading book taker ≡ deals.Took v
      → ((call : Call) → IsCall book call → deal_of reading book call ≡ deals.Put v
      → Precedes book taker call) → ¬ HasLegalOrder spec book
  taken_unput v taker takes follow h =
      let order = h.0 in
      let legal = h.1 in
      let steps = steps_of book order in
      let m = answered_step reading spec book order legal taker (Some v)
      (takes_by_deal reading book taker v takes) in
      let more = how_often-more (taken_by reading) v steps m.0 (suc m.0) m.1 m.3
      (takes_by reading m.1 v m.4 m.5) (omega arith) in
      let found = how_often-found (put_by reading) v steps (suc m.0)
      (omega
      (arith, more, held_after reading spec.next is v spec.init steps legal.run none (suc m.0))) in
      let putter =
      putter_of_step reading spec book order legal found.0 v found.1 found.3 found.4 in
      let late : m.0 < found.0 = legal.precedence m.0 found.0 taker putter.0 m.2 putter.1
      (follow putter.0 putter.2 putter.3) in
      absurd (omega (arith, late, found.2))

  -- A value that one call alone puts in is taken by one call alone.
  pub taken_twice : (v : ℕ) (put taker : Call) → deal_of reading book put ≡ deals.Put v
      → deal_of reading book taker ≡ deals.Took v
      → ((call : Call) → IsCall book call → deal_of reading book call ≡ deals.Put v → call ≡ put)
      → (((call : Call) → IsCall book call → deal_of reading book call ≡ deals.Took v
      → call ≡ taker) → ⊥) → ¬ HasLegalOrder spec book
  taken_twice v put taker puts takes only another h =
      let alone : PutsInAlone reading book put v
      = (
        puts_by_deal reading book put v puts,
        λ other in_too. only other (slice_get_within (page_of book other.caller).operations
            other.number in_too.0 in_too.1) (deal_of_put reading book other v in_too),
      ) in
      another (λ call made takes_too. elim (cases_call call taker) [
        | inl same ↦ same
        | inr apart ↦
            absurd (taken_once reading spec book is none v call taker put apart (takes_by_deal
            reading book call v takes_too) (takes_by_deal reading book taker v takes) alone h)
      ])

  -- A value that is put in before a take that found nothing is taken before this take: not each of
  -- its takes comes after it.
  pub found_nothing : (v : ℕ) (put empty : Call) → deal_of reading book put ≡ deals.Put v
      → deal_of reading book empty ≡ deals.FoundNothing → Precedes book put empty
      → ((call : Call) → IsCall book call → (deal_of reading book call ≡ deals.Took v)
      ⊎ (deal_of reading book call ≡ deals.OpenTake) → Precedes book empty call)
      → ¬ HasLegalOrder spec book
  found_nothing v put empty puts finds precedes follow h =
      let order = h.0 in
      let legal = h.1 in
      let steps = steps_of book order in
      let e = answered_step reading spec book order legal empty None
      (nothing_by_deal reading book empty finds) in
      let q = preceding_comes_first spec book put empty precedes order legal e.0 e.2 in
      let step =
      putting_step reading book order put v q.0 (puts_by_deal reading book put v puts) q.2 in
      let nothing =
      (take_at reading spec.next is spec.init steps legal.run e.0 e.1 None e.3 e.4 e.5).0 in
      let more = how_often-more (put_by reading) v steps q.0 e.0 step.0 step.1
      (puts_by reading step.0 v step.2) q.1 in
      let early : 1 ≤ how_often (taken_by reading) v (take e.0 steps)
      = omega (
        arith,
        held_after reading spec.next is v spec.init steps legal.run none e.0,
        ap (times v) nothing,
        more,
      ) in
      let found = how_often-found (taken_by reading) v steps e.0 early in
      let taker =
      taker_of_step reading spec book order legal found.0 v found.1 found.3 found.4 in
      let late : e.0 < found.0 =
      legal.precedence e.0 found.0 empty taker.0 e.2 taker.1 (follow taker.0 taker.2 taker.3) in
      absurd (omega (arith, late, found.2))
