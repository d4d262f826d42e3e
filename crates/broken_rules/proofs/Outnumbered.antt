-- The rules of counts: a value is taken at most as often as it was put in, and a take finds what is
-- left.
use Rattle.std.proofs.Common.{◌≡◌, ◌∙◌, ℕ, suc, ◌<◌, ◌≤◌, true, ◌&&◌, ◌==◌, ◌||◌, List, [], Option, Some, None, slice_index, sym, ap, subst, inl, inr, refl, arith}
use Rattle.std.specs.Prelude.{IsSomeAnd}
use Rattle.std.proofs.lemmas.Bool.{cases_lt, and_parts, and_from, false≢true, both_ways, lt-ltb, not-true}
use Rattle.book_base.specs.declared.call.Call.{Call}
use Rattle.book_base.specs.declared.call.Record.{Record}
use Rattle.book_base.specs.SeqSpec.{SeqSpec}
use Rattle.book_base.specs.Book.{Page, record_of, Precedes}
use Rattle.book_base.specs.Order.{HasLegalOrder}
use Rattle.legal_orders.specs.Container.{Reading, put_by, taken_by, times, IsContainer}
use Rattle.legal_orders.proofs.Counting.{how_often-more}
use Rattle.legal_orders.proofs.Orders.{steps_of, answered_step, putting_step}
use Rattle.legal_orders.proofs.ContainerRules.{held_after, take_at, puts_by, takes_by}
use Rattle.legal_orders.specs.Deals.{Deal}
use Rattle.legal_orders.specs.Deals as deals
use Rattle.legal_orders.specs.Deals.{deal_of}
use Rattle.legal_orders.proofs.Dealing.{puts_by_deal, takes_by_deal, nothing_by_deal}
use Rattle.broken_rules.specs.declared.tally.Tally.TheVariants as tallies
use Rattle.broken_rules.specs.Deeds.{value_by, is_put, is_take, is_open}
use Rattle.broken_rules.specs.Tallies.{holds, is_within, ends_before, ends_after, ends_within, is_tallied, tally_of}
use Rattle.broken_rules.proofs.Acts.{put_decides, take_decides, may_take_decides}
use Rattle.broken_rules.proofs.Standing.{preceding_comes_first, taker_of_step, putter_of_step}
use Rattle.broken_rules.proofs.Within.{within_counts}
use Rattle.broken_rules.proofs.Ranking.{no_more}

-- two answers of which the second one's view is within the first one's
both_end : (a b : Option Record) → ends_within a b ≡ true → (r s : Record) × (a ≡ Some r)
    × (b ≡ Some s) × (is_within s.view r.view ≡ true)
both_end None b e = absurd (false≢true e)
both_end (Some r) None e = absurd (false≢true e)
both_end (Some r) (Some s) e = (r, s, refl, refl, e)

-- an answer whose view doesn't hold a call
ends : (call : Call) (o : Option Record) → ends_before call o ≡ true
    → IsSomeAnd o (λ r. slice_index r.view call.caller ≤ call.number)
ends call None e = absurd (false≢true e)
ends call (Some r) e = elim (cases_lt call.number (slice_index r.view call.caller)) [
  | inl held ↦ absurd (both_ways (holds r.view call) (not-true (holds r.view call) e)
      (lt-ltb call.number (slice_index r.view call.caller) held))
  | inr past ↦ past
]

-- a call that another one doesn't precede is held by the other one's view
held_by : (book : List Page) (last call : Call) (r : Record) → record_of book last ≡ Some r
    → (Precedes book last call → ⊥) → ends_after call (record_of book last) ≡ true
held_by book last call r answered never =
    let count : ℕ = slice_index r.view call.caller in
    ap (ends_after call) answered ∙ elim (cases_lt call.number count) as
    (λ _. holds r.view call ≡ true) [
      | inl held ↦ lt-ltb call.number count held
      | inr past ↦ absurd (never (inl (subst (λ (o : Option Record).
          IsSomeAnd o (λ s. slice_index s.view call.caller ≤ call.number)) (sym answered) past)))
    ]

module _ (reading : Reading) (spec : SeqSpec) (book : List Page)
    (is : IsContainer reading spec.next) (none : reading.values spec.init ≡ [])
    (deal : Call → Deal) (read : (call : Call) → deal call ≡ deal_of reading book call) where
  -- By the reply to a call at most as many calls have taken a value as may have put it in.
  pub taken_too_often : (v : ℕ) (last : Call)
      → tally_of deal book tallies.PutBy v last < tally_of deal book tallies.TakenBy v last
      → ¬ HasLegalOrder spec book
  taken_too_often v last more h =
      let order = h.0 in
      let legal = h.1 in
      let steps = steps_of book order in
      let few = no_more spec book order legal (taken_by reading) (put_by reading) v
      (is_tallied deal book tallies.TakenBy v last) (is_tallied deal book tallies.PutBy v last)
      (λ call made passes.
      let parts = and_parts (is_take (deal call) && (value_by (deal call) == v))
      (ends_within (record_of book last) (record_of book call)) passes in
      let took : deal_of reading book call ≡ deals.Took v =
      sym (read call) ∙ (take_decides (deal call) v).0 parts.0 in
      let both = both_end (record_of book last) (record_of book call) parts.1 in
      let m = answered_step reading spec book order legal call (Some v)
      (takes_by_deal reading book call v took) in
      let shows = takes_by reading m.1 v m.4 m.5 in
      let less = how_often-more (taken_by reading) v steps m.0 (suc m.0) m.1 m.3 shows
      (omega arith) in
      let kept = held_after reading spec.next is v spec.init steps legal.run none (suc m.0) in record {
        m = m.0;
        n = suc m.0;
        stands = m.2;
        step = m.1;
        at = m.3;
        shows = shows;
        more =
            omega (arith, less, kept);
        by = λ q s lt at puts.
            let putter = putter_of_step reading spec book order legal q v s at puts in
            let c : Call = putter.0 in (
              c,
              putter.1,
              putter.2,
              and_from (is_put (deal c) && (value_by (deal c) == v))
                  (ends_after c (record_of book last))
                  ((put_decides (deal c) v).1 (read c ∙ putter.3))
                  (ap (ends_after c) both.2 ∙ elim (cases_lt c.number
                  (slice_index both.0.view c.caller)) as (λ _. holds both.0.view c ≡ true) [
                    | inl held ↦ lt-ltb c.number (slice_index both.0.view c.caller) held
                    | inr past ↦
                        let low : slice_index both.1.view c.caller ≤ c.number
                        = omega
                        (arith, past, within_counts both.1.view both.0.view both.4 c.caller) in
                        let late : m.0 < q = legal.precedence m.0 q call c m.2 putter.1
                        (inl (subst (λ (o : Option Record). IsSomeAnd o
                        (λ r. slice_index r.view c.caller ≤ c.number)) (sym both.3) low)) in
                        absurd (omega (arith, late, lt))
                  ]),
            );
      }) in
      absurd (omega (arith, more, few))

  -- At most as many calls put a value in before a call that found nothing as may have taken it by
  -- this call's reply.
  pub left_behind : (v : ℕ) (last : Call) → deal_of reading book last ≡ deals.FoundNothing
      → tally_of deal book tallies.TakableBy v last < tally_of deal book tallies.PutBefore v last
      → ¬ HasLegalOrder spec book
  left_behind v last finds more h =
      let order = h.0 in
      let legal = h.1 in
      let steps = steps_of book order in
      let shown = nothing_by_deal reading book last finds in
      let e = answered_step reading spec book order legal last None shown in
      let nothing =
      (take_at reading spec.next is spec.init steps legal.run e.0 e.1 None e.3 e.4 e.5).0 in
      let few = no_more spec book order legal (put_by reading) (taken_by reading) v
      (is_tallied deal book tallies.PutBefore v last)
      (is_tallied deal book tallies.TakableBy v last)
      (λ call made passes.
      let parts = and_parts (is_put (deal call) && (value_by (deal call) == v))
      (ends_before last (record_of book call)) passes in
      let put : deal_of reading book call ≡ deals.Put v =
      sym (read call) ∙ (put_decides (deal call) v).0 parts.0 in
      let precedes : Precedes book call last = inl (ends last (record_of book call) parts.1) in
      let q = preceding_comes_first spec book call last precedes order legal e.0 e.2 in
      let step =
      putting_step reading book order call v q.0 (puts_by_deal reading book call v put) q.2 in
      let shows = puts_by reading step.0 v step.2 in
      let less = how_often-more (put_by reading) v steps q.0 e.0 step.0 step.1 shows q.1 in record {
        m = q.0;
        n = e.0;
        stands = q.2;
        step = step.0;
        at = step.1;
        shows = shows;
        more =
            omega (
              arith,
              less,
              ap (times v) nothing,
              held_after reading spec.next is v spec.init steps legal.run none e.0,
            );
        by = λ j s lt at takes.
            let taker = taker_of_step reading spec book order legal j v s at takes in
            let c : Call = taker.0 in (
              c,
              taker.1,
              taker.2,
              and_from ((is_take (deal c) && (value_by (deal c) == v)) || is_open (deal c))
                  (ends_after c (record_of book last))
                  ((may_take_decides (deal c) v).1 (elim taker.3 [
                    | inl took ↦ inl (read c ∙ took)
                    | inr unanswered ↦ inr (read c ∙ unanswered)
                  ]))
                  (held_by book last c shown.1 shown.3 (λ after.
                  let late : e.0 < j = legal.precedence e.0 j last c e.2 taker.1 after in
                  absurd (omega (arith, late, lt)))),
            );
      }) in
      absurd (omega (arith, more, few))
