-- What is counted of a container's book can be matched in each legal order, one call each, so that
-- no order exists where the counts differ.
use Rattle.std.proofs.Common.{◌≡◌, ℕ, suc, ◌<◌, ◌≤◌, ◌∙◌, List, [], length, take, Option, Some, None, refl, sym, ap, subst, inl, inr, slice_get, arith}
use Rattle.std.proofs.lemmas.Bool.{cases_lt}
use Rattle.std.proofs.lemmas.Option.{same_Some, slice_get_cases, slice_get_within}
use Rattle.list_laws.proofs.Pigeonhole.{pigeonhole}
use Rattle.book_base.specs.declared.call.Call.{Call}
use Rattle.book_base.specs.declared.call.Place.{Place}
use Rattle.book_base.specs.SeqSpec.{SeqSpec}
use Rattle.book_base.specs.Book.{Page}
use Rattle.book_base.specs.Order.{call_at, StandsAt, IsLegalOrder}
use Rattle.legal_orders.specs.Container.{Reading, put_by, taken_by, times, IsContainer}
use Rattle.legal_orders.proofs.Counting.{how_often, how_often-more, how_often-next}
use Rattle.legal_orders.proofs.Orders.{steps_of, answered_step, putting_step}
use Rattle.legal_orders.proofs.ContainerRules.{held_after, take_at, puts_by, takes_by}
use Rattle.legal_orders.proofs.Dealing.{puts_by_deal, takes_by_deal, nothing_by_deal}
use Rattle.queue_pairs.specs.Moments.{IsHeldBy}
use Rattle.queue_pairs.proofs.Moments.{held_unless_preceded}
use Rattle.broken_rules.proofs.Standing.{preceding_comes_first, taker_of_step, putter_of_step}
use Rattle.refutations.specs.Counts.{HasEachOnce, PutsOne, ShowsOne, MayTakeOne, IsDueBy, IsAnsweredBefore, ViewHolds, FindMissesPuts}
use Rattle.refutations.specs.Laws.{ExcessTakesHaveNoOrder, MissedPutsHaveNoOrder}

-- Where each call of one sort is matched with a call of another, and none of these with two, no
-- more calls are of the first sort.
pub no_more : (one other : Call → Type 0) (match : Call → Call → Type 0) (ones others : List Call)
    → HasEachOnce one ones → HasEachOnce other others
    → ((a : Call) → one a → (b : Call) × other b × match a b)
    → ((a c b : Call) → match a b → match c b → a ≡ c) → length ones ≤ length others
no_more one other match ones others all_ones all_others matched apart =
    pigeonhole
    (λ i j. (a : Call) × (b : Call) × (slice_get ones i ≡ Some a) × (slice_get others j ≡ Some b)
    × match a b) (length ones) (length others)
    (λ i less. elim (slice_get_cases ones i).1 [
      | inl here ↦
          let found = matched here.0 (all_ones.only i here.0 here.2) in
          let there = all_others.all found.0 found.1 in (
            there.0,
            slice_get_within others there.0 found.0 there.1,
            (here.0, found.0, here.2, there.1, found.2),
          )
      | inr past ↦ absurd (omega (arith, less, past.0))
    ])
    (λ i k j x y.
    let same_b : x.1 ≡ y.1 = same_Some x.1 y.1 (sym x.3 ∙ y.3) in
    let same_a : x.0 ≡ y.0 = apart x.0 y.0 y.1 (subst (match x.0) same_b x.4) y.4 in
    all_ones.once i k y.0 (x.2 ∙ ap (λ (c : Call). Some c) same_a) y.2)

-- Two lists that have all calls of a sort, each once, are equally long.
pub as_long : (sort : Call → Type 0) (xs ys : List Call) → HasEachOnce sort xs
    → HasEachOnce sort ys → length xs ≤ length ys
as_long sort xs ys all_xs all_ys = no_more sort sort (λ a b. a ≡ b) xs ys all_xs all_ys
    (λ a is. (a, is, refl)) (λ a c b e f. e ∙ sym f)

-- ---- calls of one rank in a legal order

module _ (reading : Reading) (spec : SeqSpec) (book : List Page) (order : List Place)
    (legal : IsLegalOrder spec book order) where
  -- Two calls stand in the order, and their steps give one value, before which each of them gives
  -- it equally often.
  record AreMatched (f g : ℕ × ℕ → Option ℕ) (a b : Call) : Type 0 where
    j : ℕ
    k : ℕ
    w : ℕ
    s : ℕ × ℕ
    t : ℕ × ℕ
    a_stands : StandsAt order j a
    b_stands : StandsAt order k b
    a_step : slice_get (steps_of book order) j ≡ Some s
    b_step : slice_get (steps_of book order) k ≡ Some t
    a_gives : f s ≡ Some w
    b_gives : g t ≡ Some w
    rank : how_often f w (take j (steps_of book order))
        ≡ how_often g w (take k (steps_of book order))

  same_call : (k : ℕ) (a c : Call) → StandsAt order k a → StandsAt order k c → a ≡ c
  same_call k a c x y = sym x.2 ∙ ap call_at (same_Some x.0 y.0 (sym x.1 ∙ y.1)) ∙ y.2

  -- A call is matched with one call at most.
  matched_apart : (f g : ℕ × ℕ → Option ℕ) (a c b : Call) → AreMatched f g a b
      → AreMatched f g c b → a ≡ c
  matched_apart f g a c b x y =
      let steps : List (ℕ × ℕ) = steps_of book order in
      let at : x.k ≡ y.k = legal.once x.k y.k b x.b_stands y.b_stands in
      let step : x.t ≡ y.t
      = same_Some x.t y.t (sym x.b_step ∙ ap (slice_get steps) at ∙ y.b_step) in
      let value : x.w ≡ y.w = same_Some x.w y.w (sym x.b_gives ∙ ap g step ∙ y.b_gives) in
      let one : how_often f y.w (take x.j steps) ≡ how_often g y.w (take x.k steps)
      = subst (λ (w : ℕ). how_often f w (take x.j steps) ≡ how_often g w (take x.k steps)) value
      x.rank in
      let ranks : how_often f y.w (take x.j steps) ≡ how_often f y.w (take y.j steps)
      = one ∙ ap (λ (k : ℕ). how_often g y.w (take k steps)) at ∙ sym y.rank in
      let gives : f x.s ≡ Some y.w = x.a_gives ∙ ap (λ (w : ℕ). Some w) value in
      elim (cases_lt x.j y.j) [
        | inl less ↦ absurd (omega (
          arith,
          ranks,
          how_often-more f y.w steps x.j y.j x.s x.a_step gives less,
        ))
        | inr le ↦ elim (cases_lt y.j x.j) [
          | inl more ↦ absurd (omega (
            arith,
            ranks,
            how_often-more f y.w steps y.j x.j y.s y.a_step y.a_gives more,
          ))
          | inr ge ↦
              let here : x.j ≡ y.j = omega (arith, le, ge) in
              same_call y.j a c (subst (λ (j : ℕ). StandsAt order j a) here x.a_stands) y.a_stands
        ]
      ]

  module _ (is : IsContainer reading spec.next) (none : reading.values spec.init ≡ []) where
    -- A take that shows a value and is due up to a moment is matched with a put of the value that
    -- begins up to it.
    put_for : (values : List ℕ) (m : ℕ) (a : Call)
        → ShowsOne reading book values a × IsDueBy book m a
        → (b : Call) × (PutsOne reading book values b × IsHeldBy book b m)
        × AreMatched (taken_by reading) (put_by reading) a b
    put_for values m a (shows, due) =
        let steps : List (ℕ × ℕ) = steps_of book order in
        let w : ℕ = shows.0 in
        let at = answered_step reading spec book order legal a (Some w)
        (takes_by_deal reading book a w shows.2) in
        let gives : taken_by reading at.1 ≡ Some w = takes_by reading at.1 w at.4 at.5 in
        let found = how_often-next (put_by reading) w steps (suc at.0)
        (how_often (taken_by reading) w (take at.0 steps)) (omega (
          arith,
          how_often-more (taken_by reading) w steps at.0 (suc at.0) at.1 at.3 gives (omega arith),
          held_after reading spec.next is w spec.init steps legal.run none (suc at.0),
        )) in
        let putter =
        putter_of_step reading spec book order legal found.0 w found.1 found.3 found.4 in
        let holds = held_unless_preceded book a putter.0 due.0 due.1 (λ before.
        let late : at.0 < found.0
        = legal.precedence at.0 found.0 a putter.0 at.2 putter.1 before in
        absurd (omega (arith, late, found.2))) in (
          putter.0,
          ((w, shows.1, putter.3), (a, due.0, due.1, holds, due.2)),
          record {
            j = at.0;
            k = found.0;
            w = w;
            s = at.1;
            t = found.1;
            a_stands = at.2;
            b_stands = putter.1;
            a_step = at.3;
            b_step = found.3;
            a_gives = gives;
            b_gives = found.4;
            rank = sym found.5;
          },
        )

    -- A put that precedes a take which finds nothing is matched with a take that this take's view
    -- holds.
    take_for : (values : List ℕ) (find : Call) → FindMissesPuts reading book values find
        → (a : Call) → PutsOne reading book values a × IsAnsweredBefore book a find
        → (b : Call) × (MayTakeOne reading book values b × ViewHolds book find b)
        × AreMatched (put_by reading) (taken_by reading) a b
    take_for values find it a (puts, (answered, before)) =
        let steps : List (ℕ × ℕ) = steps_of book order in
        let w : ℕ = puts.0 in
        let e = answered_step reading spec book order legal find None
        (nothing_by_deal reading book find it.takes) in
        let nothing = (take_at reading spec.next is spec.init steps legal.run e.0 e.1 None e.3 e.4
        e.5).0 in
        let first = preceding_comes_first spec book a find before order legal e.0 e.2 in
        let step = putting_step reading book order a w first.0
        (puts_by_deal reading book a w puts.2) first.2 in
        let gives : put_by reading step.0 ≡ Some w = puts_by reading step.0 w step.2 in
        let found = how_often-next (taken_by reading) w steps e.0
        (how_often (put_by reading) w (take first.0 steps)) (omega (
          arith,
          how_often-more (put_by reading) w steps first.0 e.0 step.0 step.1 gives first.1,
          held_after reading spec.next is w spec.init steps legal.run none e.0,
          ap (times w) nothing,
        )) in
        let taker =
        taker_of_step reading spec book order legal found.0 w found.1 found.3 found.4 in
        let holds = held_unless_preceded book find taker.0 it.r it.answered (λ after.
        let late : e.0 < found.0
        = legal.precedence e.0 found.0 find taker.0 e.2 taker.1 after in
        absurd (omega (arith, late, found.2))) in
        let takes : MayTakeOne reading book values taker.0 = elim taker.3 [
          | inl shows ↦ inl (w, puts.1, shows)
          | inr unanswered ↦ inr unanswered
        ] in (
          taker.0,
          (takes, (it.r, it.answered, holds)),
          record {
            j = first.0;
            k = found.0;
            w = w;
            s = step.0;
            t = found.1;
            a_stands = first.2;
            b_stands = taker.1;
            a_step = step.1;
            b_step = found.3;
            a_gives = gives;
            b_gives = found.4;
            rank = sym found.5;
          },
        )

pub excess_takes_have_no_order : ExcessTakesHaveNoOrder
excess_takes_have_no_order reading spec book values m is none it (order, legal) =
    absurd (omega (
      arith,
      it.more,
      no_more (λ call. ShowsOne reading book values call × IsDueBy book m call)
          (λ call. PutsOne reading book values call × IsHeldBy book call m)
          (AreMatched reading spec book order legal (taken_by reading) (put_by reading))
          it.ones it.others it.all_ones it.all_others
          (put_for reading spec book order legal is none values m)
          (matched_apart reading spec book order legal (taken_by reading) (put_by reading)),
    ))

pub missed_puts_have_no_order : MissedPutsHaveNoOrder
missed_puts_have_no_order reading spec book values find is none it (order, legal) =
    absurd (omega (
      arith,
      it.more.more,
      no_more (λ call. PutsOne reading book values call × IsAnsweredBefore book call find)
          (λ call. MayTakeOne reading book values call × ViewHolds book find call)
          (AreMatched reading spec book order legal (put_by reading) (taken_by reading))
          it.more.ones it.more.others it.more.all_ones it.more.all_others
          (take_for reading spec book order legal is none values find it)
          (matched_apart reading spec book order legal (put_by reading) (taken_by reading)),
    ))
