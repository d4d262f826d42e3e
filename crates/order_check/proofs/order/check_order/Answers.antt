use Rattle.std.proofs.Common.{◌≡◌, ℕ, ◌+◌, ◌-◌, ◌<◌, ◌≤◌, ◌∙◌, List, length, set, sum, Some, refl, sym, ap, subst, slice_get, get_or, inl, inr, arith}
use Rattle.std.proofs.lemmas.Bool.{cases_eq}
use Rattle.std.proofs.lemmas.Option.{slice_get-get_or}
use Rattle.book_base.specs.declared.call.Call.{Call}
use Rattle.book_base.specs.declared.call.Place.{Place}
use Rattle.book_base.specs.State.{Contents}
use Rattle.book_base.specs.Book.{IsCall, calls_of, operation_of}
use Rattle.book_base.specs.Order.{call_at}
use Rattle.book_base.proofs.PageLemmas.{caller_from_call}
use Rattle.book_base.specs.Next.{raised}
use Rattle.book_base.specs.Reaching.{SufficesAfter}
use Rattle.book_base.proofs.ReachingLemmas.{suffices-list, suffices-next, suffices-step}
use Rattle.order_check.specs.declared.fault.OrderFault.TheVariants.{Run, Missing}
use Rattle.order_check.specs.declared.order.TheConstants.{MOST_CALLS}
use Rattle.order_check.specs.Fault.{IsFirstFault, reply_after_places}
use Rattle.order_check.specs.Standing.{IsStanding, IsInPlace}
use Rattle.order_check.proofs.Faults.{no_place, stands_here, legal_orders_fail_no_test}
use Rattle.order_check.proofs.Placing.{IsGiven, first_fault, run_first, number_in_line, standing_more, made_more, sum-raised, few_stand, list_more, reply_more, given_here, missing_first, legal}
use Rattle.order_check.proofs.order.check_order.Goals as goal

pub reset-requires : goal.reset-requires
reset-requires g c =
    let spec = g.S.SeqObject.spec c.args.object.now in
    let room = ap (λ (s : Contents). s.room) c.in_ok-state.ensures in
    omega (
      arith,
      suffices-list spec.next spec.init MOST_CALLS c.capacity.result
          c.capacity.ensures.fits,
      room,
    )

pub returns-in-Some-clause-fault : goal.returns-in-Some-clause-fault
returns-in-Some-clause-fault g c =
    let spec = g.S.SeqObject.spec c.args.object.now in
    first_fault spec c.args.book.now c.args.order.now c.loop-p.p c.in-Some.fault
    c.loop-p-test.true c.loop-p.invariant.in_place c.loop-p.invariant.given
    (c.in-Some.ensures.fault spec)

pub returns-in-Some-clause-accepted : goal.returns-in-Some-clause-accepted
returns-in-Some-clause-accepted g c legal =
    let spec = g.S.SeqObject.spec c.args.object.now in
    absurd (legal_orders_fail_no_test spec c.args.book.now c.args.order.now legal
    c.in-Some.fault (c.in-Some.ensures.fault spec).fails)

pub op-requires : goal.op-requires
op-requires g c =
    let order = c.args.order.now in
    let p = c.loop-p.p in
    let here : Place = get_or order p no_place in
    let at : slice_get order p ≡ Some here = slice_get-get_or order p no_place c.loop-p-test.true in
    subst (IsCall c.args.book.now) (sym c.call_at.ensures)
    (c.in_default.ensures.none.known (call_at here) (stands_here order p here at))

pub step-wanted-requires : goal.step-wanted-requires
step-wanted-requires g c =
    let order = c.args.order.now in
    let book = c.args.book.now in
    let p = c.loop-p.p in
    let standing = c.loop-p.standing in
    let here : Place = get_or order p no_place in
    let at : slice_get order p ≡ Some here = slice_get-get_or order p no_place c.loop-p-test.true in
    let is : IsCall book (call_at here) =
    c.in_default.ensures.none.known (call_at here) (stands_here order p here at) in
    let inside : here.caller < length standing =
    (let there = caller_from_call book here.caller here.number is in
    omega (arith, c.loop-p.invariant.standing.wide)) in
    let number = number_in_line book order p standing here c.loop-p.invariant.standing
    c.in_default.ensures.none at in
    let more = standing_more book order p standing here c.loop-p.invariant.standing
    c.in_default.ensures.none at in
    let few = few_stand book (raised standing here.caller) c.callers.ensures.small more.wide
    (made_more book standing here inside number is c.loop-p.invariant.made) in
    suffices-next (g.S.SeqObject.spec c.args.object.now).next c.loop-p.state.words (MOST_CALLS - p)
    c.loop-p.state.room c.op.result
    (omega (arith, few, sum-raised standing here.caller inside, c.loop-p.invariant.counted))
    c.loop-p.invariant.fits

pub returns-then-wanted-place-clause-fault : goal.returns-then-wanted-place-clause-fault
returns-then-wanted-place-clause-fault g c =
    let spec = g.S.SeqObject.spec c.args.object.now in
    let order = c.args.order.now in
    let book = c.args.book.now in
    let p = c.loop-p.p in
    let here : Place = get_or order p no_place in
    let at : slice_get order p ≡ Some here = slice_get-get_or order p no_place c.loop-p-test.true in
    let op : operation_of book (call_at here) ≡ Some c.op.result =
    subst (λ (x : Call). operation_of book x ≡ Some c.op.result) c.call_at.ensures c.op.ensures in
    let wanted : c.step-wanted.result ≡ reply_after_places spec book order p here =
    c.step-wanted.ensures.reply ∙ reply_more spec book order p c.op.result c.loop-p.state.words
    here op c.loop-p.invariant.words in
    first_fault spec book order p (Run p c.step-wanted.result here.reply) c.loop-p-test.true
    c.loop-p.invariant.in_place c.loop-p.invariant.given
    (run_first spec book order p here c.step-wanted.result at c.in_default.ensures.none wanted
    c.if-wanted-place.true)

pub returns-then-wanted-place-clause-accepted : goal.returns-then-wanted-place-clause-accepted
returns-then-wanted-place-clause-accepted g c legal =
    let spec = g.S.SeqObject.spec c.args.object.now in
    let order = c.args.order.now in
    let book = c.args.book.now in
    let p = c.loop-p.p in
    let here : Place = get_or order p no_place in
    let at : slice_get order p ≡ Some here = slice_get-get_or order p no_place c.loop-p-test.true in
    let op : operation_of book (call_at here) ≡ Some c.op.result =
    subst (λ (x : Call). operation_of book x ≡ Some c.op.result) c.call_at.ensures c.op.ensures in
    let wanted : c.step-wanted.result ≡ reply_after_places spec book order p here =
    c.step-wanted.ensures.reply ∙ reply_more spec book order p c.op.result c.loop-p.state.words
    here op c.loop-p.invariant.words in
    absurd (legal_orders_fail_no_test spec book order legal
    (Run p c.step-wanted.result here.reply) (here, at, wanted, refl, c.if-wanted-place.true))

pub overflow_add-place : goal.overflow_add-place
overflow_add-place g c =
    let order = c.args.order.now in
    let p = c.loop-p.p in
    let here : Place = get_or order p no_place in
    let at : slice_get order p ≡ Some here = slice_get-get_or order p no_place c.loop-p-test.true in
    omega (
      arith,
      c.in_default.ensures.none.known (call_at here) (stands_here order p here at),
      c.callers.ensures.small.calls here.caller,
    )

pub loop-p-preserved : goal.loop-p-preserved
loop-p-preserved g c =
    let spec = g.S.SeqObject.spec c.args.object.now in
    let order = c.args.order.now in
    let book = c.args.book.now in
    let p = c.loop-p.p in
    let standing = c.loop-p.standing in
    let before = c.loop-p.invariant in
    let here : Place = get_or order p no_place in
    let at : slice_get order p ≡ Some here = slice_get-get_or order p no_place c.loop-p-test.true in
    let in_place : IsInPlace book order p = c.in_default.ensures.none in
    let is : IsCall book (call_at here) =
    in_place.known (call_at here) (stands_here order p here at) in
    let inside : here.caller < length standing = (let there =
    caller_from_call book here.caller here.number is in omega (arith, before.standing.wide)) in
    let number = number_in_line book order p standing here before.standing in_place at in
    let set_is : c.set.new.self ≡ raised standing here.caller =
    c.set.ensures ∙ ap (λ (n : ℕ). set standing here.caller (n + 1)) number in
    let op : operation_of book (call_at here) ≡ Some c.op.result =
    subst (λ (x : Call). operation_of book x ≡ Some c.op.result) c.call_at.ensures c.op.ensures in
    let words : c.step-wanted.new.state.words ≡ (spec.next c.loop-p.state.words c.op.result).0 =
    ap (λ s. s.words) c.step-wanted.ensures.list in
    let more = standing_more book order p standing here before.standing in_place at in
    let few = few_stand book (raised standing here.caller) c.callers.ensures.small more.wide
    (made_more book standing here inside number is before.made) in
    let left : p + 1 ≤ MOST_CALLS =
    omega (arith, few, sum-raised standing here.caller inside, before.counted) in
    let wanted : reply_after_places spec book order p here ≡ here.reply =
    sym (reply_more spec book order p c.op.result c.loop-p.state.words here op before.words)
    ∙ (sym c.step-wanted.ensures.reply ∙ c.if-wanted-place.false) in
    record {
      fits = subst (λ (s : Contents). SufficesAfter spec.next s.words (MOST_CALLS - (p + 1)) s.room)
          (sym c.step-wanted.ensures.list)
          (suffices-step spec.next c.loop-p.state.words (MOST_CALLS - p) (MOST_CALLS - (p + 1))
          c.loop-p.state.room c.op.result (omega (arith, left)) before.fits);
      words = words ∙ list_more spec book order p c.op.result c.loop-p.state.words
          c.loop-p-test.true op before.words;
      counted = omega (
        arith,
        before.counted,
        sum-raised standing here.caller inside,
        ap (λ (w : List ℕ). sum w) set_is,
      );
      made = subst (λ (cut : List ℕ). (i : ℕ) → get_or cut i 0 ≤ calls_of book i) (sym set_is)
          (made_more book standing here inside number is before.made);
      standing = subst (IsStanding book order (p + 1)) (sym set_is)
          (standing_more book order p standing here before.standing in_place at);
      in_place = λ (k : ℕ) (less : k < p + 1). elim (cases_eq k p) [
        | inl same ↦ subst (IsInPlace book order) (sym same) in_place
        | inr other ↦ before.in_place k (omega (arith, less, other))
      ];
      given = λ (k : ℕ) (less : k < p + 1). elim (cases_eq k p) [
        | inl same ↦ subst (IsGiven spec book order) (sym same)
            (given_here spec book order p here at wanted)
        | inr other ↦ before.given k (omega (arith, less, other))
      ];
    }

pub returns-in-Some-first_missing-clause-fault : goal.returns-in-Some-first_missing-clause-fault
returns-in-Some-first_missing-clause-fault g c =
    let spec = g.S.SeqObject.spec c.args.object.now in
    let order = c.args.order.now in
    let book = c.args.book.now in
    let all : c.loop-p.p ≡ length order = omega (arith, c.loop-p-test.false, c.loop-p.auto.p-end) in
    missing_first spec book order c.loop-p.standing c.in-Some-first_missing.call
    (subst (λ (n : ℕ). (k : ℕ) → k < n → IsInPlace book order k) all c.loop-p.invariant.in_place)
    (subst (λ (n : ℕ). (k : ℕ) → k < n → IsGiven spec book order k) all
    c.loop-p.invariant.given)
    (subst (λ (n : ℕ). IsStanding book order n c.loop-p.standing) all c.loop-p.invariant.standing)
    c.in-Some-first_missing.ensures.answered c.in-Some-first_missing.ensures.missing
    c.in-Some-first_missing.ensures.least

pub returns-in-Some-first_missing-clause-accepted :
    goal.returns-in-Some-first_missing-clause-accepted
returns-in-Some-first_missing-clause-accepted g c legal =
    let spec = g.S.SeqObject.spec c.args.object.now in
    let order = c.args.order.now in
    let book = c.args.book.now in
    let all : c.loop-p.p ≡ length order = omega (arith, c.loop-p-test.false, c.loop-p.auto.p-end) in
    let call : Call = c.in-Some-first_missing.call in
    let first : IsFirstFault spec book order (Missing call.caller call.number) =
    missing_first spec book order c.loop-p.standing call
    (subst (λ (n : ℕ). (k : ℕ) → k < n → IsInPlace book order k) all c.loop-p.invariant.in_place)
    (subst (λ (n : ℕ). (k : ℕ) → k < n → IsGiven spec book order k) all
    c.loop-p.invariant.given)
    (subst (λ (n : ℕ). IsStanding book order n c.loop-p.standing) all c.loop-p.invariant.standing)
    c.in-Some-first_missing.ensures.answered c.in-Some-first_missing.ensures.missing
    c.in-Some-first_missing.ensures.least in
    absurd (legal_orders_fail_no_test spec book order legal
    (Missing call.caller call.number) first.fails)

pub returns-clause-legal : goal.returns-clause-legal
returns-clause-legal g c =
    let spec = g.S.SeqObject.spec c.args.object.now in
    let order = c.args.order.now in
    let book = c.args.book.now in
    let all : c.loop-p.p ≡ length order = omega (arith, c.loop-p-test.false, c.loop-p.auto.p-end) in
    legal spec book order c.loop-p.standing c.callers.ensures.valid
    (subst (λ (n : ℕ). (k : ℕ) → k < n → IsInPlace book order k) all c.loop-p.invariant.in_place)
    (subst (λ (n : ℕ). (k : ℕ) → k < n → IsGiven spec book order k) all
    c.loop-p.invariant.given)
    (subst (λ (n : ℕ). IsStanding book order n c.loop-p.standing) all c.loop-p.invariant.standing)
    c.in-None.ensures.none
