use Rattle.std.proofs.Common.{◌≡◌, ◌+◌, ◌<◌, sym, subst, inl, inr, arith, ℕ}
use Rattle.std.proofs.lemmas.Bool.{cases_Bool}
use Rattle.book_base.specs.Book.{calls_of}
use Rattle.refutations.specs.Counting.{IsOfSort, HasEachTo}
use Rattle.refutations.proofs.Counting.{counted_call, one_passed, one_more, next_caller}
use Rattle.refutations.proofs.counts.add_calls.Goals as goal

pub loop-number-init : goal.loop-number-init
loop-number-init c = λ reading is before. before

pub loop-number-preserved : goal.loop-number-preserved
loop-number-preserved c = λ reading is before.
    let l = c.loop-number in
    let sort = IsOfSort reading c.args.book.now c.args.values.now c.args.sort in
    let so_far = l.invariant reading is before in
    let counts = c.is_counted-counts.ensures reading is in
    elim (cases_Bool c.is_counted-counts.result) [
      | inl counted ↦ subst (HasEachTo sort c.args.caller (l.number + 1))
          (sym (c.in_ok-push_if.ensures.more counted))
          (one_more sort c.args.caller l.number l.calls.items so_far (counts.0 counted))
      | inr passed ↦ subst (HasEachTo sort c.args.caller (l.number + 1))
          (sym (c.in_ok-push_if.ensures.same passed))
          (one_passed sort c.args.caller l.number l.calls.items so_far
          (λ is_here. cc (counts.1 is_here, passed)))
    ]

pub returns : goal.returns
returns c = λ reading is before.
    let l = c.loop-number in
    let book = c.args.book.now in
    let sort = IsOfSort reading book c.args.values.now c.args.sort in
    let all : l.number ≡ calls_of book c.args.caller
    = omega (arith, c.calls-number-end.ensures, c.loop-number-test.false) in
    next_caller sort c.args.caller l.number l.calls.items (l.invariant reading is before)
    (λ call is_call own.
    let made : call.number < calls_of book c.args.caller
    = subst (λ (i : ℕ). call.number < calls_of book i) own
    (counted_call reading book c.args.values.now c.args.sort call is_call.0) in
    omega (arith, made, all))
