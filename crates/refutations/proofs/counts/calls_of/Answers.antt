use Rattle.std.proofs.Common.{◌<◌, length, sym, subst, arith}
use Rattle.book_base.proofs.PageLemmas.{caller_from_call}
use Rattle.refutations.specs.Counting.{IsOfSort, HasEachTo}
use Rattle.refutations.proofs.Counting.{counted_call, none_yet, whole_list}
use Rattle.refutations.proofs.counts.calls_of.Goals as goal

pub loop-caller-init : goal.loop-caller-init
loop-caller-init c = λ reading is.
    let sort = IsOfSort reading c.args.book.now c.args.values.now c.args.sort in
    subst (HasEachTo sort 0 0) (sym c.new-calls.ensures.items) (none_yet sort)

pub loop-caller-preserved : goal.loop-caller-preserved
loop-caller-preserved c = λ reading is.
    c.in_ok-add_calls.ensures reading is (c.loop-caller.invariant reading is)

pub returns : goal.returns
returns c = λ reading is.
    let l = c.loop-caller in
    let book = c.args.book.now in
    let sort = IsOfSort reading book c.args.values.now c.args.sort in
    whole_list sort l.caller 0 l.calls.items (l.invariant reading is) (λ call is_call.
    let inside : call.caller < length book = caller_from_call book call.caller call.number
    (counted_call reading book c.args.values.now c.args.sort call is_call.0) in
    omega (arith, inside, c.callers-caller-end.ensures.count, c.loop-caller-test.false))
