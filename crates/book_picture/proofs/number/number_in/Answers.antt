use Rattle.std.proofs.Common.{ap, below_more, arith}
use Rattle.book_base.specs.declared.call.Call.{Call}
use Rattle.book_picture.proofs.NumberLemmas.{call_there, stands_within}
use Rattle.book_picture.proofs.number.number_in.Goals as goal
use Rattle.book_picture.proofs.number.number_in.Goals.{else-place-call-via-then-place-call+else-place-call-2, else-place-call-via-else-place-call}

pub loop-k-preserved : goal.loop-k-preserved
loop-k-preserved c =
    below_more _ _ c.loop-k.invariant (λ stands.
    let same = call_there c.args.order.now c.loop-k.k
    (record { caller = 0; number = 0; reply = 0 }) c.args.call c.loop-k-test.true stands in
    let caller = ap (λ (x : Call). x.caller) same in
    let number = ap (λ (x : Call). x.number) same in
    elim c.else-place-call.branch [
      | else-place-call-via-then-place-call+else-place-call-2 w ↦
          absurd (w.if-place-call-2.false number)
      | else-place-call-via-else-place-call w ↦ absurd (w.if-place-call.false caller)
    ])

pub returns-clause-none : goal.returns-clause-none
returns-clause-none c = λ k stands. c.loop-k.invariant k
    (let less = stands_within c.args.order.now k c.args.call stands in omega arith) stands
