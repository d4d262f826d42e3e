use Rattle.std.proofs.Common.{◌≡◌, ℕ, inl, inr, subst, arith}
use Rattle.std.proofs.lemmas.Bool.{cases_lt}
use Rattle.book_base.specs.Next.{next_call, MayComeNext}
use Rattle.list_pruning.specs.LeastFirst.{CouldTake}
use Rattle.list_pruning.proofs.Wanting.{taken_by_none}
use Rattle.list_pruning.proofs.least_first.may_be_taken.Goals as goal

pub loop-caller-preserved : goal.loop-caller-preserved
loop-caller-preserved g c i below may could =
    let reading = g.R.Reader.reading c.args.reader.now in
    let book = c.args.book.now in
    let cut = c.args.cut.now in
    let caller : ℕ = c.loop-caller.caller in
    elim (cases_lt i caller) [
      | inl early ↦ c.loop-caller.invariant i early may could
      | inr here ↦
          let same : i ≡ caller = omega (arith, below, here) in
          c.next_may_take.ensures c.if-next_may_take.false
          (subst (λ (n : ℕ). MayComeNext book cut (next_call cut n)) same may)
          (subst (λ (n : ℕ). CouldTake reading book (next_call cut n) c.args.value) same could)
    ]

pub returns : goal.returns
returns g c untrue =
    taken_by_none (g.R.Reader.reading c.args.reader.now) c.args.book.now c.args.cut.now c.args.value
    c.loop-caller.caller (omega (arith, c.callers-caller-end.ensures.count)) c.loop-caller.invariant
