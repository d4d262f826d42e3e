use Rattle.std.proofs.Common.{◌≤◌, ◌⊎◌, length, inl, inr, arith}
use Rattle.book_base.specs.Book.{calls_of}
use Rattle.list_pruning.proofs.Writing.{no_call_writes, no_value_writes}
use Rattle.list_pruning.proofs.outside.writes_outside.Goals as goal
use Rattle.list_pruning.proofs.outside.writes_outside.Goals.{then-call-callers-via-then-call-callers, then-call-callers-via-else-call-callers+then-call-calls}

pub returns-then-call-callers : goal.returns-then-call-callers
returns-then-call-callers g c =
    let book = c.args.book.now in
    let call = c.args.call in
    let past : (length book ≤ call.caller) ⊎ (calls_of book call.caller ≤ call.number) =
    elim c.then-call-callers.branch [
      | then-call-callers-via-then-call-callers w ↦
          inl (omega (arith, w.if-call-callers.true, c.callers.ensures.count))
      | then-call-callers-via-else-call-callers+then-call-calls w ↦
          inr (omega (arith, w.calls.ensures, w.if-call-calls.true))
    ] in
    no_call_writes (g.R.Reader.reading c.args.reader.now) book c.args.cut.now c.args.value call past

pub returns-in-None : goal.returns-in-None
returns-in-None g c = no_value_writes (g.R.Reader.reading c.args.reader.now) c.args.book.now
    c.args.cut.now c.args.value c.args.call c.in-None.ensures.none
