use Rattle.std.proofs.Common.{◌-◌, arith}
use Rattle.book_base.specs.declared.call.Call.{Call}
use Rattle.search_hints.proofs.OneOpen.{open_more-none, open_more-last, open_all}
use Rattle.search_hints.proofs.one_open.has_one_open.Goals as goal
use Rattle.search_hints.proofs.one_open.has_one_open.Goals.{then-answers-gt0+else-not-holds_one_open, else-answers-gt0}

pub returns-then-not-holds_one_open-clause-more : goal.returns-then-not-holds_one_open-clause-more
returns-then-not-holds_one_open-clause-more c _ one =
    let last : Call =
    record { caller = c.loop-caller.caller; number = c.answers-answers.result - 1 } in
    let more = c.holds_one_open.ensures.more c.if-not-holds_one_open.true in
    omega (arith, more.1, one last c.record.result more.0 c.record.ensures.record)

pub loop-caller-preserved : goal.loop-caller-preserved
loop-caller-preserved c =
    let book = c.args.book.now in
    let caller = c.loop-caller.caller in
    elim c.if-answers-gt0.branch [
      | then-answers-gt0+else-not-holds_one_open w ↦
          open_more-last book caller (c.answers-answers.result - 1) w.record.result
          c.callers-caller-end.ensures.valid c.loop-caller.invariant
          (omega (arith, c.answers-answers.ensures)) w.record.ensures.record
          (w.holds_one_open.ensures.one w.if-not-holds_one_open.false)
      | else-answers-gt0 w ↦ open_more-none book caller c.loop-caller.invariant
          (omega (arith, c.answers-answers.ensures))
    ]

pub returns-clause-one : goal.returns-clause-one
returns-clause-one c _ = open_all c.args.book.now c.loop-caller.caller
    (omega (arith, c.callers-caller-end.ensures.count)) c.loop-caller.invariant
