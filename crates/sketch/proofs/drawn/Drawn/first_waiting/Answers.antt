use Rattle.std.proofs.Common.{◌≡◌, ℕ, ◌+◌, sym, ap, subst, arith}
use Rattle.book_base.specs.declared.call.Call.{Call}
use Rattle.book_base.specs.Book.{IsAnswered}
use Rattle.book_base.specs.Next.{next_call}
use Rattle.sketch.proofs.Waiting.{IsFirstUpTo, first-more, first-more_only, first-more_none, first_of_all_callers}
use Rattle.sketch.proofs.drawn.Drawn.first_waiting.Goals as goal
use Rattle.sketch.proofs.drawn.Drawn.first_waiting.Goals.{then-number-answers+in-Some, then-number-answers+in-None, else-number-answers}

pub loop-caller-preserved : goal.loop-caller-preserved
loop-caller-preserved c =
    let book = c.args.book.now in
    let returned = c.args.self.now.returned in
    let caller = c.loop-caller.caller in
    let call : Call = record { caller = caller; number = c.get-number.result } in
    let next : call ≡ next_call returned caller =
    ap (λ (n : ℕ). let made : Call = record { caller = caller; number = n } in made)
    c.get-number.ensures in
    elim c.if-number-answers.branch [
      | then-number-answers+in-Some w ↦
          subst (IsFirstUpTo book returned (caller + 1)) (sym w.first-is)
          (first-more book returned caller w.in-Some.other call w.earlier.result
          (omega (arith, w.if-number-answers.true, c.answers.ensures)) next
          (subst (IsFirstUpTo book returned caller) w.in-Some.is c.loop-caller.invariant)
          w.earlier.ensures)
      | then-number-answers+in-None w ↦
          subst (IsFirstUpTo book returned (caller + 1)) (sym w.first-is)
          (first-more_only book returned caller call
          (omega (arith, w.if-number-answers.true, c.answers.ensures)) next
          (subst (IsFirstUpTo book returned caller) w.in-None.is c.loop-caller.invariant))
      | else-number-answers w ↦
          subst (IsFirstUpTo book returned (caller + 1)) (sym w.first-is)
          (first-more_none book returned caller c.loop-caller.first
          (λ (is : IsAnswered book (next_call returned caller)). absurd
          (omega (arith, is, c.get-number.ensures, c.answers.ensures, w.if-number-answers.false)))
          c.loop-caller.invariant)
    ]

pub returns-clause-first : goal.returns-clause-first
returns-clause-first c =
    first_of_all_callers c.args.book.now c.callers-caller-end.ensures.valid c.args.self.now.returned
    c.loop-caller.caller c.loop-caller.first
    (omega (
      arith,
      c.callers-caller-end.ensures.count,
      c.loop-caller.auto.caller-end,
      c.loop-caller-test.false,
    )) c.loop-caller.invariant
