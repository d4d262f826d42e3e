use Rattle.std.proofs.Common.{◌+◌, ℕ, Option, sym, subst, arith}
use Rattle.book_base.specs.Book.{IsAnswered}
use Rattle.book_base.specs.Next.{next_call}
use Rattle.search_hints.proofs.Least.{LeastSoFar, so_far-start, so_far-new, so_far-not_before, so_far-not_open, so_far-answered, so_far-some, so_far-none}
use Rattle.search_hints.proofs.next.least_open.Goals as goal
use Rattle.search_hints.proofs.next.least_open.Goals.{then-from-answers+then-is_before, else-from-answers, else-from-answers-via-then-from-answers+else-is_before, else-from-answers-via-else-from-answers}

pub loop-caller-init : goal.loop-caller-init
loop-caller-init c = so_far-start c.args.book.now c.args.counts.now

pub loop-caller-preserved : goal.loop-caller-preserved
loop-caller-preserved c =
    let book = c.args.book.now in
    let cut = c.args.counts.now in
    let caller = c.loop-caller.caller in
    elim c.if-from-answers.branch [
      | then-from-answers+then-is_before w ↦
          let «open» : IsAnswered book (next_call cut caller) =
          omega (arith, c.from.ensures, c.answers.ensures) in
          subst (λ (o : Option ℕ). LeastSoFar book cut (caller + 1) o) (sym w.least-is)
          (so_far-new book cut caller c.loop-caller.least c.loop-caller.invariant «open»
          (w.is_before.ensures.0 w.if-is_before.true))
      | else-from-answers w ↦
          subst (λ (o : Option ℕ). LeastSoFar book cut (caller + 1) o) (sym w.least-is)
          (elim w.else-from-answers.branch [
            | else-from-answers-via-then-from-answers+else-is_before v ↦
                so_far-not_before book cut caller c.loop-caller.least
                c.callers-caller-end.ensures.valid c.loop-caller.invariant
                (λ before. absurd (let e = v.is_before.ensures.1 before in cc))
            | else-from-answers-via-else-from-answers v ↦
                so_far-not_open book cut caller c.loop-caller.least c.loop-caller.invariant
                (λ (there : IsAnswered book (next_call cut caller)).
                absurd (omega (arith, c.from.ensures, c.answers.ensures, there)))
          ])
    ]

pub is_before-requires-clause-other : goal.is_before-requires-clause-other
is_before-requires-clause-other c = so_far-answered c.args.book.now c.args.counts.now
    c.loop-caller.caller c.loop-caller.least c.loop-caller.invariant

pub returns-clause-least : goal.returns-clause-least
returns-clause-least c =
    so_far-some c.args.book.now c.args.counts.now c.loop-caller.caller c.loop-caller.least
    (omega (arith, c.callers-caller-end.ensures.count)) c.loop-caller.invariant

pub returns-clause-none : goal.returns-clause-none
returns-clause-none c =
    so_far-none c.args.book.now c.args.counts.now c.loop-caller.caller c.loop-caller.least
    (omega (arith, c.callers-caller-end.ensures.count)) c.loop-caller.invariant
