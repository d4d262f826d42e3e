use Rattle.std.proofs.Common.{◌≡◌, ℕ, List, length, ap, subst, arith}
use Rattle.smaller_book.specs.Numbers.{numbers_in}
use Rattle.refutation_text.specs.declared.refutation.Step.{Step}
use Rattle.refutation_text.specs.Said.{steps_said, ending_said}
use Rattle.refutation_text.specs.Steps.{LeaveAfter}
use Rattle.refutation_text.specs.Verdicts.{EndingFails}
use Rattle.refutation_text.proofs.Judging.{ending_verdict}
use Rattle.refutation_text.proofs.verdict.judge.Goals as goal

pub returns-in-Some : goal.returns-in-Some
returns-in-Some c =
    let read = c.args.read in
    let left = c.in-Ok.left in
    let names = numbers_in left.numbers.items in
    let same : c.deref.result.now ≡ read.steps.items = cc (c.deref.ensures.value) in
    let found = rw c.in-Ok.is at c.in_ok-s.ensures.left in
    let reached : LeaveAfter read.kind read.book (steps_said read.steps.items)
    (length read.steps.items) names left.book
    = subst (λ (xs : List Step).
    LeaveAfter read.kind read.book (steps_said xs) (length xs) names left.book) same found in
    let count : c.len-count.result ≡ length read.steps.items
    = omega (
      arith,
      c.len-count.ensures,
      c.deref.ensures.len,
      ap (λ (xs : List Step). length xs) same,
    ) in
    let fails = rw c.in-Some.is at c.in_ok-fault-in-Ok.ensures.fault in
    ending_verdict read.kind read.book read.steps.items (ending_said read.ending) names left.book
    reached c.in-Some.fault
    (subst (λ (n : ℕ). EndingFails read.kind names left.book n (ending_said read.ending)
    c.in-Some.fault) count fails)
