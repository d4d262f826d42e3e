use Rattle.std.proofs.Common.{◌≡◌, refl, subst, inl, inr, arith}
use Rattle.std.proofs.lemmas.Bool.{cases_lt}
use Rattle.book_base.specs.declared.call.Call.{Call}
use Rattle.book_base.proofs.ViewLemmas.{same_call}
use Rattle.seq_objects.specs.Objects.{kind_spec}
use Rattle.refutations.specs.Impossible.{IsImpossible}
use Rattle.refutations.proofs.Replies.{caller_if_impossible}
use Rattle.refutations.proofs.impossible.first_impossible.Goals as goal

pub returns-in-Some-clause-least : goal.returns-in-Some-clause-least
returns-in-Some-clause-least c other less it = elim less [
  | inl lower ↦ c.loop-caller.invariant other lower it
  | inr here ↦
      c.in-Some.ensures.least other.number here.1 (subst
      (λ (x : Call). IsImpossible (kind_spec c.args.kind) c.args.book.now x)
      (same_call other (record { caller = c.loop-caller.caller; number = other.number }) here.0
      refl) it)
]

pub loop-caller-preserved : goal.loop-caller-preserved
loop-caller-preserved c call less it = elim (cases_lt call.caller c.loop-caller.caller) [
  | inl below ↦ c.loop-caller.invariant call below it
  | inr not_below ↦
      let same : call.caller ≡ c.loop-caller.caller = omega (arith, less, not_below) in
      c.in_default.ensures.none call.number (subst
      (λ (x : Call). IsImpossible (kind_spec c.args.kind) c.args.book.now x)
      (same_call call (record { caller = c.loop-caller.caller; number = call.number }) same
      refl) it)
]

pub returns-clause-none : goal.returns-clause-none
returns-clause-none c call it =
    let there = caller_if_impossible (kind_spec c.args.kind) c.args.book.now call it in
    c.loop-caller.invariant call
    (omega (arith, there, c.loop-caller-test.false, c.callers-caller-end.ensures.count)) it
