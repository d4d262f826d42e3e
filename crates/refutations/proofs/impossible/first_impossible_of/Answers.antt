use Rattle.std.proofs.Common.{◌≡◌, ℕ, ◌∙◌, true≢false, sym, subst, inl, inr, arith}
use Rattle.std.proofs.lemmas.Bool.{cases_lt}
use Rattle.seq_objects.specs.Objects.{kind_spec}
use Rattle.refutations.specs.Impossible.{IsImpossible}
use Rattle.refutations.proofs.Replies.{answered_if_impossible}
use Rattle.refutations.proofs.impossible.first_impossible_of.Goals as goal

pub loop-number-preserved : goal.loop-number-preserved
loop-number-preserved c k less it = elim (cases_lt k c.loop-number.number) [
  | inl below ↦ c.loop-number.invariant k below it
  | inr not_below ↦
      let same : k ≡ c.loop-number.number = omega (arith, less, not_below) in
      absurd (true≢false (sym (c.has_impossible_reply.ensures.impossible.1 (subst
      (λ (n : ℕ). IsImpossible (kind_spec c.args.kind) c.args.book.now
      (record { caller = c.args.caller; number = n })) same it))
      ∙ c.if-has_impossible_reply.false))
]

pub returns-clause-none : goal.returns-clause-none
returns-clause-none c k it =
    let answered = answered_if_impossible (kind_spec c.args.kind) c.args.book.now
    (record { caller = c.args.caller; number = k }) it in
    c.loop-number.invariant k
    (omega (arith, answered, c.loop-number-test.false, c.answers-number-end.ensures)) it
