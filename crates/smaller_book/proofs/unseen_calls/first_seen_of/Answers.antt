use Rattle.std.proofs.Common.{ℕ, sym, subst, inl, inr, arith}
use Rattle.std.proofs.lemmas.Bool.{cases_eq}
use Rattle.smaller_book.specs.Numbers.{numbers_in}
use Rattle.smaller_book.specs.Settings.{StaysOrMayGo}
use Rattle.smaller_book.proofs.unseen_calls.first_seen_of.Goals as goal

pub loop-number-preserved : goal.loop-number-preserved
loop-number-preserved c number below = elim (cases_eq number c.loop-number.number) [
  | inl e ↦ subst (λ (n : ℕ). StaysOrMayGo c.args.kind c.args.book.now
      (numbers_in c.args.numbers.now) (record { caller = c.args.caller; number = n })) (sym e)
      (c.stays_or_may_go.ensures.0 c.if-not-stays_or_may_go.false)
  | inr other ↦ c.loop-number.invariant number (omega (arith, below, other))
]
