use Rattle.std.proofs.Common.{◌≡◌, ℕ, get_or, refl, subst, inl, inr, arith}
use Rattle.std.proofs.lemmas.Bool.{cases_lt}
use Rattle.book_base.proofs.ViewLemmas.{same_call}
use Rattle.smaller_book.specs.Part.{numbers_of}
use Rattle.smaller_book.specs.Numbers.{numbers_in}
use Rattle.refutation_text.proofs.part_steps.call_in.Goals as goal

pub returns-then-number_of-named-clause-found : goal.returns-then-number_of-named-clause-found
returns-then-number_of-named-clause-found c = record {
  inside = omega arith;
  is = same_call _ _ refl (omega (arith, c.number_of.ensures, c.if-number_of-named.true));
}

pub loop-number-preserved : goal.loop-number-preserved
loop-number-preserved c = λ k less same.
    elim (cases_lt k c.loop-number.number) [
      | inl before ↦ c.loop-number.invariant k before same
      | inr here ↦
          let at : k ≡ c.loop-number.number = omega arith in
          let there = subst (λ (j : ℕ). get_or (numbers_of
          (numbers_in c.args.left.now.numbers.items) c.args.named.caller) j 0
          ≡ c.args.named.number) at same in
          omega (arith, there, c.number_of.ensures, c.if-number_of-named.false)
    ]
