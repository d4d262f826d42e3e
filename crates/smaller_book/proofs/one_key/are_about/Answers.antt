use Rattle.std.proofs.Common.{◌≡◌, ℕ, ◌<◌, ◌∙◌, Some, refl, sym, subst, inl, inr, arith}
use Rattle.std.proofs.lemmas.Bool.{cases_eq, true≢false}
use Rattle.book_base.specs.Book.{calls_of}
use Rattle.book_base.proofs.PageLemmas.{caller_from_call}
use Rattle.smaller_book.specs.Keys.{key_of_call}
use Rattle.smaller_book.proofs.one_key.are_about.Goals as goal

pub loop-caller-preserved : goal.loop-caller-preserved
loop-caller-preserved c call inside below =
    let Then : ℕ → Type 0 = λ caller. call.number < calls_of c.args.book.now caller
    → key_of_call c.args.kind c.args.book.now (record { caller = caller; number = call.number })
    ≡ Some c.args.key in
    elim (cases_eq call.caller c.loop-caller.caller) [
      | inl e ↦ subst Then (sym e)
          (c.are_about_of.ensures.0 c.if-not-are_about_of.false call.number) inside
      | inr other ↦ c.loop-caller.invariant call inside (omega (arith, below, other))
    ]

pub returns-then-not-are_about_of : goal.returns-then-not-are_about_of
returns-then-not-are_about_of c = (
  λ wrong. absurd (true≢false (sym wrong)),
  λ all. absurd (true≢false (sym (c.are_about_of.ensures.1 (λ number inside.
      all (record { caller = c.loop-caller.caller; number = number }) inside))
      ∙ c.if-not-are_about_of.true)),
)

pub returns : goal.returns
returns c = (
  λ right call inside.
      let there : call.caller < c.loop-caller.caller = omega (
        arith,
        caller_from_call c.args.book.now call.caller call.number inside,
        c.loop-caller-test.false,
        c.callers-caller-end.ensures.count,
      ) in
      c.loop-caller.invariant call inside there,
  λ all. refl,
)
