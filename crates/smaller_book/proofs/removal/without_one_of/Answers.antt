use Rattle.std.proofs.Common.{ℕ, sym, subst, inl, inr, arith}
use Rattle.std.specs.Prelude.{IfNone}
use Rattle.std.proofs.lemmas.Bool.{cases_eq}
use Rattle.seq_objects.specs.Objects.{kind_next}
use Rattle.smaller_book.specs.ReadOnly.{IsReadOnly}
use Rattle.smaller_book.specs.Minimal.{IsNeeded}
use Rattle.smaller_book.proofs.removal.without_one_of.Goals as goal

pub loop-number-preserved : goal.loop-number-preserved
loop-number-preserved c k below leaves =
    let kind = c.args.kind in
    let book = c.args.book.now in
    let i = c.args.caller in
    let Then : ℕ → Type 0 =
    λ j. IsReadOnly (kind_next kind) book (record { caller = i; number = j })
    → IsNeeded kind book (record { caller = i; number = j }) in
    elim (cases_eq k c.loop-number.number) [
      | inl e ↦
          let here : Then c.loop-number.number =
          subst (λ o. IfNone o (Then c.loop-number.number)) c.in-None.is
          c.in_ok-found.ensures.none in
          subst Then (sym e) here leaves
      | inr other ↦ c.loop-number.invariant k (omega (arith, below, other)) leaves
    ]

pub returns-clause-none : goal.returns-clause-none
returns-clause-none c number leaves =
    c.loop-number.invariant number (omega (arith, leaves.0)) leaves
