use Rattle.std.proofs.Common.{ℕ, sym, subst, inl, inr, arith}
use Rattle.std.specs.Prelude.{IfNone}
use Rattle.std.proofs.lemmas.Bool.{cases_eq}
use Rattle.seq_objects.specs.Objects.{kind_spec}
use Rattle.smaller_book.specs.ReadOnly.{IsReadOnly}
use Rattle.smaller_book.specs.Minimal.{IsNeeded}
use Rattle.smaller_book.proofs.removal.without_one.Goals as goal

pub loop-caller-preserved : goal.loop-caller-preserved
loop-caller-preserved c call late below leaves =
    let kind = c.args.kind in
    let next = (kind_spec c.args.kind).next in
    let book = c.args.book.now in
    let i = c.loop-caller.caller in
    elim (cases_eq call.caller i) [
      | inl e ↦
          let all : (number : ℕ) → IsReadOnly next book (record { caller = i; number = number })
          → IsNeeded kind book (record { caller = i; number = number })
          = subst (λ o.
          IfNone o ((number : ℕ) → IsReadOnly next book (record { caller = i; number = number })
          → IsNeeded kind book (record { caller = i; number = number })))
          c.in-None.is c.in_ok-found.ensures.none in
          let P : ℕ → Type 0 =
          λ j. IsReadOnly next book (record { caller = j; number = call.number })
          → IsNeeded kind book (record { caller = j; number = call.number }) in
          subst P (sym e) (all call.number) leaves
      | inr other ↦ c.loop-caller.invariant call late (omega (arith, below, other)) leaves
    ]
