use Rattle.std.proofs.Common.{◌≡◌, ℕ, Some, sym, subst, inl, inr, arith}
use Rattle.std.specs.Prelude.{IfNone}
use Rattle.std.specs.List.{All}
use Rattle.std.proofs.lemmas.Bool.{cases_eq}
use Rattle.smaller_book.specs.Keys.{key_of_call}
use Rattle.smaller_book.specs.Minimal.{IsKeyNeeded}
use Rattle.smaller_book.proofs.keyless.without_key_of_caller.Goals as goal

pub loop-number-preserved : goal.loop-number-preserved
loop-number-preserved c =
    let kind = c.args.kind in
    let book = c.args.book.now in
    let i = c.args.caller in
    let n = c.loop-number.number in
    let still : All (IsKeyNeeded kind book) c.without_key_of.new.needed.items =
    subst (λ o. IfNone o (All (IsKeyNeeded kind book) c.without_key_of.new.needed.items))
    c.in-None.is c.in_ok-found.ensures.needed in (
      still,
      λ number key below known. elim (cases_eq number n) [
        | inl e ↦
            let all : (k : ℕ) → key_of_call kind book (record { caller = i; number = n }) ≡ Some k
            → IsKeyNeeded kind book k
            = subst
            (λ o. IfNone o ((k : ℕ) → key_of_call kind book (record { caller = i; number = n })
            ≡ Some k → IsKeyNeeded kind book k)) c.in-None.is c.in_ok-found.ensures.none in
            let P : ℕ → Type 0 = λ m. key_of_call kind book (record { caller = i; number = m })
            ≡ Some key → IsKeyNeeded kind book key in
            subst P (sym e) (all key) known
        | inr other ↦ c.loop-number.invariant.1 number key (omega (arith, below, other)) known
      ],
    )
