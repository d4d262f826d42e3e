use Rattle.std.proofs.Common.{◌≡◌, ℕ, ◌<◌, Some, sym, subst, inl, inr, arith}
use Rattle.std.specs.Prelude.{IfNone}
use Rattle.std.specs.List.{All}
use Rattle.std.proofs.lemmas.Bool.{cases_eq}
use Rattle.book_base.specs.Book.{calls_of}
use Rattle.book_base.proofs.PageLemmas.{caller_from_call}
use Rattle.smaller_book.specs.Keys.{key_of_call}
use Rattle.smaller_book.specs.Minimal.{IsKeyNeeded}
use Rattle.smaller_book.proofs.keyless.without_one_key.Goals as goal

pub loop-caller-preserved : goal.loop-caller-preserved
loop-caller-preserved c =
    let kind = c.args.kind in
    let book = c.args.book.now in
    let i = c.loop-caller.caller in
    let still : All (IsKeyNeeded kind book) c.without_key_of_caller.new.needed.items =
    subst (λ o. IfNone o (All (IsKeyNeeded kind book) c.without_key_of_caller.new.needed.items))
    c.in-None.is c.in_ok-found.ensures.needed in (
      still,
      λ call key below inside known. elim (cases_eq call.caller i) [
        | inl e ↦
            let All : Type 0 = (number k : ℕ) → number < calls_of book i
            → key_of_call kind book (record { caller = i; number = number }) ≡ Some k
            → IsKeyNeeded kind book k in
            let all : All = subst (λ o. IfNone o All) c.in-None.is c.in_ok-found.ensures.none in
            let P : ℕ → Type 0 = λ j. call.number < calls_of book j → key_of_call kind book
            (record { caller = j; number = call.number }) ≡ Some key → IsKeyNeeded kind book key in
            subst P (sym e) (all call.number key) inside known
        | inr other ↦ c.loop-caller.invariant.1 call key (omega (arith, below, other)) inside known
      ],
    )

pub returns-clause-none : goal.returns-clause-none
returns-clause-none c may call key inside known =
    let here = caller_from_call c.args.book.now call.caller call.number inside in
    c.loop-caller.invariant.1 call key
    (omega (arith, here, c.callers-caller-end.ensures.count)) inside known
