use Rattle.std.proofs.Common.{◌≡◌, ℕ, ◌<◌, ◌∙◌, Option, IfSome, IfNone, sym, subst, inl, inr, arith}
use Rattle.std.proofs.lemmas.Bool.{cases_eq}
use Rattle.list_laws.proofs.Options.{none_from_is_some, some_from_is_some}
use Rattle.book_base.specs.declared.call.Call.{Call}
use Rattle.book_base.specs.Book.{IsCall, calls_of}
use Rattle.book_base.proofs.PageLemmas.{caller_from_call}
use Rattle.smaller_book.specs.Numbers.{numbers_in}
use Rattle.smaller_book.specs.Settings.{StaysOrMayGo, IsFirstSeen}
use Rattle.smaller_book.proofs.unseen_calls.first_seen.Goals as goal

pub returns-then-is_some-clause-first : goal.returns-then-is_some-clause-first
returns-then-is_some-clause-first c =
    let kind = c.args.kind in
    let book = c.args.book.now in
    let names = numbers_in c.args.numbers.now in
    let i = c.loop-caller.caller in
    let found = c.first_seen_of-found.ensures in
    let (call, is) = some_from_is_some c.first_seen_of-found.result
    (sym c.is_some.ensures ∙ c.if-is_some.true) in
    let has : (P : Call → Type 0) → IfSome c.first_seen_of-found.result P → P call =
    λ P all. subst (λ (o : Option Call). IfSome o P) is all in
    let caller : call.caller ≡ i = has (λ call. call.caller ≡ i) found.caller in
    subst (λ (o : Option Call). IfSome o (IsFirstSeen kind book names)) (sym is) (record {
      is_call = has (IsCall book) found.is_call;
      seen = has (λ call. ¬ StaysOrMayGo kind book names call) found.seen;
      earlier_callers = λ other inside below.
          c.loop-caller.invariant other inside (omega (arith, below, caller));
      earlier_calls = λ number below. subst (λ (j : ℕ).
          StaysOrMayGo kind book names (record { caller = j; number = number })) (sym caller)
          (has (λ call. (number : ℕ) → number < call.number
          → StaysOrMayGo kind book names (record { caller = i; number = number }))
          found.earlier number below);
    })

pub loop-caller-preserved : goal.loop-caller-preserved
loop-caller-preserved c call inside below =
    let kind = c.args.kind in
    let book = c.args.book.now in
    let names = numbers_in c.args.numbers.now in
    let i = c.loop-caller.caller in
    let Then : ℕ → ℕ → Type 0 = λ caller number. number < calls_of book caller
    → StaysOrMayGo kind book names (record { caller = caller; number = number }) in
    elim (cases_eq call.caller i) [
      | inl e ↦ subst (λ (caller : ℕ). Then caller call.number) (sym e)
          (subst (λ (o : Option Call). IfNone o ((number : ℕ) → Then i number))
          (none_from_is_some c.first_seen_of-found.result
          (sym c.is_some.ensures ∙ c.if-is_some.false)) c.first_seen_of-found.ensures.none
          call.number) inside
      | inr other ↦ c.loop-caller.invariant call inside (omega (arith, below, other))
    ]

pub returns-clause-none : goal.returns-clause-none
returns-clause-none c call inside =
    let there : call.caller < c.loop-caller.caller = omega (
      arith,
      caller_from_call c.args.book.now call.caller call.number inside,
      c.loop-caller-test.false,
      c.callers-caller-end.ensures.count,
    ) in
    c.loop-caller.invariant call inside there
