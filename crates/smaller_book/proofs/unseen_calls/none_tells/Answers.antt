use Rattle.std.proofs.Common.{◌≡◌, ℕ, ◌<◌, ◌∙◌, length, get_or, refl, sym, subst, inl, inr, arith}
use Rattle.std.proofs.lemmas.Bool.{cases_eq, true≢false}
use Rattle.std.proofs.lemmas.List.{length-map}
use Rattle.book_base.specs.Book.{calls_of}
use Rattle.book_base.proofs.PageLemmas.{caller_from_call}
use Rattle.smaller_book.specs.Part.{numbers_of, IsNamed}
use Rattle.smaller_book.specs.Numbers.{numbers_in}
use Rattle.smaller_book.specs.Settings.{CannotTell}
use Rattle.smaller_book.proofs.Building.{numbers_in-at}
use Rattle.smaller_book.proofs.unseen_calls.none_tells.Goals as goal

pub none_of_tells-requires-clause-inside : goal.none_of_tells-requires-clause-inside
none_of_tells-requires-clause-inside c =
    let names = numbers_in c.args.numbers.now in
    let i = c.loop-caller.caller in
    let rows : i < length c.args.numbers.now = omega (
      arith,
      c.loop-caller-test.true,
      c.callers-caller-end.ensures.count,
      c.requires.numbers.wide,
      length-map c.args.numbers.now (λ row. row.items),
    ) in
    let own : numbers_of names i ≡ c.deref.result.now =
    numbers_in-at c.args.numbers.now i c.index-numbers-caller.result rows c.index-numbers-caller.is
    ∙ sym c.deref.ensures.value in
    subst (λ xs. (k : ℕ) → k < length xs → get_or xs k 0 < calls_of c.args.book.now i) own
    (c.requires.numbers.inside i)

pub loop-caller-preserved : goal.loop-caller-preserved
loop-caller-preserved c call below named =
    let names = numbers_in c.args.numbers.now in
    let i = c.loop-caller.caller in
    let rows : i < length c.args.numbers.now = omega (
      arith,
      c.loop-caller-test.true,
      c.callers-caller-end.ensures.count,
      c.requires.numbers.wide,
      length-map c.args.numbers.now (λ row. row.items),
    ) in
    let own : numbers_of names i ≡ c.deref.result.now =
    numbers_in-at c.args.numbers.now i c.index-numbers-caller.result rows c.index-numbers-caller.is
    ∙ sym c.deref.ensures.value in
    let Hidden : ℕ → ℕ → Type 0 =
    λ caller number. CannotTell c.args.kind c.args.book.now c.args.setting c.args.item
    (record { caller = caller; number = number }) in
    let Then : ℕ → Type 0 =
    λ caller. IsNamed names (record { caller = caller; number = call.number })
    → Hidden caller call.number in
    let here : Then i = λ found.
    let (k, inside, at) =
    subst (λ xs. (k : ℕ) × (k < length xs) × (get_or xs k 0 ≡ call.number)) own found in
    subst (Hidden i) at (c.none_of_tells.ensures.0 c.if-not-none_of_tells.false k inside) in
    elim (cases_eq call.caller i) [
      | inl e ↦ subst Then (sym e) here named
      | inr other ↦ c.loop-caller.invariant call (omega (arith, below, other)) named
    ]

pub returns-then-not-none_of_tells : goal.returns-then-not-none_of_tells
returns-then-not-none_of_tells c =
    let names = numbers_in c.args.numbers.now in
    let i = c.loop-caller.caller in
    let row = c.deref.result.now in
    let rows : i < length c.args.numbers.now = omega (
      arith,
      c.loop-caller-test.true,
      c.callers-caller-end.ensures.count,
      c.requires.numbers.wide,
      length-map c.args.numbers.now (λ row. row.items),
    ) in
    let own : numbers_of names i ≡ row =
    numbers_in-at c.args.numbers.now i c.index-numbers-caller.result rows c.index-numbers-caller.is
    ∙ sym c.deref.ensures.value in (
      λ wrong. absurd (true≢false (sym wrong)),
      λ all. absurd (true≢false (sym (c.none_of_tells.ensures.1 (λ k inside.
          all (record { caller = i; number = get_or row k 0 })
          (subst (λ xs. (k : ℕ) → k < length xs → get_or xs k 0 < calls_of c.args.book.now i) own
          (c.requires.numbers.inside i) k inside)
          (subst (λ xs. (j : ℕ) × (j < length xs) × (get_or xs j 0 ≡ get_or row k 0)) (sym own)
          (k, inside, refl)))) ∙ c.if-not-none_of_tells.true)),
    )

pub returns : goal.returns
returns c = (
  λ right call inside named.
      let there : call.caller < c.loop-caller.caller = omega (
        arith,
        caller_from_call c.args.book.now call.caller call.number inside,
        c.loop-caller-test.false,
        c.callers-caller-end.ensures.count,
      ) in
      c.loop-caller.invariant call there named,
  λ all. refl,
)
