use Rattle.std.proofs.Common.{◌≡◌, ℕ, ◌+◌, ◌<◌, ◌≤◌, ◌∙◌, List, length, get_or, sym, ap, subst, inl, inr, arith}
use Rattle.std.proofs.lemmas.List.{length-map}
use Rattle.std.proofs.lemmas.Bool.{cases_eq}
use Rattle.book_base.specs.declared.call.Call.{Call}
use Rattle.book_base.specs.Book.{Page, calls_of, IsCall, operation_of}
use Rattle.book_base.proofs.PageLemmas.{caller_from_call}
use Rattle.smaller_book.specs.Part.{numbers_of, original}
use Rattle.smaller_book.specs.Numbers.{numbers_in}
use Rattle.smaller_book.proofs.Building.{blank, numbers_in-at, length-rising}
use Rattle.smaller_book.proofs.numbered.part.Goals as goal

pub with_calls-requires : goal.with_calls-requires
with_calls-requires c i =
    let names = numbers_in c.args.numbers.now in
    let few : length (numbers_of names i) ≤ calls_of c.args.book.now i
    = length-rising (numbers_of names i) (calls_of c.args.book.now i) (c.requires.rising i)
    (c.requires.inside i) in
    omega (arith, c.sizes.ensures.counts i, few, c.callers-callers.ensures.small.calls i)

pub loop-caller-init : goal.loop-caller-init
loop-caller-init c =
    let new = blank c.in_ok-part.part c.sizes.result c.in_ok-part.ensures in (
      new.0 ∙ c.sizes.ensures.wide,
      λ i. new.1 i ∙ c.sizes.ensures.counts i,
      new.2,
      λ call less. absurd (omega arith),
    )

pub put_operations-requires-clause-inside : goal.put_operations-requires-clause-inside
put_operations-requires-clause-inside c =
    let names = numbers_in c.args.numbers.now in
    let i = c.loop-caller.caller in
    let rows : i < length c.args.numbers.now =
    omega (arith, c.requires.wide, length-map c.args.numbers.now (λ row. row.items)) in
    let own : numbers_of names i ≡ c.deref.result.now =
    numbers_in-at c.args.numbers.now i c.index-numbers-caller.result rows c.index-numbers-caller.is
    ∙ sym c.deref.ensures.value in
    subst (λ (xs : List ℕ). (k : ℕ) → k < length xs → get_or xs k 0 < calls_of c.args.book.now i)
    own (c.requires.inside i)

pub loop-caller-preserved : goal.loop-caller-preserved
loop-caller-preserved c =
    let book = c.args.book.now in
    let names = numbers_in c.args.numbers.now in
    let i = c.loop-caller.caller in
    let inv = c.loop-caller.invariant in
    let put = c.put_operations.ensures in
    let new : List Page = c.put_operations.new.part in
    let rows : i < length c.args.numbers.now =
    omega (arith, c.requires.wide, length-map c.args.numbers.now (λ row. row.items)) in
    let own : numbers_of names i ≡ c.deref.result.now =
    numbers_in-at c.args.numbers.now i c.index-numbers-caller.result rows c.index-numbers-caller.is
    ∙ sym c.deref.ensures.value in (
      put.callers ∙ inv.0,
      λ j. put.calls j ∙ inv.1 j,
      λ j. ap length (put.records j) ∙ inv.2 j,
      λ (call : Call) (less : call.caller < i + 1) (inside : IsCall new call).
          elim (cases_eq call.caller i) [
            | inl e ↦
                let P : ℕ → Type 0 =
                λ j. operation_of new (record { caller = j; number = call.number })
                ≡ operation_of book
                (original names (record { caller = j; number = call.number })) in
                let Q : List ℕ → Type 0 =
                λ xs. (k : ℕ) → k < length xs → operation_of new (record { caller = i; number = k })
                ≡ operation_of book (record { caller = i; number = get_or xs k 0 }) in
                let all : Q (numbers_of names i) = subst Q (sym own) put.put in
                let there : call.number < length (numbers_of names i) = omega (
                  arith,
                  inside,
                  put.calls call.caller,
                  inv.1 call.caller,
                  ap (λ (j : ℕ). length (numbers_of names j)) e,
                ) in
                subst P (sym e) (all call.number there)
            | inr other ↦ put.others call other
                ∙ inv.3 call (omega (arith, less, other))
                (omega (arith, inside, put.calls call.caller))
          ],
    )

pub returns-clause-answers : goal.returns-clause-answers
returns-clause-answers c call inside answered =
    let inv = c.loop-answering.invariant in
    inv.2 call (omega
    (arith, caller_from_call c.loop-answering.part call.caller call.number inside, inv.0.callers))
    inside answered
