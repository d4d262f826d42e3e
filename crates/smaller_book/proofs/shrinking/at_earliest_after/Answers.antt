use Rattle.std.proofs.Common.{◌≡◌, ℕ, ◌<◌, List, length, get_or, sym, ap, subst, ◌∙◌, arith}
use Rattle.smaller_book.specs.Part.{numbers_of}
use Rattle.smaller_book.specs.Numbers.{numbers_in, composed}
use Rattle.smaller_book.specs.Minimal.{IsShrunk}
use Rattle.smaller_book.proofs.Removing.{size-within}
use Rattle.smaller_book.proofs.PartsOfParts.{places_inside}
use Rattle.smaller_book.proofs.Steps.{evidence_part, evidence_wide, shrunk_twice}
use Rattle.smaller_book.proofs.shrinking.at_earliest_after.Goals as goal

pub numbers_through-requires-clause-callers : goal.numbers_through-requires-clause-callers
numbers_through-requires-clause-callers c =
    ap length c.deref.ensures.value
    ∙ (evidence_wide c.args.kind c.args.book.now c.args.without.book c.in_ok-part.part.book
    c.args.without.numbers.items c.in_ok-part.part.numbers.items c.requires.evidence
    c.in_ok-part.ensures.evidence
    ∙ sym (ap length c.deref-2.ensures.value))

pub numbers_through-requires-clause-inside : goal.numbers_through-requires-clause-inside
numbers_through-requires-clause-inside c =
    let without = c.args.without in
    let part = c.in_ok-part.part in
    let all =
    places_inside c.args.book.now without.book part.book (numbers_in without.numbers.items)
    (numbers_in part.numbers.items)
    (evidence_part c.args.kind c.args.book.now (numbers_in without.numbers.items) without.book
    c.requires.evidence)
    (evidence_part c.args.kind without.book (numbers_in part.numbers.items) part.book
    c.in_ok-part.ensures.evidence) in
    let P : List (List ℕ) → List (List ℕ) → Type 0 =
    λ first second. (i k : ℕ) → k < length (numbers_of second i)
    → get_or (numbers_of second i) k 0 < length (numbers_of first i) in
    subst (λ rows. P (numbers_in rows) (numbers_in c.deref-2.result.now))
    (sym c.deref.ensures.value)
    (subst (λ rows. P (numbers_in without.numbers.items) (numbers_in rows))
    (sym c.deref-2.ensures.value) all)

pub returns-clause-shrunk : goal.returns-clause-shrunk
returns-clause-shrunk c =
    let kind = c.args.kind in
    let book = c.args.book.now in
    let without = c.args.without in
    let part = c.in_ok-part.part in
    let first : List (List ℕ) = numbers_in without.numbers.items in
    let second : List (List ℕ) = numbers_in part.numbers.items in
    let whole : IsShrunk kind book (composed first second) part.book
    = shrunk_twice kind book without.book part.book first second c.requires.evidence
    c.in_ok-part.ensures in
    let same : numbers_in c.in_ok-numbers.numbers.items ≡ composed first second
    = c.in_ok-numbers.ensures
    ∙ (ap (λ rows. composed (numbers_in rows) (numbers_in c.deref-2.result.now))
    c.deref.ensures.value
    ∙ ap (λ rows. composed first (numbers_in rows)) c.deref-2.ensures.value) in
    subst (λ names. IsShrunk kind book names part.book) (sym same) whole

pub returns-clause-fewer : goal.returns-clause-fewer
returns-clause-fewer c =
    let without = c.args.without in
    let part = c.in_ok-part.part in
    omega (
      arith,
      size-within without.book
          (numbers_in part.numbers.items) part.book
          (evidence_part c.args.kind without.book (numbers_in part.numbers.items) part.book
          c.in_ok-part.ensures.evidence),
      c.requires.fewer,
    )
