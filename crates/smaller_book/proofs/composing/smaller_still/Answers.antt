use Rattle.std.proofs.Common.{◌≡◌, ℕ, ◌<◌, List, length, get_or, sym, ap, subst, ◌∙◌}
use Rattle.smaller_book.specs.Part.{numbers_of}
use Rattle.smaller_book.specs.Numbers.{numbers_in, composed}
use Rattle.smaller_book.specs.Minimal.{IsSmaller}
use Rattle.smaller_book.proofs.PartsOfParts.{places_inside}
use Rattle.smaller_book.proofs.Steps.{evidence_part, evidence_wide, smaller_twice}
use Rattle.smaller_book.proofs.composing.smaller_still.Goals as goal

pub numbers_through-requires-clause-callers : goal.numbers_through-requires-clause-callers
numbers_through-requires-clause-callers c =
    ap length c.deref.ensures.value
    ∙ (evidence_wide c.args.kind c.args.book.now c.args.smaller.book c.args.next.book
    c.args.smaller.numbers.items c.args.next.numbers.items c.requires.first.evidence
    c.requires.second.evidence
    ∙ sym (ap length c.deref-2.ensures.value))

pub numbers_through-requires-clause-inside : goal.numbers_through-requires-clause-inside
numbers_through-requires-clause-inside c =
    let smaller = c.args.smaller in
    let next = c.args.next in
    let all =
    places_inside c.args.book.now smaller.book next.book (numbers_in smaller.numbers.items)
    (numbers_in next.numbers.items)
    (evidence_part c.args.kind c.args.book.now (numbers_in smaller.numbers.items) smaller.book
    c.requires.first.evidence)
    (evidence_part c.args.kind smaller.book (numbers_in next.numbers.items) next.book
    c.requires.second.evidence) in
    let P : List (List ℕ) → List (List ℕ) → Type 0 =
    λ first second. (i k : ℕ) → k < length (numbers_of second i)
    → get_or (numbers_of second i) k 0 < length (numbers_of first i) in
    subst (λ rows. P (numbers_in rows) (numbers_in c.deref-2.result.now))
    (sym c.deref.ensures.value)
    (subst (λ rows. P (numbers_in smaller.numbers.items) (numbers_in rows))
    (sym c.deref-2.ensures.value) all)

pub returns-clause-smaller : goal.returns-clause-smaller
returns-clause-smaller c =
    let book = c.args.book.now in
    let smaller = c.args.smaller in
    let next = c.args.next in
    let first : List (List ℕ) = numbers_in smaller.numbers.items in
    let second : List (List ℕ) = numbers_in next.numbers.items in
    let whole : IsSmaller c.args.kind book (composed first second) next.book
    = smaller_twice c.args.kind book smaller.book next.book first second c.requires.first
    c.requires.second in
    let same : numbers_in c.in_ok-numbers.numbers.items ≡ composed first second
    = c.in_ok-numbers.ensures
    ∙ (ap (λ rows. composed (numbers_in rows) (numbers_in c.deref-2.result.now))
    c.deref.ensures.value
    ∙ ap (λ rows. composed first (numbers_in rows)) c.deref-2.ensures.value) in
    subst (λ names. IsSmaller c.args.kind book names next.book) (sym same) whole
