use Rattle.std.proofs.Common.{rules, ◌≡◌, ℕ, ◌<◌, List, length, get_or, sym, ap, subst, ◌∙◌}
use Rattle.smaller_book.specs.Part.{numbers_of}
use Rattle.smaller_book.specs.Numbers.{numbers_in, composed}
use Rattle.smaller_book.specs.Minimal.{IsShrunk}
use Rattle.smaller_book.proofs.PartsOfParts.{places_inside}
use Rattle.smaller_book.proofs.Steps.{evidence_part, evidence_wide, shrunk_twice}
use Rattle.smaller_book.proofs.shrinking.shrink.Goals as goal

pub numbers_through-requires-clause-callers : goal.numbers_through-requires-clause-callers
numbers_through-requires-clause-callers c =
    let smaller = c.shrinking.smaller in
    let found = c.in-Some.next in
    let shrunk : IsShrunk c.args.kind smaller.book (numbers_in found.numbers.items) found.book =
    search rules in
    ap length c.deref.ensures.value
    ∙ (evidence_wide c.args.kind c.args.book.now smaller.book found.book smaller.numbers.items
    found.numbers.items c.shrinking.invariant.evidence shrunk.evidence
    ∙ sym (ap length c.deref-in-Some.ensures.value))

pub numbers_through-requires-clause-inside : goal.numbers_through-requires-clause-inside
numbers_through-requires-clause-inside c =
    let smaller = c.shrinking.smaller in
    let found = c.in-Some.next in
    let shrunk : IsShrunk c.args.kind smaller.book (numbers_in found.numbers.items) found.book =
    search rules in
    let all =
    places_inside c.args.book.now smaller.book found.book (numbers_in smaller.numbers.items)
    (numbers_in found.numbers.items)
    (evidence_part c.args.kind c.args.book.now (numbers_in smaller.numbers.items) smaller.book
    c.shrinking.invariant.evidence)
    (evidence_part c.args.kind smaller.book (numbers_in found.numbers.items) found.book
    shrunk.evidence) in
    let P : List (List ℕ) → List (List ℕ) → Type 0 =
    λ first second. (i k : ℕ) → k < length (numbers_of second i)
    → get_or (numbers_of second i) k 0 < length (numbers_of first i) in
    subst (λ rows. P (numbers_in rows) (numbers_in c.deref-in-Some.result.now))
    (sym c.deref.ensures.value)
    (subst (λ rows. P (numbers_in smaller.numbers.items) (numbers_in rows))
    (sym c.deref-in-Some.ensures.value) all)

pub shrinking-preserved : goal.shrinking-preserved
shrinking-preserved c =
    let kind = c.args.kind in
    let book = c.args.book.now in
    let smaller = c.shrinking.smaller in
    let found = c.in-Some.next in
    let first : List (List ℕ) = numbers_in smaller.numbers.items in
    let second : List (List ℕ) = numbers_in found.numbers.items in
    let shrunk : IsShrunk kind smaller.book second found.book = search rules in
    let whole : IsShrunk kind book (composed first second) found.book
    = shrunk_twice kind book smaller.book found.book first second c.shrinking.invariant.evidence
    shrunk in
    let same : numbers_in c.in_ok-numbers-in-Some.numbers.items ≡ composed first second
    = c.in_ok-numbers-in-Some.ensures
    ∙ (ap (λ rows. composed (numbers_in rows) (numbers_in c.deref-in-Some.result.now))
    c.deref.ensures.value
    ∙ ap (λ rows. composed first (numbers_in rows)) c.deref-in-Some.ensures.value) in
    subst (λ names. IsShrunk kind book names found.book) (sym same) whole
