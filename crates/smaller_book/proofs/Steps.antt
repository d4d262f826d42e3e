-- Steps from a book to a part.
use Rattle.std.proofs.Common.{◌≡◌, ℕ, ◌<◌, ◌∙◌, List, [], ◌∷◌, ◌++◌, Vec, length, refl, sym, ap, subst, inl, inr, arith}
use Rattle.std.specs.List.{range_with_len}
use Rattle.std.proofs.lemmas.List.{length-map}
use Rattle.std.proofs.lemmas.List.FromFn.{length-map-range_with_len}
use Rattle.book_base.specs.declared.call.Call.{Call}
use Rattle.book_base.specs.declared.call.Record.{Record}
use Rattle.book_base.specs.Book.{Page, calls_of, IsValid}
use Rattle.book_base.specs.BookAt.{IsBookAt}
use Rattle.legal_orders.proofs.BookAt.{book_at_is_valid}
use Rattle.legal_orders.proofs.BookAtLaws.{is_the_book_at}
use Rattle.seq_objects.specs.declared.kind.Kind.{Kind}
use Rattle.smaller_book.specs.Part.{numbers_of, IsPart}
use Rattle.smaller_book.specs.Numbers.{numbers_in, composed}
use Rattle.smaller_book.specs.Earliest.{all_numbers, IsAtSomeCut}
use Rattle.smaller_book.specs.Evidence.{IsCutBack, LacksUnseenCalls, LacksKeys, IsStep, AreSteps, IsEvidence}
use Rattle.smaller_book.specs.Minimal.{IsSmaller, IsShrunk}
use Rattle.smaller_book.proofs.LeastCuts.{part_with_numbers, part_from_book_at}
use Rattle.smaller_book.proofs.Removing.{original_is_call}
use Rattle.smaller_book.proofs.KeyRows.{all_without_are_numbers}
use Rattle.smaller_book.proofs.PartsOfParts.{places_inside, part_of_part, wide-composed}
use Rattle.smaller_book.proofs.Composed.{composed-whole_first, composed-whole_second, composed-composed}

length-all_numbers : (book : List Page) → length (all_numbers book) ≡ length book
length-all_numbers book =
    let places : ℕ → List ℕ = λ i. range_with_len 0 (calls_of book i) in
    length-map-range_with_len places 0 (length book)

-- A book at some cut of a valid book is the book at this cut.
pub book_at_some_cut : (book part : List Page) → IsValid book → (at : IsAtSomeCut book part)
    → IsBookAt book at.cut part
book_at_some_cut book part valid at =
    subst (IsBookAt book at.cut) (sym at.at_cut) (is_the_book_at book at.cut valid)

pub cut_back_part : (book : List Page) (names : List (List ℕ)) (part : List Page) → IsValid book
    → IsCutBack book names part → IsPart book names part
cut_back_part book names part valid back =
    subst (λ (ns : List (List ℕ)). IsPart book ns part) (sym back.named)
    (part_from_book_at book back.at_some_cut.cut part valid
    (book_at_some_cut book part valid back.at_some_cut))

-- A step leads to the part of the book that has the calls with its numbers.
pub step_part : (kind : Kind) (book : List Page) (names : List (List ℕ)) (part : List Page)
    → IsStep kind book names part → IsPart book names part
step_part kind book names part step =
    elim step.rule [
      | inl back ↦ cut_back_part book names part step.valid back
      | inr other ↦ elim other [
        | inl lacks ↦ lacks.is_part
        | inr lacks ↦ lacks.is_part
      ]
    ]

-- The numbers of a step are a list for each caller of the book.
step_wide : (kind : Kind) (book : List Page) (names : List (List ℕ)) (part : List Page)
    → IsStep kind book names part → length names ≡ length book
step_wide kind book names part step =
    elim step.rule [
      | inl back ↦
          ap length back.named ∙ (length-all_numbers part
          ∙ (cut_back_part book names part step.valid back).callers)
      | inr other ↦ elim other [
        | inl lacks ↦ lacks.wide
        | inr lacks ↦ ap length lacks.named ∙ (all_without_are_numbers kind lacks.keys book).wide
      ]
    ]

-- Steps lead from a valid book.
pub steps_from_valid : (kind : Kind) (book : List Page) (steps : List (List (List ℕ)))
    (names : List (List ℕ)) (part : List Page) → AreSteps kind book steps names part → IsValid book
steps_from_valid kind book [] names part (valid, same, named) = valid
steps_from_valid kind book (first ∷ later) names part (mid, rest, step, on, named) = step.valid

-- Steps lead to a valid book.
pub steps_to_valid : (kind : Kind) (book : List Page) (steps : List (List (List ℕ)))
    (names : List (List ℕ)) (part : List Page) → AreSteps kind book steps names part → IsValid part
steps_to_valid kind book [] names part (valid, same, named) = subst IsValid (sym same) valid
steps_to_valid kind book (first ∷ later) names part (mid, rest, step, on, named) =
    steps_to_valid kind mid later rest part on

-- Steps lead to the part of the book that has the calls with their numbers.
pub steps_part : (kind : Kind) (book : List Page) (steps : List (List (List ℕ)))
    (names : List (List ℕ)) (part : List Page) → AreSteps kind book steps names part
    → IsPart book names part
steps_part kind book [] names part (valid, same, named) =
    let whole : IsPart book (all_numbers book) book = part_with_numbers book book valid refl
    (λ (call : Call) inside. refl) (λ (call : Call) (r : Record) known. known) in
    subst (λ (ns : List (List ℕ)). IsPart book ns part) (sym named)
    (subst (λ (b : List Page). IsPart book (all_numbers book) b) (sym same) whole)
steps_part kind book (first ∷ later) names part (mid, rest, step, on, named) =
    subst (λ (ns : List (List ℕ)). IsPart book ns part) (sym named)
    (part_of_part book mid part first rest (step_part kind book first mid step)
    (steps_part kind mid later rest part on))

-- The numbers of steps are a list for each caller of the book.
steps_wide : (kind : Kind) (book : List Page) (steps : List (List (List ℕ)))
    (names : List (List ℕ)) (part : List Page) → AreSteps kind book steps names part
    → length names ≡ length book
steps_wide kind book [] names part (valid, same, named) = ap length named ∙ length-all_numbers book
steps_wide kind book (first ∷ later) names part (mid, rest, step, on, named) =
    ap length named
    ∙ wide-composed book mid first rest (step_part kind book first mid step)
    (steps_wide kind mid later rest part on)

-- Steps to a part, and then steps from this part, are steps.
steps_twice : (kind : Kind) (book mid part : List Page) (steps more : List (List (List ℕ)))
    (first second : List (List ℕ)) → AreSteps kind book steps first mid
    → AreSteps kind mid more second part
    → AreSteps kind book (steps ++ more) (composed first second) part
steps_twice kind book mid part [] more first second (valid, same, named) on =
    let there : AreSteps kind book more second part =
    subst (λ (b : List Page). AreSteps kind b more second part) same on in
    let is : IsPart book second part = steps_part kind book more second part there in
    let whole : composed (all_numbers book) second ≡ second =
    composed-whole_first book second (steps_wide kind book more second part there)
    (λ (i k : ℕ) (room : k < length (numbers_of second i)).
    original_is_call book second part is (record { caller = i; number = k })
    (omega (arith, room, is.calls i))) in
    subst (λ (ns : List (List ℕ)). AreSteps kind book more ns part)
    (sym (ap (λ (ns : List (List ℕ)). composed ns second) named ∙ whole)) there
steps_twice kind book mid part (one ∷ later) more first second
    (next, rest, step, before, named) on = (
      next,
      composed rest second,
      step,
      steps_twice kind next mid part later more rest second before on,
      ap (λ (ns : List (List ℕ)). composed ns second) named
          ∙ composed-composed one rest second
          (places_inside next mid part rest second (steps_part kind next later rest mid before)
          (steps_part kind mid more second part on)),
    )

-- Each part that is evidence of a book is the part of the book that has the calls with its numbers.
pub evidence_part : (kind : Kind) (book : List Page) (names : List (List ℕ)) (part : List Page)
    → IsEvidence kind book names part → IsPart book names part
evidence_part kind book names part evidence =
    steps_part kind book evidence.steps names part evidence.lead

-- The numbers of a part that is evidence of a book, and those of a part that is evidence of this
-- part, are as many lists: one for each caller.
pub evidence_wide : {A : Type 0} (kind : Kind) (book mid part : List Page)
    (first second : List (Vec ℕ A)) → IsEvidence kind book (numbers_in first) mid
    → IsEvidence kind mid (numbers_in second) part → length first ≡ length second
evidence_wide {A = A} kind book mid part first second outer inner =
    omega (
      arith,
      length-map first (λ (row : Vec ℕ A). row.items),
      length-map second (λ (row : Vec ℕ A). row.items),
      steps_wide kind book outer.steps (numbers_in first) mid outer.lead,
      steps_wide kind mid inner.steps (numbers_in second) part inner.lead,
      (evidence_part kind book (numbers_in first) mid outer).callers,
    )

-- A step to a valid book leads to evidence.
pub step_evidence : (kind : Kind) (book : List Page) (names : List (List ℕ)) (part : List Page)
    → IsStep kind book names part → IsValid part → IsEvidence kind book names part
step_evidence kind book names part step valid =
    let is : IsPart book names part = step_part kind book names part step in
    record {
      steps = names ∷ [];
      lead = (
        part,
        all_numbers part,
        step,
        (valid, refl, refl),
        sym (composed-whole_second names part
            (step_wide kind book names part step ∙ sym is.callers) is.calls),
      );
    }

-- A book at some cut of a valid book is evidence of it.
pub cut_evidence : (kind : Kind) (book part : List Page) → IsValid book → IsAtSomeCut book part
    → IsEvidence kind book (all_numbers part) part
cut_evidence kind book part valid at =
    step_evidence kind book (all_numbers part) part
    (record { valid = valid; rule = inl (record { at_some_cut = at; named = refl }) })
    (book_at_is_valid book at.cut part valid (book_at_some_cut book part valid at))

-- The valid part that a valid book has without some read-only and unseen calls is evidence of it.
pub unseen_evidence : (kind : Kind) (book : List Page) (names : List (List ℕ))
    (part : List Page) → IsValid book → IsValid part → LacksUnseenCalls kind book names part
    → IsEvidence kind book names part
unseen_evidence kind book names part valid still lacks =
    step_evidence kind book names part (record { valid = valid; rule = inr (inl lacks) }) still

-- The valid part that a valid book has without all calls of some keys is evidence of it.
pub keys_evidence : (kind : Kind) (book : List Page) (names : List (List ℕ))
    (part : List Page) → IsValid book → IsValid part → LacksKeys kind book names part
    → IsEvidence kind book names part
keys_evidence kind book names part valid still lacks =
    step_evidence kind book names part (record { valid = valid; rule = inr (inr lacks) }) still

-- A part that is evidence of a part, which is evidence of the book, is evidence of the book.
pub evidence_twice : (kind : Kind) (book mid part : List Page) (first second : List (List ℕ))
    → IsEvidence kind book first mid → IsEvidence kind mid second part
    → IsEvidence kind book (composed first second) part
evidence_twice kind book mid part first second outer inner = record {
  steps = outer.steps ++ inner.steps;
  lead = steps_twice kind book mid part outer.steps inner.steps first second outer.lead inner.lead;
}

-- Where a part is evidence of a book, a shrunk book of the part is a shrunk book of the book.
pub shrunk_twice : (kind : Kind) (book mid part : List Page) (first second : List (List ℕ))
    → IsEvidence kind book first mid → IsShrunk kind mid second part
    → IsShrunk kind book (composed first second) part
shrunk_twice kind book mid part first second evidence inner = record {
  evidence = evidence_twice kind book mid part first second evidence inner.evidence;
  illegal = inner.illegal;
  earliest = inner.earliest;
}

-- A smaller book of a smaller book of a book is a smaller book of this book.
pub smaller_twice : (kind : Kind) (book mid part : List Page) (first second : List (List ℕ))
    → IsSmaller kind book first mid → IsSmaller kind mid second part
    → IsSmaller kind book (composed first second) part
smaller_twice kind book mid part first second outer inner = record {
  evidence = evidence_twice kind book mid part first second outer.evidence inner.evidence;
  illegal = inner.illegal;
  fewer = omega (arith, outer.fewer, inner.fewer);
}
