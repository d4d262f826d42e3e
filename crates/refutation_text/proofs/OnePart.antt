-- What steps leave is one part.
use Rattle.std.proofs.Common.{◌≡◌, ℕ, zero, suc, ◌<◌, ◌∙◌, List, length, get_or, slice_get, Some, refl, sym, ap, subst, inl, inr, arith}
use Rattle.std.proofs.lemmas.Bool.{cases_lt}
use Rattle.std.proofs.lemmas.List.{ext_get_or}
use Rattle.std.proofs.lemmas.Option.{slice_get_within, slice_get_past, same_Some}
use Rattle.list_laws.proofs.Prefixes.{same_from_places}
use Rattle.book_base.specs.declared.call.Call.{Call}
use Rattle.book_base.specs.declared.call.Record.{Record}
use Rattle.book_base.specs.Book.{Page, page_of, calls_of, answers_of, IsCall, IsAnswered, IsValid}
use Rattle.book_base.specs.BookAt.{IsBookAt}
use Rattle.book_base.proofs.PageLemmas.{empty}
use Rattle.book_base.proofs.ViewLemmas.{same_call, answer_stands}
use Rattle.legal_orders.proofs.BookAt.{books_at_are_one}
use Rattle.seq_objects.specs.declared.kind.Kind.{Kind}
use Rattle.smaller_book.specs.Part.{numbers_of, AreRising, count_below, original, IsPart}
use Rattle.smaller_book.specs.Numbers.{composed}
use Rattle.smaller_book.specs.Earliest.{all_numbers}
use Rattle.smaller_book.specs.Minimal.{all_but}
use Rattle.smaller_book.proofs.Following.{record_was}
use Rattle.smaller_book.proofs.LeastCuts.{part_with_numbers}
use Rattle.smaller_book.proofs.PartsOfParts.{part_of_part}
use Rattle.smaller_book.proofs.Steps.{evidence_part}
use Rattle.refutation_text.specs.Said.{StepSaid, At, Keys, Leave, Keep}
use Rattle.refutation_text.specs.Steps.{IsCalled, HasPlaces, IsStep, Leaves, LeaveAfter}
use Rattle.refutation_text.proofs.StepLaws.{step_evidence, after_names}

-- ---- one part with these places

module _ (part : List Page) (places : List (List ℕ)) where
  answered_too : (a b : List Page) → HasPlaces part places a → HasPlaces part places b
      → (call : Call) → IsAnswered a call → IsAnswered b call
  answered_too a b ha hb call h =
      let there = answer_stands a call h in
      let was = record_was part places a ha.is_part call there.0 there.1 in
      let inside : IsCall b call = omega (
        arith,
        h,
        ha.is_part.answers call.caller,
        ha.is_part.calls call.caller,
        hb.is_part.calls call.caller,
      ) in
      hb.answers call inside (slice_get_within (page_of part call.caller).records
      (original places call).number was.0 was.1)

  module _ (a b : List Page) (valid_a : IsValid a) (valid_b : IsValid b)
      (ha : HasPlaces part places a) (hb : HasPlaces part places b) where
    same_calls : (i : ℕ) → calls_of a i ≡ calls_of b i
    same_calls i = ha.is_part.calls i ∙ sym (hb.is_part.calls i)

    same_answers : (i : ℕ) → answers_of a i ≡ answers_of b i
    same_answers i = elim (cases_lt (answers_of a i) (answers_of b i)) [
      | inl less ↦ absurd (omega (
        arith,
        answered_too b a hb ha
            (record { caller = i; number = answers_of a i }) less,
      ))
      | inr le ↦ elim (cases_lt (answers_of b i) (answers_of a i)) [
        | inl more ↦ absurd (omega (
          arith,
          answered_too a b ha hb
              (record { caller = i; number = answers_of b i }) more,
        ))
        | inr ge ↦ omega arith
      ]
    ]

    same_operation : (i k : ℕ) → slice_get (page_of a i).operations k
        ≡ slice_get (page_of b i).operations k
    same_operation i k = elim (cases_lt k (calls_of a i)) [
      | inl inside ↦
          let it : Call = record { caller = i; number = k } in
          ha.is_part.operations it inside
          ∙ sym (hb.is_part.operations it (omega (arith, inside, same_calls i)))
      | inr past ↦ slice_get_past (page_of a i).operations k past
          ∙ sym (slice_get_past (page_of b i).operations k (omega (arith, past, same_calls i)))
    ]

    same_record : (i k : ℕ) → slice_get (page_of a i).records k ≡ slice_get (page_of b i).records k
    same_record i k = elim (cases_lt k (answers_of a i)) [
      | inl inside ↦
          let it : Call = record { caller = i; number = k } in
          let r = answer_stands a it inside in
          let s = answer_stands b it (omega (arith, inside, same_answers i)) in
          let was = record_was part places a ha.is_part it r.0 r.1 in
          let whole = record_was part places b hb.is_part it s.0 s.1 in
          let one : was.0 ≡ whole.0 = same_Some was.0 whole.0 (sym was.1 ∙ whole.1) in
          let reply : r.0.reply ≡ s.0.reply =
          was.2.reply ∙ ap (λ (w : Record). w.reply) one ∙ sym whole.2.reply in
          let view : r.0.view ≡ s.0.view = ext_get_or 0 r.0.view s.0.view
          (valid_a.wide it r.0 r.1 ∙ (ha.is_part.callers
          ∙ (sym hb.is_part.callers ∙ sym (valid_b.wide it s.0 s.1))))
          (λ (j : ℕ) (less : j < length r.0.view). was.2.view j
          ∙ ap (λ (w : Record). count_below (numbers_of places j) (get_or w.view j 0)) one
          ∙ sym (whole.2.view j)) in
          let made : ℕ → List ℕ → Record = λ m v. record { reply = m; view = v } in
          let same : r.0 ≡ s.0 = ap (λ (m : ℕ). made m r.0.view) reply ∙ ap (made s.0.reply) view in
          r.1 ∙ ap Some same ∙ sym s.1
      | inr past ↦ slice_get_past (page_of a i).records k past
          ∙ sym (slice_get_past (page_of b i).records k (omega (arith, past, same_answers i)))
    ]

    pub one_part : a ≡ b
    one_part = ext_get_or empty a b (ha.is_part.callers ∙ sym hb.is_part.callers)
        (λ (i : ℕ) (inside : i < length a).
        let made : List ℕ → List Record → Page =
        λ ops rs. record { operations = ops; records = rs } in
        ap (λ (ops : List ℕ). made ops (page_of a i).records)
        (same_from_places (page_of a i).operations (page_of b i).operations (same_operation i))
        ∙ ap (made (page_of b i).operations)
        (same_from_places (page_of a i).records (page_of b i).records (same_record i)))

-- ---- one step

-- two parts with their numbers are equal
pub record AreSame (n m : List (List ℕ)) (a b : List Page) : Type 0 where
  pub names : n ≡ m
  pub parts : a ≡ b

one_place : (numbers : List ℕ) (j k : ℕ) → AreRising numbers → j < length numbers
    → k < length numbers → get_or numbers j 0 ≡ get_or numbers k 0 → j ≡ k
one_place numbers j k rising here there same = elim (cases_lt j k) [
  | inl less ↦ absurd (omega (arith, rising j k less there))
  | inr le ↦ elim (cases_lt k j) [
    | inl more ↦ absurd (omega (arith, rising k j more here))
    | inr ge ↦ omega arith
  ]
]

-- one call of a part is the one that is named
pub one_called : (book : List Page) (names : List (List ℕ)) (part : List Page) (named x y : Call)
    → IsPart book names part → IsCalled names part named x → IsCalled names part named y → x ≡ y
one_called book names part named x y is h k =
    let both : original names x ≡ original names y = h.is ∙ sym k.is in
    let callers : x.caller ≡ y.caller = ap (λ (call : Call). call.caller) both in
    let numbers : get_or (numbers_of names x.caller) x.number 0
    ≡ get_or (numbers_of names y.caller) y.number 0 =
    ap (λ (call : Call). call.number) both in
    let row : numbers_of names y.caller ≡ numbers_of names x.caller =
    ap (numbers_of names) (sym callers) in
    same_call x y callers (one_place (numbers_of names x.caller) x.number y.number
    (is.rising x.caller) (omega (arith, h.inside, is.calls x.caller))
    (omega (arith, k.inside, is.calls y.caller, ap length row))
    (numbers ∙ ap (λ (xs : List ℕ). get_or xs y.number 0) row))

with_places : (part : List Page) (p q : List (List ℕ)) (a b : List Page) → IsValid a → IsValid b
    → p ≡ q → HasPlaces part p a → HasPlaces part q b → a ≡ b
with_places part p q a b va vb same ha hb = one_part part q a b va vb
    (subst (λ (ns : List (List ℕ)). HasPlaces part ns a) same ha) hb

one_step : (kind : Kind) (book : List Page) (names : List (List ℕ)) (part : List Page)
    (step : StepSaid) (p q : List (List ℕ)) (a b : List Page) → IsPart book names part
    → IsValid a → IsValid b → IsStep kind names part step p a → IsStep kind names part step q b
    → AreSame p q a b
one_step kind book names part (At counts) p q a b is va vb (h0, h, h1) (k0, k, k1) =
    let cuts : h.0 ≡ k.0 = ext_get_or 0 h.0 k.0 (h.1.wide ∙ sym k.1.wide)
    (λ (i : ℕ) (less : i < length h.0). h.1.count i ∙ sym (k.1.count i)) in
    let same : a ≡ b = books_at_are_one part k.0 a b
    (subst (λ (cut : List ℕ). IsBookAt part cut a) cuts h.2) k.2 in
    record { names = h1 ∙ ap all_numbers same ∙ sym k1; parts = same }
one_step kind book names part (Keys these keys) p q a b is va vb (h0, h1, h) (k0, k1, k) =
    let same : p ≡ q = h1 ∙ sym k1 in
    record { names = same; parts = with_places part p q a b va vb same h k }
one_step kind book names part (Leave named) p q a b is va vb (x, h0, h1, h2, h) (y, k0, k1, k2, k) =
    let one : x ≡ y = one_called book names part named x y is h0 k0 in
    let same : p ≡ q =
    h2 ∙ ap (all_but part) one ∙ sym k2 in
    record { names = same; parts = with_places part p q a b va vb same h k }
one_step kind book names part (Keep calls) p q a b is va vb (h0, h1, h2, h) (k0, k1, k2, k) =
    let same : p ≡ q = h2 ∙ sym k2 in
    record { names = same; parts = with_places part p q a b va vb same h k }

-- a part that steps leave is a part of the book
pub after_part : (kind : Kind) (book : List Page) (steps : List StepSaid) (s : ℕ)
    (names : List (List ℕ)) (part : List Page) → LeaveAfter kind book steps s names part
    → IsPart book names part
after_part kind book steps zero names part (valid, named, same) =
    let whole : IsPart book (all_numbers book) book = part_with_numbers book book valid refl
    (λ (call : Call) inside. refl) (λ (call : Call) (r : Record) known. known) in
    subst (λ (ns : List (List ℕ)). IsPart book ns part) (sym named)
    (subst (λ (b : List Page). IsPart book (all_numbers book) b) (sym same) whole)
after_part kind book steps (suc s) names part (step, before, whole, there, earlier, leaves) =
    subst (λ (ns : List (List ℕ)). IsPart book ns part) (sym leaves.2)
    (part_of_part book whole part before leaves.0
    (after_part kind book steps s before whole earlier)
    (evidence_part kind whole leaves.0 part (step_evidence kind before whole step leaves.0 part
    (after_names kind book steps s before whole earlier).valid leaves.3 leaves.1)))

-- steps leave one part
pub one_after : (kind : Kind) (book : List Page) (steps : List StepSaid) (s : ℕ)
    (n m : List (List ℕ)) (a b : List Page) → LeaveAfter kind book steps s n a
    → LeaveAfter kind book steps s m b → AreSame n m a b
one_after kind book steps zero n m a b (hv, hn, hs) (kv, kn, ks) =
    record { names = hn ∙ sym kn; parts = hs ∙ sym ks }
one_after kind book steps (suc s) n m a b (x, hb, hw, ht, he, hl) (y, kb, kw, kt, ke, kl) =
    let one : y ≡ x = same_Some y x (sym kt ∙ ht) in
    let same = one_after kind book steps s kb hb kw hw ke he in
    let leaves : Leaves kind hb hw x m b =
    subst (λ (step : StepSaid). Leaves kind hb hw step m b) one
    (subst (λ (w : List Page). Leaves kind hb w y m b) same.parts
    (subst (λ (ns : List (List ℕ)). Leaves kind ns kw y m b) same.names kl)) in
    let last = one_step kind book hb hw x hl.0 leaves.0 a b
    (after_part kind book steps s hb hw he) hl.3 leaves.3 hl.1 leaves.1 in
    record {
      names = hl.2 ∙ ap (composed hb) last.names ∙ sym leaves.2;
      parts = last.parts;
    }
