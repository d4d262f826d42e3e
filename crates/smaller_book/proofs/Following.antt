-- From a legal order of a book to one of a part of it, by a relation of the object's lists that
-- says what each call does to both.
use Rattle.std.proofs.Common.{◌≡◌, ℕ, ◌+◌, ◌<◌, ◌≤◌, ◌⊎◌, ◌∙◌, List, [], ◌∷◌, length, get_or, replicate, unwrap_or, Option, Some, None, refl, sym, ap, subst, inl, inr, arith, ltb}
use Rattle.std.specs.Option.{IsSomeAnd}
use Rattle.std.proofs.lemmas.Bool.{cases_lt, cases_eq, cond-false, le-ltb}
use Rattle.std.proofs.lemmas.List.{length-replicate, length-set}
use Rattle.std.proofs.lemmas.Option.{slice_get_within}
use Rattle.list_laws.proofs.Places.{get_or-replicate_default}
use Rattle.book_base.specs.declared.call.Call.{Call}
use Rattle.book_base.specs.declared.call.Record.{Record}
use Rattle.book_base.specs.declared.call.Place.{Place}
use Rattle.book_base.specs.SeqSpec.{spec_from}
use Rattle.book_base.specs.Cut.{Holds}
use Rattle.book_base.specs.Book.{Page, calls_of, answers_of, IsCall, IsAnswered, operation_of, record_of, Precedes}
use Rattle.book_base.specs.Order.{call_at, step_at, HasLegalOrder}
use Rattle.book_base.specs.Next.{raised, MayStandNext, HoldsAnswered, Continues, list_after}
use Rattle.book_base.specs.Pruning.{HasOneOpen}
use Rattle.legal_orders.proofs.LegalOrder.{raised_same, raised_other, same_call, answer_stands, within_cut, legal_order_from_continues, continues_from_legal_order}
use Rattle.smaller_book.specs.Part.{numbers_of, AreRising, count_below, original, IsNamed, IsRenumbered, IsPart}
use Rattle.smaller_book.proofs.Counts.{counted_from_below, count_below-at, count_below-past, count_below-without, count_below-monotone, find_number}

-- An option that satisfies a claim about its value has a value, and this value satisfies the claim.
pub some_that : {X : Type 0} (o : Option X) (P : X → Type 0) → IsSomeAnd o P → (x : X)
    × (o ≡ Some x) × P x
some_that None P h = absurd h
some_that (Some x) P h = (x, refl, h)

-- An answered call of a part is a call of it.
pub call_from_answer : (book : List Page) (names : List (List ℕ)) (part : List Page)
    → IsPart book names part → (call : Call) → IsAnswered part call → IsCall part call
call_from_answer book names part is call answered = omega (arith, answered, is.answers call.caller)

-- Where a call of a part has a record, the call that it was has a record in the book, and the
-- part's record is this one with its view renumbered.
pub record_was : (book : List Page) (names : List (List ℕ)) (part : List Page)
    → IsPart book names part → (call : Call) (r : Record) → record_of part call ≡ Some r
    → (whole : Record) × (record_of book (original names call) ≡ Some whole)
    × IsRenumbered names whole r
record_was book names part is call r known =
    some_that (record_of book (original names call))
    (λ (whole : Record). IsRenumbered names whole r) (is.records call r known)

-- A caller is passed: each view of the book holds at most one unanswered call of each caller, the
-- book's cut holds an unanswered call of this caller, and the part's cut counts at least those of
-- its calls in the part that the book has answered.
record IsPassed (book : List Page) (names : List (List ℕ)) (cut small : List ℕ)
    (i : ℕ) : Type 0 where
  open_calls : HasOneOpen book
  past : answers_of book i < get_or cut i 0
  counts : count_below (numbers_of names i) (answers_of book i) ≤ get_or small i 0

-- A cut of the part follows a cut of the book: for each caller, it counts exactly those calls of
-- the book's cut that the part has, or the caller is passed.
record Follows (book : List Page) (names : List (List ℕ)) (cut small : List ℕ) : Type 0 where
  wide : length small ≡ length cut
  counts : (i : ℕ) → (get_or small i 0 ≡ count_below (numbers_of names i) (get_or cut i 0))
      ⊎ IsPassed book names cut small i

-- Where the book's cut holds the call that an answered call of the part was, the part's cut holds
-- this call.
held_in_part : (book : List Page) (names : List (List ℕ)) (part : List Page) (cut small : List ℕ)
    → IsPart book names part → Follows book names cut small
    → (call : Call) → IsAnswered part call → Holds cut (original names call) → Holds small call
held_in_part book names part cut small is follows call answered held =
    let xs : List ℕ = numbers_of names call.caller in
    let there : call.number < length xs =
    omega (arith, answered, is.answers call.caller, is.calls call.caller) in
    elim (follows.counts call.caller) as (λ _. call.number < get_or small call.caller 0) [
      | inl exact ↦
          let counted : call.number < count_below xs (get_or cut call.caller 0)
          = counted_from_below xs (get_or cut call.caller 0) call.number
          (is.rising call.caller) there held in
          omega (arith, counted, exact)
      | inr passed ↦
          let known = answer_stands part call answered in
          let whole = record_was book names part is call known.0 known.1 in
          let before : get_or xs call.number 0 < answers_of book call.caller =
          slice_get_within _ (original names call).number whole.0 whole.1 in
          let counted : call.number < count_below xs (answers_of book call.caller)
          = counted_from_below xs (answers_of book call.caller) call.number
          (is.rising call.caller) there before in
          omega (arith, counted, passed.counts)
    ]

-- Where the book's cut holds all answered calls of the book, the part's cut holds all answered
-- calls of the part.
answered_in_part : (book : List Page) (names : List (List ℕ)) (part : List Page)
    (cut small : List ℕ) → IsPart book names part → Follows book names cut small
    → HoldsAnswered book cut → HoldsAnswered part small
answered_in_part book names part cut small is follows holds call answered =
    let known = answer_stands part call answered in
    let whole = record_was book names part is call known.0 known.1 in
    held_in_part book names part cut small is follows call answered
    (holds (original names call) (slice_get_within _ (original names call).number whole.0 whole.1))

-- The call of a place in an order of the book is in the part, as call k of its caller.
record Stays (names : List (List ℕ)) (place : Place) (k : ℕ) : Type 0 where
  inside : k < length (numbers_of names place.caller)
  same : get_or (numbers_of names place.caller) k 0 ≡ place.number

abbrev renumbered : Place → ℕ → ℕ → Place
renumbered place k reply = record { caller = place.caller; number = k; reply = reply }

was_there : (names : List (List ℕ)) (place : Place) (k reply : ℕ) → Stays names place k
    → original names (call_at (renumbered place k reply)) ≡ call_at place
was_there names place k reply stays =
    same_call (original names (call_at (renumbered place k reply))) (call_at place) refl stays.same

same_operation : (book : List Page) (names : List (List ℕ)) (part : List Page)
    → IsPart book names part → (place : Place) (k reply : ℕ) → Stays names place k
    → (step_at part (renumbered place k reply)).0 ≡ (step_at book place).0
same_operation book names part is place k reply stays =
    let inside : IsCall part (call_at (renumbered place k reply)) =
    omega (arith, is.calls place.caller, stays.inside) in
    ap (λ o. unwrap_or o 0) (is.operations (call_at (renumbered place k reply)) inside
    ∙ ap (operation_of book) (was_there names place k reply stays))

-- The part's cut is exact for a caller: it counts those calls of the caller in the book's cut that
-- the part has, and no others.
abbrev IsExact : List (List ℕ) → List ℕ → List ℕ → ℕ → Type 0
IsExact names cut small i = get_or small i 0 ≡ count_below (numbers_of names i) (get_or cut i 0)

-- Where a place's call is the next one of its caller after the book's cut and is call k of the
-- caller in the part, a part's cut that is exact for this caller counts k calls of it.
count_is : (names : List (List ℕ)) (cut small : List ℕ) (place : Place) (k : ℕ)
    → AreRising (numbers_of names place.caller) → IsExact names cut small place.caller
    → Stays names place k
    → place.number ≡ get_or cut place.caller 0 → get_or small place.caller 0 ≡ k
count_is names cut small place k rising exact stays next =
    let xs : List ℕ = numbers_of names place.caller in
    exact ∙ (ap (count_below xs) (sym next)
    ∙ (ap (count_below xs) (sym stays.same) ∙ count_below-at xs k rising stays.inside))

-- Where a record of the part doesn't hold call k of a caller in its view, the call that its call
-- was precedes, in the book, the call that call k was.
precedes_in_book : (book : List Page) (names : List (List ℕ)) (part : List Page)
    → IsPart book names part → (place : Place) (k : ℕ) → Stays names place k
    → (a : Call) → IsSomeAnd (record_of part a) (λ r. get_or r.view place.caller 0 ≤ k)
    → Precedes book (original names a) (call_at place)
precedes_in_book book names part is place k stays a answered =
    let xs : List ℕ = numbers_of names place.caller in
    let says : Record → Type 0 = λ r. get_or r.view place.caller 0 ≤ k in
    let known = some_that (record_of part a) says answered in
    let whole = record_was book names part is a known.0 known.1 in
    let below : get_or whole.0.view place.caller 0 ≤ place.number =
    elim (cases_lt place.number (get_or whole.0.view place.caller 0)) [
      | inl seen ↦
          let counted : k < count_below xs (get_or whole.0.view place.caller 0)
          = counted_from_below xs (get_or whole.0.view place.caller 0) k
          (is.rising place.caller) stays.inside (omega (arith, stays.same, seen)) in
          absurd (omega (arith, counted, whole.2.view place.caller, known.2))
      | inr le ↦ le
    ] in
    inl (subst (λ o. IsSomeAnd o (λ (r : Record). get_or r.view place.caller 0 ≤ place.number))
    (sym whole.1) below)

-- What precedes another call in a part preceded it in the book.
pub preceded_in_book : (book : List Page) (names : List (List ℕ)) (part : List Page)
    → IsPart book names part → (a b : Call) → IsCall part b → Precedes part a b
    → Precedes book (original names a) (original names b)
preceded_in_book book names part is a b inside before =
    let number : ℕ = get_or (numbers_of names b.caller) b.number 0 in
    elim before [
      | inl answered ↦ precedes_in_book book names part is
          (record { caller = b.caller; number = number; reply = 0 }) b.number
          (record { inside = omega (arith, is.calls b.caller, inside); same = refl }) a answered
      | inr own ↦
          let there : b.number < calls_of part a.caller =
          subst (λ (i : ℕ). b.number < calls_of part i) (sym own.0) inside in
          inr (
            own.0,
            subst (λ (i : ℕ). get_or (numbers_of names a.caller) a.number 0
                < get_or (numbers_of names i) b.number 0) own.0
                (is.rising a.caller a.number b.number own.1
                (omega (arith, is.calls a.caller, there))),
          )
    ]

-- A place that may stand next in the book and whose call is in the part may stand next in the part,
-- after a cut that follows the book's and is exact for its caller, and at a list at which the
-- object gives the same reply where the call is answered.
stands_in_part : (book : List Page) (names : List (List ℕ)) (part : List Page)
    (next : List ℕ → ℕ → List ℕ × ℕ) (cut small whole few : List ℕ) (place : Place) (k : ℕ)
    → IsPart book names part → Follows book names cut small → IsExact names cut small place.caller
    → Stays names place k
    → (IsAnswered book (call_at place)
    → (next few (step_at book place).0).1 ≡ (next whole (step_at book place).0).1)
    → MayStandNext book next cut whole place
    → MayStandNext part next small few (renumbered place k (next few (step_at book place).0).1)
stands_in_part book names part next cut small list few place k is follows exact stays alike may =
    let count : get_or small place.caller 0 ≡ k =
    count_is names cut small place k (is.rising place.caller) exact stays may.may_come.next in
    let reply : ℕ = (next few (step_at book place).0).1 in
    let here : Call = call_at (renumbered place k reply) in
    record {
      may_come = record {
        is_call = omega (arith, is.calls place.caller, stays.inside);
        next = sym count;
        preceded = λ (a : Call) (p : Precedes part a here). elim p [
          | inl answered ↦
              let says : Record → Type 0 = λ r. get_or r.view place.caller 0 ≤ k in
              let known = some_that (record_of part a) says answered in
              held_in_part book names part cut small is follows a
              (slice_get_within _ a.number known.0 known.1)
              (may.may_come.preceded (original names a)
              (precedes_in_book book names part is place k stays a answered))
          | inr own ↦ omega (arith, own.1, count, ap (λ (i : ℕ). get_or small i 0) own.0)
        ];
      };
      recorded = λ (r : Record) (known : record_of part here ≡ Some r).
          let whole = record_was book names part is here r known in
          let there : record_of book (call_at place) ≡ Some whole.0 =
          ap (record_of book) (sym (was_there names place k reply stays)) ∙ whole.1 in
          whole.2.reply ∙ (may.recorded whole.0 there
          ∙ (sym may.reply ∙ sym (alike (slice_get_within _ place.number whole.0 there))));
      reply = ap (λ (op : ℕ). (next few op).1)
          (same_operation book names part is place k reply stays);
    }

-- What holds of a caller's counts in the two cuts still holds where both cuts get other counts of
-- other callers alone.
other_follows : (book : List Page) (names : List (List ℕ)) (cut small more few : List ℕ) (i : ℕ)
    → get_or more i 0 ≡ get_or cut i 0 → get_or few i 0 ≡ get_or small i 0
    → (get_or small i 0 ≡ count_below (numbers_of names i) (get_or cut i 0))
    ⊎ IsPassed book names cut small i
    → (get_or few i 0 ≡ count_below (numbers_of names i) (get_or more i 0))
    ⊎ IsPassed book names more few i
other_follows book names cut small more few i same_cut same_small (inl exact) =
    inl (same_small ∙ (exact ∙ ap (count_below (numbers_of names i)) (sym same_cut)))
other_follows book names cut small more few i same_cut same_small (inr passed) = inr (record {
  open_calls = passed.open_calls;
  past = omega (arith, passed.past, same_cut);
  counts = omega (arith, passed.counts, same_small);
})

-- Where the part has the next call of a caller after the book's cut, and its own cut follows and is
-- exact for this caller, its cut with this call follows the book's cut with the call.
follows_on : (book : List Page) (names : List (List ℕ)) (cut small : List ℕ) (place : Place) (k : ℕ)
    → AreRising (numbers_of names place.caller) → Follows book names cut small
    → IsExact names cut small place.caller → Stays names place k
    → place.number ≡ get_or cut place.caller 0 → place.caller < length cut
    → Follows book names (raised cut place.caller) (raised small place.caller)
follows_on book names cut small place k rising follows exact stays next inside =
    let i : ℕ = place.caller in
    let xs : List ℕ = numbers_of names i in
    let count : get_or small i 0 ≡ k = count_is names cut small place k rising exact stays next in
    let more : count_below xs (get_or (raised cut i) i 0) ≡ k + 1
    = ap (count_below xs)
    (raised_same cut i inside ∙ ap (λ (n : ℕ). n + 1) (sym next ∙ sym stays.same))
    ∙ count_below-past xs k rising stays.inside in
    let same : get_or (raised small i) i 0 ≡ k + 1
    = raised_same small i (omega (arith, follows.wide, inside)) ∙ ap (λ (n : ℕ). n + 1) count in
    let P : ℕ → Type 0 = λ j. (get_or (raised small i) j 0 ≡ count_below (numbers_of names j)
    (get_or (raised cut i) j 0)) ⊎ IsPassed book names (raised cut i) (raised small i) j in
    record {
      wide = omega (
        arith,
        length-set small i (get_or small i 0 + 1),
        length-set cut i (get_or cut i 0 + 1),
        follows.wide,
      );
      counts = λ (j : ℕ). elim (cases_eq j i) [
        | inl e ↦ subst P (sym e) (inl (same ∙ sym more))
        | inr other ↦ other_follows book names cut small (raised cut i) (raised small i) j
            (raised_other cut i j other) (raised_other small i j other) (follows.counts j)
      ];
    }

-- The part's cut follows the book's cut with one more call of a caller, where it followed the cut
-- before, and counts exactly those of the caller's calls in the new cut that the part has, or the
-- caller is passed.
follows_with : (book : List Page) (names : List (List ℕ)) (cut small : List ℕ) (i : ℕ)
    → Follows book names cut small
    → (get_or small i 0 ≡ count_below (numbers_of names i) (get_or (raised cut i) i 0))
    ⊎ IsPassed book names (raised cut i) small i
    → Follows book names (raised cut i) small
follows_with book names cut small i follows own =
    let P : ℕ → Type 0 =
    λ j. (get_or small j 0 ≡ count_below (numbers_of names j) (get_or (raised cut i) j 0))
    ⊎ IsPassed book names (raised cut i) small j in
    record {
      wide = omega (arith, length-set cut i (get_or cut i 0 + 1), follows.wide);
      counts = λ (j : ℕ). elim (cases_eq j i) [
        | inl e ↦ subst P (sym e) own
        | inr other ↦ other_follows book names cut small (raised cut i) small j
            (raised_other cut i j other) refl (follows.counts j)
      ];
    }

-- Where the part lacks the next call of a caller after the book's cut, and its own cut follows and
-- is exact for this caller, its cut follows the book's cut with this call too.
follows_without : (book : List Page) (names : List (List ℕ)) (cut small : List ℕ) (place : Place)
    → Follows book names cut small → IsExact names cut small place.caller
    → ((k : ℕ) → k < length (numbers_of names place.caller)
    → get_or (numbers_of names place.caller) k 0 ≡ place.number → ⊥)
    → place.number ≡ get_or cut place.caller 0 → place.caller < length cut
    → Follows book names (raised cut place.caller) small
follows_without book names cut small place follows exact lacks next inside =
    let i : ℕ = place.caller in
    let xs : List ℕ = numbers_of names i in
    let more : count_below xs (get_or (raised cut i) i 0) ≡ count_below xs (get_or cut i 0)
    = ap (count_below xs) (raised_same cut i inside ∙ ap (λ (n : ℕ). n + 1) (sym next))
    ∙ (count_below-without xs place.number lacks ∙ ap (count_below xs) next) in
    follows_with book names cut small i follows (inl (exact ∙ sym more))

-- Where the next call of a caller after the book's cut is unanswered, each view of the book holds
-- at most one unanswered call of each caller, and the part's cut follows and is exact for this
-- caller, it follows the book's cut with this call too: the caller is then passed.
follows_past : (book : List Page) (names : List (List ℕ)) (cut small : List ℕ) (place : Place)
    → AreRising (numbers_of names place.caller) → Follows book names cut small
    → IsExact names cut small place.caller → HasOneOpen book → (IsAnswered book (call_at place) → ⊥)
    → place.number ≡ get_or cut place.caller 0 → place.caller < length cut
    → Follows book names (raised cut place.caller) small
follows_past book names cut small place rising follows exact open_calls unanswered next inside =
    let i : ℕ = place.caller in
    let xs : List ℕ = numbers_of names i in
    let late : answers_of book i ≤ get_or cut i 0 =
    elim (cases_lt place.number (answers_of book i)) [
      | inl answered ↦ absurd (unanswered answered)
      | inr le ↦ omega (arith, le, next)
    ] in
    follows_with book names cut small i follows (inr (record {
      open_calls = open_calls;
      past = omega (arith, raised_same cut i inside, late);
      counts = omega
          (arith, exact, count_below-monotone xs (answers_of book i) (get_or cut i 0) rising late);
    }))

-- Where a call of a passed caller may stand next in the book, the part's cut holds all answered
-- calls of the part, since no view of the book holds that call.
all_held : (book : List Page) (names : List (List ℕ)) (part : List Page)
    (next : List ℕ → ℕ → List ℕ × ℕ) (cut small list : List ℕ) (place : Place)
    → IsPart book names part → Follows book names cut small
    → IsPassed book names cut small place.caller → MayStandNext book next cut list place
    → HoldsAnswered part small
all_held book names part next cut small list place is follows passed may call answered =
    let known = answer_stands part call answered in
    let whole = record_was book names part is call known.0 known.1 in
    let before : get_or whole.0.view place.caller 0 ≤ place.number
    = omega (
      arith,
      passed.open_calls (original names call) whole.0 place.caller whole.1,
      passed.past,
      may.may_come.next,
    ) in
    held_in_part book names part cut small is follows call answered
    (may.may_come.preceded (original names call)
    (inl (subst (λ o. IsSomeAnd o (λ (r : Record). get_or r.view place.caller 0 ≤ place.number))
    (sym whole.1) before)))

-- The operation word of a call, or 0 where the book has no such call.
abbrev pub word_at : List Page → Call → ℕ
word_at book call = unwrap_or (operation_of book call) 0

-- The recorded reply to a call, where it has one, is the one that the object gives to its operation
-- at a list.
abbrev pub AgreesAt : List Page → (List ℕ → ℕ → List ℕ × ℕ) → List ℕ → Call → Type 0
AgreesAt book next whole call = (r : Record) → record_of book call ≡ Some r
    → r.reply ≡ (next whole (word_at book call)).1

-- A relation of a cut of the book and two lists of the object, one with all calls of the cut, one
-- with those that the part has, which each call of the book keeps.
pub record IsFollowedFrom (R : List ℕ → List ℕ → List ℕ → Type 0) (next : List ℕ → ℕ → List ℕ × ℕ)
    (book : List Page) (names : List (List ℕ)) : Type 0 where
  -- a call that the part lacks keeps it, changing the first list alone
  pub lacks : (cut whole few : List ℕ) (place : Place) → place.caller < length cut
      → R cut whole few → MayStandNext book next cut whole place → ¬ IsNamed names (call_at place)
      → R (raised cut place.caller) (list_after book next whole place) few
  -- a call that the part has keeps it, made on both lists, with the same reply where it is
  -- answered; or the call is unanswered and the book has one open, and the call keeps it, changing
  -- the first list alone
  pub has : (cut whole few : List ℕ) (place : Place) → place.caller < length cut
      → R cut whole few → MayStandNext book next cut whole place → IsNamed names (call_at place)
      → ((IsAnswered book (call_at place)
      → (next few (step_at book place).0).1 ≡ (next whole (step_at book place).0).1)
      × R (raised cut place.caller) (list_after book next whole place)
      (next few (step_at book place).0).0)
      ⊎ (HasOneOpen book × (IsAnswered book (call_at place) → ⊥)
      × R (raised cut place.caller) (list_after book next whole place) few)

-- Where places continue an order of the book from a cut and a list, some places continue one of the
-- part from a cut that follows and a related list.
continues_in_part : (R : List ℕ → List ℕ → List ℕ → Type 0) (book : List Page)
    (names : List (List ℕ)) (part : List Page) (next : List ℕ → ℕ → List ℕ × ℕ)
    (cut small whole few : List ℕ) (order : List Place)
    → IsPart book names part → IsFollowedFrom R next book names → length book ≤ length cut
    → Follows book names cut small → R cut whole few → Continues book next cut whole order
    → (rest : List Place) × Continues part next small few rest
continues_in_part R book names part next cut small whole few [] is lists wide follows related
    holds = ([], answered_in_part book names part cut small is follows holds)
continues_in_part R book names part next cut small whole few
    (place ∷ order) is lists wide follows related (may, later) =
    let i : ℕ = place.caller in
    let inside : i < length cut = within_cut book cut (call_at place) wide may.may_come.is_call in
    let wider : length book ≤ length (raised cut i) =
    omega (arith, length-set cut i (get_or cut i 0 + 1)) in
    elim (follows.counts i) [
      | inr passed ↦ ([], all_held book names part next cut small whole place is follows passed may)
      | inl exact ↦ elim (find_number (numbers_of names i) place.number) [
        | inl found ↦
            let stays : Stays names place found.0 = record { inside = found.1; same = found.2 } in
            elim (lists.has cut whole few place inside related may found) [
              | inl alike ↦
                  let rest = continues_in_part R book names part next (raised cut i)
                  (raised small i) (list_after book next whole place)
                  (next few (step_at book place).0).0 order is lists wider
                  (follows_on book names cut small place found.0
                  (is.rising i) follows exact stays may.may_come.next inside) alike.1 later in
                  let reply : ℕ = (next few (step_at book place).0).1 in
                  let same : (next few (step_at book place).0).0
                  ≡ list_after part next few (renumbered place found.0 reply)
                  = ap (λ (op : ℕ). (next few op).0)
                  (sym (same_operation book names part is place found.0 reply stays)) in (
                    renumbered place found.0 reply ∷ rest.0,
                    (
                      stands_in_part book names part next cut small whole few place found.0 is
                          follows exact stays alike.0 may,
                      subst (λ (l : List ℕ). Continues part next (raised small i) l rest.0)
                          same rest.1,
                    ),
                  )
              | inr passes ↦
                  continues_in_part R book names part next (raised cut i) small
                  (list_after book next whole place) few order is lists wider
                  (follows_past book names cut small place (is.rising i) follows exact passes.0
                  passes.1 may.may_come.next inside) passes.2 later
            ]
        | inr none ↦
            continues_in_part R book names part next (raised cut i) small
            (list_after book next whole place) few order is lists wider
            (follows_without book names cut small place follows exact none may.may_come.next inside)
            (lists.lacks cut whole few place inside related may
            (λ named. none named.0 named.1 named.2)) later
      ]
    ]

pub no_call_below : (xs : List ℕ) → count_below xs 0 ≡ 0
no_call_below [] = refl
no_call_below (x ∷ xs) = cond-false (ltb x 0) (1 + count_below xs 0) 0 (le-ltb x 0 (omega arith))

-- Where the book has a legal order from a list, the part has one from each list that is related to
-- it at the cut without a call.
pub has_one_in_part_from : (R : List ℕ → List ℕ → List ℕ → Type 0)
    (next : List ℕ → ℕ → List ℕ × ℕ) (book : List Page) (names : List (List ℕ)) (part : List Page)
    (whole few : List ℕ) → IsPart book names part → IsFollowedFrom R next book names
    → R (replicate (length book) 0) whole few
    → HasLegalOrder (spec_from whole next) book → HasLegalOrder (spec_from few next) part
has_one_in_part_from R next book names part whole few is lists related (order, legal) =
    let start : List ℕ = replicate (length book) 0 in
    let wide : length book ≤ length start =
    omega (arith, length-replicate {A = ℕ} (length book) 0) in
    let zeros : (i : ℕ) → get_or start i 0 ≡ 0 = λ i. get_or-replicate_default (length book) i 0 in
    let follows : Follows book names start start = record {
      wide = refl;
      counts = λ i. inl (zeros i ∙ (sym (no_call_below (numbers_of names i))
          ∙ ap (count_below (numbers_of names i)) (sym (zeros i))));
    } in
    let rest = continues_in_part R book names part next start start whole few order is lists wide
    follows related
    (continues_from_legal_order book (spec_from whole next) start order wide zeros legal) in (
      rest.0,
      legal_order_from_continues part (spec_from few next) start rest.0
          (omega (arith, is.callers, wide)) zeros rest.1,
    )

-- A relation of two lists of the object, one with all calls of the book and one with the calls of
-- the part, which each call of the book keeps.
pub record IsFollowed (R : List ℕ → List ℕ → Type 0) (next : List ℕ → ℕ → List ℕ × ℕ)
    (book : List Page) (names : List (List ℕ)) : Type 0 where
  -- a call that the part lacks keeps it, changing the first list alone
  pub lacks : (whole few : List ℕ) (call : Call) → R whole few → IsCall book call
      → ¬ IsNamed names call → AgreesAt book next whole call
      → R (next whole (word_at book call)).0 few
  -- a call that the part has keeps it, made on both lists, with the same reply where it is
  -- answered; or the call is unanswered and the book has one open, and the call keeps it, changing
  -- the first list alone
  pub has : (whole few : List ℕ) (call : Call) → R whole few → IsCall book call → IsNamed names call
      → AgreesAt book next whole call
      → ((IsAnswered book call
      → (next few (word_at book call)).1 ≡ (next whole (word_at book call)).1)
      × R (next whole (word_at book call)).0 (next few (word_at book call)).0)
      ⊎ (HasOneOpen book × (IsAnswered book call → ⊥) × R (next whole (word_at book call)).0 few)

-- Where the book has a legal order from a list, the part has one from each related list.
pub has_one_in_part : (R : List ℕ → List ℕ → Type 0) (next : List ℕ → ℕ → List ℕ × ℕ)
    (book : List Page) (names : List (List ℕ)) (part : List Page) (whole few : List ℕ)
    → IsPart book names part → IsFollowed R next book names → R whole few
    → HasLegalOrder (spec_from whole next) book → HasLegalOrder (spec_from few next) part
has_one_in_part R next book names part whole few is lists related legal =
    has_one_in_part_from (λ cut first second. R first second) next book names part whole few is
    (record {
      lacks = λ cut first second place inside kept may unnamed.
          lists.lacks first second (call_at place) kept may.may_come.is_call unnamed
          (λ r known. may.recorded r known ∙ sym may.reply);
      has = λ cut first second place inside kept may named.
          lists.has first second (call_at place) kept may.may_come.is_call named
          (λ r known. may.recorded r known ∙ sym may.reply);
    }) related legal
