-- From a legal order of a part that lacks only unanswered read-only calls to one of the book: such
-- a call may stand right before the next call of its caller.
use Rattle.std.proofs.Common.{◌≡◌, ℕ, zero, suc, ◌+◌, ◌-◌, ◌<◌, ◌≤◌, ◌∙◌, List, [], ◌∷◌, length, get_or, set, replicate, unwrap_or, Some, refl, sym, ap, subst, inl, inr, arith}
use Rattle.std.specs.Option.{IsSomeAnd}
use Rattle.std.proofs.lemmas.Bool.{cases_lt, cases_eq}
use Rattle.std.proofs.lemmas.List.{length-replicate, length-set, set-get_or, set-set, get_or-set_same, get_or-set_other}
use Rattle.std.proofs.lemmas.Option.{slice_get_within, same_Some}
use Rattle.list_laws.proofs.Places.{get_or-replicate_default}
use Rattle.book_base.specs.declared.call.Call.{Call}
use Rattle.book_base.specs.declared.call.Record.{Record}
use Rattle.book_base.specs.declared.call.Place.{Place}
use Rattle.book_base.specs.SeqSpec.{spec_from}
use Rattle.book_base.specs.Cut.{Holds}
use Rattle.book_base.specs.Book.{Page, IsCall, IsAnswered, record_of, IsValid, Precedes}
use Rattle.book_base.specs.Order.{call_at, step_at}
use Rattle.book_base.specs.Next.{raised, MayStandNext, Continues, list_after}
use Rattle.legal_orders.proofs.LegalOrder.{raised_same, raised_other, raised_more, same_call, answer_stands, within_cut, legal_order_from_continues, continues_from_legal_order}
use Rattle.smaller_book.specs.Part.{numbers_of, count_below, original, IsNamed, IsPart, KeepsAnswers}
use Rattle.smaller_book.specs.ReadOnly.{LacksOpenReadOnlyAlone, HasOneExactlyWithoutOpenReadOnly}
use Rattle.smaller_book.proofs.Counts.{counted_from_below, below_from_counted, count_below-at, count_below-past, count_below-monotone, find_number}
use Rattle.smaller_book.proofs.Following.{some_that, record_was, word_at, no_call_below}
use Rattle.smaller_book.proofs.ReadOnly.{has_one_without_read_only}
use Rattle.smaller_book.proofs.Removing.{original_is_call}

-- The part's cut counts, of each caller, exactly those calls of the book's cut that the part has.
abbrev AreExact : List (List ℕ) → List ℕ → List ℕ → Type 0
AreExact names cut small =
    (i : ℕ) → get_or small i 0 ≡ count_below (numbers_of names i) (get_or cut i 0)

module _ (next : List ℕ → ℕ → List ℕ × ℕ) (book : List Page) (names : List (List ℕ))
    (part : List Page) (valid : IsValid book) (is : IsPart book names part)
    (keeps : KeepsAnswers book names part) (lacks : LacksOpenReadOnlyAlone next book names) where
  -- An answered call of the book is an answered call of the part.
  answered_stays : (a : Call) → IsAnswered book a
      → (k : ℕ) × (get_or (numbers_of names a.caller) k 0 ≡ a.number)
      × IsAnswered part (record { caller = a.caller; number = k })
  answered_stays a answered =
      let inside : IsCall book a = omega (arith, answered, valid.answers a.caller) in
      elim (find_number (numbers_of names a.caller) a.number) [
        | inl found ↦
            let moved : Call = record { caller = a.caller; number = found.0 } in
            let same : original names moved ≡ a =
            same_call (original names moved) a refl found.2 in
            let here : IsCall part moved = omega (arith, found.1, is.calls a.caller) in
            (found.0, found.2, keeps moved here (subst (IsAnswered book) (sym same) answered))
        | inr none ↦
            absurd ((lacks a inside (λ named. none named.0 named.1 named.2)).0 answered)
      ]

  -- A call that the part's cut holds is, as a call of the book, in the book's cut.
  held_in_book : (cut small : List ℕ) → AreExact names cut small → (a : Call) (k : ℕ)
      → get_or (numbers_of names a.caller) k 0 ≡ a.number → k < get_or small a.caller 0
      → Holds cut a
  held_in_book cut small exact a k same held =
      omega (
        arith,
        below_from_counted (numbers_of names a.caller) (get_or cut a.caller 0) k
            (omega (arith, held, exact a.caller)),
        same,
      )

  -- Where call k of a caller may come next in the part, each answered call of the book whose view
  -- doesn't hold the call that call k was is in the book's cut.
  preceded_in_book : (cut small : List ℕ) → AreExact names cut small → (i k : ℕ)
      → k < length (numbers_of names i)
      → ((a : Call) → Precedes part a (record { caller = i; number = k }) → Holds small a)
      → (a : Call) (r : Record) → record_of book a ≡ Some r
      → get_or r.view i 0 ≤ get_or (numbers_of names i) k 0 → Holds cut a
  preceded_in_book cut small exact i k inside preceded a r known few =
      let xs : List ℕ = numbers_of names i in
      let there = answered_stays a (slice_get_within _ a.number r known) in
      let moved : Call = record { caller = a.caller; number = there.0 } in
      let same : original names moved ≡ a = same_call (original names moved) a refl there.1 in
      let stands = answer_stands part moved there.2 in
      let was = record_was book names part is moved stands.0 stands.1 in
      let one : was.0 ≡ r =
      same_Some was.0 r (sym was.1 ∙ (ap (record_of book) same ∙ known)) in
      let counted : get_or stands.0.view i 0 ≤ k =
      omega (
        arith,
        was.2.view i,
        ap (λ (s : Record). count_below xs (get_or s.view i 0)) one,
        count_below-monotone xs (get_or r.view i 0) (get_or xs k 0) (is.rising i) few,
        count_below-at xs k (is.rising i) inside,
      ) in
      held_in_book cut small exact a there.0 there.1
      (preceded moved (inl (subst (λ o. IsSomeAnd o (λ (s : Record). get_or s.view i 0 ≤ k))
      (sym stands.1) counted)))

  -- Where a caller's calls from a cut on, up to call m, are ones that the part lacks, places that
  -- continue an order from the cut with these calls continue one from the cut, after these calls.
  filled : (d : ℕ) (cut list : List ℕ) (i m : ℕ) (rest : List Place) → i < length cut
      → get_or cut i 0 + d ≡ m
      → ((number : ℕ) → get_or cut i 0 ≤ number → number < m
      → IsCall book (record { caller = i; number = number })
      × (¬ IsNamed names (record { caller = i; number = number })))
      → ((a : Call) (r : Record) → record_of book a ≡ Some r → get_or r.view i 0 ≤ m → Holds cut a)
      → Continues book next (set cut i m) list rest
      → (order : List Place) × Continues book next cut list order
  filled zero cut list i m rest inside at between ready on =
      let same : set cut i m ≡ cut =
      ap (set cut i) {x = m} {y = get_or cut i 0} (omega (arith, at)) ∙ set-get_or cut i 0 in
      (rest, subst (λ (c : List ℕ). Continues book next c list rest) same on)
  filled (suc d) cut list i m rest inside at between ready on =
      let n : ℕ = get_or cut i 0 in
      let call : Call = record { caller = i; number = n } in
      let it = between n (omega arith) (omega (arith, at)) in
      let lack = lacks call it.0 it.1 in
      let unanswered : (r : Record) → record_of book call ≡ Some r → ⊥ =
      λ r known. lack.0 (slice_get_within _ n r known) in
      let reply : ℕ = (next list (word_at book call)).1 in
      let place : Place = record { caller = i; number = n; reply = reply } in
      let stays : (next list (word_at book call)).0 ≡ list =
      lack.1.1 reply (λ r known. absurd (unanswered r known)) list refl in
      let more : get_or (raised cut i) i 0 ≡ n + 1 = raised_same cut i inside in
      let later = filled d (raised cut i) list i m rest
      (omega (arith, inside, length-set cut i (n + 1))) (omega (arith, more, at))
      (λ number most less. between number (omega (arith, more, most)) less)
      (λ a r known few. omega (arith, ready a r known few, raised_more cut i a.caller inside))
      (subst (λ (c : List ℕ). Continues book next c list rest) (sym (set-set cut i (n + 1) m))
      on) in
      let may : MayStandNext book next cut list place = record {
        may_come = record {
          is_call = it.0;
          next = refl;
          preceded = λ (a : Call) (p : Precedes book a call). elim p [
            | inl answered ↦
                let known = some_that (record_of book a)
                (λ (r : Record). get_or r.view i 0 ≤ n) answered in
                ready a known.0 known.1 (omega (arith, known.2, at))
            | inr own ↦ omega (arith, own.1, ap (λ (j : ℕ). get_or cut j 0) own.0)
          ];
        };
        recorded = λ r known. absurd (unanswered r known);
        reply = refl;
      } in (
        place ∷ later.0,
        (
          may,
          subst (λ (l : List ℕ). Continues book next (raised cut i) l later.0) (sym stays) later.1,
        ),
      )

  -- A caller's calls from the book's cut on, up to the call that its next call in the part was, are
  -- calls of the book that the part lacks.
  between_lacks : (cut small : List ℕ) → AreExact names cut small → (i k : ℕ)
      → k < length (numbers_of names i) → k ≡ get_or small i 0
      → IsCall book (record { caller = i; number = get_or (numbers_of names i) k 0 })
      → (number : ℕ) → get_or cut i 0 ≤ number → number < get_or (numbers_of names i) k 0
      → IsCall book (record { caller = i; number = number })
      × (¬ IsNamed names (record { caller = i; number = number }))
  between_lacks cut small exact i k inside next_is is_call number most less =
      let xs : List ℕ = numbers_of names i in (
        omega (arith, is_call, less),
        λ named. elim (cases_lt named.0 k) [
          | inl before ↦ absurd (omega (
            arith,
            below_from_counted xs (get_or cut i 0) named.0
                (omega (arith, before, next_is, exact i)),
            named.2,
            most,
          ))
          | inr after ↦ elim (cases_eq named.0 k) [
            | inl e ↦ absurd (omega (arith, ap (λ (j : ℕ). get_or xs j 0) e, named.2, less))
            | inr other ↦ absurd (omega (
              arith,
              is.rising i k named.0 (omega (arith, after, other)) named.1,
              named.2,
              less,
            ))
          ]
        ],
      )

  -- The next call of a caller in the part is, as a call of the book, outside the book's cut.
  outside_cut : (cut small : List ℕ) → AreExact names cut small → (i k : ℕ)
      → k < length (numbers_of names i) → k ≡ get_or small i 0
      → get_or cut i 0 ≤ get_or (numbers_of names i) k 0
  outside_cut cut small exact i k inside next_is =
      let xs : List ℕ = numbers_of names i in
      elim (cases_lt (get_or xs k 0) (get_or cut i 0)) [
        | inl less ↦ absurd (omega (
          arith,
          counted_from_below xs (get_or cut i 0) k (is.rising i) inside less,
          exact i,
          next_is,
        ))
        | inr le ↦ le
      ]

  -- The cuts are exact after the next call of a caller in the part, and in the book after the call
  -- that it was.
  exact_on : (cut small : List ℕ) → AreExact names cut small → (i k : ℕ)
      → k < length (numbers_of names i) → k ≡ get_or small i 0 → i < length cut
      → length small ≡ length cut
      → AreExact names (raised (set cut i (get_or (numbers_of names i) k 0)) i) (raised small i)
  exact_on cut small exact i k inside next_is at wide j =
      let xs : List ℕ = numbers_of names i in
      let m : ℕ = get_or xs k 0 in
      let whole : List ℕ = set cut i m in
      elim (cases_eq j i) [
        | inl e ↦
            let P : ℕ → Type 0 = λ n. get_or (raised small i) n 0
            ≡ count_below (numbers_of names n) (get_or (raised whole i) n 0) in
            let more : get_or (raised whole i) i 0 ≡ m + 1 =
            raised_same whole i (omega (arith, at, length-set cut i m))
            ∙ ap (λ (n : ℕ). n + 1) (get_or-set_same cut i m 0 at) in
            subst P (sym e) (raised_same small i (omega (arith, at, wide))
            ∙ (ap (λ (n : ℕ). n + 1) (sym next_is)
            ∙ (sym (count_below-past xs k (is.rising i) inside) ∙ ap (count_below xs) (sym more))))
        | inr other ↦
            raised_other small i j other
            ∙ (exact j ∙ ap (count_below (numbers_of names j))
            (sym (raised_other whole i j other ∙ get_or-set_other cut i j m 0 other)))
      ]

  -- Where places continue an order of the part from a cut, some places continue one of the book
  -- from each cut for which the part's cut is exact.
  continues_in_book : (cut small list : List ℕ) (order : List Place) → length book ≤ length cut
      → length small ≡ length cut → AreExact names cut small
      → Continues part next small list order
      → (rest : List Place) × Continues book next cut list rest
  continues_in_book cut small list [] wide same exact holds = (
    [],
    λ a answered.
        let there = answered_stays a answered in
        held_in_book cut small exact a there.0 there.1
        (holds (record { caller = a.caller; number = there.0 }) there.2),
  )
  continues_in_book cut small list (place ∷ order) wide same exact (may, on) =
      let i : ℕ = place.caller in
      let k : ℕ = place.number in
      let xs : List ℕ = numbers_of names i in
      let m : ℕ = get_or xs k 0 in
      let inside : k < length xs = omega (arith, may.may_come.is_call, is.calls i) in
      let call : Call = record { caller = i; number = m } in
      let is_call : IsCall book call =
      original_is_call book names part is (call_at place) may.may_come.is_call in
      let at : i < length cut = within_cut book cut call wide is_call in
      let most : get_or cut i 0 ≤ m =
      outside_cut cut small exact i k inside may.may_come.next in
      let ready = preceded_in_book cut small exact i k inside may.may_come.preceded in
      let whole : List ℕ = set cut i m in
      let own : get_or whole i 0 ≡ m = get_or-set_same cut i m 0 at in
      let wide_whole : length whole ≡ length cut = length-set cut i m in
      let here : Place = record { caller = i; number = m; reply = place.reply } in
      let word : (step_at part place).0 ≡ (step_at book here).0 =
      ap (λ o. unwrap_or o 0) (is.operations (call_at place) may.may_come.is_call) in
      let later = continues_in_book (raised whole i) (raised small i)
      (list_after part next list place) order
      (omega (arith, wide, wide_whole, length-set whole i (get_or whole i 0 + 1)))
      (omega (
        arith,
        same,
        wide_whole,
        length-set whole i (get_or whole i 0 + 1),
        length-set small i (get_or small i 0 + 1),
      ))
      (exact_on cut small exact i k inside may.may_come.next at same) on in
      let stands : MayStandNext book next whole list here = record {
        may_come = record {
          is_call = is_call;
          next = sym own;
          preceded = λ (a : Call) (p : Precedes book a call). elim p [
            | inl answered ↦
                let known = some_that (record_of book a)
                (λ (r : Record). get_or r.view i 0 ≤ m) answered in
                let held : Holds cut a = ready a known.0 known.1 known.2 in
                elim (cases_eq a.caller i) as (λ _. a.number < get_or whole a.caller 0) [
                  | inl e ↦ omega (
                    arith,
                    held,
                    most,
                    own,
                    ap (λ (j : ℕ). get_or cut j 0) e,
                    ap (λ (j : ℕ). get_or whole j 0) e,
                  )
                  | inr other ↦ omega (arith, held, get_or-set_other cut i a.caller m 0 other)
                ]
            | inr earlier ↦
                omega (arith, earlier.1, own, ap (λ (j : ℕ). get_or whole j 0) earlier.0)
          ];
        };
        recorded = λ r known.
            let answered = keeps (call_at place) may.may_come.is_call
            (slice_get_within _ m r known) in
            let in_part = answer_stands part (call_at place) answered in
            let was = record_was book names part is (call_at place) in_part.0 in_part.1 in
            let one : was.0 ≡ r = same_Some was.0 r (sym was.1 ∙ known) in
            ap (λ (s : Record). s.reply) (sym one)
            ∙ (sym was.2.reply ∙ may.recorded in_part.0 in_part.1);
        reply = ap (λ (op : ℕ). (next list op).1) (sym word) ∙ may.reply;
      } in
      filled (m - get_or cut i 0) cut list i m (here ∷ later.0) at (omega (arith, most))
      (between_lacks cut small exact i k inside may.may_come.next is_call) ready (
        stands,
        subst (λ (l : List ℕ). Continues book next (raised whole i) l later.0)
            (ap (λ (op : ℕ). (next list op).0) word) later.1,
      )

-- A book has a legal order exactly where the part without unanswered read-only calls has one.
pub has_one_exactly : HasOneExactlyWithoutOpenReadOnly
has_one_exactly next book names part valid is keeps lacks list = (
  has_one_without_read_only next book names part is
      (λ call inside unnamed. (lacks call inside unnamed).1) list,
  λ (order, legal).
      let start : List ℕ = replicate (length book) 0 in
      let long : length start ≡ length book = length-replicate {A = ℕ} (length book) 0 in
      let zeros : (i : ℕ) → get_or start i 0 ≡ 0 =
      λ i. get_or-replicate_default (length book) i 0 in
      let exact : AreExact names start start = λ i.
      zeros i ∙ (sym (no_call_below (numbers_of names i))
      ∙ ap (count_below (numbers_of names i)) (sym (zeros i))) in
      let rest = continues_in_book next book names part valid is keeps lacks start start list order
      (omega (arith, long)) refl exact
      (continues_from_legal_order part (spec_from list next) start order
      (omega (arith, is.callers, long)) zeros legal) in (
        rest.0,
        legal_order_from_continues book (spec_from list next) start rest.0 (omega (arith, long))
            zeros rest.1,
      ),
)
