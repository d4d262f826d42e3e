-- A book that has grown by peeked records and operations is a gathered one.
use Rattle.std.proofs.Common.{◌≡◌, ℕ, ◌+◌, ◌<◌, ◌≤◌, ◌⊎◌, max, List, [], ◌++◌, length, slice_get, slice_index, Some, refl, sym, ap, ◌∙◌, subst, arith, inl, inr, IsTrue}
use Rattle.std.proofs.lemmas.Bool.{cases_lt}
use Rattle.std.proofs.lemmas.List.{get_or_past, length-append}
use Rattle.std.proofs.lemmas.Option.{slice_get_within, none-some}
use Rattle.book_base.specs.declared.call.Call.{Call}
use Rattle.book_base.specs.declared.call.Record.{Record}
use Rattle.book_base.specs.Book.{Page, page_of, calls_of, answers_of, record_of, IsCall, IsValid}
use Rattle.book_base.specs.BookAt.{IsHeldBySomeView}
use Rattle.book_base.proofs.PageLemmas.{caller_from_call, caller_from_answer}
use Rattle.book_base.proofs.ViewLemmas.{same_call}
use Rattle.legal_orders.proofs.BookAtLaws.{stays_valid}
use Rattle.world_core.specs.declared.region.Region.TheVariants.{N, M}
use Rattle.world_core.specs.Shape.{Shape}
use Rattle.world_core.specs.Local.{Local}
use Rattle.world_core.specs.Event.{knows_row}
use Rattle.world_core.specs.Calls.{IsLocalOf, IsGathered, book_in}
use Rattle.world_laws.specs.Given.{IsGivenIn}
use Rattle.world_laws.proofs.Locals.{given_cuts_are_low, known_rows_are_counted}
use Rattle.world_laws.proofs.Gathered.{gathered_is_the_book_at}
use Rattle.world_laws.proofs.Validity.{books_are_valid}
use Rattle.row_gather.specs.Words.{KnowsRows, IsPeekedRecord, records_at, ArePeekedTo, greatest_in, HasPeekedCalls}
use Rattle.row_gather.specs.Filling.{IsFilled}
use Rattle.row_gather.specs.Exact.{IsBookOfAll}
use Rattle.row_gather.proofs.Peeking.{knows_viewed}
use Rattle.row_gather.proofs.Counting.{greatest_in-least, greatest_in-reached}
use Rattle.row_gather.proofs.After.{slice_get-append_left, slice_get-append_right, slice_get-append_cases}

-- A cut that a scan of M gave has one count for each caller.
pub given_wide : (s : Shape) (i : ℕ) (l : Local) (cut : List ℕ) → IsLocalOf s i l
    → IsGivenIn l.cuts M cut → length cut ≡ s.callers
given_wide s i l cut (locals, t, low, is) given =
    (given_cuts_are_low s locals i given.place
    (record { region = M; cut = cut; since = given.since }) t low
    (ap (λ (m : Local). slice_get m.cuts given.place) is ∙ given.is)).0

-- The record `r` is that of call number `answers_of book j + k` of caller `j`, who is one of n
-- callers; the cut holds this call, and a caller with this local has peeked the record.
record IsListed (n : ℕ) (l : Local) (book : List Page) (cut : List ℕ) (j k : ℕ)
    (r : Record) : Type 0 where
  caller : j < n
  held : answers_of book j + k < slice_index cut j
  peeked : IsPeekedRecord n l (record { caller = j; number = answers_of book j + k }) r

module _ (n : ℕ) (l : Local) (kept : List Page) (cut : List ℕ) (lists : List (List Record))
    (h : ArePeekedTo n l kept cut n lists) where
  listed : (j k : ℕ) (r : Record) → slice_get (records_at lists j) k ≡ Some r
      → IsListed n l kept cut j k r
  listed j k r e =
      elim (cases_lt j n) [
        | inl low ↦
            let mine = h.each j low in
            record {
              caller = low;
              held = omega (arith, slice_get_within (records_at lists j) k r e, mine.long);
              peeked = mine.each k r e;
            }
        | inr past ↦
            let none : records_at lists j ≡ [] =
            get_or_past lists j [] (omega (arith, past, h.wide)) in
            absurd (none-some r (sym (ap (λ (rs : List Record). slice_get rs k) none) ∙ e))
      ]

  -- A caller knows the row in N of each call that the view of a peeked record holds.
  pub known_held : (j : ℕ) → j < n → KnowsRows n l N j (greatest_in lists j)
  known_held j low k below =
      let found = greatest_in-reached lists k j below in
      let it = listed found.0 found.1 found.2 found.3 in
      knows_viewed n l (record { caller = found.0; number = answers_of kept found.0 + found.1 }) j k
      (slice_index found.2.view j) low (it.peeked.view.1 j low) found.4

  -- The book `kept` was gathered at some cut, and the new cut holds all its records; the calls that
  -- the new views hold were added to it, which makes `book`; and then the new records, which makes
  -- `whole`.
  module _ (early : List ℕ) (was : IsGathered n l early kept)
      (within : (j : ℕ) → answers_of kept j ≤ slice_index cut j) (book whole : List Page)
      (more : HasPeekedCalls l kept book)
      (counts : (j : ℕ) → j < n → calls_of book j ≡ max (calls_of kept j) (greatest_in lists j))
      (full : IsFilled book lists whole) where
    records_are : (j : ℕ)
        → (page_of whole j).records ≡ (page_of kept j).records ++ records_at lists j
    records_are j =
        full.records j ∙ ap (λ (rs : List Record). rs ++ records_at lists j) (more.records j)

    -- A record of the book `kept` is one of `whole`; a new record is one of `whole` (`stands_now`);
    -- and `whole` has no other record (`stood`).
    stands_still : (call : Call) (r : Record) → record_of kept call ≡ Some r
        → record_of whole call ≡ Some r
    stands_still call r e =
        ap (λ (rs : List Record). slice_get rs call.number) (records_are call.caller)
        ∙ slice_get-append_left (page_of kept call.caller).records
        (records_at lists call.caller) call.number r e

    stands_now : (j k : ℕ) (r : Record) → slice_get (records_at lists j) k ≡ Some r
        → record_of whole (record { caller = j; number = answers_of kept j + k }) ≡ Some r
    stands_now j k r e =
        ap (λ (rs : List Record). slice_get rs (answers_of kept j + k)) (records_are j)
        ∙ slice_get-append_right (page_of kept j).records (records_at lists j)
        (answers_of kept j + k) k r refl e

    stood : (call : Call) (r : Record) → record_of whole call ≡ Some r
        → (record_of kept call ≡ Some r)
        ⊎ ((k : ℕ) × (call.number ≡ answers_of kept call.caller + k)
        × (slice_get (records_at lists call.caller) k ≡ Some r))
    stood call r e =
        slice_get-append_cases (page_of kept call.caller).records
        (records_at lists call.caller) call.number r
        (sym (ap (λ (rs : List Record). slice_get rs call.number) (records_are call.caller)) ∙ e)

    same_calls : (j : ℕ) → calls_of whole j ≡ calls_of book j
    same_calls j = ap (length {A = ℕ}) (full.operations j)

    long : length book ≡ n
    long = more.callers ∙ was.callers

    -- Each call of the book `whole` is held by the view of a record that the cut holds.
    is_held : (call : Call) → IsCall whole call → IsHeldBySomeView whole cut call
    is_held call there =
        let in_book : call.number < calls_of book call.caller =
        omega (arith, there, same_calls call.caller) in
        let low : call.caller < n =
        omega (arith, caller_from_call book call.caller call.number in_book, long) in
        elim (cases_lt call.number (calls_of kept call.caller)) [
          | inl old ↦
              let found = (was.calls call).0 old in
              let answered : found.0.number < slice_index cut found.0.caller
              = omega (
                arith,
                slice_get_within (page_of kept found.0.caller).records found.0.number
                    found.1 found.3,
                within found.0.caller,
              ) in
              (found.0, found.1, answered, stands_still found.0 found.1 found.3, found.4)
          | inr new ↦
              let below : call.number < greatest_in lists call.caller =
              omega (arith, in_book, counts call.caller low, new) in
              let found = greatest_in-reached lists call.number call.caller below in
              let it : Call =
              record { caller = found.0; number = answers_of kept found.0 + found.1 } in (
                it,
                found.2,
                (listed found.0 found.1 found.2 found.3).held,
                stands_now found.0 found.1 found.2 found.3,
                found.4,
              )
        ]

    -- A call that the view of a record of the book `kept` holds is a call of `kept`.
    was_call : (call it : Call) (r : Record) → record_of kept it ≡ Some r
        → call.number < slice_index r.view call.caller → IsCall kept call
    was_call call it r e held =
        let answered : it.number < answers_of kept it.caller =
        slice_get_within (page_of kept it.caller).records it.number r e in
        let low : it.caller < n =
        omega (arith, caller_from_answer kept it.caller it.number answered, was.callers) in
        (was.calls call).1 (it, r, omega (arith, answered, was.records it.caller low), e, held)

    is_call : (call : Call) → IsHeldBySomeView whole cut call → IsCall whole call
    is_call call (it, r, answered, e, held) =
        elim (stood it r e) [
          | inl old ↦
              let there : call.number < calls_of kept call.caller = was_call call it r old held in
              let low : call.caller < n =
              omega (arith, caller_from_call kept call.caller call.number there, was.callers) in
              omega (arith, there, counts call.caller low, same_calls call.caller)
          | inr new ↦
              let wide : length r.view ≡ n = (listed it.caller new.0 r new.2).peeked.view.0 in
              let low : call.caller < n = elim (cases_lt call.caller n) [
                | inl there ↦ there
                | inr past ↦ absurd (omega
                    (arith, held, get_or_past r.view call.caller 0 (omega (arith, past, wide))))
              ] in
              let least = greatest_in-least lists it.caller new.0 r call.caller new.2 in
              omega (arith, held, least, counts call.caller low, same_calls call.caller)
        ]

    -- The caller has peeked each record of the book `whole`.
    is_peeked : (call : Call) (r : Record) → record_of whole call ≡ Some r
        → IsPeekedRecord n l call r
    is_peeked call r e =
        elim (stood call r e) [
          | inl old ↦ record { reply = was.replies call r old; view = was.views call r old }
          | inr new ↦
              subst (λ (c : Call). IsPeekedRecord n l c r) (same_call
              (record { caller = call.caller; number = answers_of kept call.caller + new.0 }) call
              refl (sym new.1))
              (listed call.caller new.0 r new.2).peeked
        ]

    -- The book `whole` is one at the cut each of whose words the caller has peeked.
    pub gathered : IsGathered n l cut whole
    gathered =
        record {
          callers = full.callers ∙ long;
          records = λ j low.
              omega (
                arith,
                ap (length {A = Record}) (records_are j),
                length-append (page_of kept j).records (records_at lists j),
                (h.each j low).long,
              );
          calls = λ call. (is_held call, is_call call);
          operations =
              λ call op e. more.operations call op (ap (λ (ops : List ℕ). slice_get ops call.number)
              (sym (full.operations call.caller)) ∙ e);
          replies = λ call r e. (is_peeked call r e).reply;
          views = λ call r e. (is_peeked call r e).view;
        }

-- For each caller, the greatest count in the views of records that were peeked in a reachable world
-- is at most the cap.
pub held_few : (s : Shape) (i : ℕ) (l : Local) (cut : List ℕ) (kept : List Page)
    (lists : List (List Record)) → IsLocalOf s i l
    → ArePeekedTo s.callers l kept cut s.callers lists
    → (j : ℕ) → j < s.callers → greatest_in lists j ≤ s.cap
held_few s i l cut kept lists (locals, t, low, is) h j inside =
    elim (cases_lt s.cap (greatest_in lists j)) [
      | inl more ↦
          let knows : IsTrue (knows_row s.callers l N j s.cap) =
          known_held s.callers l kept cut lists h j inside s.cap more in
          let counted = known_rows_are_counted s locals i j s.cap N t low
          (subst (λ (m : Local). IsTrue (knows_row s.callers m N j s.cap)) (sym is) knows) in
          absurd (omega (arith, counted.1))
      | inr fits ↦ fits
    ]

-- In each reachable world in which caller i has this local, a book that is gathered at a cut is the
-- book at this cut of the book of all callers' calls.
pub is_book_of_all : (s : Shape) (i : ℕ) (l : Local) (cut : List ℕ) (book : List Page)
    → i < s.callers → IsGathered s.callers l cut book → IsBookOfAll s i l cut book
is_book_of_all s i l cut book low g locals t is =
    gathered_is_the_book_at s locals i cut book t low
    (subst (λ (m : Local). IsGathered s.callers m cut book) (sym is) g)

-- A book that is gathered with a local of a reachable world is valid.
pub gathered_is_valid : (s : Shape) (i : ℕ) (l : Local) (cut : List ℕ) (book : List Page)
    → IsLocalOf s i l → IsGathered s.callers l cut book → IsValid book
gathered_is_valid s i l cut book (locals, t, low, is) g =
    subst IsValid (sym (is_book_of_all s i l cut book low g locals t is))
    (stays_valid (book_in locals) cut (books_are_valid s locals t))

-- Where the cap is at most a number, the greatest counts in the views of records that were peeked
-- in a reachable world are at most this number too.
pub counts_few : (s : Shape) (i : ℕ) (l : Local) (cut : List ℕ) (kept : List Page)
    (lists : List (List Record)) (counts : List ℕ) (most : ℕ) → IsLocalOf s i l
    → ArePeekedTo s.callers l kept cut s.callers lists → length counts ≡ s.callers
    → ((j : ℕ) → j < s.callers → slice_index counts j ≡ greatest_in lists j) → s.cap ≤ most
    → (j : ℕ) → slice_index counts j ≤ most
counts_few s i l cut kept lists counts most local h wide are fits j =
    elim (cases_lt j s.callers) [
      | inl low ↦ omega (arith, are j low, held_few s i l cut kept lists local h j low, fits)
      | inr past ↦ omega (arith, get_or_past counts j 0 (omega (arith, past, wide)))
    ]
