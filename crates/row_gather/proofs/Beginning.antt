-- The book with which a gathering begins.
use Rattle.std.proofs.Common.{◌≡◌, ℕ, zero, suc, ◌+◌, ◌*◌, ◌<◌, ◌≤◌, List, Option, None, Some, Result, Ok, Err, length, map, replicate, sum, slice_get, slice_index, refl, sym, ap, ◌∙◌, subst, arith, inl, inr}
use Rattle.std.specs.Prelude.{IfOk}
use Rattle.std.proofs.lemmas.Bool.{cases_lt}
use Rattle.std.proofs.lemmas.List.{length-replicate}
use Rattle.std.proofs.lemmas.List.Sums.{sum_by-cons}
use Rattle.std.proofs.lemmas.Option.{none-some}
use Rattle.list_laws.proofs.Places.{get_or-replicate_default}
use Rattle.book_base.specs.declared.call.Call.{Call}
use Rattle.book_base.specs.declared.call.Record.{Record}
use Rattle.book_base.specs.declared.fault.NoMemory.{NoMemory}
use Rattle.book_base.specs.Cut.{IsWithin}
use Rattle.book_base.specs.Book.{Page, page_of, answers_of, announced, answered, record_of, IsCall}
use Rattle.book_base.specs.BookAt.{IsHeldBySomeView}
use Rattle.book_base.proofs.PageLemmas.{empty, page_past}
use Rattle.book_base.proofs.ViewLemmas.{answered_at}
use Rattle.world_core.specs.Local.{Local}
use Rattle.world_core.specs.Calls.{IsGathered}
use Rattle.row_gather.specs.declared.gathered.Gathered.{Gathered}
use Rattle.row_gather.specs.Words.{words_of_book}
use Rattle.row_gather.specs.Gathered.{IsGatheredBy, EmptyIsGathered, empty_book, HoldsAll, IsBegunWith, TicksForNew}

-- ---- the book without calls

page_of-empty_book : (n i : ℕ) → page_of (empty_book n) i ≡ empty
page_of-empty_book n i = get_or-replicate_default n i empty

pub empty_is_gathered : EmptyIsGathered
empty_is_gathered n l =
    let unrecorded : (call : Call) (r : Record) → record_of (empty_book n) call ≡ Some r → ⊥
    = λ call r e. none-some r (sym (ap (λ (p : Page). slice_get p.records call.number)
    (page_of-empty_book n call.caller)) ∙ e) in
    record {
      callers = length-replicate n empty;
      records = λ i low. ap (λ (p : Page). length p.records) (page_of-empty_book n i)
          ∙ sym (get_or-replicate_default n i 0);
      calls = λ call. (
        λ (there : IsCall (empty_book n) call). absurd (omega (
          arith,
          there,
          ap (λ (p : Page). length p.operations) (page_of-empty_book n call.caller),
        )),
        λ (held : IsHeldBySomeView (empty_book n) (replicate n 0) call).
            absurd (unrecorded held.0 held.1 held.3),
      );
      operations = λ call op e.
          absurd (none-some op (sym (ap (λ (p : Page). slice_get p.operations call.number)
          (page_of-empty_book n call.caller)) ∙ e));
      replies = λ call r e. absurd (unrecorded call r e);
      views = λ call r e. absurd (unrecorded call r e);
    }

-- Each cut holds all records of the book without a call, which has none.
pub empty_is_within : (n : ℕ) (cut : List ℕ) → IsWithin (answered (empty_book n)) cut
empty_is_within n cut i = omega (
  arith,
  answered_at (empty_book n) i,
  ap (λ (p : Page). length p.records) (page_of-empty_book n i),
)

sum-counts_of_none : (f : Page → ℕ) → f empty ≡ 0 → (n : ℕ) → sum (map f (replicate n empty)) ≡ 0
sum-counts_of_none f none zero = refl
sum-counts_of_none f none (suc n) = omega (
  arith,
  none,
  sum_by-cons (λ (x : ℕ). x) (f empty) (map f (replicate n empty)),
  sum-counts_of_none f none n,
)

words_of_empty : (n : ℕ) → words_of_book (empty_book n) ≡ 0
words_of_empty n =
    let calls : sum (announced (empty_book n)) ≡ 0 =
    sum-counts_of_none (λ (p : Page). length p.operations) refl n in
    let records : sum (answered (empty_book n)) ≡ 0 =
    sum-counts_of_none (λ (p : Page). length p.records) refl n in
    (λ i. 2 * calls i + (1 + length (empty_book n)) * records i) ∙ omega arith

-- ---- a kept book

-- A cut holds all records of a book of at most n callers where it counts, for each of n callers, at
-- least as many records as the book has of it.
pub within_from_counts : (book : List Page) (cut : List ℕ) (n : ℕ) → length book ≤ n
    → ((j : ℕ) → j < n → answers_of book j ≤ slice_index cut j) → IsWithin (answered book) cut
within_from_counts book cut n all each i =
    elim (cases_lt i n) [
      | inl low ↦ omega (arith, answered_at book i, each i low)
      | inr past ↦ omega (
        arith,
        answered_at book i,
        ap (λ (p : Page). length p.records) (page_past book i (omega (arith, past, all))),
      )
    ]

-- A cut that counts fewer records of a caller than a book has of it doesn't hold all records of
-- this book.
pub outside_from_count : (book : List Page) (cut : List ℕ) (j : ℕ)
    → slice_index cut j < answers_of book j → IsWithin (answered book) cut → ⊥
outside_from_count book cut j more within = omega (arith, answered_at book j, within j, more)

-- A cut holds all records of a kept book that a caller has gathered, where the cut that is kept
-- with the book is within it.
kept_within : (l : Local) (kept : Gathered) (cut : List ℕ) → IsGatheredBy l (Some kept)
    → IsWithin kept.cut cut → IsWithin (answered kept.book) cut
kept_within l kept cut was within =
    within_from_counts kept.book cut (length kept.book) (omega arith)
    (λ j low. omega (arith, was.records j low, within j))

-- ---- what a gathering begins with

-- A gathering at a cut may begin with the book without a call where no book is kept whose callers
-- are those of the cut and all of whose records the cut holds.
pub begun_with_none : (gathered : Option Gathered) (cut : List ℕ) (n : ℕ)
    (r : Result (List Page) NoMemory) → n ≡ length cut
    → ((g : Gathered) → gathered ≡ Some g → HoldsAll cut g.book → ⊥)
    → IfOk r (λ book. book ≡ empty_book n) → IfOk r (IsBegunWith gathered cut)
begun_with_none gathered cut n (Err e) wide never h = tt
begun_with_none gathered cut n (Ok book) wide never h =
    let is : book ≡ empty_book (length cut) = h ∙ ap empty_book wide in
    record {
      held = record {
        callers = ap (length {A = Page}) is ∙ length-replicate (length cut) empty;
        within = subst (λ (b : List Page). IsWithin (answered b) cut) (sym is)
            (empty_is_within (length cut) cut);
      };
      kept = λ g there holds. absurd (never g there holds);
      either = inr is;
    }

-- A caller that has gathered the kept book, where one is kept, has gathered the book with which its
-- next gathering begins, at some cut.
pub begun_is_gathered : (gathered : Option Gathered) (cut : List ℕ) (book : List Page) (l : Local)
    → IsBegunWith gathered cut book → IsGatheredBy l gathered
    → (early : List ℕ) × IsGathered (length cut) l early book
begun_is_gathered gathered cut book l begun was =
    elim begun.either [
      | inl it ↦
          let kept : IsGathered (length it.0.book) l it.0.cut it.0.book =
          subst (IsGatheredBy l) it.1 was in (
            it.0.cut,
            subst (λ (n : ℕ). IsGathered n l it.0.cut book) begun.held.callers
                (subst (λ (b : List Page). IsGathered (length b) l it.0.cut b) (sym it.2) kept),
          )
      | inr none ↦ (
        replicate (length cut) 0,
        subst (IsGathered (length cut) l (replicate (length cut) 0)) (sym none)
            (empty_is_gathered (length cut) l),
      )
    ]

-- The book with which the gathering at a cut begins has of each caller at most as many records as
-- the cut counts.
pub begun_within : (gathered : Option Gathered) (cut : List ℕ) (book : List Page)
    → IsBegunWith gathered cut book → (j : ℕ) → answers_of book j ≤ slice_index cut j
begun_within gathered cut book begun j = omega (arith, answered_at book j, begun.held.within j)

-- Where the counter has risen by the number of words that the gathered book has and the book with
-- which the gathering began lacks, it has risen as `TicksForNew` says.
pub ticks_for_new : (n : ℕ) (gathered : Option Gathered) (cut : List ℕ) (start : List Page)
    (l : Local) (g : Gathered) (before after : ℕ) → IsBegunWith gathered cut start
    → IsGatheredBy l gathered
    → length cut ≡ n → g.cut ≡ cut → after + words_of_book start ≡ before + words_of_book g.book
    → TicksForNew n gathered g before after
ticks_for_new n None cut start l g before after begun was wide same ticks =
    elim begun.either [
      | inl it ↦ absurd (none-some it.0 it.1)
      | inr none ↦ omega (arith, ticks, ap words_of_book none, words_of_empty (length cut))
    ]
ticks_for_new n (Some kept) cut start l g before after begun was wide same ticks = λ long within.
    let inside : IsWithin kept.cut cut = subst (IsWithin kept.cut) same within in
    let is : start ≡ kept.book = begun.kept kept refl
    (record { callers = long ∙ sym wide; within = kept_within l kept cut was inside }) in
    ap (λ (b : List Page). after + words_of_book b) (sym is) ∙ ticks
