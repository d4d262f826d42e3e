-- The book of locals that are together is valid, and so is the book at each cut.
use Rattle.std.proofs.Common.{◌≡◌, ℕ, ◌+◌, ◌<◌, ◌≤◌, List, [], length, map, Some, slice_index, slice_index_or, refl, sym, ap, ◌∙◌, subst, arith, inl, inr}
use Rattle.std.proofs.lemmas.Bool.{cases_lt}
use Rattle.std.proofs.lemmas.List.{length-map, get_or_past}
use Rattle.book_base.specs.declared.call.Call.{Call}
use Rattle.book_base.specs.declared.call.Record.{Record}
use Rattle.book_base.specs.Cut.{AreComparable}
use Rattle.book_base.specs.Book.{record_of, IsValid}
use Rattle.book_base.proofs.GrowthLemmas.{within_announced}
use Rattle.book_base.proofs.ViewLemmas.{answered_at}
use Rattle.legal_orders.proofs.BookAtLaws.{is_the_book_at, stays_valid, record_counts_are_the_cut}
use Rattle.world_core.specs.declared.region.Region.TheVariants.{N}
use Rattle.world_core.specs.Shape.{Shape}
use Rattle.world_core.specs.Local.{Local, fresh}
use Rattle.world_core.specs.Calls.{AreTogether, calls_in, page_with, book_in, local_at}
use Rattle.world_laws.specs.Own.{IsCutOf}
use Rattle.world_laws.proofs.Locals.{locals_have_phases}
use Rattle.world_laws.proofs.OwnEntries.{views_count_their_call}
use Rattle.world_laws.proofs.Instants.{views_are_comparable}
use Rattle.world_laws.specs.Books.{BooksAreValid, PublishedCutsAreWithin, BooksAtPublishedCuts}
use Rattle.world_laws.proofs.Pages.{HasLengths, lengths, calls_in_book, answers_in_book, from_record}

pub book_long : (locals : List Local) → length (book_in locals) ≡ length locals
book_long locals =
    length-map (map calls_in locals) page_with ∙ length-map locals calls_in

fresh_lengths : HasLengths fresh
fresh_lengths = record {
  operations = refl;
  calls = omega arith;
  replies = omega arith;
  seen = omega arith;
  published = omega arith;
  one = omega arith;
}

-- Each local of a reachable world has its lengths, and so has the empty local of a caller that
-- isn't there.
pub all_lengths : (s : Shape) (locals : List Local) → AreTogether s locals → (i : ℕ)
    → HasLengths (local_at locals i)
all_lengths s locals t i =
    let phases = locals_have_phases s locals t in
    elim (cases_lt i s.callers) [
      | inl low ↦ lengths (local_at locals i) (phases.1 i low)
      | inr past ↦ subst HasLengths
          (sym (get_or_past locals i fresh (omega (arith, phases.0)))) fresh_lengths
    ]

-- who has a view is one of the callers
pub viewer : (s : Shape) (locals : List Local) → AreTogether s locals → (i k : ℕ)
    → k < length (local_at locals i).views → i < s.callers
viewer s locals t i k below =
    let phases = locals_have_phases s locals t in
    elim (cases_lt i s.callers) [
      | inl low ↦ low
      | inr past ↦ absurd (omega (
        arith,
        below,
        ap (λ (l : Local). length l.views) (get_or_past locals i fresh (omega (arith, phases.0))),
      ))
    ]

module _ (s : Shape) (locals : List Local) (t : AreTogether s locals) where
  view_of : (call : Call) (r : Record) → record_of (book_in locals) call ≡ Some r
      → IsCutOf locals N call.caller (call.number + 1) r.view
  view_of call r e =
      let known = from_record locals (all_lengths s locals t) call r e in
      subst (λ (x : Record). IsCutOf locals N call.caller (call.number + 1) x.view) (sym known.1)
      (views_count_their_call s locals call.caller call.number t
      (viewer s locals t call.caller call.number known.0) known.0)

  view_low : (call : Call) (r : Record) → record_of (book_in locals) call ≡ Some r → (i : ℕ)
      → slice_index r.view i ≤ length (local_at locals i).operations
  view_low call r e i =
      let v = view_of call r e in
      elim (cases_lt i (length locals)) [
        | inl low ↦ omega (arith, v.within i low, (all_lengths s locals t i).operations)
        | inr past ↦ omega (arith, get_or_past r.view i 0 (omega (arith, v.wide)))
      ]

  compared : (a b : Call) (r q : Record) → record_of (book_in locals) a ≡ Some r
      → record_of (book_in locals) b ≡ Some q → AreComparable r.view q.view
  compared a b r q e f =
      let x = from_record locals (all_lengths s locals t) a r e in
      let y = from_record locals (all_lengths s locals t) b q f in
      subst (λ (v : Record). AreComparable v.view q.view) (sym x.1)
      (subst (λ (v : Record).
      AreComparable (slice_index_or (local_at locals a.caller).views a.number []) v.view) (sym y.1)
      (views_are_comparable s locals a.caller b.caller a.number b.number t
      (viewer s locals t a.caller a.number x.0) (viewer s locals t b.caller b.number y.0) x.0 y.0))

  valid : IsValid (book_in locals)
  valid =
      record {
        answers = λ i. omega (
          arith,
          answers_in_book locals (all_lengths s locals t) i,
          calls_in_book locals (all_lengths s locals t) i,
          (all_lengths s locals t i).calls,
        );
        wide = λ call r e. (view_of call r e).wide ∙ sym (book_long locals);
        within = λ call r e. within_announced (book_in locals) r.view (λ i.
            omega (arith, view_low call r e i, calls_in_book locals (all_lengths s locals t) i));
        own = λ call r e. (view_of call r e).own;
        comparable = compared;
      }

pub books_are_valid : BooksAreValid
books_are_valid s locals t = valid s locals t

pub published_cuts_are_within : PublishedCutsAreWithin
published_cuts_are_within s locals cut t p i =
    elim (cases_lt i (length locals)) [
      | inl low ↦ omega (
        arith,
        p.within i low,
        (all_lengths s locals t i).published,
        answers_in_book locals (all_lengths s locals t) i,
        answered_at (book_in locals) i,
      )
      | inr past ↦ omega (arith, get_or_past cut i 0 (omega (arith, p.wide)))
    ]

pub books_at_published_cuts : BooksAtPublishedCuts
books_at_published_cuts s locals cut t p =
    let good = books_are_valid s locals t in
    record {
      valid = stays_valid (book_in locals) cut good;
      at = is_the_book_at (book_in locals) cut good;
      counts = record_counts_are_the_cut (book_in locals) cut (p.wide ∙ sym (book_long locals))
          (published_cuts_are_within s locals cut t p);
    }
