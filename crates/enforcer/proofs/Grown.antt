-- A caller's kept book grows to the one that it gathers at a cut which contains the kept one, and
-- the marks of its kept order remain marks.
use Rattle.std.proofs.Common.{◌≡◌, ℕ, List, Option, None, Some, IfSome, sym, subst, ◌∙◌, arith}
use Rattle.std.proofs.lemmas.Option.{slice_get_within}
use Rattle.book_base.specs.SeqSpec.{SeqSpec}
use Rattle.book_base.specs.Cut.{IsWithin, Holds}
use Rattle.book_base.specs.Book.{Page, page_of, IsCall}
use Rattle.book_base.specs.BookAt.{IsBookAt, IsHeldBySomeView}
use Rattle.legal_orders.proofs.BookAt.{record_from_part, record_of-part, book_at_is_the_book_at}
use Rattle.world_core.specs.Shape.{Shape}
use Rattle.world_core.specs.Local.{Local}
use Rattle.world_core.specs.Calls.{IsLocalOf, IsGathered, book_in}
use Rattle.world_laws.proofs.Validity.{books_are_valid}
use Rattle.row_gather.specs.declared.gathered.Gathered.{Gathered}
use Rattle.row_gather.specs.Gathered.{IsGatheredBy}
use Rattle.row_gather.proofs.Gathering.{is_book_of_all}
use Rattle.frontier_check.specs.declared.kept_order.KeptOrder.{KeptOrder}
use Rattle.frontier_check.specs.Standing.{HasGrown, IsStandingFor}
use Rattle.frontier_check.proofs.Resuming.{standing_stays}
use Rattle.enforcer.specs.Verdicts.{OrderStandsIn, IsGatheredWithin}

-- Where one cut is within another, the book at the first cut has grown to the book at the second.
grown_at : (book : List Page) (early late : List ℕ) (a b : List Page) → IsWithin early late
    → IsBookAt book early a → IsBookAt book late b → HasGrown a b
grown_at book early late a b within first second = record {
  callers = second.callers ∙ sym first.callers;
  operations = λ call op e.
      let there : IsCall a call =
      slice_get_within (page_of a call.caller).operations call.number op e in
      let held : IsHeldBySomeView book early call = (first.calls call).0 there in
      let low : Holds late held.0 = (let early_one : Holds early held.0 = held.2 in
      omega (arith, early_one, within held.0.caller)) in
      let on : IsCall b call = (second.calls call).1 (held.0, held.1, low, held.3, held.4) in
      second.operations call on ∙ (sym (first.operations call there) ∙ e);
  records = λ call r e.
      let known = record_from_part book early a first call r e in
      let low : Holds late call = (let early_one : Holds early call = known.0 in
      omega (arith, early_one, within call.caller)) in
      record_of-part book late b second call low ∙ known.1;
}

-- A book that a caller has gathered at a cut has grown to each book that it has gathered at a cut
-- which contains this one.
grown : (s : Shape) (i : ℕ) (l : Local) (early late : List ℕ) (a b : List Page) → IsLocalOf s i l
    → IsGathered s.callers l early a → IsGathered s.callers l late b → IsWithin early late
    → HasGrown a b
grown s i l early late a b (locals, together, low, is) first second within =
    let valid = books_are_valid s locals together in
    let at : (cut : List ℕ) (book : List Page) → IsGathered s.callers l cut book
    → IsBookAt (book_in locals) cut book =
    λ cut book g. subst (λ (x : List Page). IsBookAt (book_in locals) cut x)
    (sym (is_book_of_all s i l cut book low g locals together is))
    (book_at_is_the_book_at (book_in locals) cut valid) in
    grown_at (book_in locals) early late a b within (at early a first) (at late b second)

-- A kept order that is taken up once more has its marks in the new book too, where the kept book
-- has as many callers as the table and its cut is within that of the new book.
pub stands_on : (spec : SeqSpec) (s : Shape) (i n : ℕ) (l : Local) (kept : Option Gathered)
    (standing taken : Option KeptOrder) (cut : List ℕ) (book : List Page) → n ≡ s.callers
    → IsLocalOf s i l → IsGatheredBy l kept → IsGathered s.callers l cut book
    → OrderStandsIn spec kept standing → IfSome taken (λ x. standing ≡ Some x)
    → IfSome taken (λ _. IsGatheredWithin n kept cut) → IfSome taken (IsStandingFor spec book)
stands_on spec s i n l kept standing None cut book same local by now stands is held = tt
stands_on spec s i n l None standing (Some x) cut book same local by now stands is held =
    absurd held
stands_on spec s i n l (Some g) standing (Some x) cut book same local by now stands is held =
    let before : IsGathered s.callers l g.cut g.book =
    subst (λ (k : ℕ). IsGathered k l g.cut g.book) (held.0 ∙ same) by in
    standing_stays spec g.book book x
    (grown s i l g.cut cut g.book book local before now held.1)
    (subst (λ (o : Option KeptOrder). OrderStandsIn spec (Some g) o) is stands)
